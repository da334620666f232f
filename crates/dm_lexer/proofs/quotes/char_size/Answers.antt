use Rattle.dm_lexer.proofs.Openings.{char-some}
use Rattle.dm_lexer.proofs.quotes.char_size.Goals as goal

pub returns : goal.returns
returns c =
    char-some _ _ _ _ c.utf8.text c.in_ok-after.ensures.bytes c.in_ok-after.ensures.chars c.requires c.in-Some.ensures
