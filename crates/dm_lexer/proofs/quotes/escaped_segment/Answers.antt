use Rattle.dm_lexer.proofs.Escapes.{escaped-segment}
use Rattle.dm_lexer.proofs.quotes.escaped_segment.Goals as goal

pub returns : goal.returns
returns c =
    escaped-segment c.args.in_bytes c.args.text.now _ _ c.quoted_escape_of.result c.utf8.text c.in_ok-after.ensures.chars c.requires.begins c.quoted_escape_of.ensures
