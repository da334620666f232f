use Rattle.dm_lexer.proofs.Escapes.{any-segment}
use Rattle.dm_lexer.proofs.quotes.any_segment.Goals as goal

pub returns : goal.returns
returns c =
    rw c.len_utf8.ensures.value (any-segment _ _ _ _ _ c.utf8.text c.in_ok-after.ensures.bytes c.in_ok-after.ensures.chars c.requires.begins c.in_ok-c.ensures.chars)
