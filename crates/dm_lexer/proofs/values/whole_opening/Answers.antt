use Rattle.dm_lexer.proofs.Meanings.{whole-all, whole-part}
use Rattle.dm_lexer.proofs.values.whole_opening.Goals as goal

pub returns-then-size-text : goal.returns-then-size-text
returns-then-size-text c = whole-all _ _ _ c.in-Some.ensures c.in-Some-quoted_size.ensures c.if-size-text.true

pub returns-else-size-text : goal.returns-else-size-text
returns-else-size-text c = whole-part _ _ _ c.utf8.text c.in-Some.ensures c.in-Some-quoted_size.ensures c.if-size-text.false
