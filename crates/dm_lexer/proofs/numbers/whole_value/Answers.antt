use Rattle.dm_lexer.proofs.NumberSteps.{whole-all, whole-front}
use Rattle.dm_lexer.proofs.numbers.whole_value.Goals as goal

pub returns-then-size-text : goal.returns-then-size-text
returns-then-size-text c = whole-all _ _ _ c.in-Some.ensures c.if-size-text.true

pub returns-else-size-text : goal.returns-else-size-text
returns-else-size-text c = whole-front _ _ _ c.utf8.text c.in-Some.ensures c.if-size-text.false
