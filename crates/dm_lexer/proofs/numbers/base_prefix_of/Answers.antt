use Rattle.dm_lexer.proofs.NumberSteps.{prefix-decimal}
use Rattle.dm_lexer.proofs.numbers.base_prefix_of.Goals as goal

pub returns : goal.returns
returns c = prefix-decimal _ c.utf8.text c.in_default.ensures c.in_default-behind_pair.ensures c.in_default-behind_pair-2.ensures
