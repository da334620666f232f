use Rattle.std.proofs.Common.{length}
use Rattle.dm_lexer.proofs.NumberSteps.{IsReadSoFar}
use Rattle.dm_lexer.proofs.numbers.value_of.Given as goal

abbrev pub invariant-loop-c : goal.invariant-loop-c
invariant-loop-c l = IsReadSoFar l.fn.base l.text l.rest l.value l.seen

abbrev pub decreases-loop-c : goal.decreases-loop-c
decreases-loop-c l = length l.rest
