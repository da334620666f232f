use Rattle.std.proofs.Common.{◌-◌, length}
use Rattle.dm_lexer.proofs.Meanings.{IsMeantSoFar}
use Rattle.dm_lexer.proofs.values.meaning_of.Given as goal

abbrev pub invariant-loop-at : goal.invariant-loop-at
invariant-loop-at l = IsMeantSoFar l.text l.at l.out.bytes.items

abbrev pub decreases-loop-at : goal.decreases-loop-at
decreases-loop-at l = length l.text - l.at
