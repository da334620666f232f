use Rattle.std.proofs.Common.{length}
use Rattle.dm_lexer.proofs.Meanings.{IsKeptSoFar}
use Rattle.dm_lexer.proofs.values.raw_inside.Given as goal

abbrev pub invariant-loop-c : goal.invariant-loop-c
invariant-loop-c l = IsKeptSoFar l.hashes l.text l.at l.rest

abbrev pub decreases-loop-c : goal.decreases-loop-c
decreases-loop-c l = length l.rest
