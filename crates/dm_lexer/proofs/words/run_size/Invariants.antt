use Rattle.std.proofs.Common.{length}
use Rattle.dm_lexer.specs.Words.{passes}
use Rattle.dm_lexer.proofs.LexChars.{IsRunSoFar}
use Rattle.dm_lexer.proofs.words.run_size.Given as goal

abbrev pub invariant-loop-c : goal.invariant-loop-c
invariant-loop-c l = IsRunSoFar (passes l.class) l.text l.at l.rest

abbrev pub decreases-loop-c : goal.decreases-loop-c
decreases-loop-c l = length l.rest
