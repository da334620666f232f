use Rattle.std.proofs.Common.{length}
use Rattle.dm_lexer.proofs.BlankSteps.{IsClosingSoFar}
use Rattle.dm_lexer.proofs.blanks.comment_closing_size.Given as goal

abbrev pub invariant-loop-c : goal.invariant-loop-c
invariant-loop-c l = IsClosingSoFar l.text l.at l.deep l.rest

abbrev pub decreases-loop-c : goal.decreases-loop-c
decreases-loop-c l = length l.rest
