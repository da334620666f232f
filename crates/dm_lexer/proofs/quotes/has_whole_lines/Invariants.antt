use Rattle.std.proofs.Common.{length}
use Rattle.dm_lexer.proofs.RawStrings.{AreLinesSoFar}
use Rattle.dm_lexer.proofs.quotes.has_whole_lines.Given as goal

abbrev pub invariant-loop-c : goal.invariant-loop-c
invariant-loop-c l = AreLinesSoFar l.text l.rest

abbrev pub decreases-loop-c : goal.decreases-loop-c
decreases-loop-c l = length l.rest
