use Rattle.std.proofs.Common.{length}
use Rattle.dm_lexer.specs.Quotes.{is_gap}
use Rattle.dm_lexer.proofs.Segments.{IsCountedSoFar}
use Rattle.dm_lexer.proofs.quotes.gap_size.Given as goal

abbrev pub invariant-loop-c : goal.invariant-loop-c
invariant-loop-c l = IsCountedSoFar is_gap l.text l.size l.rest

abbrev pub decreases-loop-c : goal.decreases-loop-c
decreases-loop-c l = length l.rest
