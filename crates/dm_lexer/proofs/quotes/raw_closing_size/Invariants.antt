use Rattle.std.proofs.Common.{length}
use Rattle.dm_lexer.proofs.RawStrings.{IsRawSoFar}
use Rattle.dm_lexer.proofs.quotes.raw_closing_size.Given as goal

abbrev pub invariant-loop-c : goal.invariant-loop-c
invariant-loop-c l = IsRawSoFar l.fn.hashes l.text l.at l.rest

abbrev pub decreases-loop-c : goal.decreases-loop-c
decreases-loop-c l = length l.rest
