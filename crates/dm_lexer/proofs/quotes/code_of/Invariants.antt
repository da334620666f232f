use Rattle.std.proofs.Common.{length}
use Rattle.dm_lexer.proofs.Codes.{IsCodeSoFar}
use Rattle.dm_lexer.proofs.quotes.code_of.Given as goal

abbrev pub invariant-loop-c : goal.invariant-loop-c
invariant-loop-c l = IsCodeSoFar l.text l.code l.rest

abbrev pub decreases-loop-c : goal.decreases-loop-c
decreases-loop-c l = length l.rest
