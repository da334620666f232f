use Rattle.std.proofs.Common.{◌-◌, length}
use Rattle.dm_lexer.proofs.LexSteps.{IsLexedSoFar}
use Rattle.dm_lexer.proofs.lexing.nested.Given as goal

abbrev pub invariant-loop-at : goal.invariant-loop-at
invariant-loop-at g l = IsLexedSoFar l.deepest l.text l.at (g.N.TakesLexemes.nesting l.nesting)

abbrev pub decreases-loop-at : goal.decreases-loop-at
decreases-loop-at g l = length l.text - l.at
