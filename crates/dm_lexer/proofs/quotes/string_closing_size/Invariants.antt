use Rattle.std.proofs.Common.{◌-◌, length}
use Rattle.dm_lexer.proofs.Closings.{IsClosingSoFar}
use Rattle.dm_lexer.proofs.quotes.string_closing_size.Given as goal

abbrev pub invariant-loop-at : goal.invariant-loop-at
invariant-loop-at l = IsClosingSoFar l.fn.inside l.text l.at

abbrev pub decreases-loop-at : goal.decreases-loop-at
decreases-loop-at l = length l.text - l.at
