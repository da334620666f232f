use Rattle.std.proofs.Common.{◌≡◌, ◌+◌, ◌≤◌, length}
use Rattle.dm_stream.specs.Trees.{flatten}
use Rattle.dm_stream.specs.Cursors.{left, SharesEnd}
use Rattle.dm_ast.specs.TypeGrammar.{behind_idents}
use Rattle.dm_read.proofs.macro_call.behind_idents.Given as goal

abbrev pub invariant-loop-turn : goal.invariant-loop-turn
invariant-loop-turn l =
    SharesEnd l.fn.c l.rest × (behind_idents (left l.fn.c) ≡ behind_idents (left l.rest)) × (l._turn + length (flatten (left l.rest)) ≤ length (flatten (left l.fn.c)))
