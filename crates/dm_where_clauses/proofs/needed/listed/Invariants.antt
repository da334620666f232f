use Rattle.std.proofs.Common.{◌≡◌, ◌++◌, map, drop}
use Rattle.dm_ast.specs.Declarations.{predicate_view}
use Rattle.dm_bounds.specs.Needed.{Asking}
use Rattle.dm_where_clauses.specs.Shown.{shown}
use Rattle.dm_where_clauses.proofs.needed.listed.Given as goal

abbrev pub invariant-loop-one : goal.invariant-loop-one
invariant-loop-one l = (a : Asking) → map (shown a) l.out.items ++ map predicate_view (drop l.one-index l.all) ≡ map predicate_view l.all
