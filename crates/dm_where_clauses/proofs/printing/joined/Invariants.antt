use Rattle.std.proofs.Common.{◌≡◌, ◌==◌, map, drop, true}
use Rattle.dm_ast.specs.TypeTokens.{spaced}
use Rattle.dm_output.specs.Tokens.{comma, predicate_trees}
use Rattle.dm_print_types.specs.Laying.{lay}
use Rattle.dm_where_clauses.specs.Shown.{shown}
use Rattle.dm_where_clauses.proofs.printing.joined.Given as goal

abbrev pub invariant-loop-i : goal.invariant-loop-i
invariant-loop-i g l =
    let asking = g.A.Asks.asking l.fn.asks in
    lay l.out (spaced comma (l.i == 0) (map predicate_trees (map (shown asking) (drop l.i l.all)))) ≡
    lay l.initial.out (spaced comma true (map predicate_trees (map (shown asking) l.all)))
