use Rattle.std.proofs.Common.{◌≡◌, ◌==◌, map, drop, true}
use Rattle.dm_ast.specs.Declarations.{predicate_view}
use Rattle.dm_ast.specs.TypeTokens.{spaced}
use Rattle.dm_output.specs.Tokens.{comma, predicate_trees}
use Rattle.dm_print_types.specs.Laying.{lay}
use Rattle.dm_print.proofs.item.joined_predicates.Given as goal

abbrev pub invariant-loop-i : goal.invariant-loop-i
invariant-loop-i l =
    lay l.out (spaced comma (l.i == 0) (map predicate_trees (map predicate_view (drop l.i l.all)))) ≡ lay l.initial.out (spaced comma true (map predicate_trees (map predicate_view l.all)))
