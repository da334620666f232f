use Rattle.std.proofs.Common.{◌≡◌, ◌==◌, map, drop, true}
use Rattle.dm_ast.specs.Declarations.{param_view}
use Rattle.dm_ast.specs.TypeTokens.{spaced}
use Rattle.dm_output.specs.Tokens.{comma, param_trees}
use Rattle.dm_print_types.specs.Laying.{lay}
use Rattle.dm_print.proofs.item.joined_params.Given as goal

abbrev pub invariant-loop-i : goal.invariant-loop-i
invariant-loop-i l =
    lay l.out (spaced comma (l.i == 0) (map param_trees (map param_view (drop l.i l.all)))) ≡ lay l.initial.out (spaced comma true (map param_trees (map param_view l.all)))
