use Rattle.std.proofs.Common.{◌≡◌, map, drop, false}
use Rattle.dm_ast.specs.TypeTokens.{spaced}
use Rattle.dm_output.specs.Tokens.{comma, fmt_arg_trees}
use Rattle.dm_output.specs.Views.{fmt_arg_view}
use Rattle.dm_print_types.specs.Laying.{lay}
use Rattle.dm_print.proofs.format.arguments.Given as goal

abbrev pub invariant-loop-one : goal.invariant-loop-one
invariant-loop-one l =
    lay l.out (spaced comma false (map fmt_arg_trees (map fmt_arg_view (drop l.one-index l.all)))) ≡ lay l.initial.out (spaced comma false (map fmt_arg_trees (map fmt_arg_view l.all)))
