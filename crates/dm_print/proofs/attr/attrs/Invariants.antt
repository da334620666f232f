use Rattle.std.proofs.Common.{◌≡◌, map, drop}
use Rattle.dm_output.specs.Tokens.{in_turn, attr_trees}
use Rattle.dm_print_types.specs.Laying.{lay}
use Rattle.dm_print.proofs.attr.attrs.Given as goal

abbrev pub invariant-loop-one : goal.invariant-loop-one
invariant-loop-one l =
    lay l.out (in_turn (map attr_trees (drop l.one-index l.all))) ≡ lay l.initial.out (in_turn (map attr_trees l.all))
