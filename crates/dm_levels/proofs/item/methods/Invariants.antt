use Rattle.std.proofs.Common.{◌≡◌, map, drop}
use Rattle.dm_output.specs.Views.{method_view}
use Rattle.dm_levels.specs.Levels.{in_turn, method_levels}
use Rattle.dm_levels.specs.Behind.{seen}
use Rattle.dm_type_levels.specs.Passing.{pass, pass_then}
use Rattle.dm_levels.proofs.item.methods.Given as goal

abbrev pub invariant-loop-one : goal.invariant-loop-one
invariant-loop-one l =
    pass_then (in_turn (map (method_levels l.level) (map method_view (drop l.one-index l.all)))) (seen l.at) ≡
    pass (in_turn (map (method_levels l.level) (map method_view l.all))) l.rest
