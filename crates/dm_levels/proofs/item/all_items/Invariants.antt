use Rattle.std.proofs.Common.{◌≡◌, map, drop}
use Rattle.dm_output.specs.Views.{item_view}
use Rattle.dm_levels.specs.Levels.{items_levels}
use Rattle.dm_levels.specs.Behind.{seen}
use Rattle.dm_type_levels.specs.Passing.{pass, pass_then}
use Rattle.dm_levels.proofs.item.all_items.Given as goal

abbrev pub invariant-loop-one : goal.invariant-loop-one
invariant-loop-one l =
    pass_then (items_levels (map item_view (drop l.one-index l.all))) (seen l.at) ≡
    pass (items_levels (map item_view l.all)) l.rest
