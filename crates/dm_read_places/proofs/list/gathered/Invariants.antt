use Rattle.std.proofs.Common.{◌≡◌, map, option_map}
use Rattle.dm_read_places.specs.Repeating.{repeat, behind_parts}
use Rattle.dm_read_places.proofs.list.gathered.Given as goal

abbrev pub invariant-loop-left : goal.invariant-loop-left
invariant-loop-left g l =
    repeat (g.R.Rule.reader l.rule) l.fuel l.fn.place ≡
    option_map (behind_parts (map g.R.Rule.view (g.L.Gathers.parts l.items))) (repeat (g.R.Rule.reader l.rule) l.left l.place)

abbrev pub decreases-loop-left : goal.decreases-loop-left
decreases-loop-left g l = l.left
