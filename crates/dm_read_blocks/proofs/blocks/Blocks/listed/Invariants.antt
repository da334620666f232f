use Rattle.std.proofs.Common.{◌≡◌, map, option_map}
use Rattle.dm_output.specs.Views.{arm_view}
use Rattle.dm_read_places.specs.Repeating.{repeat, behind_parts}
use Rattle.dm_read_blocks.specs.Turns.{arm_turn}
use Rattle.dm_read_blocks.proofs.blocks.Blocks.listed.Given as goal

abbrev pub invariant-loop-left : goal.invariant-loop-left
invariant-loop-left g l =
    repeat arm_turn l.self.parts.fuel l.fn.place ≡ option_map (behind_parts (map arm_view l.found)) (repeat arm_turn l.left l.place)

abbrev pub decreases-loop-left : goal.decreases-loop-left
decreases-loop-left g l = l.left
