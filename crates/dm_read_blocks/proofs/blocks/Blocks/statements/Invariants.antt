use Rattle.std.proofs.Common.{◌≡◌, map, option_map}
use Rattle.dm_output.specs.Views.{stmt_view}
use Rattle.dm_read_places.specs.Repeating.{repeat, behind_parts}
use Rattle.dm_read_blocks.specs.Turns.{block_turn}
use Rattle.dm_read_blocks.proofs.blocks.Blocks.statements.Given as goal

abbrev pub invariant-loop-left : goal.invariant-loop-left
invariant-loop-left g l =
    repeat block_turn l.self.parts.fuel l.fn.place ≡ option_map (behind_parts (map stmt_view l.found)) (repeat block_turn l.left l.place)

abbrev pub decreases-loop-left : goal.decreases-loop-left
decreases-loop-left g l = l.left
