-- A turn that goes on, and one that ends the list.
use Rattle.std.proofs.Common.{◌≡◌, ◌∙◌, suc, ◌-◌, Some, ap, arith}
use Rattle.dm_output.specs.Views.{arm_view}
use Rattle.dm_read_places.specs.Repeating.{turn_view}
use Rattle.dm_read_places.proofs.Repeats.{part_held, end_held}
use Rattle.dm_read_blocks.specs.Turns.{arm_turn}
use Rattle.dm_read_blocks.proofs.blocks.Blocks.listed.Goals as goal

pub loop-left-preserved : goal.loop-left-preserved
loop-left-preserved g c =
    let left : c.loop-left.left ≡ suc (c.loop-left.left - 1) = omega arith in
    let turn = c.in-Ok-One.ensures ∙ ap (λ t. Some (turn_view arm_view (λ u. u) t, c.arm_turn.new.place)) c.in-Ok-One.field-0-is in
    part_held arm_turn arm_view c.loop-left.found c.gather.new.self c.in-Ok-One.arm (c.loop-left.left - 1) left c.loop-left.invariant turn
    c.in_ok-gather-in-Ok-One.ensures.added

pub returns-in-Ok-End : goal.returns-in-Ok-End
returns-in-Ok-End g c =
    let left : c.loop-left.left ≡ suc (c.loop-left.left - 1) = omega arith in
    let turn = c.in-Ok-End.ensures ∙ ap (λ t. Some (turn_view arm_view (λ u. u) t, c.arm_turn.new.place)) c.in-Ok-End.field-0-is in
    end_held arm_turn arm_view c.loop-left.found c.in-Ok-End.none (c.loop-left.left - 1) left c.loop-left.invariant turn
