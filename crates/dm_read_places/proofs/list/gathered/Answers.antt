-- A turn that goes on.
use Rattle.std.proofs.Common.{◌≡◌, ◌∙◌, suc, ◌-◌, Some, ap, arith}
use Rattle.dm_read_places.specs.Repeating.{turn_view}
use Rattle.dm_read_places.proofs.Repeats.{part_held}
use Rattle.dm_read_places.proofs.list.gathered.Goals as goal

pub loop-left-preserved : goal.loop-left-preserved
loop-left-preserved g c =
    let left : c.loop-left.left ≡ suc (c.loop-left.left - 1) = omega arith in
    let turn = c.in-Ok-One.ensures ∙ ap (λ t. Some (turn_view g.R.Rule.view (λ u. u) t, c.turn.new.place)) c.in-Ok-One.field-0-is in
    part_held (g.R.Rule.reader c.args.rule.now) g.R.Rule.view (g.L.Gathers.parts c.loop-left.items) (g.L.Gathers.parts c.gather.new.self) c.in-Ok-One.item
    (c.loop-left.left - 1) left c.loop-left.invariant turn c.in_ok-gather-in-Ok-One.ensures.added
