use Rattle.std.proofs.Common.{◌≡◌, ◌+◌, arith, ◌∙◌}
use Rattle.dm_stream.specs.Cursors.{left}
use Rattle.dm_stream.specs.Sizes.{size}
use Rattle.dm_stream.proofs.Sizes.{size-entries}
use Rattle.dm_expr.proofs.Counting.{closed-step, size-step, waits-step}
use Rattle.dm_expr.proofs.fronts.pair_size.Goals as goal

pub open_after-requires-clause-fits : goal.open_after-requires-clause-fits
open_after-requires-clause-fits c =
    omega (arith, c.well_formed, size-entries _ c.requires, c.loop-depth.invariant.counts, c.loop-depth.invariant.few)

pub overflow_add-count : goal.overflow_add-count
overflow_add-count c =
    omega (arith, c.well_formed, size-entries _ c.requires, c.loop-depth.invariant.counts, size-step _ _ _ _ _ _ (c.in_ok-next.ensures.gives))

pub loop-depth-preserved : goal.loop-depth-preserved
loop-depth-preserved c =
    let s : size (left c.loop-depth.at) ≡ size (left c.in_ok-next.rest) + 1 = size-step _ _ _ _ _ _ (c.in_ok-next.ensures.gives) in
    let w = waits-step _ _ _ _ _ _ (c.in_ok-next.ensures.gives) in
    record {
      place = record { is_sound = c.in_ok-next.ensures.place.is_sound; same_limit = c.in_ok-next.ensures.place.same_limit ∙ c.loop-depth.invariant.place.same_limit };
      reads = c.loop-depth.invariant.reads ∙ closed-step _ _ _ _ _ _ _ c.loop-depth-test.true (c.in_ok-next.ensures.gives);
      counts = omega arith;
      few = omega arith;
    }
