use Rattle.std.proofs.Common.{◌≡◌, ◌≤◌, ◌+◌}
use Rattle.dm_stream.specs.Cursors.{left, SharesEnd}
use Rattle.dm_stream.specs.Sizes.{size}
use Rattle.dm_expr.specs.Cuts.{pair_at, closed_at, after}
use Rattle.dm_expr.proofs.fronts.pair_size.Given as goal

abbrev pub invariant-loop-depth : goal.invariant-loop-depth
invariant-loop-depth l = record {
  place : SharesEnd l.fn.c l.at;
  reads : pair_at l.opener l.closer (left l.fn.c) ≡ after l.count (closed_at l.opener l.closer l.depth (left l.at));
  counts : l.count + size (left l.at) ≡ size (left l.fn.c);
  few : l.depth ≤ l.count;
}

abbrev pub decreases-loop-depth : goal.decreases-loop-depth
decreases-loop-depth l = size (left l.at)
