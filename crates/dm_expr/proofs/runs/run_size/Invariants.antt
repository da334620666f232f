use Rattle.std.proofs.Common.{◌≡◌, ◌≤◌, ◌+◌, ◌-◌, true, false}
use Rattle.dm_stream.specs.Cursors.{left, SharesEnd}
use Rattle.dm_stream.specs.Sizes.{size}
use Rattle.dm_expr.specs.Cuts.{run_from}
use Rattle.dm_expr.specs.Reach.{reach}
use Rattle.dm_expr.proofs.Running.{passed}
use Rattle.dm_expr.proofs.runs.run_size.Given as goal

abbrev pub invariant-loop-unit : goal.invariant-loop-unit
invariant-loop-unit l = record {
  place : SharesEnd l.fn.c l.at;
  reads : run_from l.with_bars 0 (left l.fn.c) ≡ passed l.count (run_from l.with_bars 0 (left l.at));
  counts : l.count + size (left l.at) ≡ size (left l.fn.c);
  last : reach false (left l.at) ≤ l.ends.last - l.count;
  last_before_sep : reach true (left l.at) ≤ l.ends.last_before_sep - l.count;
}

abbrev pub decreases-loop-unit : goal.decreases-loop-unit
decreases-loop-unit l = size (left l.at)
