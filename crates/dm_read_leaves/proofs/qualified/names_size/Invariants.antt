use Rattle.std.proofs.Common.{◌≡◌, ◌+◌}
use Rattle.dm_stream.specs.Cursors.{left, SharesEnd}
use Rattle.dm_stream.specs.Sizes.{size}
use Rattle.dm_expr.specs.Cuts.{after}
use Rattle.dm_reread.specs.PathLeaves.{names_at}
use Rattle.dm_read_leaves.proofs.qualified.names_size.Given as goal

abbrev pub invariant-loop-rest : goal.invariant-loop-rest
invariant-loop-rest l = record {
  place : SharesEnd l.fn.c l.at;
  gives : names_at (left l.fn.c) ≡ after l.count (names_at (left l.at));
  counts : l.count + size (left l.at) ≡ size (left l.fn.c);
}

abbrev pub decreases-loop-rest : goal.decreases-loop-rest
decreases-loop-rest l = size (left l.at)
