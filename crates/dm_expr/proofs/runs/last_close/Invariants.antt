use Rattle.std.proofs.Common.{◌≡◌, ◌≤◌, ◌+◌}
use Rattle.dm_stream.specs.Cursors.{left, sound}
use Rattle.dm_stream.specs.Sizes.{size}
use Rattle.dm_expr.specs.Reach.{reach, further}
use Rattle.dm_expr.proofs.runs.last_close.Given as goal

abbrev pub invariant-loop-rest : goal.invariant-loop-rest
invariant-loop-rest l = record {
  is_sound : sound l.at;
  reads : reach l.before_sep (left l.fn.c) ≡ further l.last l.passed (reach l.before_sep (left l.at));
  counts : l.passed + size (left l.at) ≡ size (left l.fn.c);
  few : l.last ≤ l.passed;
}

abbrev pub decreases-loop-rest : goal.decreases-loop-rest
decreases-loop-rest l = size (left l.at)
