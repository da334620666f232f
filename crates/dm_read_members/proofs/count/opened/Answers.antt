-- The count fits, as no more is counted than there are entries.
use Rattle.std.proofs.Common.{arith}
use Rattle.dm_read_members.proofs.CountSteps.{opened_fits}
use Rattle.dm_read_members.proofs.count.opened.Goals as goal

pub overflow_add-count : goal.overflow_add-count
overflow_add-count c = omega (arith, c.well_formed, c.loop-entry.invariant, opened_fits c.args.entries.now)
