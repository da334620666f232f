-- The count fits, as no more trees are passed than there are entries.
use Rattle.std.proofs.Common.{arith}
use Rattle.dm_stream.proofs.Sizes.{size-entries}
use Rattle.dm_read_leaves.proofs.qualified.names_size.Goals as goal

pub overflow_add-count : goal.overflow_add-count
overflow_add-count c = omega (arith, c.well_formed, size-entries _ c.requires, c.loop-rest.invariant.counts, c.in-Some.ensures.counts)
