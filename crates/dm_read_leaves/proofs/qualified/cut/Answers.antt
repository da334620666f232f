-- The count fits, as no more trees are passed than there are entries.
use Rattle.std.proofs.Common.{arith}
use Rattle.dm_stream.proofs.Sizes.{size-entries}
use Rattle.dm_read_leaves.proofs.qualified.cut.Goals as goal

pub overflow_add-pair : goal.overflow_add-pair
overflow_add-pair c = omega (arith, c.well_formed, size-entries _ c.requires, c.in_ok-pair.ensures.counts, c.names_size-names.ensures.counts)
