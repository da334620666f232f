use Rattle.std.proofs.Common.{arith}
use Rattle.dm_stream.proofs.Cuts.{cut-next}
use Rattle.dm_stream.proofs.cursor.entries_of.Goals as goal

pub loop-more-preserved : goal.loop-more-preserved
loop-more-preserved c = cut-next _ _ _ _ _ c.loop-more.invariant (omega arith) c.tree_len-at.ensures
