use Rattle.dm_stream.specs.Cursors.{IsCutAfter}
use Rattle.dm_stream.proofs.cursor.entries_of.Given as goal

abbrev pub invariant-loop-more : goal.invariant-loop-more
invariant-loop-more l = IsCutAfter l.entries l.count l.more l.at

abbrev pub decreases-loop-more : goal.decreases-loop-more
decreases-loop-more l = l.more
