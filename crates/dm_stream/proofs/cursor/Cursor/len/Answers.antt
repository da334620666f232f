use Rattle.dm_stream.proofs.Sizes.{size-entries}
use Rattle.dm_stream.proofs.cursor.Cursor.len.Goals as goal

pub returns-clause-trees : goal.returns-clause-trees
returns-clause-trees c = size-entries _ c.requires
