-- No list has more trees than entries.
use Rattle.std.proofs.Common.{length, ap, arith}
use Rattle.dm_stream.specs.Cursors.{left}
use Rattle.dm_reread.specs.Whole.{size}
use Rattle.dm_read_heads.proofs.AttrLists.{size_fits}
use Rattle.dm_read_heads.proofs.attr.enough.Goals as goal

pub returns : goal.returns
returns c = omega (arith, size_fits (left c.cursor.result), ap length c.entries.ensures, ap size c.cursor.ensures.trees)
