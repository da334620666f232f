use Rattle.std.proofs.Common.{◌≡◌, drop}
use Rattle.dm_stream.specs.Cursors.{left}
use Rattle.dm_reread.specs.Items as plain
use Rattle.dm_read_heads.proofs.attr.attr_among.Given as goal

abbrev pub invariant-loop-attr : goal.invariant-loop-attr
invariant-loop-attr l = plain.attr_among (drop l.attr-index l.all) (left l.c) ≡ plain.attr_among l.all (left l.c)
