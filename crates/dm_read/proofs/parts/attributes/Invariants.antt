use Rattle.std.proofs.Common.{◌≡◌, ◌-◌}
use Rattle.dm_stream.specs.Cursors.{left, SharesEnd}
use Rattle.dm_ast.specs.Spelling.{sees}
use Rattle.dm_ast.specs.Readers.{place, repeat_from}
use Rattle.dm_ast.specs.PlainReaders.{read_attribute, read_attributes}
use Rattle.dm_read.proofs.parts.attributes.Given as goal

abbrev pub invariant-loop-turn : goal.invariant-loop-turn
invariant-loop-turn l =
    SharesEnd l.fn.c l.rest ×
    (read_attributes (place l.level l.fn.c) (left l.fn.c) ≡
    repeat_from (place l.level l.fn.c) (sees 35) (read_attribute (place l.level l.fn.c)) (l._turn-end - l._turn) l.items (left l.rest))
