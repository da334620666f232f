use Rattle.std.proofs.Common.{◌≡◌, map, ◌-◌}
use Rattle.dm_stream.specs.Cursors.{left, SharesEnd}
use Rattle.dm_ast.specs.Readers as spec
use Rattle.dm_ast.specs.Readers.{place}
use Rattle.dm_read.specs.Stops.{stops}
use Rattle.dm_read.proofs.list.listed.Given as goal

abbrev pub invariant-loop-turn : goal.invariant-loop-turn
invariant-loop-turn g l =
    SharesEnd l.fn.c l.rest ×
    (spec.read_list (place l.level l.fn.c) l.separator (stops l.stop) (g.R.Rule.reader l.rule (place l.level l.fn.c)) (left l.fn.c) ≡
    spec.list_from (place l.level l.fn.c) l.separator (stops l.stop) (g.R.Rule.reader l.rule (place l.level l.fn.c)) (l._turn-end - l._turn) (map g.R.Rule.view l.items) l.trailing (left l.rest))
