use Rattle.std.proofs.Common.{◌≡◌, map, ◌-◌}
use Rattle.dm_stream.specs.Cursors.{left, SharesEnd}
use Rattle.dm_ast.specs.Readers.{place, ◌next◌, read_repeated, repeat_from}
use Rattle.dm_read.specs.Stops.{begins_link, reads_link}
use Rattle.dm_read.proofs.list.continued.Given as goal

abbrev pub invariant-loop-turn : goal.invariant-loop-turn
invariant-loop-turn g l =
    SharesEnd l.fn.c l.rest ×
    (read_repeated (place l.level l.fn.c) (begins_link l.link) (reads_link l.link (place l.level l.fn.c) next g.R.Rule.reader l.rule (place l.level l.fn.c)) (map g.R.Rule.view l.fn.begun) (left l.fn.c) ≡
    repeat_from (place l.level l.fn.c) (begins_link l.link) (reads_link l.link (place l.level l.fn.c) next g.R.Rule.reader l.rule (place l.level l.fn.c)) (l._turn-end - l._turn) (map g.R.Rule.view l.items) (left l.rest))
