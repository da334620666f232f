use Rattle.std.proofs.Common.{◌≡◌, map, ◌-◌}
use Rattle.dm_ast.specs.Readers.{◌next◌, read_repeated, repeat_from}
use Rattle.dm_read.specs.Stops.{begins_link, reads_link}
use Rattle.dm_input.proofs.list.continued.Given as goal

abbrev pub invariant-loop-turn : goal.invariant-loop-turn
invariant-loop-turn g l =
    (l.input.at ≡ l.fn.input.at) ×
    (read_repeated l.fn.input.at (begins_link l.link) (reads_link l.link l.fn.input.at next g.R.Rule.reader l.rule l.fn.input.at) (map g.R.Rule.view l.fn.begun) l.fn.input.trees ≡
    repeat_from l.fn.input.at (begins_link l.link) (reads_link l.link l.fn.input.at next g.R.Rule.reader l.rule l.fn.input.at) (l._turn-end - l._turn) (map g.R.Rule.view l.items) l.input.trees)
