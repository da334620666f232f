use Rattle.std.proofs.Common.{◌≡◌, map, ◌-◌}
use Rattle.dm_read.specs.Stops.{stops}
use Rattle.dm_ast.specs.Readers.{read_list, list_from}
use Rattle.dm_input.proofs.list.listed.Given as goal

abbrev pub invariant-loop-turn : goal.invariant-loop-turn
invariant-loop-turn g l =
    (l.input.at ≡ l.fn.input.at) ×
    (read_list l.fn.input.at l.separator (stops l.stop) (g.R.Rule.reader l.rule l.fn.input.at) l.fn.input.trees ≡
    list_from l.fn.input.at l.separator (stops l.stop) (g.R.Rule.reader l.rule l.fn.input.at) (l._turn-end - l._turn) (map g.R.Rule.view l.items) l.trailing l.input.trees)
