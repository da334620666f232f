use Rattle.std.proofs.Common.{◌≡◌, map, drop}
use Rattle.dm_operators.specs.Operators as spec
use Rattle.dm_operators.specs.Table.{operator_view}
use Rattle.dm_operators.proofs.operator.named_in.Given as goal

abbrev pub invariant-loop-operator : goal.invariant-loop-operator
invariant-loop-operator l =
    spec.named_in (map operator_view (drop l.operator-index l.all)) l.name ≡ spec.named_in (map operator_view l.all) l.name
