use Rattle.std.proofs.Common.{◌≡◌, map, drop, true}
use Rattle.dm_print_types.specs.Laying.{lay}
use Rattle.dm_operands.specs.CaseViews.{field_ref_view}
use Rattle.dm_partial_eq.specs.Emitted as spec
use Rattle.dm_partial_eq.specs.Printed.{joined}
use Rattle.dm_partial_eq.proofs.printing.arms.tests.Given as goal

abbrev pub invariant-loop-i : goal.invariant-loop-i
invariant-loop-i l =
    lay l.out (joined l.comparing l.first (spec.tests l.comparing l.i (map field_ref_view (drop l.i l.fields)))) ≡
    lay l.initial.out (joined l.comparing true (spec.tests l.comparing 0 (map field_ref_view l.fields)))
