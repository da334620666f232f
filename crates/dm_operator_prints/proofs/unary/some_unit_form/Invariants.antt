use Rattle.std.proofs.Common.{◌≡◌, map, drop}
use Rattle.dm_operands.specs.CaseViews.{case_view}
use Rattle.dm_operators.specs.Bodies as spec
use Rattle.dm_operator_prints.proofs.unary.some_unit_form.Given as goal

abbrev pub invariant-loop-case : goal.invariant-loop-case
invariant-loop-case l =
    spec.some_unit_form (map case_view (drop l.case-index l.cases)) ≡ spec.some_unit_form (map case_view l.cases)
