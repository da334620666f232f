use Rattle.std.proofs.Common.{◌≡◌, map, drop}
use Rattle.dm_operands.specs.CaseViews.{case_view}
use Rattle.dm_operands.specs.Kept as spec
use Rattle.dm_operands.proofs.cases.some_case_left_out.Given as goal

abbrev pub invariant-loop-case : goal.invariant-loop-case
invariant-loop-case l = spec.some_case_left_out (map case_view (drop l.case-index l.cases)) ≡ spec.some_case_left_out (map case_view l.cases)
