use Rattle.std.proofs.Common.{◌≡◌, map, drop}
use Rattle.dm_operands.specs.CaseViews.{case_view}
use Rattle.dm_operators.specs.Predicates as spec
use Rattle.dm_operator_heads.proofs.needed.some_several.Given as goal

abbrev pub invariant-loop-case : goal.invariant-loop-case
invariant-loop-case l = spec.some_several (map case_view (drop l.case-index l.cases)) ≡ spec.some_several (map case_view l.cases)
