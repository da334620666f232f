use Rattle.std.proofs.Common.{◌≡◌, map, drop}
use Rattle.dm_operands.specs.CaseViews.{field_ref_view}
use Rattle.dm_operands.specs.Kept as spec
use Rattle.dm_operands.proofs.cases.keeps_some.Given as goal

abbrev pub invariant-loop-field : goal.invariant-loop-field
invariant-loop-field l = spec.keeps_some (map field_ref_view (drop l.field-index l.fields)) ≡ spec.keeps_some (map field_ref_view l.fields)
