use Rattle.std.proofs.Common.{◌≡◌, map, drop}
use Rattle.dm_operands.specs.CaseViews.{field_ref_view}
use Rattle.dm_operands.specs.Sides as spec
use Rattle.dm_operands.proofs.cases.some_left_out.Given as goal

abbrev pub invariant-loop-field : goal.invariant-loop-field
invariant-loop-field l = spec.some_left_out (map field_ref_view (drop l.field-index l.fields)) ≡ spec.some_left_out (map field_ref_view l.fields)
