use Rattle.std.proofs.Common.{◌≡◌, ◌++◌, map, drop}
use Rattle.dm_operands.specs.CaseViews.{field_ref_view}
use Rattle.dm_operators.specs.Bodies.{keep}
use Rattle.dm_operator_prints.proofs.arms.all_fields.Given as goal

abbrev pub invariant-loop-field : goal.invariant-loop-field
invariant-loop-field l =
    map field_ref_view l.out.items ++ map keep (map field_ref_view (drop l.field-index l.fields)) ≡ map keep (map field_ref_view l.fields)
