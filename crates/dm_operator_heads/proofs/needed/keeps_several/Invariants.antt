use Rattle.std.proofs.Common.{◌≡◌, cond, map, drop}
use Rattle.dm_operands.specs.CaseViews.{field_ref_view}
use Rattle.dm_operands.specs.Kept.{keeps_some}
use Rattle.dm_operators.specs.Predicates as spec
use Rattle.dm_operator_heads.proofs.needed.keeps_several.Given as goal

abbrev pub invariant-loop-field : goal.invariant-loop-field
invariant-loop-field l =
    let rest = map field_ref_view (drop l.field-index l.fields) in
    cond l.found (keeps_some rest) (spec.keeps_several rest) ≡ spec.keeps_several (map field_ref_view l.fields)
