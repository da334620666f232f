use Rattle.std.proofs.Common.{◌≡◌, ◌++◌, map, drop}
use Rattle.dm_ast.specs.Declarations.{field_view}
use Rattle.dm_operands.specs.CaseViews.{field_ref_view}
use Rattle.dm_operands.specs.Marked.{mark_field}
use Rattle.dm_operands.specs.Places.{attrs_of, first_by}
use Rattle.dm_operands.proofs.places.field_refs.Given as goal

abbrev pub invariant-loop-field : goal.invariant-loop-field
invariant-loop-field g l =
    let refuses = g.L.Leaving.refuses l.fn.leaving in
    let leaves = g.L.Leaving.leaves_out l.fn.leaving in
    (first_by refuses (map attrs_of (map field_view (drop l.field-index l.fields))) ≡ first_by refuses (map attrs_of (map field_view l.fields))) ×
    (map field_ref_view l.out.items ++ map (mark_field leaves) (map field_view (drop l.field-index l.fields)) ≡
    map (mark_field leaves) (map field_view l.fields))
