use Rattle.dm_operands.specs.CaseViews.{field_ref_view}
use Rattle.dm_bounds.specs.Needed.{wanted, added_by}
use Rattle.dm_where_clauses.proofs.Needing.{IsAdding}
use Rattle.dm_where_clauses.proofs.needed.add_for_fields.Given as goal

abbrev pub invariant-loop-field : goal.invariant-loop-field
invariant-loop-field g l =
    let asking = g.A.Asks.asking l.fn.asks in
    IsAdding asking (added_by asking (wanted l.fn.sought)) field_ref_view l.fields l.field-index l.out.items l.initial.out.items
