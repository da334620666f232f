use Rattle.dm_operands.specs.CaseViews.{case_view}
use Rattle.dm_bounds.specs.Needed.{wanted, added_in_by}
use Rattle.dm_where_clauses.proofs.Needing.{IsAdding}
use Rattle.dm_where_clauses.proofs.needed.add_for_cases.Given as goal

abbrev pub invariant-loop-case : goal.invariant-loop-case
invariant-loop-case g l =
    let asking = g.A.Asks.asking l.fn.asks in
    IsAdding asking (added_in_by asking (wanted l.fn.sought)) case_view l.cases l.case-index l.out.items l.initial.out.items
