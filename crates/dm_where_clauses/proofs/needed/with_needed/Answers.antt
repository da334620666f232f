use Rattle.std.proofs.Common.{◌++◌, map, ap, ◌∙◌}
use Rattle.dm_ast.specs.Declarations.{declaration_view}
use Rattle.dm_operands.specs.CaseViews.{case_view}
use Rattle.dm_bounds.specs.Needed.{needed_by}
use Rattle.dm_where_clauses.proofs.needed.with_needed.Goals as goal

pub returns : goal.returns
returns g c =
    let asking = g.A.Asks.asking c.args.asks.now in
    c.in_ok-add_needed.ensures ∙
    ap (λ ps. ps ++ needed_by asking (declaration_view c.args.input.now) (map case_view c.args.cases.now)) (c.in_ok-all.ensures asking)
