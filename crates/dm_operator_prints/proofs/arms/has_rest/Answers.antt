use Rattle.std.proofs.Common.{map, nat_lt, sym, ap, ◌∙◌}
use Rattle.std.proofs.lemmas.List.{length-map}
use Rattle.dm_operands.specs.CaseViews.{case_view}
use Rattle.dm_operators.specs.Bodies.{has_rest}
use Rattle.dm_operators.specs.Table.{form_view}
use Rattle.dm_operator_prints.proofs.arms.has_rest.Goals as goal

pub returns-in-Structural : goal.returns-in-Structural
returns-in-Structural c =
    ap (λ n. nat_lt 1 n) (sym (length-map c.args.cases.now case_view)) ∙
    ap (λ form. has_rest (form_view form) (map case_view c.args.cases.now)) (sym c.in-Structural.is)
