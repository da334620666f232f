use Rattle.std.proofs.Common.{ℕ, List, [], ◌∷◌, ◌++◌, map, ap, ◌∙◌}
use Rattle.dm_stream.specs.Layout.{Laid, line_ended}
use Rattle.dm_ast.specs.Declarations.{declaration_view}
use Rattle.dm_print_types.specs.Laying.{lay}
use Rattle.dm_print_types.proofs.Laying.{laid-start}
use Rattle.dm_output.specs.Tokens.{item_trees}
use Rattle.dm_operands.specs.CaseViews.{case_view}
use Rattle.dm_operators.specs.Table.{form_view, operator_view}
use Rattle.dm_operations.specs.Items.{item_for}
use Rattle.dm_operations.proofs.printing.printed_item.Goals as goal

pub returns : goal.returns
returns c =
    let i = c.args.implemented.now in
    let trees = item_trees (item_for (form_view i.form) (operator_view i.operator) (declaration_view c.args.input.now) (map case_view c.args.cases.now)) in
    let whole = c.in_ok-line_end.ensures ∙ ap line_ended (c.in_ok-item.ensures ∙ ap (λ (l : Laid). lay l trees) c.new-out.ensures) in
    c.into_string.ensures ∙ ap (λ (l : Laid). l.text) whole ∙ ap (λ (t : List ℕ). t ++ 10 ∷ []) (laid-start trees)
