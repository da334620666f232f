use Rattle.std.proofs.Common.{map, refl, ap, ◌∙◌}
use Rattle.dm_stream.specs.declared.tokens.Delim.TheVariants.{Brace}
use Rattle.dm_stream.specs.Layout.{Laid}
use Rattle.dm_ast.specs.Declarations.{declaration_view}
use Rattle.dm_layout.proofs.Fixing.{on-ok}
use Rattle.dm_print_types.specs.Laying.{lay, begun, done}
use Rattle.dm_output.specs.Tokens.{in_turn, assoc_trees, method_trees}
use Rattle.dm_operands.specs.CaseViews.{case_view}
use Rattle.dm_operators.specs.Heads.{assocs}
use Rattle.dm_operators.specs.Implementations.{method_in}
use Rattle.dm_operators.specs.Table.{form_view, operator_view}
use Rattle.dm_operations.specs.Items.{item_for}
use Rattle.dm_operations.proofs.PrintSteps.{item-laid}
use Rattle.dm_operations.proofs.printing.item.Goals as goal

pub returns : goal.returns
returns c =
    let form = form_view c.args.implemented.now.form in
    let o = operator_view c.args.implemented.now.operator in
    let d = declaration_view c.args.input.now in
    let cs = map case_view c.args.cases.now in
    let types = in_turn (map assoc_trees (assocs form o d)) in
    let start = c.in_ok-open.ensures ∙ ap (λ (l : Laid). begun l Brace) c.in_ok-item_head.ensures in
    let inside = c.in_ok-method.ensures ∙ ap (λ (l : Laid). lay l (method_trees (method_in form o d cs)))
    (c.in_ok-output_type.ensures ∙ ap (λ (l : Laid). lay l types) start) in
    on-ok c.close.result
    (λ e. e ∙ ap (λ (l : Laid). done l Brace) inside ∙ item-laid c.args.out.now (item_for form o d cs) (method_in form o d cs) refl) c.close.ensures
