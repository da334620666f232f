use Rattle.std.proofs.Common.{[], map, codes, refl, ap, ◌∙◌}
use Rattle.dm_stream.specs.Layout.{Laid, nowhere}
use Rattle.dm_ast.specs.Declarations.{declaration_view}
use Rattle.dm_ast.specs.Implementors.{implementor}
use Rattle.dm_ast.specs.TypeTokens.{type_trees, path_trees}
use Rattle.dm_layout.proofs.Fixing.{on-ok}
use Rattle.dm_print_types.specs.Laying.{lay}
use Rattle.dm_output.specs.Tokens.{word, params_trees, where_trees}
use Rattle.dm_operands.specs.CaseViews.{case_view}
use Rattle.dm_operators.specs.Heads.{item_params}
use Rattle.dm_operators.specs.Predicates.{implemented}
use Rattle.dm_operators.specs.Table.{form_view, operator_view}
use Rattle.dm_operations.specs.Items.{predicates_in, item_with}
use Rattle.dm_operations.proofs.PrintSteps.{head-laid}
use Rattle.dm_operations.proofs.printing.item_head.Goals as goal

pub returns : goal.returns
returns c =
    let form = form_view c.args.implemented.now.form in
    let o = operator_view c.args.implemented.now.operator in
    let d = declaration_view c.args.input.now in
    let cs = map case_view c.args.cases.now in
    let parameters = c.in_ok-params.ensures ∙ ap (λ (l : Laid). lay l (params_trees (item_params form o d))) c.in_ok-item_start.ensures in
    let named = c.in_ok-word.ensures ∙ ap (λ (l : Laid). lay l (word (codes "for")))
    (c.in_ok-implemented_trait.ensures ∙ ap (λ (l : Laid). lay l (path_trees nowhere (implemented form o))) parameters) in
    let typed = c.in_ok-declared_type.ensures ∙ ap (λ (l : Laid). lay l (type_trees (implementor d))) named in
    on-ok c.predicates.result
    (λ e. e ∙ ap (λ (l : Laid). lay l (where_trees (predicates_in form o d cs))) typed ∙
    head-laid c.args.out.now (item_with form o d cs [] []) (implemented form o) refl) c.predicates.ensures
