use Rattle.std.proofs.Common.{Some, map, ap, ◌∙◌}
use Rattle.dm_stream.specs.Layout.{Laid}
use Rattle.dm_ast.specs.Declarations.{declaration_view}
use Rattle.dm_ast.specs.Implementors.{params_of, implementor}
use Rattle.dm_ast.specs.TypeTokens.{type_trees}
use Rattle.dm_print_types.specs.Laying.{lay}
use Rattle.dm_output.specs.Tokens.{params_trees, trait_trees, where_trees}
use Rattle.dm_operands.specs.CaseViews.{case_view}
use Rattle.dm_layout.proofs.Fixing.{on-ok}
use Rattle.dm_partial_eq.specs.Heads.{partial_eq_path}
use Rattle.dm_partial_eq.specs.Emitted.{predicates_for}
use Rattle.dm_partial_eq.proofs.PrintLaws.{head-laid}
use Rattle.dm_partial_eq.proofs.printing.heads.item_head.Goals as goal

pub returns : goal.returns
returns c =
    let d = declaration_view c.args.input.now in
    let vs = map case_view c.args.cases.now in
    let named = c.in_ok-declared_params.ensures ∙ ap (λ (l : Laid). lay l (params_trees (params_of d))) c.in_ok-attributes.ensures in
    let before = c.in_ok-trait_for.ensures ∙ ap (λ (l : Laid). lay l (trait_trees (Some partial_eq_path))) named in
    let typed = c.in_ok-declared_type.ensures ∙ ap (λ (l : Laid). lay l (type_trees (implementor d))) before in
    on-ok c.predicates.result (λ e. e ∙ ap (λ (l : Laid). lay l (where_trees (predicates_for d vs))) typed ∙ head-laid c.args.out.now d vs) c.predicates.ensures
