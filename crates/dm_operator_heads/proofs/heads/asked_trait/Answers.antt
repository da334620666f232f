use Rattle.std.proofs.Common.{ap, ◌∙◌, ◌++◌}
use Rattle.dm_stream.specs.Layout.{Laid, nowhere}
use Rattle.dm_ast.specs.Tree.{ty_view}
use Rattle.dm_ast.specs.TypeTokens.{arguments_trees}
use Rattle.dm_layout.proofs.Fixing.{on-ok}
use Rattle.dm_print_types.specs.Laying.{lay}
use Rattle.dm_operators.specs.Predicates.{angled, right_argument, output_argument}
use Rattle.dm_operators.specs.Table.{form_view, operator_view}
use Rattle.dm_operator_heads.proofs.HeadSteps.{trait-laid}
use Rattle.dm_operator_heads.proofs.heads.asked_trait.Goals as goal

pub returns : goal.returns
returns c =
    let o = operator_view c.args.implemented.now.operator in
    let gs = right_argument (form_view c.args.implemented.now.form) ++ output_argument o (ty_view c.args.of.now) in
    on-ok c.asked_arguments.result
    (λ e. e ∙ ap (λ (l : Laid). lay l (arguments_trees nowhere (angled gs))) c.in_ok-trait_name.ensures ∙ trait-laid c.args.out.now o gs)
    c.asked_arguments.ensures
