use Rattle.std.proofs.Common.{ap, ◌∙◌}
use Rattle.dm_stream.specs.Layout.{Laid, nowhere}
use Rattle.dm_ast.specs.TypeTokens.{arguments_trees}
use Rattle.dm_layout.proofs.Fixing.{on-ok}
use Rattle.dm_print_types.specs.Laying.{lay}
use Rattle.dm_operators.specs.Predicates.{angled, right_argument}
use Rattle.dm_operators.specs.Table.{form_view, operator_view}
use Rattle.dm_operator_heads.proofs.HeadSteps.{trait-laid}
use Rattle.dm_operator_heads.proofs.heads.implemented_trait.Goals as goal

pub returns : goal.returns
returns c =
    let gs = right_argument (form_view c.args.implemented.now.form) in
    on-ok c.right_argument.result
    (λ e. e ∙ ap (λ (l : Laid). lay l (arguments_trees nowhere (angled gs))) c.in_ok-trait_name.ensures ∙
    trait-laid c.args.out.now (operator_view c.args.implemented.now.operator) gs) c.right_argument.ensures
