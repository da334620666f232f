use Rattle.std.proofs.Common.{codes, ap, ◌∙◌}
use Rattle.dm_stream.specs.Layout.{Laid}
use Rattle.dm_ast.specs.Declarations.{declaration_view}
use Rattle.dm_ast.specs.Implementors.{implementor}
use Rattle.dm_ast.specs.TypeTokens.{type_trees}
use Rattle.dm_layout.proofs.Fixing.{on-ok}
use Rattle.dm_print_types.specs.Laying.{lay, fix}
use Rattle.dm_operator_heads.proofs.HeadSteps.{result-laid}
use Rattle.dm_operator_heads.proofs.outputs.unary_result.Goals as goal

pub returns : goal.returns
returns c =
    let t = implementor (declaration_view c.args.input.now) in
    on-ok c.fixed-2.result
    (λ e. e ∙ ap (λ (l : Laid). fix l (codes ", derive_more :: UnitError >"))
    (c.in_ok-declared_type.ensures ∙ ap (λ (l : Laid). lay l (type_trees t)) c.in_ok-fixed.ensures) ∙ result-laid c.args.out.now t) c.fixed-2.ensures
