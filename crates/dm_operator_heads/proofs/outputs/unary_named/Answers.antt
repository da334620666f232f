use Rattle.std.proofs.Common.{ap, ◌∙◌}
use Rattle.dm_stream.specs.Layout.{Laid}
use Rattle.dm_ast.specs.Declarations.{declaration_view}
use Rattle.dm_ast.specs.TypeTokens.{type_trees}
use Rattle.dm_layout.proofs.Fixing.{on-ok}
use Rattle.dm_output.specs.Tokens.{semicolon}
use Rattle.dm_print_types.specs.Laying.{lay}
use Rattle.dm_operators.specs.Heads.{unary_output}
use Rattle.dm_operator_heads.proofs.HeadSteps.{named-laid}
use Rattle.dm_operator_heads.proofs.outputs.unary_named.Goals as goal

pub returns : goal.returns
returns c =
    let t = unary_output (declaration_view c.args.input.now) in
    on-ok c.punct.result
    (λ e. e ∙ ap (λ (l : Laid). lay l semicolon)
    (c.in_ok-unary_output.ensures ∙ ap (λ (l : Laid). lay l (type_trees t)) c.in_ok-fixed.ensures) ∙ named-laid c.args.out.now t) c.punct.ensures
