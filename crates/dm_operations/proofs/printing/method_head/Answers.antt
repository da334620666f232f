use Rattle.std.proofs.Common.{Some, refl, ap, ◌∙◌}
use Rattle.dm_stream.specs.declared.tokens.Delim.TheVariants.{Paren}
use Rattle.dm_stream.specs.Layout.{Laid}
use Rattle.dm_ast.specs.Declarations.{declaration_view}
use Rattle.dm_layout.proofs.Fixing.{on-ok}
use Rattle.dm_print_types.specs.Laying.{lay}
use Rattle.dm_output.specs.Output.{last_expr, no_expr}
use Rattle.dm_output.specs.Tokens.{word, enclosed, inputs_trees, output_trees}
use Rattle.dm_operators.specs.Heads.{receiver_of, method_param, method_output}
use Rattle.dm_operators.specs.Implementations.{method_with}
use Rattle.dm_operators.specs.Table.{form_view, operator_view}
use Rattle.dm_operations.proofs.PrintSteps.{signature-laid}
use Rattle.dm_operations.proofs.printing.method_head.Goals as goal

pub returns : goal.returns
returns c =
    let form = form_view c.args.implemented.now.form in
    let o = operator_view c.args.implemented.now.operator in
    let d = declaration_view c.args.input.now in
    let inputs = enclosed Paren (inputs_trees (Some (receiver_of o)) (method_param form)) in
    let named = c.in_ok-word.ensures ∙ ap (λ (l : Laid). lay l (word o.method)) c.in_ok-method_start.ensures in
    on-ok c.output.result
    (λ e. e ∙ ap (λ (l : Laid). lay l (output_trees (method_output form o d))) (c.in_ok-operands.ensures ∙ ap (λ (l : Laid). lay l inputs) named) ∙
    signature-laid c.args.out.now (method_with form o d (last_expr no_expr)) refl) c.output.ensures
