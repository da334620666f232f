use Rattle.std.proofs.Common.{ap, ◌∙◌}
use Rattle.dm_stream.specs.declared.tokens.Delim.TheVariants.{Paren}
use Rattle.dm_stream.specs.Layout.{Laid}
use Rattle.dm_layout.proofs.Fixing.{on-ok}
use Rattle.dm_print_types.specs.Laying.{lay, done}
use Rattle.dm_output.specs.Tokens.{receiver_trees}
use Rattle.dm_operators.specs.Heads.{receiver_of, method_param}
use Rattle.dm_operators.specs.Table.{form_view, operator_view}
use Rattle.dm_operations.specs.Items.{more_input}
use Rattle.dm_operations.proofs.PrintSteps.{operands-laid}
use Rattle.dm_operations.proofs.printing.operands.Goals as goal

pub returns : goal.returns
returns c =
    let r = receiver_of (operator_view c.args.implemented.now.operator) in
    let p = method_param (form_view c.args.implemented.now.form) in
    let inside = c.in_ok-right_side.ensures ∙ ap (λ (l : Laid). lay l (more_input p))
    (c.in_ok-receiver.ensures ∙ ap (λ (l : Laid). lay l (receiver_trees r)) c.in_ok-open.ensures) in
    on-ok c.close.result (λ e. e ∙ ap (λ (l : Laid). done l Paren) inside ∙ operands-laid c.args.out.now r p) c.close.ensures
