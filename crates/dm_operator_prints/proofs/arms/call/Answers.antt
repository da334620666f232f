use Rattle.std.proofs.Common.{sym, ap, ◌∙◌}
use Rattle.std.specs.Prelude.{not}
use Rattle.dm_stream.specs.Layout.{Laid}
use Rattle.dm_ast.specs.TypeTokens.{given}
use Rattle.dm_layout.proofs.Fixing.{on-ok}
use Rattle.dm_print_types.specs.Laying.{lay}
use Rattle.dm_print_types.proofs.Laying.{lay-join}
use Rattle.dm_output.specs.Output.{do_stmt}
use Rattle.dm_output.specs.Tokens.{expr_trees, semicolon, stmt_trees}
use Rattle.dm_operators.specs.Bodies.{binary_call}
use Rattle.dm_operators.specs.Table.{form_view, operator_view}
use Rattle.dm_operator_prints.proofs.arms.call.Goals as goal

-- the field is kept
pub returns : goal.returns
returns c =
    let i = c.args.implemented.now in
    let made = binary_call (form_view i.form) (operator_view i.operator) c.args.n in
    on-ok c.punct.result
    (λ e. e ∙ ap (λ (l : Laid). lay l semicolon) c.in_ok-binary_call.ensures ∙ sym (lay-join c.args.out.now (expr_trees made) semicolon) ∙
    ap (λ b. lay c.args.out.now (given (not b) (stmt_trees (do_stmt made)))) (sym c.if-left_out.false)) c.punct.ensures
