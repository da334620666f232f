use Rattle.std.proofs.Common.{sym, ap, ◌∙◌}
use Rattle.dm_stream.specs.declared.tokens.Delim.TheVariants.{Paren}
use Rattle.dm_stream.specs.Layout.{Laid}
use Rattle.dm_ast.specs.Declarations.{declaration_view}
use Rattle.dm_layout.proofs.Fixing.{on-ok}
use Rattle.dm_print_types.specs.Laying.{lay, done}
use Rattle.dm_output.specs.Tokens.{expr_trees}
use Rattle.dm_operands.specs.CaseViews.{case_view}
use Rattle.dm_operators.specs.Operators.{structural}
use Rattle.dm_operators.specs.Bodies.{in_ok, value_given}
use Rattle.dm_operators.specs.Table.{operator_view}
use Rattle.dm_operator_prints.proofs.Values.{ok-laid}
use Rattle.dm_operator_prints.proofs.arms.value_in_ok.Goals as goal

pub returns-then-wanted : goal.returns-then-wanted
returns-then-wanted c =
    let value = value_given structural (operator_view c.args.operator.now) (declaration_view c.args.input.now) (case_view c.args.case.now) in
    let inside = c.in_ok-value_given.ensures ∙ ap (λ (l : Laid). lay l (expr_trees value)) c.in_ok-fixed.ensures in
    on-ok c.close.result
    (λ e. e ∙ ap (λ (l : Laid). done l Paren) inside ∙ ok-laid c.args.out.now value ∙ ap (λ b. lay c.args.out.now (expr_trees (in_ok b value))) (sym c.if-wanted.true)) c.close.ensures
