use Rattle.std.proofs.Common.{◌≡◌, OnOk, cond, sym, subst}
use Rattle.dm_print_types.specs.Laying.{lay}
use Rattle.dm_output.specs.Tokens.{expr_trees}
use Rattle.dm_operands.specs.Bodies.{name}
use Rattle.dm_operands.specs.Numbered.{self_name}
use Rattle.dm_operators.specs.Bodies.{binary_call}
use Rattle.dm_operators.specs.Table.{form_view, operator_view}
use Rattle.dm_operator_prints.proofs.parts.binary_part.Goals as goal

pub returns : goal.returns
returns c =
    subst (λ b. OnOk c.binary_call.result (c.binary_call.new.out ≡
    lay c.args.out.now (expr_trees (cond b (name (self_name c.args.n)) (binary_call (form_view c.args.form) (operator_view c.args.operator.now) c.args.n)))))
    (sym c.if-left_out.false) c.binary_call.ensures
