use Rattle.std.proofs.Common.{◌≡◌, OnOk, sym, subst}
use Rattle.dm_print_types.specs.Laying.{lay}
use Rattle.dm_output.specs.Tokens.{expr_trees}
use Rattle.dm_operators.specs.Bodies.{right_operand}
use Rattle.dm_operators.specs.Table.{form_view}
use Rattle.dm_operator_prints.proofs.parts.right_operand.Goals as goal

pub returns-in-Structural : goal.returns-in-Structural
returns-in-Structural c =
    subst (λ form. OnOk c.numbered.result (c.numbered.new.out ≡ lay c.args.out.now (expr_trees (right_operand (form_view form) c.args.n))))
    (sym c.in-Structural.is) c.numbered.ensures
