use Rattle.std.proofs.Common.{◌≡◌, OnOk, sym, subst}
use Rattle.dm_print_types.specs.Laying.{lay}
use Rattle.dm_output.specs.Tokens.{expr_trees}
use Rattle.dm_operators.specs.Bodies.{subject}
use Rattle.dm_operators.specs.Table.{form_view}
use Rattle.dm_operator_prints.proofs.bodies.subject.Goals as goal

pub returns-in-Structural : goal.returns-in-Structural
returns-in-Structural c =
    subst (λ form. OnOk c.fixed.result (c.fixed.new.out ≡ lay c.args.out.now (expr_trees (subject (form_view form))))) (sym c.in-Structural.is) c.fixed.ensures
