use Rattle.std.proofs.Common.{◌≡◌, OnOk, sym, subst}
use Rattle.dm_print_types.specs.Laying.{lay}
use Rattle.dm_operators.specs.Heads.{method_param}
use Rattle.dm_operators.specs.Table.{form_view}
use Rattle.dm_operations.specs.Items.{more_input}
use Rattle.dm_operations.proofs.printing.right_side.Goals as goal

pub returns-in-Structural : goal.returns-in-Structural
returns-in-Structural c =
    subst (λ form. OnOk c.fixed.result (c.fixed.new.out ≡ lay c.args.out.now (more_input (method_param (form_view form))))) (sym c.in-Structural.is) c.fixed.ensures

pub returns-in-Scalar : goal.returns-in-Scalar
returns-in-Scalar c =
    subst (λ form. OnOk c.fixed-in-Scalar.result (c.fixed-in-Scalar.new.out ≡ lay c.args.out.now (more_input (method_param (form_view form))))) (sym c.in-Scalar.is)
    c.fixed-in-Scalar.ensures
