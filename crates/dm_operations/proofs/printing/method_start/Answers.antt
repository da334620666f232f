use Rattle.std.proofs.Common.{◌≡◌, OnOk, sym, subst}
use Rattle.dm_output.specs.Tokens.{track_caller}
use Rattle.dm_print_types.specs.Laying.{lay}
use Rattle.dm_operators.specs.Table.{form_view}
use Rattle.dm_operations.specs.Items.{method_start_trees}
use Rattle.dm_operations.proofs.printing.method_start.Goals as goal

pub returns-in-Structural : goal.returns-in-Structural
unfolding track_caller
returns-in-Structural c =
    subst (λ form. OnOk c.fixed.result (c.fixed.new.out ≡ lay c.args.out.now (method_start_trees (form_view form)))) (sym c.in-Structural.is) c.fixed.ensures

pub returns-in-Scalar : goal.returns-in-Scalar
unfolding track_caller
returns-in-Scalar c =
    subst (λ form. OnOk c.fixed-in-Scalar.result (c.fixed-in-Scalar.new.out ≡ lay c.args.out.now (method_start_trees (form_view form)))) (sym c.in-Scalar.is)
    c.fixed-in-Scalar.ensures

pub returns-in-Unary : goal.returns-in-Unary
returns-in-Unary c =
    subst (λ form. OnOk c.fixed-in-Unary.result (c.fixed-in-Unary.new.out ≡ lay c.args.out.now (method_start_trees (form_view form)))) (sym c.in-Unary.is)
    c.fixed-in-Unary.ensures
