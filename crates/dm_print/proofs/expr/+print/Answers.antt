use Rattle.dm_output.proofs.View.{view_Expr-MethodCall, view_Expr-FormatArgs}
use Rattle.dm_print_types.proofs.Laying.{lay-join}
use Rattle.dm_print.proofs.expr.+print.Goals as goal

pub expr-returns-in-FormatArgs : goal.expr-returns-in-FormatArgs
expr-returns-in-FormatArgs t c = rw (c.in-FormatArgs.is, view_Expr-FormatArgs) c.format_call.ensures

pub expr-returns-in_ok-expr-in-MethodCall : goal.expr-returns-in_ok-expr-in-MethodCall
expr-returns-in_ok-expr-in-MethodCall t c =
    rw (c.in-MethodCall.is, view_Expr-MethodCall, lay-join) (rw (c.in_ok-expr-in-MethodCall.ensures, c.deref-in-MethodCall.ensures) at c.method_call.ensures)
