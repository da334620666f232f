use Rattle.std.proofs.Common.{◌≡◌, ◌++◌, map, drop}
use Rattle.dm_output.specs.Views.{expr_view, named_expr_view, stmt_view, arm_view}
use Rattle.dm_output_copy.proofs.copy_expr.+copy_expr.Given as goal

abbrev pub invariant-copy_exprs-loop-expr : goal.invariant-copy_exprs-loop-expr
invariant-copy_exprs-loop-expr l = map expr_view l.found ++ map expr_view (drop l.expr-index l.all) ≡ map expr_view l.all

abbrev pub invariant-copy_fields-loop-field : goal.invariant-copy_fields-loop-field
invariant-copy_fields-loop-field l =
    map named_expr_view l.found ++ map named_expr_view (drop l.field-index l.all) ≡ map named_expr_view l.all

abbrev pub invariant-copy_stmts-loop-stmt : goal.invariant-copy_stmts-loop-stmt
invariant-copy_stmts-loop-stmt l = map stmt_view l.found ++ map stmt_view (drop l.stmt-index l.all) ≡ map stmt_view l.all

abbrev pub invariant-copy_arms-loop-arm : goal.invariant-copy_arms-loop-arm
invariant-copy_arms-loop-arm l = map arm_view l.found ++ map arm_view (drop l.arm-index l.all) ≡ map arm_view l.all
