use Rattle.std.proofs.Common.{◌≡◌, ◌==◌, map, drop, true}
use Rattle.dm_ast.specs.TypeTokens.{spaced}
use Rattle.dm_output.specs.Output.{exprs_of, named_exprs_of, arms_of, stmts_of}
use Rattle.dm_output.specs.Views.{expr_view, named_expr_view, arm_view, stmt_view}
use Rattle.dm_output.specs.Tokens.{joint, comma, ended, each_expr, each_named_expr, arms_trees, stmts_trees}
use Rattle.dm_print_types.specs.Laying.{lay}
use Rattle.dm_print.proofs.expr.+print.Given as goal

abbrev pub invariant-chain-loop-i : goal.invariant-chain-loop-i
invariant-chain-loop-i l =
    lay l.out (spaced (joint l.ch l.ch) (l.i == 0) (each_expr (exprs_of (map expr_view (drop l.i l.all))))) ≡ lay l.initial.out (spaced (joint l.ch l.ch) true (each_expr (exprs_of (map expr_view l.all))))

abbrev pub invariant-list-loop-i : goal.invariant-list-loop-i
invariant-list-loop-i l =
    lay l.out (spaced comma (l.i == 0) (each_expr (exprs_of (map expr_view (drop l.i l.all))))) ≡ lay l.initial.out (spaced comma true (each_expr (exprs_of (map expr_view l.all))))

abbrev pub invariant-ended-loop-one : goal.invariant-ended-loop-one
invariant-ended-loop-one l =
    lay l.out (ended (each_expr (exprs_of (map expr_view (drop l.one-index l.all))))) ≡ lay l.initial.out (ended (each_expr (exprs_of (map expr_view l.all))))

abbrev pub invariant-named-loop-one : goal.invariant-named-loop-one
invariant-named-loop-one l =
    lay l.out (ended (each_named_expr (named_exprs_of (map named_expr_view (drop l.one-index l.all))))) ≡ lay l.initial.out (ended (each_named_expr (named_exprs_of (map named_expr_view l.all))))

abbrev pub invariant-arms-loop-one : goal.invariant-arms-loop-one
invariant-arms-loop-one l =
    lay l.out (arms_trees (arms_of (map arm_view (drop l.one-index l.all)))) ≡ lay l.initial.out (arms_trees (arms_of (map arm_view l.all)))

abbrev pub invariant-stmts-loop-one : goal.invariant-stmts-loop-one
invariant-stmts-loop-one l =
    lay l.out (stmts_trees (stmts_of (map stmt_view (drop l.one-index l.all)))) ≡ lay l.initial.out (stmts_trees (stmts_of (map stmt_view l.all)))
