use Rattle.std.proofs.Common.{◌≡◌, ◌==◌, [], ◌∷◌, map, drop, true}
use Rattle.dm_output.specs.Output.{exprs_of, named_exprs_of, arms_of, stmts_of}
use Rattle.dm_output.specs.Views.{expr_view, named_expr_view, arm_view, stmt_view}
use Rattle.dm_levels.specs.Behind.{seen}
use Rattle.dm_levels.specs.Levels.{ended_levels, each_expr, each_named_expr, arms_levels, stmts_levels}
use Rattle.dm_type_levels.specs.Passing.{pass, pass_then}
use Rattle.dm_type_levels.specs.TypeLevels.{spaced_levels}
use Rattle.dm_levels.proofs.expr.+expr.Given as goal

abbrev pub invariant-chain-loop-i : goal.invariant-chain-loop-i
invariant-chain-loop-i l =
    pass_then (spaced_levels (l.level ∷ l.level ∷ []) (l.i == 0) (each_expr l.level (exprs_of (map expr_view (drop l.i l.all))))) (seen l.at) ≡
    pass (spaced_levels (l.level ∷ l.level ∷ []) true (each_expr l.level (exprs_of (map expr_view l.all)))) l.rest

abbrev pub invariant-list-loop-i : goal.invariant-list-loop-i
invariant-list-loop-i l =
    pass_then (spaced_levels (l.level ∷ []) (l.i == 0) (each_expr l.level (exprs_of (map expr_view (drop l.i l.all))))) (seen l.at) ≡
    pass (spaced_levels (l.level ∷ []) true (each_expr l.level (exprs_of (map expr_view l.all)))) l.rest

abbrev pub invariant-ended-loop-one : goal.invariant-ended-loop-one
invariant-ended-loop-one l =
    pass_then (ended_levels l.level (each_expr l.level (exprs_of (map expr_view (drop l.one-index l.all))))) (seen l.at) ≡
    pass (ended_levels l.level (each_expr l.level (exprs_of (map expr_view l.all)))) l.rest

abbrev pub invariant-named-loop-one : goal.invariant-named-loop-one
invariant-named-loop-one l =
    pass_then (ended_levels l.level (each_named_expr l.level (named_exprs_of (map named_expr_view (drop l.one-index l.all))))) (seen l.at) ≡
    pass (ended_levels l.level (each_named_expr l.level (named_exprs_of (map named_expr_view l.all)))) l.rest

abbrev pub invariant-arms-loop-one : goal.invariant-arms-loop-one
invariant-arms-loop-one l =
    pass_then (arms_levels l.level (arms_of (map arm_view (drop l.one-index l.all)))) (seen l.at) ≡
    pass (arms_levels l.level (arms_of (map arm_view l.all))) l.rest

abbrev pub invariant-stmts-loop-one : goal.invariant-stmts-loop-one
invariant-stmts-loop-one l =
    pass_then (stmts_levels l.level (stmts_of (map stmt_view (drop l.one-index l.all)))) (seen l.at) ≡
    pass (stmts_levels l.level (stmts_of (map stmt_view l.all))) l.rest
