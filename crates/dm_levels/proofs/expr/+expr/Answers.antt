-- How each function passes what its part is written with, and each arm of `expr` its variant.
use Rattle.std.proofs.Common.{ℕ, ◌+◌, List, [], ◌∷◌, ◌++◌, map, true, refl, sym, ap, ◌∙◌}
use Rattle.dm_ast.specs.Tree.{path_view, maybe_self_view}
use Rattle.dm_output.specs.declared.expr.Expr.{Expr}
use Rattle.dm_output.specs.declared.expr.Arm.{Arm}
use Rattle.dm_output.specs.Output.{exprs_of, named_exprs_of, arms_of}
use Rattle.dm_output.specs.Views.{opaque_view, expr_view, named_expr_view, arm_view, body_view, block_view}
use Rattle.dm_output.proofs.View.{view_Expr-Return, view_Expr-Or, view_Expr-And, view_Expr-Equal, view_Expr-Unequal, view_Expr-RefOpaque, view_Expr-Ref, view_Expr-Deref, view_Expr-Member, view_Expr-MethodCall, view_Expr-Map, view_Expr-MapErr, view_Expr-Question, view_Expr-Path, view_Expr-Call, view_Expr-Build, view_Expr-BuildNamed, view_Expr-Paren, view_Expr-Tuple, view_Expr-OpaqueCall, view_Expr-Str, view_Expr-Bool, view_Expr-Match, view_Expr-Unsafe, view_Expr-Write, view_Expr-FormatArgs}
use Rattle.dm_levels.specs.Levels.{opaque_levels, ended_levels, list_levels, expr_levels, each_expr, each_named_expr, arms_levels, body_levels, inside_levels}
use Rattle.dm_type_levels.specs.Passing.{given}
use Rattle.dm_type_levels.specs.TypeLevels.{grouped_levels, spaced_levels, path_expr_levels}
use Rattle.dm_type_levels.proofs.TypePasses.{passes_equal, passes_next}
use Rattle.dm_type_levels.proofs.PartPasses.{first_stops, second_stops, third_passes}
use Rattle.dm_levels.proofs.ExprPasses.{expr_shown, expr_passes, first_passes, first_fails, left_passes, left_fails}
use Rattle.dm_levels.proofs.expr.+expr.Goals as goal

abbrev chain_levels : ℕ → List Expr → List ℕ
chain_levels k es = spaced_levels (k ∷ k ∷ []) true (each_expr k (exprs_of (map expr_view es)))

abbrev behind_match : ℕ → Expr → List Arm → List ℕ
behind_match k subject all = k ∷ (expr_levels k (expr_view subject) ++ grouped_levels k (arms_levels (k + 1) (arms_of (map arm_view all))))

pub expr-returns-in-Return : goal.expr-returns-in-Return
expr-returns-in-Return t c =
    expr_passes c.args.level c.args.tree.now _ _ c.args.rest.now c.operand.result c.in-Return.is (view_Expr-Return c.in-Return.inner)
    c.operand.ensures

pub expr-returns-in-Or : goal.expr-returns-in-Or
expr-returns-in-Or t c =
    passes_equal _ _ c.args.rest.now c.chain.result
    (expr_shown c.args.level c.args.tree.now _ _ c.in-Or.is (view_Expr-Or c.in-Or.parts) ∙ ap (chain_levels c.args.level)
    (sym c.as_slice.ensures)) c.chain.ensures

pub expr-returns-in-And : goal.expr-returns-in-And
expr-returns-in-And t c =
    passes_equal _ _ c.args.rest.now c.chain-in-And.result
    (expr_shown c.args.level c.args.tree.now _ _ c.in-And.is (view_Expr-And c.in-And.parts) ∙ ap (chain_levels c.args.level)
    (sym c.as_slice-in-And.ensures)) c.chain-in-And.ensures

pub expr-returns-in_err-rest-in-Equal : goal.expr-returns-in_err-rest-in-Equal
expr-returns-in_err-rest-in-Equal t c =
    left_fails c.args.level c.args.tree.now _ _ c.deref.result.now c.in-Equal.left.value _ c.args.rest.now c.in_err-rest-in-Equal.field-0.0
    c.from_residual.result
    c.in-Equal.is (view_Expr-Equal c.in-Equal.left c.in-Equal.right) refl c.deref.ensures c.in_err-rest-in-Equal.ensures
    c.from_residual.ensures.1

pub expr-returns-in_ok-rest-in-Equal : goal.expr-returns-in_ok-rest-in-Equal
expr-returns-in_ok-rest-in-Equal t c =
    left_passes c.args.level c.args.tree.now _ _ c.deref.result.now c.in-Equal.left.value _ c.args.rest.now c.in_ok-rest-in-Equal.rest.now
    c.compared.result
    c.in-Equal.is (view_Expr-Equal c.in-Equal.left c.in-Equal.right) refl c.deref.ensures c.in_ok-rest-in-Equal.ensures c.compared.ensures

pub expr-returns-in_err-rest-in-Unequal : goal.expr-returns-in_err-rest-in-Unequal
expr-returns-in_err-rest-in-Unequal t c =
    left_fails c.args.level c.args.tree.now _ _ c.deref-in-Unequal.result.now c.in-Unequal.left.value _ c.args.rest.now
    c.in_err-rest-in-Unequal.field-0.0 c.from_residual-in_err-rest-in-Unequal.result
    c.in-Unequal.is (view_Expr-Unequal c.in-Unequal.left c.in-Unequal.right) refl c.deref-in-Unequal.ensures
    c.in_err-rest-in-Unequal.ensures c.from_residual-in_err-rest-in-Unequal.ensures.1

pub expr-returns-in_ok-rest-in-Unequal : goal.expr-returns-in_ok-rest-in-Unequal
expr-returns-in_ok-rest-in-Unequal t c =
    left_passes c.args.level c.args.tree.now _ _ c.deref-in-Unequal.result.now c.in-Unequal.left.value _ c.args.rest.now
    c.in_ok-rest-in-Unequal.rest.now c.compared-in-Unequal.result
    c.in-Unequal.is (view_Expr-Unequal c.in-Unequal.left c.in-Unequal.right) refl c.deref-in-Unequal.ensures c.in_ok-rest-in-Unequal.ensures
    c.compared-in-Unequal.ensures

pub expr-returns-in-RefOpaque : goal.expr-returns-in-RefOpaque
expr-returns-in-RefOpaque t c =
    expr_passes c.args.level c.args.tree.now _ _ c.args.rest.now c.opaque_operand.result c.in-RefOpaque.is
    (view_Expr-RefOpaque c.in-RefOpaque.tokens) c.opaque_operand.ensures

pub expr-returns-in-Ref : goal.expr-returns-in-Ref
expr-returns-in-Ref t c =
    expr_passes c.args.level c.args.tree.now _ _ c.args.rest.now c.reference.result c.in-Ref.is
    (view_Expr-Ref c.in-Ref.is_mut c.in-Ref.inner) c.reference.ensures

pub expr-returns-in-Deref : goal.expr-returns-in-Deref
expr-returns-in-Deref t c =
    expr_passes c.args.level c.args.tree.now _ _ c.args.rest.now c.operand-in-Deref.result c.in-Deref.is (view_Expr-Deref c.in-Deref.inner)
    c.operand-in-Deref.ensures

pub expr-returns-in_err-rest-in-Member : goal.expr-returns-in_err-rest-in-Member
expr-returns-in_err-rest-in-Member t c =
    left_fails c.args.level c.args.tree.now _ _ c.deref-in-Member.result.now c.in-Member.inner.value _ c.args.rest.now
    c.in_err-rest-in-Member.field-0.0 c.from_residual-in_err-rest-in-Member.result
    c.in-Member.is (view_Expr-Member c.in-Member.inner c.in-Member.field-1) refl c.deref-in-Member.ensures c.in_err-rest-in-Member.ensures
    c.from_residual-in_err-rest-in-Member.ensures.1

pub expr-returns-in_ok-rest-in-Member : goal.expr-returns-in_ok-rest-in-Member
expr-returns-in_ok-rest-in-Member t c =
    left_passes c.args.level c.args.tree.now _ _ c.deref-in-Member.result.now c.in-Member.inner.value _ c.args.rest.now
    c.in_ok-rest-in-Member.rest.now c.pair.result
    c.in-Member.is (view_Expr-Member c.in-Member.inner c.in-Member.field-1) refl c.deref-in-Member.ensures c.in_ok-rest-in-Member.ensures
    c.pair.ensures.gives

pub expr-returns-in_err-rest-in-MethodCall : goal.expr-returns-in_err-rest-in-MethodCall
expr-returns-in_err-rest-in-MethodCall t c =
    left_fails c.args.level c.args.tree.now _ _ c.deref-in-MethodCall.result.now c.in-MethodCall.inner.value _ c.args.rest.now
    c.in_err-rest-in-MethodCall.field-0.0 c.from_residual-in_err-rest-in-MethodCall.result
    c.in-MethodCall.is (view_Expr-MethodCall c.in-MethodCall.inner c.in-MethodCall.field-1 c.in-MethodCall.arguments) refl
    c.deref-in-MethodCall.ensures c.in_err-rest-in-MethodCall.ensures c.from_residual-in_err-rest-in-MethodCall.ensures.1

pub expr-returns-in_ok-rest-in-MethodCall : goal.expr-returns-in_ok-rest-in-MethodCall
expr-returns-in_ok-rest-in-MethodCall t c =
    left_passes c.args.level c.args.tree.now _ _ c.deref-in-MethodCall.result.now c.in-MethodCall.inner.value _ c.args.rest.now
    c.in_ok-rest-in-MethodCall.rest.now c.method_call.result
    c.in-MethodCall.is (view_Expr-MethodCall c.in-MethodCall.inner c.in-MethodCall.field-1 c.in-MethodCall.arguments) refl
    c.deref-in-MethodCall.ensures c.in_ok-rest-in-MethodCall.ensures c.method_call.ensures

pub expr-returns-in_err-rest-in-Map : goal.expr-returns-in_err-rest-in-Map
expr-returns-in_err-rest-in-Map t c =
    left_fails c.args.level c.args.tree.now _ _ c.deref-in-Map.result.now c.in-Map.inner.value _ c.args.rest.now
    c.in_err-rest-in-Map.field-0.0 c.from_residual-in_err-rest-in-Map.result
    c.in-Map.is (view_Expr-Map c.in-Map.inner c.in-Map.body) refl c.deref-in-Map.ensures c.in_err-rest-in-Map.ensures
    c.from_residual-in_err-rest-in-Map.ensures.1

pub expr-returns-in_ok-rest-in-Map : goal.expr-returns-in_ok-rest-in-Map
expr-returns-in_ok-rest-in-Map t c =
    left_passes c.args.level c.args.tree.now _ _ c.deref-in-Map.result.now c.in-Map.inner.value _ c.args.rest.now
    c.in_ok-rest-in-Map.rest.now c.mapped.result
    c.in-Map.is (view_Expr-Map c.in-Map.inner c.in-Map.body) refl c.deref-in-Map.ensures c.in_ok-rest-in-Map.ensures c.mapped.ensures

pub expr-returns-in_err-rest-in-MapErr : goal.expr-returns-in_err-rest-in-MapErr
expr-returns-in_err-rest-in-MapErr t c =
    left_fails c.args.level c.args.tree.now _ _ c.deref-in-MapErr.result.now c.in-MapErr.inner.value _ c.args.rest.now
    c.in_err-rest-in-MapErr.field-0.0 c.from_residual-in_err-rest-in-MapErr.result
    c.in-MapErr.is (view_Expr-MapErr c.in-MapErr.inner c.in-MapErr.function) refl c.deref-in-MapErr.ensures c.in_err-rest-in-MapErr.ensures
    c.from_residual-in_err-rest-in-MapErr.ensures.1

pub expr-returns-in_ok-rest-in-MapErr : goal.expr-returns-in_ok-rest-in-MapErr
expr-returns-in_ok-rest-in-MapErr t c =
    left_passes c.args.level c.args.tree.now _ _ c.deref-in-MapErr.result.now c.in-MapErr.inner.value _ c.args.rest.now
    c.in_ok-rest-in-MapErr.rest.now c.opaque_argument.result
    c.in-MapErr.is (view_Expr-MapErr c.in-MapErr.inner c.in-MapErr.function) refl c.deref-in-MapErr.ensures c.in_ok-rest-in-MapErr.ensures
    c.opaque_argument.ensures

pub expr-returns-in_err-rest-in-Question : goal.expr-returns-in_err-rest-in-Question
expr-returns-in_err-rest-in-Question t c =
    left_fails c.args.level c.args.tree.now _ _ c.deref-in-Question.result.now c.in-Question.inner.value _ c.args.rest.now
    c.in_err-rest-in-Question.field-0.0 c.from_residual-in_err-rest-in-Question.result
    c.in-Question.is (view_Expr-Question c.in-Question.inner) refl c.deref-in-Question.ensures c.in_err-rest-in-Question.ensures
    c.from_residual-in_err-rest-in-Question.ensures.1

pub expr-returns-in_ok-rest-in-Question : goal.expr-returns-in_ok-rest-in-Question
expr-returns-in_ok-rest-in-Question t c =
    left_passes c.args.level c.args.tree.now _ _ c.deref-in-Question.result.now c.in-Question.inner.value _ c.args.rest.now
    c.in_ok-rest-in-Question.rest.now c.token.result
    c.in-Question.is (view_Expr-Question c.in-Question.inner) refl c.deref-in-Question.ensures c.in_ok-rest-in-Question.ensures
    c.token.ensures.gives

pub expr-returns-in-Path : goal.expr-returns-in-Path
expr-returns-in-Path t c =
    expr_passes c.args.level c.args.tree.now _ _ c.args.rest.now c.path_expr.result c.in-Path.is (view_Expr-Path c.in-Path.path)
    c.path_expr.ensures

pub expr-returns-in_err-rest-in-Call : goal.expr-returns-in_err-rest-in-Call
expr-returns-in_err-rest-in-Call t c =
    first_fails c.args.level c.args.tree.now _ _ (path_expr_levels c.args.level (maybe_self_view c.in-Call.path.qself)
    (path_view c.in-Call.path.path)) _ c.args.rest.now c.in_err-rest-in-Call.field-0.0 c.from_residual-in_err-rest-in-Call.result
    c.in-Call.is (view_Expr-Call c.in-Call.path c.in-Call.arguments) refl c.in_err-rest-in-Call.ensures
    c.from_residual-in_err-rest-in-Call.ensures.1

pub expr-returns-in_ok-rest-in-Call : goal.expr-returns-in_ok-rest-in-Call
expr-returns-in_ok-rest-in-Call t c =
    first_passes c.args.level c.args.tree.now _ _ (path_expr_levels c.args.level (maybe_self_view c.in-Call.path.qself)
    (path_view c.in-Call.path.path)) _ c.args.rest.now c.in_ok-rest-in-Call.rest.now c.in_parens.result
    c.in-Call.is (view_Expr-Call c.in-Call.path c.in-Call.arguments) refl c.in_ok-rest-in-Call.ensures c.in_parens.ensures

pub expr-returns-in_err-rest-in-Build : goal.expr-returns-in_err-rest-in-Build
expr-returns-in_err-rest-in-Build t c =
    first_fails c.args.level c.args.tree.now _ _ (path_expr_levels c.args.level (maybe_self_view c.in-Build.path.qself)
    (path_view c.in-Build.path.path)) _ c.args.rest.now c.in_err-rest-in-Build.field-0.0 c.from_residual-in_err-rest-in-Build.result
    c.in-Build.is (view_Expr-Build c.in-Build.path c.in-Build.arguments) refl c.in_err-rest-in-Build.ensures
    c.from_residual-in_err-rest-in-Build.ensures.1

pub expr-returns-in_ok-rest-in-Build : goal.expr-returns-in_ok-rest-in-Build
expr-returns-in_ok-rest-in-Build t c =
    first_passes c.args.level c.args.tree.now _ _ (path_expr_levels c.args.level (maybe_self_view c.in-Build.path.qself)
    (path_view c.in-Build.path.path)) _ c.args.rest.now c.in_ok-rest-in-Build.rest.now c.ended_in_parens.result
    c.in-Build.is (view_Expr-Build c.in-Build.path c.in-Build.arguments) refl c.in_ok-rest-in-Build.ensures c.ended_in_parens.ensures

pub expr-returns-in_err-rest-in-BuildNamed : goal.expr-returns-in_err-rest-in-BuildNamed
expr-returns-in_err-rest-in-BuildNamed t c =
    first_fails c.args.level c.args.tree.now _ _ (path_expr_levels c.args.level (maybe_self_view c.in-BuildNamed.path.qself)
    (path_view c.in-BuildNamed.path.path)) _ c.args.rest.now c.in_err-rest-in-BuildNamed.field-0.0
    c.from_residual-in_err-rest-in-BuildNamed.result
    c.in-BuildNamed.is (view_Expr-BuildNamed c.in-BuildNamed.path c.in-BuildNamed.fields) refl c.in_err-rest-in-BuildNamed.ensures
    c.from_residual-in_err-rest-in-BuildNamed.ensures.1

pub expr-returns-in_ok-rest-in-BuildNamed : goal.expr-returns-in_ok-rest-in-BuildNamed
expr-returns-in_ok-rest-in-BuildNamed t c =
    first_passes c.args.level c.args.tree.now _ _ (path_expr_levels c.args.level (maybe_self_view c.in-BuildNamed.path.qself)
    (path_view c.in-BuildNamed.path.path)) _ c.args.rest.now c.in_ok-rest-in-BuildNamed.rest.now c.named_in_braces.result
    c.in-BuildNamed.is (view_Expr-BuildNamed c.in-BuildNamed.path c.in-BuildNamed.fields) refl c.in_ok-rest-in-BuildNamed.ensures
    c.named_in_braces.ensures

pub expr-returns-in-Paren : goal.expr-returns-in-Paren
expr-returns-in-Paren t c =
    expr_passes c.args.level c.args.tree.now _ _ c.args.rest.now c.enclosed.result c.in-Paren.is (view_Expr-Paren c.in-Paren.inner)
    c.enclosed.ensures

pub expr-returns-in-Tuple : goal.expr-returns-in-Tuple
expr-returns-in-Tuple t c =
    expr_passes c.args.level c.args.tree.now _ _ c.args.rest.now c.in_parens-in-Tuple.result c.in-Tuple.is
    (view_Expr-Tuple c.in-Tuple.parts) c.in_parens-in-Tuple.ensures

pub expr-returns-in_err-rest-in-OpaqueCall : goal.expr-returns-in_err-rest-in-OpaqueCall
expr-returns-in_err-rest-in-OpaqueCall t c =
    first_fails c.args.level c.args.tree.now _ _ (opaque_levels c.args.level (opaque_view c.in-OpaqueCall.function)) _ c.args.rest.now
    c.in_err-rest-in-OpaqueCall.field-0.0 c.from_residual-in_err-rest-in-OpaqueCall.result
    c.in-OpaqueCall.is (view_Expr-OpaqueCall c.in-OpaqueCall.function c.in-OpaqueCall.argument) refl c.in_err-rest-in-OpaqueCall.ensures
    c.from_residual-in_err-rest-in-OpaqueCall.ensures.1

pub expr-returns-in_ok-rest-in-OpaqueCall : goal.expr-returns-in_ok-rest-in-OpaqueCall
expr-returns-in_ok-rest-in-OpaqueCall t c =
    first_passes c.args.level c.args.tree.now _ _ (opaque_levels c.args.level (opaque_view c.in-OpaqueCall.function)) _ c.args.rest.now
    c.in_ok-rest-in-OpaqueCall.rest.now c.enclosed-in-OpaqueCall.result
    c.in-OpaqueCall.is (view_Expr-OpaqueCall c.in-OpaqueCall.function c.in-OpaqueCall.argument) refl c.in_ok-rest-in-OpaqueCall.ensures
    c.enclosed-in-OpaqueCall.ensures

pub expr-returns-in-Str : goal.expr-returns-in-Str
expr-returns-in-Str t c =
    expr_passes c.args.level c.args.tree.now _ _ c.args.rest.now c.token-in-Str.result c.in-Str.is (view_Expr-Str c.in-Str.field-0)
    c.token-in-Str.ensures.gives

pub expr-returns-in-Bool : goal.expr-returns-in-Bool
expr-returns-in-Bool t c =
    expr_passes c.args.level c.args.tree.now _ _ c.args.rest.now c.token-in-Bool.result c.in-Bool.is (view_Expr-Bool c.in-Bool.field-0)
    c.token-in-Bool.ensures.gives

pub expr-returns-in_err-rest-in-Match : goal.expr-returns-in_err-rest-in-Match
expr-returns-in_err-rest-in-Match t c =
    first_fails c.args.level c.args.tree.now _ _ (c.args.level ∷ []) _ c.args.rest.now c.in_err-rest-in-Match.field-0.0
    c.from_residual-in_err-rest-in-Match.result
    c.in-Match.is (view_Expr-Match c.in-Match.subject c.in-Match.all) refl c.in_err-rest-in-Match.ensures.gives
    c.from_residual-in_err-rest-in-Match.ensures.1

pub expr-returns-in_err-rest-in-Match-2 : goal.expr-returns-in_err-rest-in-Match-2
expr-returns-in_err-rest-in-Match-2 t c =
    passes_equal _ _ c.args.rest.now c.from_residual-in_err-rest-in-Match-2.result
    (expr_shown c.args.level c.args.tree.now _ _ c.in-Match.is (view_Expr-Match c.in-Match.subject c.in-Match.all) ∙
    ap (λ x. behind_match c.args.level x c.in-Match.all) (sym c.deref-in-Match.ensures))
    (second_stops (c.args.level ∷ []) (expr_levels c.args.level (expr_view c.deref-in-Match.result.now))
    (grouped_levels c.args.level (arms_levels (c.args.level + 1) (arms_of (map arm_view c.in-Match.all)))) c.args.rest.now
    c.in_ok-rest-in-Match.rest.now c.in_err-rest-in-Match-2.field-0.0 c.from_residual-in_err-rest-in-Match-2.result
    c.in_ok-rest-in-Match.ensures.gives c.in_err-rest-in-Match-2.ensures c.from_residual-in_err-rest-in-Match-2.ensures.1)

pub expr-returns-in_ok-rest-in-Match-2 : goal.expr-returns-in_ok-rest-in-Match-2
expr-returns-in_ok-rest-in-Match-2 t c =
    passes_equal _ _ c.args.rest.now c.arms_in_braces.result (expr_shown c.args.level c.args.tree.now _ _ c.in-Match.is
    (view_Expr-Match c.in-Match.subject c.in-Match.all) ∙
    ap (λ x. behind_match c.args.level x c.in-Match.all) (sym c.deref-in-Match.ensures))
    (third_passes (c.args.level ∷ []) (expr_levels c.args.level (expr_view c.deref-in-Match.result.now))
    (grouped_levels c.args.level (arms_levels (c.args.level + 1) (arms_of (map arm_view c.in-Match.all)))) c.args.rest.now
    c.in_ok-rest-in-Match.rest.now c.in_ok-rest-in-Match-2.rest.now c.arms_in_braces.result
    c.in_ok-rest-in-Match.ensures.gives c.in_ok-rest-in-Match-2.ensures c.arms_in_braces.ensures)

pub expr-returns-in_err-rest-in-Unsafe : goal.expr-returns-in_err-rest-in-Unsafe
expr-returns-in_err-rest-in-Unsafe t c =
    first_fails c.args.level c.args.tree.now _ _ (c.args.level ∷ []) _ c.args.rest.now c.in_err-rest-in-Unsafe.field-0.0
    c.from_residual-in_err-rest-in-Unsafe.result
    c.in-Unsafe.is (view_Expr-Unsafe c.in-Unsafe.inner) refl c.in_err-rest-in-Unsafe.ensures.gives
    c.from_residual-in_err-rest-in-Unsafe.ensures.1

pub expr-returns-in_ok-rest-in-Unsafe : goal.expr-returns-in_ok-rest-in-Unsafe
expr-returns-in_ok-rest-in-Unsafe t c =
    first_passes c.args.level c.args.tree.now _ _ (c.args.level ∷ []) _ c.args.rest.now c.in_ok-rest-in-Unsafe.rest.now
    c.enclosed-in-Unsafe.result
    c.in-Unsafe.is (view_Expr-Unsafe c.in-Unsafe.inner) refl c.in_ok-rest-in-Unsafe.ensures.gives c.enclosed-in-Unsafe.ensures

pub expr-returns-in-Write : goal.expr-returns-in-Write
expr-returns-in-Write t c =
    expr_passes c.args.level c.args.tree.now _ _ c.args.rest.now c.write_call.result c.in-Write.is
    (view_Expr-Write c.in-Write.formatter c.in-Write.format) c.write_call.ensures

pub expr-returns-in-FormatArgs : goal.expr-returns-in-FormatArgs
expr-returns-in-FormatArgs t c =
    expr_passes c.args.level c.args.tree.now _ _ c.args.rest.now c.format_call.result c.in-FormatArgs.is
    (view_Expr-FormatArgs c.in-FormatArgs.format) c.format_call.ensures

pub operand-returns-in_err-rest : goal.operand-returns-in_err-rest
operand-returns-in_err-rest t c =
    first_stops (c.args.level ∷ []) (expr_levels (c.args.level + 1) (expr_view c.args.inner.now.value)) c.args.rest.now
    c.in_err-rest.field-0.0 c.from_residual.result c.in_err-rest.ensures.gives c.from_residual.ensures.1

pub operand-returns : goal.operand-returns
operand-returns t c =
    passes_next (c.args.level ∷ []) (expr_levels (c.args.level + 1) (expr_view c.args.inner.now.value)) c.args.rest.now
    c.in_ok-rest.rest.now c.expr.result c.in_ok-rest.ensures.gives (rw c.deref.ensures at c.expr.ensures)

pub compared-returns-in_err-rest : goal.compared-returns-in_err-rest
compared-returns-in_err-rest t c =
    first_stops (c.args.level ∷ c.args.level ∷ []) (expr_levels c.args.level (expr_view c.args.right.now.value)) c.args.rest.now
    c.in_err-rest.field-0.0 c.from_residual.result c.in_err-rest.ensures.gives c.from_residual.ensures.1

pub compared-returns : goal.compared-returns
compared-returns t c =
    passes_next (c.args.level ∷ c.args.level ∷ []) (expr_levels c.args.level (expr_view c.args.right.now.value)) c.args.rest.now
    c.in_ok-rest.rest.now c.expr.result c.in_ok-rest.ensures.gives (rw c.deref.ensures at c.expr.ensures)

pub method_call-returns-in_err-rest : goal.method_call-returns-in_err-rest
method_call-returns-in_err-rest t c =
    first_stops (c.args.level ∷ c.args.level ∷ []) (list_levels c.args.level
    (each_expr (c.args.level + 1) (exprs_of (map expr_view c.args.arguments.now)))) c.args.rest.now c.in_err-rest.field-0.0
    c.from_residual.result c.in_err-rest.ensures.gives c.from_residual.ensures.1

pub method_call-returns : goal.method_call-returns
method_call-returns t c =
    passes_next (c.args.level ∷ c.args.level ∷ []) (list_levels c.args.level
    (each_expr (c.args.level + 1) (exprs_of (map expr_view c.args.arguments.now)))) c.args.rest.now c.in_ok-rest.rest.now c.in_parens.result
    c.in_ok-rest.ensures.gives c.in_parens.ensures

pub closure-returns-in_err-rest : goal.closure-returns-in_err-rest
closure-returns-in_err-rest t c =
    first_stops (c.args.level ∷ c.args.level ∷ c.args.level ∷ []) (expr_levels c.args.level (expr_view c.args.body.now.value))
    c.args.rest.now c.in_err-rest.field-0.0 c.from_residual.result c.in_err-rest.ensures.gives c.from_residual.ensures.1

pub closure-returns : goal.closure-returns
closure-returns t c =
    passes_next (c.args.level ∷ c.args.level ∷ c.args.level ∷ []) (expr_levels c.args.level (expr_view c.args.body.now.value))
    c.args.rest.now c.in_ok-rest.rest.now c.expr.result c.in_ok-rest.ensures.gives (rw c.deref.ensures at c.expr.ensures)

pub reference-returns-in_err-rest : goal.reference-returns-in_err-rest
reference-returns-in_err-rest t c =
    first_stops (c.args.level ∷ []) ((given c.args.is_mut ((c.args.level + 1) ∷ [])) ++
    (expr_levels (c.args.level + 1) (expr_view c.args.inner.now.value))) c.args.rest.now c.in_err-rest.field-0.0 c.from_residual.result
    c.in_err-rest.ensures.gives c.from_residual.ensures.1

pub reference-returns-in_err-rest-2 : goal.reference-returns-in_err-rest-2
reference-returns-in_err-rest-2 t c =
    second_stops (c.args.level ∷ []) (given c.args.is_mut ((c.args.level + 1) ∷ []))
    (expr_levels (c.args.level + 1) (expr_view c.args.inner.now.value)) c.args.rest.now c.in_ok-rest.rest.now c.in_err-rest-2.field-0.0
    c.from_residual-in_err-rest-2.result
    c.in_ok-rest.ensures.gives c.in_err-rest-2.ensures c.from_residual-in_err-rest-2.ensures.1

pub reference-returns : goal.reference-returns
reference-returns t c =
    third_passes (c.args.level ∷ []) (given c.args.is_mut ((c.args.level + 1) ∷ []))
    (expr_levels (c.args.level + 1) (expr_view c.args.inner.now.value)) c.args.rest.now c.in_ok-rest.rest.now c.in_ok-rest-2.rest.now
    c.expr.result
    c.in_ok-rest.ensures.gives c.in_ok-rest-2.ensures (rw c.deref.ensures at c.expr.ensures)

pub mapped-returns-in_err-rest : goal.mapped-returns-in_err-rest
mapped-returns-in_err-rest t c =
    first_stops (c.args.level ∷ c.args.level ∷ c.args.level ∷ []) (((c.args.level + 1) ∷ (c.args.level + 1) ∷ (c.args.level + 1) ∷
    expr_levels (c.args.level + 1) (expr_view c.args.body.now.value)) ++ (c.args.level ∷ [])) c.args.rest.now c.in_err-rest.field-0.0
    c.from_residual.result c.in_err-rest.ensures.gives c.from_residual.ensures.1

pub mapped-returns-in_err-rest-2 : goal.mapped-returns-in_err-rest-2
mapped-returns-in_err-rest-2 t c =
    second_stops (c.args.level ∷ c.args.level ∷ c.args.level ∷ []) ((c.args.level + 1) ∷ (c.args.level + 1) ∷ (c.args.level + 1) ∷
    expr_levels (c.args.level + 1) (expr_view c.args.body.now.value)) (c.args.level ∷ []) c.args.rest.now c.in_ok-rest.rest.now
    c.in_err-rest-2.field-0.0 c.from_residual-in_err-rest-2.result
    c.in_ok-rest.ensures.gives c.in_err-rest-2.ensures c.from_residual-in_err-rest-2.ensures.1

pub mapped-returns : goal.mapped-returns
mapped-returns t c =
    third_passes (c.args.level ∷ c.args.level ∷ c.args.level ∷ []) ((c.args.level + 1) ∷ (c.args.level + 1) ∷ (c.args.level + 1) ∷
    expr_levels (c.args.level + 1) (expr_view c.args.body.now.value)) (c.args.level ∷ []) c.args.rest.now c.in_ok-rest.rest.now
    c.in_ok-rest-2.rest.now c.token.result
    c.in_ok-rest.ensures.gives c.in_ok-rest-2.ensures c.token.ensures.gives

pub behind_guard-returns-in_err-rest : goal.behind_guard-returns-in_err-rest
behind_guard-returns-in_err-rest t c =
    first_stops (c.args.level ∷ c.args.level ∷ []) ((body_levels c.args.level (body_view c.args.tree.now)) ++ (c.args.level ∷ []))
    c.args.rest.now c.in_err-rest.field-0.0 c.from_residual.result c.in_err-rest.ensures.gives c.from_residual.ensures.1

pub behind_guard-returns-in_err-rest-2 : goal.behind_guard-returns-in_err-rest-2
behind_guard-returns-in_err-rest-2 t c =
    second_stops (c.args.level ∷ c.args.level ∷ []) (body_levels c.args.level (body_view c.args.tree.now)) (c.args.level ∷ [])
    c.args.rest.now c.in_ok-rest.rest.now c.in_err-rest-2.field-0.0 c.from_residual-in_err-rest-2.result
    c.in_ok-rest.ensures.gives c.in_err-rest-2.ensures c.from_residual-in_err-rest-2.ensures.1

pub behind_guard-returns : goal.behind_guard-returns
behind_guard-returns t c =
    third_passes (c.args.level ∷ c.args.level ∷ []) (body_levels c.args.level (body_view c.args.tree.now)) (c.args.level ∷ [])
    c.args.rest.now c.in_ok-rest.rest.now c.in_ok-rest-2.rest.now c.token.result
    c.in_ok-rest.ensures.gives c.in_ok-rest-2.ensures c.token.ensures.gives

pub in_parens-returns-in_err-rest : goal.in_parens-returns-in_err-rest
in_parens-returns-in_err-rest t c =
    first_stops (c.args.level ∷ []) ((spaced_levels ((c.args.level + 1) ∷ []) true
    (each_expr (c.args.level + 1) (exprs_of (map expr_view c.args.all.now)))) ++ (c.args.level ∷ [])) c.args.rest.now
    c.in_err-rest.field-0.0 c.from_residual.result c.in_err-rest.ensures.gives c.from_residual.ensures.1

pub in_parens-returns-in_err-rest-2 : goal.in_parens-returns-in_err-rest-2
in_parens-returns-in_err-rest-2 t c =
    second_stops (c.args.level ∷ []) (spaced_levels ((c.args.level + 1) ∷ []) true
    (each_expr (c.args.level + 1) (exprs_of (map expr_view c.args.all.now)))) (c.args.level ∷ []) c.args.rest.now c.in_ok-rest.rest.now
    c.in_err-rest-2.field-0.0 c.from_residual-in_err-rest-2.result
    c.in_ok-rest.ensures.gives (rw c.as_slice.ensures at c.in_err-rest-2.ensures) c.from_residual-in_err-rest-2.ensures.1

pub in_parens-returns : goal.in_parens-returns
in_parens-returns t c =
    third_passes (c.args.level ∷ []) (spaced_levels ((c.args.level + 1) ∷ []) true
    (each_expr (c.args.level + 1) (exprs_of (map expr_view c.args.all.now)))) (c.args.level ∷ []) c.args.rest.now c.in_ok-rest.rest.now
    c.in_ok-rest-2.rest.now c.token-2.result
    c.in_ok-rest.ensures.gives (rw c.as_slice.ensures at c.in_ok-rest-2.ensures) c.token-2.ensures.gives

pub ended_in_parens-returns-in_err-rest : goal.ended_in_parens-returns-in_err-rest
ended_in_parens-returns-in_err-rest t c =
    first_stops (c.args.level ∷ []) ((ended_levels (c.args.level + 1) (each_expr (c.args.level + 1)
    (exprs_of (map expr_view c.args.all.now)))) ++ (c.args.level ∷ [])) c.args.rest.now c.in_err-rest.field-0.0 c.from_residual.result
    c.in_err-rest.ensures.gives c.from_residual.ensures.1

pub ended_in_parens-returns-in_err-rest-2 : goal.ended_in_parens-returns-in_err-rest-2
ended_in_parens-returns-in_err-rest-2 t c =
    second_stops (c.args.level ∷ []) (ended_levels (c.args.level + 1) (each_expr (c.args.level + 1)
    (exprs_of (map expr_view c.args.all.now)))) (c.args.level ∷ []) c.args.rest.now c.in_ok-rest.rest.now c.in_err-rest-2.field-0.0
    c.from_residual-in_err-rest-2.result
    c.in_ok-rest.ensures.gives (rw c.as_slice.ensures at c.in_err-rest-2.ensures) c.from_residual-in_err-rest-2.ensures.1

pub ended_in_parens-returns : goal.ended_in_parens-returns
ended_in_parens-returns t c =
    third_passes (c.args.level ∷ []) (ended_levels (c.args.level + 1) (each_expr (c.args.level + 1)
    (exprs_of (map expr_view c.args.all.now)))) (c.args.level ∷ []) c.args.rest.now c.in_ok-rest.rest.now c.in_ok-rest-2.rest.now
    c.token-2.result
    c.in_ok-rest.ensures.gives (rw c.as_slice.ensures at c.in_ok-rest-2.ensures) c.token-2.ensures.gives

pub named_in_braces-returns-in_err-rest : goal.named_in_braces-returns-in_err-rest
named_in_braces-returns-in_err-rest t c =
    first_stops (c.args.level ∷ []) ((ended_levels (c.args.level + 1) (each_named_expr (c.args.level + 1)
    (named_exprs_of (map named_expr_view c.args.all.now)))) ++ (c.args.level ∷ [])) c.args.rest.now c.in_err-rest.field-0.0
    c.from_residual.result c.in_err-rest.ensures.gives c.from_residual.ensures.1

pub named_in_braces-returns-in_err-rest-2 : goal.named_in_braces-returns-in_err-rest-2
named_in_braces-returns-in_err-rest-2 t c =
    second_stops (c.args.level ∷ []) (ended_levels (c.args.level + 1) (each_named_expr (c.args.level + 1)
    (named_exprs_of (map named_expr_view c.args.all.now)))) (c.args.level ∷ []) c.args.rest.now c.in_ok-rest.rest.now
    c.in_err-rest-2.field-0.0 c.from_residual-in_err-rest-2.result
    c.in_ok-rest.ensures.gives (rw c.as_slice.ensures at c.in_err-rest-2.ensures) c.from_residual-in_err-rest-2.ensures.1

pub named_in_braces-returns : goal.named_in_braces-returns
named_in_braces-returns t c =
    third_passes (c.args.level ∷ []) (ended_levels (c.args.level + 1) (each_named_expr (c.args.level + 1)
    (named_exprs_of (map named_expr_view c.args.all.now)))) (c.args.level ∷ []) c.args.rest.now c.in_ok-rest.rest.now
    c.in_ok-rest-2.rest.now c.token-2.result
    c.in_ok-rest.ensures.gives (rw c.as_slice.ensures at c.in_ok-rest-2.ensures) c.token-2.ensures.gives

pub enclosed-returns-in_err-rest : goal.enclosed-returns-in_err-rest
enclosed-returns-in_err-rest t c =
    first_stops (c.args.level ∷ []) ((expr_levels (c.args.level + 1) (expr_view c.args.inner.now.value)) ++ (c.args.level ∷ []))
    c.args.rest.now c.in_err-rest.field-0.0 c.from_residual.result c.in_err-rest.ensures.gives c.from_residual.ensures.1

pub enclosed-returns-in_err-rest-2 : goal.enclosed-returns-in_err-rest-2
enclosed-returns-in_err-rest-2 t c =
    second_stops (c.args.level ∷ []) (expr_levels (c.args.level + 1) (expr_view c.args.inner.now.value)) (c.args.level ∷ []) c.args.rest.now
    c.in_ok-rest.rest.now c.in_err-rest-2.field-0.0 c.from_residual-in_err-rest-2.result
    c.in_ok-rest.ensures.gives (rw c.deref.ensures at c.in_err-rest-2.ensures) c.from_residual-in_err-rest-2.ensures.1

pub enclosed-returns : goal.enclosed-returns
enclosed-returns t c =
    third_passes (c.args.level ∷ []) (expr_levels (c.args.level + 1) (expr_view c.args.inner.now.value)) (c.args.level ∷ []) c.args.rest.now
    c.in_ok-rest.rest.now c.in_ok-rest-2.rest.now c.token-2.result
    c.in_ok-rest.ensures.gives (rw c.deref.ensures at c.in_ok-rest-2.ensures) c.token-2.ensures.gives

pub arms_in_braces-returns-in_err-rest : goal.arms_in_braces-returns-in_err-rest
arms_in_braces-returns-in_err-rest t c =
    first_stops (c.args.level ∷ []) ((arms_levels (c.args.level + 1) (arms_of (map arm_view c.args.all.now))) ++ (c.args.level ∷ []))
    c.args.rest.now c.in_err-rest.field-0.0 c.from_residual.result c.in_err-rest.ensures.gives c.from_residual.ensures.1

pub arms_in_braces-returns-in_err-rest-2 : goal.arms_in_braces-returns-in_err-rest-2
arms_in_braces-returns-in_err-rest-2 t c =
    second_stops (c.args.level ∷ []) (arms_levels (c.args.level + 1) (arms_of (map arm_view c.args.all.now))) (c.args.level ∷ [])
    c.args.rest.now c.in_ok-rest.rest.now c.in_err-rest-2.field-0.0 c.from_residual-in_err-rest-2.result
    c.in_ok-rest.ensures.gives (rw c.as_slice.ensures at c.in_err-rest-2.ensures) c.from_residual-in_err-rest-2.ensures.1

pub arms_in_braces-returns : goal.arms_in_braces-returns
arms_in_braces-returns t c =
    third_passes (c.args.level ∷ []) (arms_levels (c.args.level + 1) (arms_of (map arm_view c.args.all.now))) (c.args.level ∷ [])
    c.args.rest.now c.in_ok-rest.rest.now c.in_ok-rest-2.rest.now c.token-2.result
    c.in_ok-rest.ensures.gives (rw c.as_slice.ensures at c.in_ok-rest-2.ensures) c.token-2.ensures.gives

pub block-returns-in_err-rest : goal.block-returns-in_err-rest
block-returns-in_err-rest t c =
    first_stops (c.args.level ∷ []) ((inside_levels (c.args.level + 1) (block_view c.args.tree.now)) ++ (c.args.level ∷ [])) c.args.rest.now
    c.in_err-rest.field-0.0 c.from_residual.result c.in_err-rest.ensures.gives c.from_residual.ensures.1

pub block-returns-in_err-rest-2 : goal.block-returns-in_err-rest-2
block-returns-in_err-rest-2 t c =
    second_stops (c.args.level ∷ []) (inside_levels (c.args.level + 1) (block_view c.args.tree.now)) (c.args.level ∷ []) c.args.rest.now
    c.in_ok-rest.rest.now c.in_err-rest-2.field-0.0 c.from_residual-in_err-rest-2.result
    c.in_ok-rest.ensures.gives c.in_err-rest-2.ensures c.from_residual-in_err-rest-2.ensures.1

pub block-returns : goal.block-returns
block-returns t c =
    third_passes (c.args.level ∷ []) (inside_levels (c.args.level + 1) (block_view c.args.tree.now)) (c.args.level ∷ []) c.args.rest.now
    c.in_ok-rest.rest.now c.in_ok-rest-2.rest.now c.token-2.result
    c.in_ok-rest.ensures.gives c.in_ok-rest-2.ensures c.token-2.ensures.gives
