-- How each function passes what its part is written with.
use Rattle.std.proofs.Common.{ℕ, ◌+◌, ◌-◌, ◌==◌, cond, true, false, List, [], ◌∷◌, ◌++◌, map, take, drop, arith, refl, sym, ap, ◌∙◌}
use Rattle.std.proofs.lemmas.Bool.{ne_eqb}
use Rattle.dm_ast.specs.declared.ty.Bound.{Bound}
use Rattle.dm_ast.specs.declared.ty.Bound.TheViews.{out-Path, out-TraitBound}
use Rattle.dm_ast.specs.declared.ty.BareFn.{BareFn}
use Rattle.dm_ast.specs.declared.ty.FnArg.{FnArg}
use Rattle.dm_ast.specs.declared.ty.GenericArgument.{GenericArgument}
use Rattle.dm_ast.specs.declared.ty.PathSegment.{PathSegment}
use Rattle.dm_ast.specs.declared.ty.Ty.{Ty}
use Rattle.dm_ast.specs.Tree as tree
use Rattle.dm_ast.specs.Tree.{types_of, bounds_of, inputs_of, segments_of, arguments_of, maybe_ty_view, maybe_self_view, maybe_arguments_view, ty_view, node_view, fn_view, input_view, bound_view, path_view, segment_view, arguments_view, argument_view}
use Rattle.dm_ast.proofs.View.{view_TyNode-Tuple, view_TyNode-Array, view_TyNode-Reference, view_TyNode-Pointer, view_TyNode-BareFn, view_TyNode-Path, view_TyNode-Macro, view_Bound-Lifetime, view_Bound-Trait, view_PathArguments-Absent, view_PathArguments-Angle, view_PathArguments-Paren, view_GenericArgument-Lifetime, view_GenericArgument-Ty, view_GenericArgument-Const, view_GenericArgument-AssocTy, view_GenericArgument-AssocConst, view_GenericArgument-Constraint, view-Ty, view-PathSegment, view-FnArg, view-Path, view-TraitBound}
use Rattle.dm_type_levels.specs.TypeLevels.{two, trees_levels, grouped_levels, maybe_levels, spaced_levels, listed_levels, angle_levels, for_levels, const_levels, attributes_levels, input_name_levels, as_levels, bare_levels, type_levels, node_levels, each_type, each_bound, bound_levels, trait_bound_levels, fn_levels, each_input, input_levels, output_levels, path_levels, each_segment, segment_levels, arguments_levels, maybe_angle_levels, each_argument, argument_levels}
use Rattle.dm_type_levels.specs.Passing.{pass, given}
use Rattle.dm_type_levels.proofs.Grouped.{passes_group}
use Rattle.dm_type_levels.proofs.PartPasses.{first_stops, second_stops, third_passes, pass_last, group_unopened, group_stops, shown, separator_stops, item_stops, item_passed, taken_separator_stops, taken_stops, taken_passed, all_passed, taken_all_passed, enough_passed}
use Rattle.dm_type_levels.proofs.TypePasses.{later_all, passes_equal, passes_next, passes_failed, assoc_type_passes, assoc_const_passes, constraint_passes, fn_front_fails, fn_word_fails, fn_alone, fn_passes, fn_fails, qualified_passes, qualified_fails, node_shown, trait_group, later_kept, later_fails}
use Rattle.dm_type_levels.proofs.ty.+levels.Goals as goal

abbrev types_at : ℕ → List Ty → List (List ℕ)
types_at k ts = each_type k (types_of (map ty_view ts))

abbrev bounds_at : ℕ → List Bound → List (List ℕ)
bounds_at k bs = each_bound k (bounds_of (map bound_view bs))

abbrev inputs_at : ℕ → List FnArg → List (List ℕ)
inputs_at k is = each_input k (inputs_of (map input_view is))

abbrev segments_at : ℕ → List PathSegment → List (List ℕ)
segments_at k ss = each_segment k (segments_of (map segment_view ss))

abbrev arguments_at : ℕ → List GenericArgument → List (List ℕ)
arguments_at k gs = each_argument k (arguments_of (map argument_view gs))

pub argument-returns-in_ok-rest-in-Some : goal.argument-returns-in_ok-rest-in-Some
argument-returns-in_ok-rest-in-Some t c =
    passes_equal _ _ c.args.rest.now c.equal_type-in-Some.result (ap (λ a. argument_levels c.args.level (argument_view a)) (rw c.in-Some.is at c.in-AssocTy.is))
    (assoc_type_passes c.args.level c.in-AssocTy.field-0 c.in-Some.all c.in-AssocTy.found c.as_slice.result.now c.args.rest.now
    c.in_ok-rest-in-AssocTy.rest.now c.in_ok-rest-in-Some.rest.now c.equal_type-in-Some.result c.as_slice.ensures
    c.in_ok-rest-in-AssocTy.ensures.gives c.in_ok-rest-in-Some.ensures c.equal_type-in-Some.ensures)

pub argument-returns-in_ok-rest-in-Some-arguments : goal.argument-returns-in_ok-rest-in-Some-arguments
argument-returns-in_ok-rest-in-Some-arguments t c =
    passes_equal _ _ c.args.rest.now c.equal_const-in-Some-arguments.result
    (ap (λ a. argument_levels c.args.level (argument_view a)) (rw c.in-Some-arguments.is at c.in-AssocConst.is))
    (assoc_const_passes c.args.level c.in-AssocConst.field-0 c.in-Some-arguments.all c.in-AssocConst.value c.as_slice-in-Some-arguments.result.now c.args.rest.now
    c.in_ok-rest-in-AssocConst.rest.now c.in_ok-rest-in-Some-arguments.rest.now c.equal_const-in-Some-arguments.result c.as_slice-in-Some-arguments.ensures
    c.in_ok-rest-in-AssocConst.ensures.gives c.in_ok-rest-in-Some-arguments.ensures c.equal_const-in-Some-arguments.ensures)

pub argument-returns-in_ok-rest-in-Some-arguments-2 : goal.argument-returns-in_ok-rest-in-Some-arguments-2
argument-returns-in_ok-rest-in-Some-arguments-2 t c =
    passes_equal _ _ c.args.rest.now c.constraint-in-Some-arguments-2.result
    (ap (λ a. argument_levels c.args.level (argument_view a)) (rw c.in-Some-arguments-2.is at c.in-Constraint.is))
    (constraint_passes c.args.level c.in-Constraint.field-0 c.in-Some-arguments-2.all c.in-Constraint.bounds c.as_slice-in-Some-arguments-2.result.now
    c.as_slice-in-Some-arguments-2-2.result.now c.args.rest.now c.in_ok-rest-in-Constraint.rest.now c.in_ok-rest-in-Some-arguments-2.rest.now
    c.constraint-in-Some-arguments-2.result c.as_slice-in-Some-arguments-2.ensures c.as_slice-in-Some-arguments-2-2.ensures
    c.in_ok-rest-in-Constraint.ensures.gives c.in_ok-rest-in-Some-arguments-2.ensures c.constraint-in-Some-arguments-2.ensures)

pub function-returns-in_err-rest-3 : goal.function-returns-in_err-rest-3
function-returns-in_err-rest-3 t c =
    fn_fails c.args.level c.args.found.now c.as_slice.result.now c.args.rest.now c.in_ok-rest.rest.now c.in_ok-rest-2.rest.now c.in_err-rest-3.field-0.0
    c.from_residual-in_err-rest-3.result c.as_slice.ensures c.in_ok-rest.ensures c.in_ok-rest-2.ensures.gives c.in_err-rest-3.ensures
    c.from_residual-in_err-rest-3.ensures.1

pub function-returns-in-Some : goal.function-returns-in-Some
function-returns-in-Some t c =
    fn_passes c.args.level c.args.found.now c.as_slice.result.now c.in-Some.output c.args.rest.now c.in_ok-rest.rest.now c.in_ok-rest-2.rest.now
    c.in_ok-rest-3.rest.now c.fn_output.result c.as_slice.ensures c.in-Some.is c.in_ok-rest.ensures c.in_ok-rest-2.ensures.gives c.in_ok-rest-3.ensures
    c.fn_output.ensures

pub later-returns-in_err-left : goal.later-returns-in_err-left
later-returns-in_err-left t c =
    passes_failed (later_all c.args.level c.args.all.now c.args.position) c.args.rest.now c.in_err-left.field-0.0 c.from_residual-in_err-left.result
    (later_fails c.args.level c.args.all.now c.index-all-i.result c.loop-i.i c.args.position c.loop-i.at.left.now c.in_ok-next.next.now
    c.in_err-left.field-0.0 (pass (later_all c.args.level c.args.all.now c.args.position) c.args.rest.now) c.loop-i-test.true c.index-all-i.is (omega arith) c.in_ok-next.ensures.gives c.in_err-left.ensures c.loop-i.invariant)
    c.from_residual-in_err-left.ensures.1

pub later-loop-i-preserved : goal.later-loop-i-preserved
later-loop-i-preserved t c =
    later_kept c.args.level c.args.all.now c.index-all-i.result c.loop-i.i c.args.position c.loop-i.at.left.now c.in_ok-next.next.now
    c.in_ok-left.left.now _ c.loop-i-test.true c.index-all-i.is (omega arith) c.in_ok-next.ensures.gives c.in_ok-left.ensures c.loop-i.invariant

pub node-returns-in_err-rest-in-Some : goal.node-returns-in_err-rest-in-Some
node-returns-in_err-rest-in-Some t c =
    passes_equal _ _ c.args.rest.now c.from_residual.result
    (node_shown c.args.level c.in-Some.qself c.in-Path.found c.args.node.now (rw c.in-Some.is at c.in-Path.is))
    (qualified_fails c.args.level c.in-Some.qself c.in-Path.found c.deref-in-Some.result.now c.args.rest.now c.in_err-rest-in-Some.field-0.0
    c.from_residual.result c.deref-in-Some.ensures c.in_err-rest-in-Some.ensures.gives c.from_residual.ensures.1)

pub node-returns-in_ok-rest-in-Some : goal.node-returns-in_ok-rest-in-Some
node-returns-in_ok-rest-in-Some t c =
    passes_equal _ _ c.args.rest.now c.behind_self.result
    (node_shown c.args.level c.in-Some.qself c.in-Path.found c.args.node.now (rw c.in-Some.is at c.in-Path.is))
    (qualified_passes c.args.level c.in-Some.qself c.in-Path.found c.deref-in-Some.result.now c.as_slice-all.result.now c.args.rest.now
    c.in_ok-rest-in-Some.rest.now c.behind_self.result c.deref-in-Some.ensures c.as_slice-all.ensures c.in_ok-rest-in-Some.ensures.gives
    (rw c.deref-in-Some-2.ensures at c.behind_self.ensures))

pub trait_bound-returns : goal.trait_bound-returns
trait_bound-returns t c =
    trait_group c.args.level c.args.bound.now c.args.rest.now c.in_ok-rest.rest.now c.in_ok-rest-2.rest.now c.token-2.result c.if-not-bound.false
    c.in_ok-rest.ensures.gives c.in_ok-rest-2.ensures c.token-2.ensures.gives

pub ty-returns : goal.ty-returns
ty-returns t c =
    passes_equal _ _ c.args.rest.now c.node.result (ap (type_levels c.args.level) (view-Ty c.args.ty.now)) c.node.ensures

pub node-returns-in-Tuple : goal.node-returns-in-Tuple
node-returns-in-Tuple t c =
    passes_equal _ _ c.args.rest.now c.tuple.result (shown (node_levels c.args.level) node_view c.in-Tuple.is (view_TyNode-Tuple _) ∙
    ap (λ l. grouped_levels c.args.level (listed_levels (c.args.level + 1) (types_at (c.args.level + 1) l) c.in-Tuple.all.trailing)) (sym c.as_slice.ensures))
    c.tuple.ensures

pub node-returns-in-Array : goal.node-returns-in-Array
node-returns-in-Array t c =
    passes_equal _ _ c.args.rest.now c.array.result (shown (node_levels c.args.level) node_view c.in-Array.is (view_TyNode-Array _ _) ∙
    ap (λ (y : Ty). node_levels c.args.level (tree.array (ty_view y) c.in-Array.size)) (sym c.deref.ensures))
    c.array.ensures

pub node-returns-in-Reference : goal.node-returns-in-Reference
node-returns-in-Reference t c =
    passes_equal _ _ c.args.rest.now c.reference.result (shown (node_levels c.args.level) node_view c.in-Reference.is (view_TyNode-Reference _ _ _) ∙
    ap (λ (y : Ty). node_levels c.args.level (tree.reference c.in-Reference.name c.in-Reference.is_mut (ty_view y))) (sym c.deref-in-Reference.ensures))
    c.reference.ensures

pub node-returns-in-Pointer : goal.node-returns-in-Pointer
node-returns-in-Pointer t c =
    passes_equal _ _ c.args.rest.now c.pointer.result (shown (node_levels c.args.level) node_view c.in-Pointer.is (view_TyNode-Pointer _ _) ∙
    ap (λ (y : Ty). c.args.level ∷ (c.args.level + 1) ∷ type_levels (c.args.level + 1) (ty_view y)) (sym c.deref-in-Pointer.ensures))
    c.pointer.ensures

pub node-returns-in-BareFn : goal.node-returns-in-BareFn
node-returns-in-BareFn t c =
    passes_equal _ _ c.args.rest.now c.function.result (shown (node_levels c.args.level) node_view c.in-BareFn.is (view_TyNode-BareFn _) ∙
    ap (λ (y : BareFn). fn_levels c.args.level (fn_view y)) (sym c.deref-in-BareFn.ensures))
    c.function.ensures

pub node-returns-in-None : goal.node-returns-in-None
node-returns-in-None t c =
    passes_equal _ _ c.args.rest.now c.path.result (shown (node_levels c.args.level) node_view c.in-Path.is (view_TyNode-Path _ _) ∙
    ap (λ q. node_levels c.args.level (tree.path (maybe_self_view q) (path_view c.in-Path.found))) c.in-None.is) c.path.ensures

pub node-returns-in-Macro : goal.node-returns-in-Macro
node-returns-in-Macro t c =
    passes_equal _ _ c.args.rest.now c.macro_call.result (shown (node_levels c.args.level) node_view c.in-Macro.is (view_TyNode-Macro _ _ _))
    c.macro_call.ensures

pub enclosed-returns-in_err-rest : goal.enclosed-returns-in_err-rest
enclosed-returns-in_err-rest t c =
    group_unopened c.args.level (type_levels (c.args.level + 1) (ty_view c.args.inner.now)) c.args.rest.now c.in_err-rest.field-0.0 c.from_residual.result c.in_err-rest.ensures.gives c.from_residual.ensures.1

pub enclosed-returns-in_err-rest-2 : goal.enclosed-returns-in_err-rest-2
enclosed-returns-in_err-rest-2 t c =
    group_stops c.args.level (type_levels (c.args.level + 1) (ty_view c.args.inner.now)) c.args.rest.now c.in_ok-rest.rest.now c.in_err-rest-2.field-0.0 c.from_residual-in_err-rest-2.result
    c.in_ok-rest.ensures.gives c.in_err-rest-2.ensures c.from_residual-in_err-rest-2.ensures.1

pub enclosed-returns : goal.enclosed-returns
enclosed-returns t c =
    passes_group c.args.level (type_levels (c.args.level + 1) (ty_view c.args.inner.now)) c.args.rest.now c.in_ok-rest.rest.now c.in_ok-rest-2.rest.now c.token-2.result
    c.in_ok-rest.ensures.gives c.in_ok-rest-2.ensures c.token-2.ensures.gives

pub array_inside-returns-in_err-rest : goal.array_inside-returns-in_err-rest
array_inside-returns-in_err-rest t c =
    first_stops (type_levels c.args.level (ty_view c.args.inner.now)) ((c.args.level ∷ []) ++ trees_levels c.args.level c.args.size.now.tokens.trees) c.args.rest.now c.in_err-rest.field-0.0 c.from_residual.result
    c.in_err-rest.ensures c.from_residual.ensures.1

pub array_inside-returns-in_err-rest-2 : goal.array_inside-returns-in_err-rest-2
array_inside-returns-in_err-rest-2 t c =
    second_stops (type_levels c.args.level (ty_view c.args.inner.now)) (c.args.level ∷ []) (trees_levels c.args.level c.args.size.now.tokens.trees) c.args.rest.now c.in_ok-rest.rest.now c.in_err-rest-2.field-0.0 c.from_residual-in_err-rest-2.result
    c.in_ok-rest.ensures c.in_err-rest-2.ensures.gives c.from_residual-in_err-rest-2.ensures.1

pub array_inside-returns : goal.array_inside-returns
array_inside-returns t c =
    third_passes (type_levels c.args.level (ty_view c.args.inner.now)) (c.args.level ∷ []) (trees_levels c.args.level c.args.size.now.tokens.trees) c.args.rest.now c.in_ok-rest.rest.now c.in_ok-rest-2.rest.now c.stream.result
    c.in_ok-rest.ensures c.in_ok-rest-2.ensures.gives c.stream.ensures

pub array-returns-in_err-rest : goal.array-returns-in_err-rest
array-returns-in_err-rest t c =
    group_unopened c.args.level (type_levels (c.args.level + 1) (ty_view c.args.inner.now) ++ (c.args.level + 1) ∷ trees_levels (c.args.level + 1) c.args.size.now.tokens.trees) c.args.rest.now c.in_err-rest.field-0.0 c.from_residual.result c.in_err-rest.ensures.gives c.from_residual.ensures.1

pub array-returns-in_err-rest-2 : goal.array-returns-in_err-rest-2
array-returns-in_err-rest-2 t c =
    group_stops c.args.level (type_levels (c.args.level + 1) (ty_view c.args.inner.now) ++ (c.args.level + 1) ∷ trees_levels (c.args.level + 1) c.args.size.now.tokens.trees) c.args.rest.now c.in_ok-rest.rest.now c.in_err-rest-2.field-0.0 c.from_residual-in_err-rest-2.result
    c.in_ok-rest.ensures.gives c.in_err-rest-2.ensures c.from_residual-in_err-rest-2.ensures.1

pub array-returns : goal.array-returns
array-returns t c =
    passes_group c.args.level (type_levels (c.args.level + 1) (ty_view c.args.inner.now) ++ (c.args.level + 1) ∷ trees_levels (c.args.level + 1) c.args.size.now.tokens.trees) c.args.rest.now c.in_ok-rest.rest.now c.in_ok-rest-2.rest.now c.token-2.result
    c.in_ok-rest.ensures.gives c.in_ok-rest-2.ensures c.token-2.ensures.gives

pub reference_inside-returns-in_err-rest : goal.reference_inside-returns-in_err-rest
reference_inside-returns-in_err-rest t c =
    first_stops (maybe_levels c.args.level c.args.name.now) (given c.args.is_mut (c.args.level ∷ []) ++ type_levels c.args.level (ty_view c.args.inner.now)) c.args.rest.now c.in_err-rest.field-0.0 c.from_residual.result
    c.in_err-rest.ensures c.from_residual.ensures.1

pub reference_inside-returns-in_err-rest-2 : goal.reference_inside-returns-in_err-rest-2
reference_inside-returns-in_err-rest-2 t c =
    second_stops (maybe_levels c.args.level c.args.name.now) (given c.args.is_mut (c.args.level ∷ [])) (type_levels c.args.level (ty_view c.args.inner.now)) c.args.rest.now c.in_ok-rest.rest.now c.in_err-rest-2.field-0.0 c.from_residual-in_err-rest-2.result
    c.in_ok-rest.ensures c.in_err-rest-2.ensures c.from_residual-in_err-rest-2.ensures.1

pub reference_inside-returns : goal.reference_inside-returns
reference_inside-returns t c =
    third_passes (maybe_levels c.args.level c.args.name.now) (given c.args.is_mut (c.args.level ∷ [])) (type_levels c.args.level (ty_view c.args.inner.now)) c.args.rest.now c.in_ok-rest.rest.now c.in_ok-rest-2.rest.now c.ty.result
    c.in_ok-rest.ensures c.in_ok-rest-2.ensures c.ty.ensures

pub reference-returns-in_err-rest : goal.reference-returns-in_err-rest
reference-returns-in_err-rest t c =
    first_stops (c.args.level ∷ []) (maybe_levels (c.args.level + 1) c.args.name.now ++ (given c.args.is_mut ((c.args.level + 1) ∷ []) ++ type_levels (c.args.level + 1) (ty_view c.args.inner.now))) c.args.rest.now c.in_err-rest.field-0.0 c.from_residual.result c.in_err-rest.ensures.gives c.from_residual.ensures.1

pub reference-returns : goal.reference-returns
reference-returns t c =
    passes_next (c.args.level ∷ []) (maybe_levels (c.args.level + 1) c.args.name.now ++ (given c.args.is_mut ((c.args.level + 1) ∷ []) ++ type_levels (c.args.level + 1) (ty_view c.args.inner.now))) c.args.rest.now c.in_ok-rest.rest.now c.reference_inside.result
    c.in_ok-rest.ensures.gives c.reference_inside.ensures

pub pointer-returns-in_err-rest : goal.pointer-returns-in_err-rest
pointer-returns-in_err-rest t c =
    first_stops (c.args.level ∷ []) (((c.args.level + 1) ∷ []) ++ type_levels (c.args.level + 1) (ty_view c.args.inner.now)) c.args.rest.now c.in_err-rest.field-0.0 c.from_residual.result
    c.in_err-rest.ensures.gives c.from_residual.ensures.1

pub pointer-returns-in_err-rest-2 : goal.pointer-returns-in_err-rest-2
pointer-returns-in_err-rest-2 t c =
    second_stops (c.args.level ∷ []) ((c.args.level + 1) ∷ []) (type_levels (c.args.level + 1) (ty_view c.args.inner.now)) c.args.rest.now c.in_ok-rest.rest.now c.in_err-rest-2.field-0.0 c.from_residual-in_err-rest-2.result
    c.in_ok-rest.ensures.gives c.in_err-rest-2.ensures.gives c.from_residual-in_err-rest-2.ensures.1

pub pointer-returns : goal.pointer-returns
pointer-returns t c =
    third_passes (c.args.level ∷ []) ((c.args.level + 1) ∷ []) (type_levels (c.args.level + 1) (ty_view c.args.inner.now)) c.args.rest.now c.in_ok-rest.rest.now c.in_ok-rest-2.rest.now c.ty.result
    c.in_ok-rest.ensures.gives c.in_ok-rest-2.ensures.gives c.ty.ensures

pub bounded-returns-in_err-rest : goal.bounded-returns-in_err-rest
bounded-returns-in_err-rest t c =
    first_stops (c.args.level ∷ []) (listed_levels (c.args.level + 1) (bounds_at (c.args.level + 1) c.args.all.now) c.args.trailing) c.args.rest.now c.in_err-rest.field-0.0 c.from_residual.result c.in_err-rest.ensures.gives c.from_residual.ensures.1

pub bounded-returns : goal.bounded-returns
bounded-returns t c =
    passes_next (c.args.level ∷ []) (listed_levels (c.args.level + 1) (bounds_at (c.args.level + 1) c.args.all.now) c.args.trailing) c.args.rest.now c.in_ok-rest.rest.now c.bounds.result
    c.in_ok-rest.ensures.gives c.bounds.ensures

pub tuple-returns-in_err-rest : goal.tuple-returns-in_err-rest
tuple-returns-in_err-rest t c =
    group_unopened c.args.level (listed_levels (c.args.level + 1) (types_at (c.args.level + 1) c.args.all.now) c.args.trailing) c.args.rest.now c.in_err-rest.field-0.0 c.from_residual.result c.in_err-rest.ensures.gives c.from_residual.ensures.1

pub tuple-returns-in_err-rest-2 : goal.tuple-returns-in_err-rest-2
tuple-returns-in_err-rest-2 t c =
    group_stops c.args.level (listed_levels (c.args.level + 1) (types_at (c.args.level + 1) c.args.all.now) c.args.trailing) c.args.rest.now c.in_ok-rest.rest.now c.in_err-rest-2.field-0.0 c.from_residual-in_err-rest-2.result
    c.in_ok-rest.ensures.gives c.in_err-rest-2.ensures c.from_residual-in_err-rest-2.ensures.1

pub tuple-returns : goal.tuple-returns
tuple-returns t c =
    passes_group c.args.level (listed_levels (c.args.level + 1) (types_at (c.args.level + 1) c.args.all.now) c.args.trailing) c.args.rest.now c.in_ok-rest.rest.now c.in_ok-rest-2.rest.now c.token-2.result
    c.in_ok-rest.ensures.gives c.in_ok-rest-2.ensures c.token-2.ensures.gives

pub types-returns-in_err-rest : goal.types-returns-in_err-rest
types-returns-in_err-rest t c =
    first_stops (spaced_levels (c.args.level ∷ []) true (types_at c.args.level c.args.all.now)) (given c.args.trailing (c.args.level ∷ [])) c.args.rest.now c.in_err-rest.field-0.0 c.from_residual.result c.in_err-rest.ensures c.from_residual.ensures.1

pub types-returns : goal.types-returns
types-returns t c =
    passes_next (spaced_levels (c.args.level ∷ []) true (types_at c.args.level c.args.all.now)) (given c.args.trailing (c.args.level ∷ [])) c.args.rest.now c.in_ok-rest.rest.now c.token_if.result
    c.in_ok-rest.ensures c.token_if.ensures

pub bounds-returns-in_err-rest : goal.bounds-returns-in_err-rest
bounds-returns-in_err-rest t c =
    first_stops (spaced_levels (c.args.level ∷ []) true (bounds_at c.args.level c.args.all.now)) (given c.args.trailing (c.args.level ∷ [])) c.args.rest.now c.in_err-rest.field-0.0 c.from_residual.result c.in_err-rest.ensures c.from_residual.ensures.1

pub bounds-returns : goal.bounds-returns
bounds-returns t c =
    passes_next (spaced_levels (c.args.level ∷ []) true (bounds_at c.args.level c.args.all.now)) (given c.args.trailing (c.args.level ∷ [])) c.args.rest.now c.in_ok-rest.rest.now c.token_if.result
    c.in_ok-rest.ensures c.token_if.ensures

pub inputs-returns-in_err-rest : goal.inputs-returns-in_err-rest
inputs-returns-in_err-rest t c =
    first_stops (spaced_levels (c.args.level ∷ []) true (inputs_at c.args.level c.args.all.now)) (given c.args.trailing (c.args.level ∷ [])) c.args.rest.now c.in_err-rest.field-0.0 c.from_residual.result c.in_err-rest.ensures c.from_residual.ensures.1

pub inputs-returns : goal.inputs-returns
inputs-returns t c =
    passes_next (spaced_levels (c.args.level ∷ []) true (inputs_at c.args.level c.args.all.now)) (given c.args.trailing (c.args.level ∷ [])) c.args.rest.now c.in_ok-rest.rest.now c.token_if.result
    c.in_ok-rest.ensures c.token_if.ensures

pub angle_inside-returns-in_err-rest : goal.angle_inside-returns-in_err-rest
angle_inside-returns-in_err-rest t c =
    first_stops (spaced_levels (c.args.level ∷ []) true (arguments_at c.args.level c.args.all.now)) (given c.args.trailing (c.args.level ∷ [])) c.args.rest.now c.in_err-rest.field-0.0 c.from_residual.result c.in_err-rest.ensures c.from_residual.ensures.1

pub angle_inside-returns : goal.angle_inside-returns
angle_inside-returns t c =
    passes_next (spaced_levels (c.args.level ∷ []) true (arguments_at c.args.level c.args.all.now)) (given c.args.trailing (c.args.level ∷ [])) c.args.rest.now c.in_ok-rest.rest.now c.token_if.result
    c.in_ok-rest.ensures c.token_if.ensures

pub spaced_types-loop-i-init : goal.spaced_types-loop-i-init
spaced_types-loop-i-init t c =
    refl

pub spaced_types-returns-in_err-next : goal.spaced_types-returns-in_err-next
spaced_types-returns-in_err-next t c =
    passes_failed (spaced_levels (c.args.level ∷ []) true (types_at c.args.level c.args.all.now)) c.args.rest.now c.in_err-next.field-0.0 c.from_residual.result
    (separator_stops (c.args.level ∷ []) (λ y. type_levels c.args.level (ty_view y)) (types_at c.args.level) (λ y ys. refl) c.args.all.now c.index-all-i.result c.loop-i.i c.loop-i-test.true c.index-all-i.is
    c.loop-i.at.left.now c.in_err-next.field-0.0 (pass (spaced_levels (c.args.level ∷ []) true (types_at c.args.level c.args.all.now)) c.args.rest.now) c.in_err-next.ensures c.loop-i.invariant) c.from_residual.ensures.1

pub spaced_types-returns-in_err-left : goal.spaced_types-returns-in_err-left
spaced_types-returns-in_err-left t c =
    passes_failed (spaced_levels (c.args.level ∷ []) true (types_at c.args.level c.args.all.now)) c.args.rest.now c.in_err-left.field-0.0 c.from_residual-in_err-left.result
    (item_stops (c.args.level ∷ []) (λ y. type_levels c.args.level (ty_view y)) (types_at c.args.level) (λ y ys. refl) c.args.all.now c.index-all-i.result c.loop-i.i c.loop-i-test.true c.index-all-i.is
    c.loop-i.at.left.now c.in_ok-next.next.now c.in_err-left.field-0.0 (pass (spaced_levels (c.args.level ∷ []) true (types_at c.args.level c.args.all.now)) c.args.rest.now) c.in_ok-next.ensures c.in_err-left.ensures c.loop-i.invariant)
    c.from_residual-in_err-left.ensures.1

pub spaced_types-loop-i-preserved : goal.spaced_types-loop-i-preserved
spaced_types-loop-i-preserved t c =
    item_passed (c.args.level ∷ []) (λ y. type_levels c.args.level (ty_view y)) (types_at c.args.level) (λ y ys. refl) c.args.all.now c.index-all-i.result c.loop-i.i c.loop-i-test.true c.index-all-i.is
    c.loop-i.at.left.now c.in_ok-next.next.now c.in_ok-left.left.now (pass (spaced_levels (c.args.level ∷ []) true (types_at c.args.level c.args.all.now)) c.args.rest.now) c.in_ok-next.ensures c.in_ok-left.ensures c.loop-i.invariant

pub spaced_types-returns : goal.spaced_types-returns
spaced_types-returns t c =
    all_passed (c.args.level ∷ []) (c.loop-i.i == 0) (types_at c.args.level) c.args.all.now c.loop-i.i c.loop-i.at.left.now (pass (spaced_levels (c.args.level ∷ []) true (types_at c.args.level c.args.all.now)) c.args.rest.now) refl
    c.loop-i-test.false c.loop-i.invariant

pub spaced_bounds-loop-i-init : goal.spaced_bounds-loop-i-init
spaced_bounds-loop-i-init t c =
    refl

pub spaced_bounds-returns-in_err-next : goal.spaced_bounds-returns-in_err-next
spaced_bounds-returns-in_err-next t c =
    passes_failed (spaced_levels (c.args.level ∷ []) true (bounds_at c.args.level c.args.all.now)) c.args.rest.now c.in_err-next.field-0.0 c.from_residual.result
    (separator_stops (c.args.level ∷ []) (λ y. bound_levels c.args.level (bound_view y)) (bounds_at c.args.level) (λ y ys. refl) c.args.all.now c.index-all-i.result c.loop-i.i c.loop-i-test.true c.index-all-i.is
    c.loop-i.at.left.now c.in_err-next.field-0.0 (pass (spaced_levels (c.args.level ∷ []) true (bounds_at c.args.level c.args.all.now)) c.args.rest.now) c.in_err-next.ensures c.loop-i.invariant) c.from_residual.ensures.1

pub spaced_bounds-returns-in_err-left : goal.spaced_bounds-returns-in_err-left
spaced_bounds-returns-in_err-left t c =
    passes_failed (spaced_levels (c.args.level ∷ []) true (bounds_at c.args.level c.args.all.now)) c.args.rest.now c.in_err-left.field-0.0 c.from_residual-in_err-left.result
    (item_stops (c.args.level ∷ []) (λ y. bound_levels c.args.level (bound_view y)) (bounds_at c.args.level) (λ y ys. refl) c.args.all.now c.index-all-i.result c.loop-i.i c.loop-i-test.true c.index-all-i.is
    c.loop-i.at.left.now c.in_ok-next.next.now c.in_err-left.field-0.0 (pass (spaced_levels (c.args.level ∷ []) true (bounds_at c.args.level c.args.all.now)) c.args.rest.now) c.in_ok-next.ensures c.in_err-left.ensures c.loop-i.invariant)
    c.from_residual-in_err-left.ensures.1

pub spaced_bounds-loop-i-preserved : goal.spaced_bounds-loop-i-preserved
spaced_bounds-loop-i-preserved t c =
    item_passed (c.args.level ∷ []) (λ y. bound_levels c.args.level (bound_view y)) (bounds_at c.args.level) (λ y ys. refl) c.args.all.now c.index-all-i.result c.loop-i.i c.loop-i-test.true c.index-all-i.is
    c.loop-i.at.left.now c.in_ok-next.next.now c.in_ok-left.left.now (pass (spaced_levels (c.args.level ∷ []) true (bounds_at c.args.level c.args.all.now)) c.args.rest.now) c.in_ok-next.ensures c.in_ok-left.ensures c.loop-i.invariant

pub spaced_bounds-returns : goal.spaced_bounds-returns
spaced_bounds-returns t c =
    all_passed (c.args.level ∷ []) (c.loop-i.i == 0) (bounds_at c.args.level) c.args.all.now c.loop-i.i c.loop-i.at.left.now (pass (spaced_levels (c.args.level ∷ []) true (bounds_at c.args.level c.args.all.now)) c.args.rest.now) refl
    c.loop-i-test.false c.loop-i.invariant

pub spaced_inputs-loop-i-init : goal.spaced_inputs-loop-i-init
spaced_inputs-loop-i-init t c =
    refl

pub spaced_inputs-returns-in_err-next : goal.spaced_inputs-returns-in_err-next
spaced_inputs-returns-in_err-next t c =
    passes_failed (spaced_levels (c.args.level ∷ []) true (inputs_at c.args.level c.args.all.now)) c.args.rest.now c.in_err-next.field-0.0 c.from_residual.result
    (separator_stops (c.args.level ∷ []) (λ y. input_levels c.args.level (input_view y)) (inputs_at c.args.level) (λ y ys. refl) c.args.all.now c.index-all-i.result c.loop-i.i c.loop-i-test.true c.index-all-i.is
    c.loop-i.at.left.now c.in_err-next.field-0.0 (pass (spaced_levels (c.args.level ∷ []) true (inputs_at c.args.level c.args.all.now)) c.args.rest.now) c.in_err-next.ensures c.loop-i.invariant) c.from_residual.ensures.1

pub spaced_inputs-returns-in_err-left : goal.spaced_inputs-returns-in_err-left
spaced_inputs-returns-in_err-left t c =
    passes_failed (spaced_levels (c.args.level ∷ []) true (inputs_at c.args.level c.args.all.now)) c.args.rest.now c.in_err-left.field-0.0 c.from_residual-in_err-left.result
    (item_stops (c.args.level ∷ []) (λ y. input_levels c.args.level (input_view y)) (inputs_at c.args.level) (λ y ys. refl) c.args.all.now c.index-all-i.result c.loop-i.i c.loop-i-test.true c.index-all-i.is
    c.loop-i.at.left.now c.in_ok-next.next.now c.in_err-left.field-0.0 (pass (spaced_levels (c.args.level ∷ []) true (inputs_at c.args.level c.args.all.now)) c.args.rest.now) c.in_ok-next.ensures c.in_err-left.ensures c.loop-i.invariant)
    c.from_residual-in_err-left.ensures.1

pub spaced_inputs-loop-i-preserved : goal.spaced_inputs-loop-i-preserved
spaced_inputs-loop-i-preserved t c =
    item_passed (c.args.level ∷ []) (λ y. input_levels c.args.level (input_view y)) (inputs_at c.args.level) (λ y ys. refl) c.args.all.now c.index-all-i.result c.loop-i.i c.loop-i-test.true c.index-all-i.is
    c.loop-i.at.left.now c.in_ok-next.next.now c.in_ok-left.left.now (pass (spaced_levels (c.args.level ∷ []) true (inputs_at c.args.level c.args.all.now)) c.args.rest.now) c.in_ok-next.ensures c.in_ok-left.ensures c.loop-i.invariant

pub spaced_inputs-returns : goal.spaced_inputs-returns
spaced_inputs-returns t c =
    all_passed (c.args.level ∷ []) (c.loop-i.i == 0) (inputs_at c.args.level) c.args.all.now c.loop-i.i c.loop-i.at.left.now (pass (spaced_levels (c.args.level ∷ []) true (inputs_at c.args.level c.args.all.now)) c.args.rest.now) refl
    c.loop-i-test.false c.loop-i.invariant

pub segments-loop-i-init : goal.segments-loop-i-init
segments-loop-i-init t c =
    refl

pub segments-returns-in_err-next : goal.segments-returns-in_err-next
segments-returns-in_err-next t c =
    passes_failed (spaced_levels (two c.args.level) true (segments_at c.args.level c.args.all.now)) c.args.rest.now c.in_err-next.field-0.0 c.from_residual.result
    (separator_stops (two c.args.level) (λ y. segment_levels c.args.level (segment_view y)) (segments_at c.args.level) (λ y ys. refl) c.args.all.now c.index-all-i.result c.loop-i.i c.loop-i-test.true c.index-all-i.is
    c.loop-i.at.left.now c.in_err-next.field-0.0 (pass (spaced_levels (two c.args.level) true (segments_at c.args.level c.args.all.now)) c.args.rest.now) c.in_err-next.ensures c.loop-i.invariant) c.from_residual.ensures.1

pub segments-returns-in_err-left : goal.segments-returns-in_err-left
segments-returns-in_err-left t c =
    passes_failed (spaced_levels (two c.args.level) true (segments_at c.args.level c.args.all.now)) c.args.rest.now c.in_err-left.field-0.0 c.from_residual-in_err-left.result
    (item_stops (two c.args.level) (λ y. segment_levels c.args.level (segment_view y)) (segments_at c.args.level) (λ y ys. refl) c.args.all.now c.index-all-i.result c.loop-i.i c.loop-i-test.true c.index-all-i.is
    c.loop-i.at.left.now c.in_ok-next.next.now c.in_err-left.field-0.0 (pass (spaced_levels (two c.args.level) true (segments_at c.args.level c.args.all.now)) c.args.rest.now) c.in_ok-next.ensures c.in_err-left.ensures c.loop-i.invariant)
    c.from_residual-in_err-left.ensures.1

pub segments-loop-i-preserved : goal.segments-loop-i-preserved
segments-loop-i-preserved t c =
    item_passed (two c.args.level) (λ y. segment_levels c.args.level (segment_view y)) (segments_at c.args.level) (λ y ys. refl) c.args.all.now c.index-all-i.result c.loop-i.i c.loop-i-test.true c.index-all-i.is
    c.loop-i.at.left.now c.in_ok-next.next.now c.in_ok-left.left.now (pass (spaced_levels (two c.args.level) true (segments_at c.args.level c.args.all.now)) c.args.rest.now) c.in_ok-next.ensures c.in_ok-left.ensures c.loop-i.invariant

pub segments-returns : goal.segments-returns
segments-returns t c =
    all_passed (two c.args.level) (c.loop-i.i == 0) (segments_at c.args.level) c.args.all.now c.loop-i.i c.loop-i.at.left.now (pass (spaced_levels (two c.args.level) true (segments_at c.args.level c.args.all.now)) c.args.rest.now) refl
    c.loop-i-test.false c.loop-i.invariant

pub spaced_arguments-loop-i-init : goal.spaced_arguments-loop-i-init
spaced_arguments-loop-i-init t c =
    refl

pub spaced_arguments-returns-in_err-next : goal.spaced_arguments-returns-in_err-next
spaced_arguments-returns-in_err-next t c =
    passes_failed (spaced_levels (c.args.level ∷ []) true (arguments_at c.args.level c.args.all.now)) c.args.rest.now c.in_err-next.field-0.0 c.from_residual.result
    (separator_stops (c.args.level ∷ []) (λ y. argument_levels c.args.level (argument_view y)) (arguments_at c.args.level) (λ y ys. refl) c.args.all.now c.index-all-i.result c.loop-i.i c.loop-i-test.true c.index-all-i.is
    c.loop-i.at.left.now c.in_err-next.field-0.0 (pass (spaced_levels (c.args.level ∷ []) true (arguments_at c.args.level c.args.all.now)) c.args.rest.now) c.in_err-next.ensures c.loop-i.invariant) c.from_residual.ensures.1

pub spaced_arguments-returns-in_err-left : goal.spaced_arguments-returns-in_err-left
spaced_arguments-returns-in_err-left t c =
    passes_failed (spaced_levels (c.args.level ∷ []) true (arguments_at c.args.level c.args.all.now)) c.args.rest.now c.in_err-left.field-0.0 c.from_residual-in_err-left.result
    (item_stops (c.args.level ∷ []) (λ y. argument_levels c.args.level (argument_view y)) (arguments_at c.args.level) (λ y ys. refl) c.args.all.now c.index-all-i.result c.loop-i.i c.loop-i-test.true c.index-all-i.is
    c.loop-i.at.left.now c.in_ok-next.next.now c.in_err-left.field-0.0 (pass (spaced_levels (c.args.level ∷ []) true (arguments_at c.args.level c.args.all.now)) c.args.rest.now) c.in_ok-next.ensures c.in_err-left.ensures c.loop-i.invariant)
    c.from_residual-in_err-left.ensures.1

pub spaced_arguments-loop-i-preserved : goal.spaced_arguments-loop-i-preserved
spaced_arguments-loop-i-preserved t c =
    item_passed (c.args.level ∷ []) (λ y. argument_levels c.args.level (argument_view y)) (arguments_at c.args.level) (λ y ys. refl) c.args.all.now c.index-all-i.result c.loop-i.i c.loop-i-test.true c.index-all-i.is
    c.loop-i.at.left.now c.in_ok-next.next.now c.in_ok-left.left.now (pass (spaced_levels (c.args.level ∷ []) true (arguments_at c.args.level c.args.all.now)) c.args.rest.now) c.in_ok-next.ensures c.in_ok-left.ensures c.loop-i.invariant

pub spaced_arguments-returns : goal.spaced_arguments-returns
spaced_arguments-returns t c =
    all_passed (c.args.level ∷ []) (c.loop-i.i == 0) (arguments_at c.args.level) c.args.all.now c.loop-i.i c.loop-i.at.left.now (pass (spaced_levels (c.args.level ∷ []) true (arguments_at c.args.level c.args.all.now)) c.args.rest.now) refl
    c.loop-i-test.false c.loop-i.invariant

pub first-returns-then-i-position : goal.first-returns-then-i-position
first-returns-then-i-position t c =
    enough_passed (two c.args.level) (c.loop-i.i == 0) c.args.position c.loop-i.i (segments_at c.args.level (drop c.loop-i.i c.args.all.now)) c.loop-i.at.left.now
    (pass (spaced_levels (two c.args.level) true (take c.args.position (segments_at c.args.level c.args.all.now))) c.args.rest.now) c.if-i-position.true c.loop-i.invariant

pub first-returns-in_err-next : goal.first-returns-in_err-next
first-returns-in_err-next t c =
    passes_failed (spaced_levels (two c.args.level) true (take c.args.position (segments_at c.args.level c.args.all.now))) c.args.rest.now c.in_err-next.field-0.0 c.from_residual.result
    (taken_separator_stops (two c.args.level) (λ y. segment_levels c.args.level (segment_view y)) (segments_at c.args.level) (λ y ys. refl) c.args.all.now c.index-all-i.result c.loop-i.i c.loop-i-test.true c.index-all-i.is c.args.position
    c.loop-i.at.left.now c.in_err-next.field-0.0 (pass (spaced_levels (two c.args.level) true (take c.args.position (segments_at c.args.level c.args.all.now))) c.args.rest.now) c.if-i-position.false c.in_err-next.ensures c.loop-i.invariant) c.from_residual.ensures.1

pub first-returns-in_err-left : goal.first-returns-in_err-left
first-returns-in_err-left t c =
    passes_failed (spaced_levels (two c.args.level) true (take c.args.position (segments_at c.args.level c.args.all.now))) c.args.rest.now c.in_err-left.field-0.0 c.from_residual-in_err-left.result
    (taken_stops (two c.args.level) (λ y. segment_levels c.args.level (segment_view y)) (segments_at c.args.level) (λ y ys. refl) c.args.all.now c.index-all-i.result c.loop-i.i c.loop-i-test.true c.index-all-i.is c.args.position
    c.loop-i.at.left.now c.in_ok-next.next.now c.in_err-left.field-0.0 (pass (spaced_levels (two c.args.level) true (take c.args.position (segments_at c.args.level c.args.all.now))) c.args.rest.now) c.if-i-position.false c.in_ok-next.ensures c.in_err-left.ensures c.loop-i.invariant)
    c.from_residual-in_err-left.ensures.1

pub first-loop-i-preserved : goal.first-loop-i-preserved
first-loop-i-preserved t c =
    taken_passed (two c.args.level) (λ y. segment_levels c.args.level (segment_view y)) (segments_at c.args.level) (λ y ys. refl) c.args.all.now c.index-all-i.result c.loop-i.i c.loop-i-test.true c.index-all-i.is c.args.position
    c.loop-i.at.left.now c.in_ok-next.next.now c.in_ok-left.left.now (pass (spaced_levels (two c.args.level) true (take c.args.position (segments_at c.args.level c.args.all.now))) c.args.rest.now) c.if-i-position.false c.in_ok-next.ensures c.in_ok-left.ensures c.loop-i.invariant

pub first-returns : goal.first-returns
first-returns t c =
    taken_all_passed (two c.args.level) (c.loop-i.i == 0) (c.args.position - c.loop-i.i) (segments_at c.args.level) c.args.all.now c.loop-i.i c.loop-i.at.left.now
    (pass (spaced_levels (two c.args.level) true (take c.args.position (segments_at c.args.level c.args.all.now))) c.args.rest.now) refl c.loop-i-test.false c.loop-i.invariant

pub bound-returns-in-Lifetime : goal.bound-returns-in-Lifetime
bound-returns-in-Lifetime t c =
    passes_equal _ _ c.args.rest.now c.token.result (shown (bound_levels c.args.level) bound_view c.in-Lifetime.is (view_Bound-Lifetime _))
    c.token.ensures.gives

pub bound-returns-in-Trait : goal.bound-returns-in-Trait
bound-returns-in-Trait t c =
    passes_equal _ _ c.args.rest.now c.trait_bound.result (shown (bound_levels c.args.level) bound_view c.in-Trait.is (view_Bound-Trait _))
    c.trait_bound.ensures

pub trait_bound-returns-then-not-bound : goal.trait_bound-returns-then-not-bound
trait_bound-returns-then-not-bound t c =
    passes_equal _ _ c.args.rest.now c.bare_bound.result (ap (trait_bound_levels c.args.level) (view-TraitBound c.args.bound.now) ∙
    ap (λ b. cond b (grouped_levels c.args.level (bare_levels (c.args.level + 1) (out-TraitBound c.args.bound.now).maybe (out-TraitBound c.args.bound.now).lifetimes (path_levels (c.args.level + 1) (path_view (out-TraitBound c.args.bound.now).path)))) (bare_levels c.args.level (out-TraitBound c.args.bound.now).maybe (out-TraitBound c.args.bound.now).lifetimes (path_levels c.args.level (path_view (out-TraitBound c.args.bound.now).path)))) c.if-not-bound.true)
    c.bare_bound.ensures

pub trait_bound-returns-in_err-rest : goal.trait_bound-returns-in_err-rest
trait_bound-returns-in_err-rest t c =
    passes_equal _ _ c.args.rest.now c.from_residual.result (ap (trait_bound_levels c.args.level) (view-TraitBound c.args.bound.now) ∙
    ap (λ b. cond b (grouped_levels c.args.level (bare_levels (c.args.level + 1) (out-TraitBound c.args.bound.now).maybe (out-TraitBound c.args.bound.now).lifetimes (path_levels (c.args.level + 1) (path_view (out-TraitBound c.args.bound.now).path)))) (bare_levels c.args.level (out-TraitBound c.args.bound.now).maybe (out-TraitBound c.args.bound.now).lifetimes (path_levels c.args.level (path_view (out-TraitBound c.args.bound.now).path)))) c.if-not-bound.false)
    (group_unopened c.args.level (bare_levels (c.args.level + 1) (out-TraitBound c.args.bound.now).maybe (out-TraitBound c.args.bound.now).lifetimes (path_levels (c.args.level + 1) (path_view (out-TraitBound c.args.bound.now).path))) c.args.rest.now c.in_err-rest.field-0.0 c.from_residual.result c.in_err-rest.ensures.gives c.from_residual.ensures.1)

pub trait_bound-returns-in_err-rest-2 : goal.trait_bound-returns-in_err-rest-2
trait_bound-returns-in_err-rest-2 t c =
    passes_equal _ _ c.args.rest.now c.from_residual-in_err-rest-2.result (ap (trait_bound_levels c.args.level) (view-TraitBound c.args.bound.now) ∙
    ap (λ b. cond b (grouped_levels c.args.level (bare_levels (c.args.level + 1) (out-TraitBound c.args.bound.now).maybe (out-TraitBound c.args.bound.now).lifetimes (path_levels (c.args.level + 1) (path_view (out-TraitBound c.args.bound.now).path)))) (bare_levels c.args.level (out-TraitBound c.args.bound.now).maybe (out-TraitBound c.args.bound.now).lifetimes (path_levels c.args.level (path_view (out-TraitBound c.args.bound.now).path)))) c.if-not-bound.false)
    (group_stops c.args.level (bare_levels (c.args.level + 1) (out-TraitBound c.args.bound.now).maybe (out-TraitBound c.args.bound.now).lifetimes (path_levels (c.args.level + 1) (path_view (out-TraitBound c.args.bound.now).path))) c.args.rest.now c.in_ok-rest.rest.now c.in_err-rest-2.field-0.0 c.from_residual-in_err-rest-2.result
    c.in_ok-rest.ensures.gives c.in_err-rest-2.ensures c.from_residual-in_err-rest-2.ensures.1)

pub bare_bound-returns-in_err-rest : goal.bare_bound-returns-in_err-rest
bare_bound-returns-in_err-rest t c =
    first_stops (given c.args.maybe (c.args.level ∷ [])) (for_levels c.args.level c.args.lifetimes.now ++ path_levels c.args.level (path_view c.args.path.now)) c.args.rest.now c.in_err-rest.field-0.0 c.from_residual.result
    c.in_err-rest.ensures c.from_residual.ensures.1

pub bare_bound-returns-in_err-rest-2 : goal.bare_bound-returns-in_err-rest-2
bare_bound-returns-in_err-rest-2 t c =
    second_stops (given c.args.maybe (c.args.level ∷ [])) (for_levels c.args.level c.args.lifetimes.now) (path_levels c.args.level (path_view c.args.path.now)) c.args.rest.now c.in_ok-rest.rest.now c.in_err-rest-2.field-0.0 c.from_residual-in_err-rest-2.result
    c.in_ok-rest.ensures c.in_err-rest-2.ensures c.from_residual-in_err-rest-2.ensures.1

pub bare_bound-returns : goal.bare_bound-returns
bare_bound-returns t c =
    third_passes (given c.args.maybe (c.args.level ∷ [])) (for_levels c.args.level c.args.lifetimes.now) (path_levels c.args.level (path_view c.args.path.now)) c.args.rest.now c.in_ok-rest.rest.now c.in_ok-rest-2.rest.now c.path.result
    c.in_ok-rest.ensures c.in_ok-rest-2.ensures c.path.ensures

pub parameters-returns-in_err-rest : goal.parameters-returns-in_err-rest
parameters-returns-in_err-rest t c =
    group_unopened c.args.level (listed_levels (c.args.level + 1) (inputs_at (c.args.level + 1) c.args.all.now) c.args.trailing) c.args.rest.now c.in_err-rest.field-0.0 c.from_residual.result c.in_err-rest.ensures.gives c.from_residual.ensures.1

pub parameters-returns-in_err-rest-2 : goal.parameters-returns-in_err-rest-2
parameters-returns-in_err-rest-2 t c =
    group_stops c.args.level (listed_levels (c.args.level + 1) (inputs_at (c.args.level + 1) c.args.all.now) c.args.trailing) c.args.rest.now c.in_ok-rest.rest.now c.in_err-rest-2.field-0.0 c.from_residual-in_err-rest-2.result
    c.in_ok-rest.ensures.gives c.in_err-rest-2.ensures c.from_residual-in_err-rest-2.ensures.1

pub parameters-returns : goal.parameters-returns
parameters-returns t c =
    passes_group c.args.level (listed_levels (c.args.level + 1) (inputs_at (c.args.level + 1) c.args.all.now) c.args.trailing) c.args.rest.now c.in_ok-rest.rest.now c.in_ok-rest-2.rest.now c.token-2.result
    c.in_ok-rest.ensures.gives c.in_ok-rest-2.ensures c.token-2.ensures.gives

pub fn_output-returns-in_err-rest : goal.fn_output-returns-in_err-rest
fn_output-returns-in_err-rest t c =
    first_stops (two c.args.level) (type_levels c.args.level (ty_view c.args.output.now)) c.args.rest.now c.in_err-rest.field-0.0 c.from_residual.result c.in_err-rest.ensures.gives c.from_residual.ensures.1

pub fn_output-returns : goal.fn_output-returns
fn_output-returns t c =
    passes_next (two c.args.level) (type_levels c.args.level (ty_view c.args.output.now)) c.args.rest.now c.in_ok-rest.rest.now c.ty.result
    c.in_ok-rest.ensures.gives c.ty.ensures

pub path_output-returns-in_err-rest : goal.path_output-returns-in_err-rest
path_output-returns-in_err-rest t c =
    first_stops (two c.args.level) (type_levels (c.args.level + 1) (ty_view c.args.output.now)) c.args.rest.now c.in_err-rest.field-0.0 c.from_residual.result c.in_err-rest.ensures.gives c.from_residual.ensures.1

pub path_output-returns : goal.path_output-returns
path_output-returns t c =
    passes_next (two c.args.level) (type_levels (c.args.level + 1) (ty_view c.args.output.now)) c.args.rest.now c.in_ok-rest.rest.now c.ty.result
    c.in_ok-rest.ensures.gives c.ty.ensures

pub input-returns-in_err-rest : goal.input-returns-in_err-rest
input-returns-in_err-rest t c =
    passes_equal _ _ c.args.rest.now c.from_residual.result (ap (input_levels c.args.level) (view-FnArg c.args.input.now) ∙
    ap (λ l. attributes_levels c.args.level l ++ (input_name_levels c.args.level c.args.input.now.name ++ type_levels c.args.level (ty_view c.args.input.now.ty))) (sym c.as_slice.ensures))
    (first_stops (attributes_levels c.args.level c.as_slice.result.now) (input_name_levels c.args.level c.args.input.now.name ++ type_levels c.args.level (ty_view c.args.input.now.ty)) c.args.rest.now c.in_err-rest.field-0.0 c.from_residual.result
    c.in_err-rest.ensures c.from_residual.ensures.1)

pub input-returns-in_err-rest-2 : goal.input-returns-in_err-rest-2
input-returns-in_err-rest-2 t c =
    passes_equal _ _ c.args.rest.now c.from_residual-in_err-rest-2.result (ap (input_levels c.args.level) (view-FnArg c.args.input.now) ∙
    ap (λ l. attributes_levels c.args.level l ++ (input_name_levels c.args.level c.args.input.now.name ++ type_levels c.args.level (ty_view c.args.input.now.ty))) (sym c.as_slice.ensures))
    (second_stops (attributes_levels c.args.level c.as_slice.result.now) (input_name_levels c.args.level c.args.input.now.name) (type_levels c.args.level (ty_view c.args.input.now.ty)) c.args.rest.now c.in_ok-rest.rest.now c.in_err-rest-2.field-0.0 c.from_residual-in_err-rest-2.result
    c.in_ok-rest.ensures c.in_err-rest-2.ensures c.from_residual-in_err-rest-2.ensures.1)

pub input-returns : goal.input-returns
input-returns t c =
    passes_equal _ _ c.args.rest.now c.ty.result (ap (input_levels c.args.level) (view-FnArg c.args.input.now) ∙
    ap (λ l. attributes_levels c.args.level l ++ (input_name_levels c.args.level c.args.input.now.name ++ type_levels c.args.level (ty_view c.args.input.now.ty))) (sym c.as_slice.ensures))
    (third_passes (attributes_levels c.args.level c.as_slice.result.now) (input_name_levels c.args.level c.args.input.now.name) (type_levels c.args.level (ty_view c.args.input.now.ty)) c.args.rest.now c.in_ok-rest.rest.now c.in_ok-rest-2.rest.now c.ty.result
    c.in_ok-rest.ensures c.in_ok-rest-2.ensures c.ty.ensures)

pub path-returns-in_err-rest : goal.path-returns-in_err-rest
path-returns-in_err-rest t c =
    passes_equal _ _ c.args.rest.now c.from_residual.result (ap (path_levels c.args.level) (view-Path c.args.path.now))
    (first_stops (given (out-Path c.args.path.now).leading_colon (two c.args.level)) (spaced_levels (two c.args.level) true (segments_at c.args.level (out-Path c.args.path.now).segments)) c.args.rest.now c.in_err-rest.field-0.0 c.from_residual.result
    c.in_err-rest.ensures c.from_residual.ensures.1)

pub path-returns : goal.path-returns
path-returns t c =
    passes_equal _ _ c.args.rest.now c.segments.result (ap (path_levels c.args.level) (view-Path c.args.path.now) ∙
    ap (λ l. given (out-Path c.args.path.now).leading_colon (two c.args.level) ++ spaced_levels (two c.args.level) true (segments_at c.args.level l)) (sym c.as_slice.ensures))
    (passes_next (given (out-Path c.args.path.now).leading_colon (two c.args.level)) (spaced_levels (two c.args.level) true (segments_at c.args.level c.as_slice.result.now)) c.args.rest.now
    c.in_ok-rest.rest.now c.segments.result c.in_ok-rest.ensures c.segments.ensures)

pub segment-returns-in_err-rest : goal.segment-returns-in_err-rest
segment-returns-in_err-rest t c =
    passes_equal _ _ c.args.rest.now c.from_residual.result (ap (segment_levels c.args.level) (view-PathSegment c.args.segment.now))
    (first_stops (c.args.level ∷ []) (arguments_levels c.args.level (arguments_view c.args.segment.now.arguments)) c.args.rest.now c.in_err-rest.field-0.0 c.from_residual.result c.in_err-rest.ensures.gives c.from_residual.ensures.1)

pub segment-returns : goal.segment-returns
segment-returns t c =
    passes_equal _ _ c.args.rest.now c.arguments.result (ap (segment_levels c.args.level) (view-PathSegment c.args.segment.now))
    (passes_next (c.args.level ∷ []) (arguments_levels c.args.level (arguments_view c.args.segment.now.arguments)) c.args.rest.now c.in_ok-rest.rest.now c.arguments.result
    c.in_ok-rest.ensures.gives c.arguments.ensures)

pub behind_self-returns-in_err-rest : goal.behind_self-returns-in_err-rest
behind_self-returns-in_err-rest t c =
    first_stops (as_levels (c.args.level + 1) c.args.position c.args.leading_colon (segments_at (c.args.level + 1) c.args.all.now)) ((c.args.level ∷ []) ++ spaced_levels (two c.args.level) false (drop c.args.position (segments_at c.args.level c.args.all.now))) c.args.rest.now c.in_err-rest.field-0.0 c.from_residual.result
    c.in_err-rest.ensures c.from_residual.ensures.1

pub behind_self-returns-in_err-rest-2 : goal.behind_self-returns-in_err-rest-2
behind_self-returns-in_err-rest-2 t c =
    second_stops (as_levels (c.args.level + 1) c.args.position c.args.leading_colon (segments_at (c.args.level + 1) c.args.all.now)) (c.args.level ∷ []) (spaced_levels (two c.args.level) false (drop c.args.position (segments_at c.args.level c.args.all.now))) c.args.rest.now c.in_ok-rest.rest.now c.in_err-rest-2.field-0.0 c.from_residual-in_err-rest-2.result
    c.in_ok-rest.ensures c.in_err-rest-2.ensures.gives c.from_residual-in_err-rest-2.ensures.1

pub behind_self-returns : goal.behind_self-returns
behind_self-returns t c =
    third_passes (as_levels (c.args.level + 1) c.args.position c.args.leading_colon (segments_at (c.args.level + 1) c.args.all.now)) (c.args.level ∷ []) (spaced_levels (two c.args.level) false (drop c.args.position (segments_at c.args.level c.args.all.now))) c.args.rest.now c.in_ok-rest.rest.now c.in_ok-rest-2.rest.now c.later.result
    c.in_ok-rest.ensures c.in_ok-rest-2.ensures.gives c.later.ensures

pub angle-returns-in_err-rest : goal.angle-returns-in_err-rest
angle-returns-in_err-rest t c =
    group_unopened c.args.level (listed_levels (c.args.level + 1) (arguments_at (c.args.level + 1) c.args.all.now) c.args.trailing) c.args.rest.now c.in_err-rest.field-0.0 c.from_residual.result c.in_err-rest.ensures.gives c.from_residual.ensures.1

pub angle-returns-in_err-rest-2 : goal.angle-returns-in_err-rest-2
angle-returns-in_err-rest-2 t c =
    group_stops c.args.level (listed_levels (c.args.level + 1) (arguments_at (c.args.level + 1) c.args.all.now) c.args.trailing) c.args.rest.now c.in_ok-rest.rest.now c.in_err-rest-2.field-0.0 c.from_residual-in_err-rest-2.result
    c.in_ok-rest.ensures.gives c.in_err-rest-2.ensures c.from_residual-in_err-rest-2.ensures.1

pub angle-returns : goal.angle-returns
angle-returns t c =
    passes_group c.args.level (listed_levels (c.args.level + 1) (arguments_at (c.args.level + 1) c.args.all.now) c.args.trailing) c.args.rest.now c.in_ok-rest.rest.now c.in_ok-rest-2.rest.now c.token-2.result
    c.in_ok-rest.ensures.gives c.in_ok-rest-2.ensures c.token-2.ensures.gives

pub equal_type-returns-in_err-rest : goal.equal_type-returns-in_err-rest
equal_type-returns-in_err-rest t c =
    first_stops (c.args.level ∷ []) (type_levels c.args.level (ty_view c.args.ty.now)) c.args.rest.now c.in_err-rest.field-0.0 c.from_residual.result c.in_err-rest.ensures.gives c.from_residual.ensures.1

pub equal_type-returns : goal.equal_type-returns
equal_type-returns t c =
    passes_next (c.args.level ∷ []) (type_levels c.args.level (ty_view c.args.ty.now)) c.args.rest.now c.in_ok-rest.rest.now c.ty.result
    c.in_ok-rest.ensures.gives c.ty.ensures

pub constraint-returns-in_err-rest : goal.constraint-returns-in_err-rest
constraint-returns-in_err-rest t c =
    first_stops (c.args.level ∷ []) (listed_levels c.args.level (bounds_at c.args.level c.args.all.now) c.args.trailing) c.args.rest.now c.in_err-rest.field-0.0 c.from_residual.result c.in_err-rest.ensures.gives c.from_residual.ensures.1

pub constraint-returns : goal.constraint-returns
constraint-returns t c =
    passes_next (c.args.level ∷ []) (listed_levels c.args.level (bounds_at c.args.level c.args.all.now) c.args.trailing) c.args.rest.now c.in_ok-rest.rest.now c.bounds.result
    c.in_ok-rest.ensures.gives c.bounds.ensures

pub argument-returns-in-Lifetime : goal.argument-returns-in-Lifetime
argument-returns-in-Lifetime t c =
    passes_equal _ _ c.args.rest.now c.token.result (shown (argument_levels c.args.level) argument_view c.in-Lifetime.is (view_GenericArgument-Lifetime _))
    c.token.ensures.gives

pub argument-returns-in-Ty : goal.argument-returns-in-Ty
argument-returns-in-Ty t c =
    passes_equal _ _ c.args.rest.now c.ty.result (shown (argument_levels c.args.level) argument_view c.in-Ty.is (view_GenericArgument-Ty _))
    c.ty.ensures

pub argument-returns-in-Const : goal.argument-returns-in-Const
argument-returns-in-Const t c =
    passes_equal _ _ c.args.rest.now c.constant.result (shown (argument_levels c.args.level) argument_view c.in-Const.is (view_GenericArgument-Const _))
    c.constant.ensures

pub argument-returns-in_err-rest-in-AssocTy : goal.argument-returns-in_err-rest-in-AssocTy
argument-returns-in_err-rest-in-AssocTy t c =
    passes_equal _ _ c.args.rest.now c.from_residual.result (shown (argument_levels c.args.level) argument_view c.in-AssocTy.is (view_GenericArgument-AssocTy _ _ _))
    (first_stops (c.args.level ∷ []) (maybe_angle_levels c.args.level (maybe_arguments_view c.in-AssocTy.arguments) ++ c.args.level ∷ type_levels c.args.level (ty_view c.in-AssocTy.found)) c.args.rest.now c.in_err-rest-in-AssocTy.field-0.0
    c.from_residual.result c.in_err-rest-in-AssocTy.ensures.gives c.from_residual.ensures.1)

pub argument-returns-in-None : goal.argument-returns-in-None
argument-returns-in-None t c =
    passes_equal _ _ c.args.rest.now c.equal_type.result (shown (argument_levels c.args.level) argument_view c.in-AssocTy.is (view_GenericArgument-AssocTy _ _ _) ∙
    ap (λ q. c.args.level ∷ (maybe_angle_levels c.args.level (maybe_arguments_view q) ++ c.args.level ∷ type_levels c.args.level (ty_view c.in-AssocTy.found))) c.in-None.is)
    (passes_next (c.args.level ∷ []) (c.args.level ∷ type_levels c.args.level (ty_view c.in-AssocTy.found)) c.args.rest.now c.in_ok-rest-in-AssocTy.rest.now c.equal_type.result
    c.in_ok-rest-in-AssocTy.ensures.gives c.equal_type.ensures)

pub argument-returns-in_err-rest-in-Some : goal.argument-returns-in_err-rest-in-Some
argument-returns-in_err-rest-in-Some t c =
    passes_equal _ _ c.args.rest.now c.from_residual-in_err-rest-in-Some.result (shown (argument_levels c.args.level) argument_view c.in-AssocTy.is (view_GenericArgument-AssocTy _ _ _) ∙
    ap (λ q. c.args.level ∷ (maybe_angle_levels c.args.level (maybe_arguments_view q) ++ c.args.level ∷ type_levels c.args.level (ty_view c.in-AssocTy.found))) c.in-Some.is ∙
    ap (λ l. c.args.level ∷ (angle_levels c.args.level (arguments_at (c.args.level + 1) l) c.in-Some.all.trailing ++ c.args.level ∷ type_levels c.args.level (ty_view c.in-AssocTy.found))) (sym c.as_slice.ensures))
    (second_stops (c.args.level ∷ []) (angle_levels c.args.level (arguments_at (c.args.level + 1) c.as_slice.result.now) c.in-Some.all.trailing) (c.args.level ∷ type_levels c.args.level (ty_view c.in-AssocTy.found)) c.args.rest.now c.in_ok-rest-in-AssocTy.rest.now
    c.in_err-rest-in-Some.field-0.0 c.from_residual-in_err-rest-in-Some.result c.in_ok-rest-in-AssocTy.ensures.gives c.in_err-rest-in-Some.ensures c.from_residual-in_err-rest-in-Some.ensures.1)

pub argument-returns-in_err-rest-in-AssocConst : goal.argument-returns-in_err-rest-in-AssocConst
argument-returns-in_err-rest-in-AssocConst t c =
    passes_equal _ _ c.args.rest.now c.from_residual-in_err-rest-in-AssocConst.result (shown (argument_levels c.args.level) argument_view c.in-AssocConst.is (view_GenericArgument-AssocConst _ _ _))
    (first_stops (c.args.level ∷ []) (maybe_angle_levels c.args.level (maybe_arguments_view c.in-AssocConst.arguments) ++ c.args.level ∷ const_levels c.args.level c.in-AssocConst.value) c.args.rest.now c.in_err-rest-in-AssocConst.field-0.0
    c.from_residual-in_err-rest-in-AssocConst.result c.in_err-rest-in-AssocConst.ensures.gives c.from_residual-in_err-rest-in-AssocConst.ensures.1)

pub argument-returns-in-None-arguments : goal.argument-returns-in-None-arguments
argument-returns-in-None-arguments t c =
    passes_equal _ _ c.args.rest.now c.equal_const.result (shown (argument_levels c.args.level) argument_view c.in-AssocConst.is (view_GenericArgument-AssocConst _ _ _) ∙
    ap (λ q. c.args.level ∷ (maybe_angle_levels c.args.level (maybe_arguments_view q) ++ c.args.level ∷ const_levels c.args.level c.in-AssocConst.value)) c.in-None-arguments.is)
    (passes_next (c.args.level ∷ []) (c.args.level ∷ const_levels c.args.level c.in-AssocConst.value) c.args.rest.now c.in_ok-rest-in-AssocConst.rest.now c.equal_const.result
    c.in_ok-rest-in-AssocConst.ensures.gives c.equal_const.ensures)

pub argument-returns-in_err-rest-in-Some-arguments : goal.argument-returns-in_err-rest-in-Some-arguments
argument-returns-in_err-rest-in-Some-arguments t c =
    passes_equal _ _ c.args.rest.now c.from_residual-in_err-rest-in-Some-arguments.result (shown (argument_levels c.args.level) argument_view c.in-AssocConst.is (view_GenericArgument-AssocConst _ _ _) ∙
    ap (λ q. c.args.level ∷ (maybe_angle_levels c.args.level (maybe_arguments_view q) ++ c.args.level ∷ const_levels c.args.level c.in-AssocConst.value)) c.in-Some-arguments.is ∙
    ap (λ l. c.args.level ∷ (angle_levels c.args.level (arguments_at (c.args.level + 1) l) c.in-Some-arguments.all.trailing ++ c.args.level ∷ const_levels c.args.level c.in-AssocConst.value)) (sym c.as_slice-in-Some-arguments.ensures))
    (second_stops (c.args.level ∷ []) (angle_levels c.args.level (arguments_at (c.args.level + 1) c.as_slice-in-Some-arguments.result.now) c.in-Some-arguments.all.trailing) (c.args.level ∷ const_levels c.args.level c.in-AssocConst.value) c.args.rest.now c.in_ok-rest-in-AssocConst.rest.now
    c.in_err-rest-in-Some-arguments.field-0.0 c.from_residual-in_err-rest-in-Some-arguments.result c.in_ok-rest-in-AssocConst.ensures.gives c.in_err-rest-in-Some-arguments.ensures c.from_residual-in_err-rest-in-Some-arguments.ensures.1)

pub argument-returns-in_err-rest-in-Constraint : goal.argument-returns-in_err-rest-in-Constraint
argument-returns-in_err-rest-in-Constraint t c =
    passes_equal _ _ c.args.rest.now c.from_residual-in_err-rest-in-Constraint.result (shown (argument_levels c.args.level) argument_view c.in-Constraint.is (view_GenericArgument-Constraint _ _ _))
    (first_stops (c.args.level ∷ []) (maybe_angle_levels c.args.level (maybe_arguments_view c.in-Constraint.arguments) ++ c.args.level ∷ listed_levels c.args.level (bounds_at c.args.level c.in-Constraint.bounds.items) c.in-Constraint.bounds.trailing) c.args.rest.now c.in_err-rest-in-Constraint.field-0.0
    c.from_residual-in_err-rest-in-Constraint.result c.in_err-rest-in-Constraint.ensures.gives c.from_residual-in_err-rest-in-Constraint.ensures.1)

pub argument-returns-in-None-arguments-2 : goal.argument-returns-in-None-arguments-2
argument-returns-in-None-arguments-2 t c =
    passes_equal _ _ c.args.rest.now c.constraint.result (shown (argument_levels c.args.level) argument_view c.in-Constraint.is (view_GenericArgument-Constraint _ _ _) ∙
    ap (λ q. c.args.level ∷ (maybe_angle_levels c.args.level (maybe_arguments_view q) ++ c.args.level ∷ listed_levels c.args.level (bounds_at c.args.level c.in-Constraint.bounds.items) c.in-Constraint.bounds.trailing)) c.in-None-arguments-2.is ∙
    ap (λ l. c.args.level ∷ c.args.level ∷ listed_levels c.args.level (bounds_at c.args.level l) c.in-Constraint.bounds.trailing) (sym c.as_slice-in-None-arguments-2.ensures))
    (passes_next (c.args.level ∷ []) (c.args.level ∷ listed_levels c.args.level (bounds_at c.args.level c.as_slice-in-None-arguments-2.result.now) c.in-Constraint.bounds.trailing) c.args.rest.now c.in_ok-rest-in-Constraint.rest.now c.constraint.result
    c.in_ok-rest-in-Constraint.ensures.gives c.constraint.ensures)

pub argument-returns-in_err-rest-in-Some-arguments-2 : goal.argument-returns-in_err-rest-in-Some-arguments-2
argument-returns-in_err-rest-in-Some-arguments-2 t c =
    passes_equal _ _ c.args.rest.now c.from_residual-in_err-rest-in-Some-arguments-2.result (shown (argument_levels c.args.level) argument_view c.in-Constraint.is (view_GenericArgument-Constraint _ _ _) ∙
    ap (λ q. c.args.level ∷ (maybe_angle_levels c.args.level (maybe_arguments_view q) ++ c.args.level ∷ listed_levels c.args.level (bounds_at c.args.level c.in-Constraint.bounds.items) c.in-Constraint.bounds.trailing)) c.in-Some-arguments-2.is ∙
    ap (λ l. c.args.level ∷ (angle_levels c.args.level (arguments_at (c.args.level + 1) l) c.in-Some-arguments-2.all.trailing ++ c.args.level ∷ listed_levels c.args.level (bounds_at c.args.level c.in-Constraint.bounds.items) c.in-Constraint.bounds.trailing)) (sym c.as_slice-in-Some-arguments-2.ensures))
    (second_stops (c.args.level ∷ []) (angle_levels c.args.level (arguments_at (c.args.level + 1) c.as_slice-in-Some-arguments-2.result.now) c.in-Some-arguments-2.all.trailing) (c.args.level ∷ listed_levels c.args.level (bounds_at c.args.level c.in-Constraint.bounds.items) c.in-Constraint.bounds.trailing) c.args.rest.now c.in_ok-rest-in-Constraint.rest.now
    c.in_err-rest-in-Some-arguments-2.field-0.0 c.from_residual-in_err-rest-in-Some-arguments-2.result c.in_ok-rest-in-Constraint.ensures.gives c.in_err-rest-in-Some-arguments-2.ensures c.from_residual-in_err-rest-in-Some-arguments-2.ensures.1)

pub arguments-returns-in-Absent : goal.arguments-returns-in-Absent
arguments-returns-in-Absent t c =
    ap (λ l. pass l c.args.rest.now) (shown (arguments_levels c.args.level) arguments_view c.in-Absent.is view_PathArguments-Absent)

pub arguments-returns-in_err-rest-in-Angle : goal.arguments-returns-in_err-rest-in-Angle
arguments-returns-in_err-rest-in-Angle t c =
    passes_equal _ _ c.args.rest.now c.from_residual.result (shown (arguments_levels c.args.level) arguments_view c.in-Angle.is (view_PathArguments-Angle _ _))
    (first_stops (given c.in-Angle.colons (two c.args.level)) (angle_levels c.args.level (arguments_at (c.args.level + 1) c.in-Angle.all.items) c.in-Angle.all.trailing) c.args.rest.now c.in_err-rest-in-Angle.field-0.0 c.from_residual.result
    c.in_err-rest-in-Angle.ensures c.from_residual.ensures.1)

pub arguments-returns-in_ok-rest-in-Angle : goal.arguments-returns-in_ok-rest-in-Angle
arguments-returns-in_ok-rest-in-Angle t c =
    passes_equal _ _ c.args.rest.now c.angle.result (shown (arguments_levels c.args.level) arguments_view c.in-Angle.is (view_PathArguments-Angle _ _) ∙ ap (λ l. given c.in-Angle.colons (two c.args.level) ++ angle_levels c.args.level (arguments_at (c.args.level + 1) l) c.in-Angle.all.trailing) (sym c.as_slice.ensures))
    (passes_next (given c.in-Angle.colons (two c.args.level)) (angle_levels c.args.level (arguments_at (c.args.level + 1) c.as_slice.result.now) c.in-Angle.all.trailing) c.args.rest.now c.in_ok-rest-in-Angle.rest.now c.angle.result
    c.in_ok-rest-in-Angle.ensures c.angle.ensures)

pub arguments-returns-in_err-rest-in-Paren : goal.arguments-returns-in_err-rest-in-Paren
arguments-returns-in_err-rest-in-Paren t c =
    passes_equal _ _ c.args.rest.now c.from_residual-in_err-rest-in-Paren.result (shown (arguments_levels c.args.level) arguments_view c.in-Paren.is (view_PathArguments-Paren _ _) ∙
    ap (λ l. grouped_levels c.args.level (listed_levels (c.args.level + 1) (types_at (c.args.level + 1) l) c.in-Paren.all.trailing) ++ output_levels c.args.level (c.args.level + 1) (maybe_ty_view c.in-Paren.output)) (sym c.as_slice-in-Paren.ensures))
    (first_stops (grouped_levels c.args.level (listed_levels (c.args.level + 1) (types_at (c.args.level + 1) c.as_slice-in-Paren.result.now) c.in-Paren.all.trailing)) (output_levels c.args.level (c.args.level + 1) (maybe_ty_view c.in-Paren.output)) c.args.rest.now c.in_err-rest-in-Paren.field-0.0
    c.from_residual-in_err-rest-in-Paren.result c.in_err-rest-in-Paren.ensures c.from_residual-in_err-rest-in-Paren.ensures.1)

pub arguments-returns-in-Some : goal.arguments-returns-in-Some
arguments-returns-in-Some t c =
    passes_equal _ _ c.args.rest.now c.path_output.result (shown (arguments_levels c.args.level) arguments_view c.in-Paren.is (view_PathArguments-Paren _ _) ∙
    ap (λ l. grouped_levels c.args.level (listed_levels (c.args.level + 1) (types_at (c.args.level + 1) l) c.in-Paren.all.trailing) ++ output_levels c.args.level (c.args.level + 1) (maybe_ty_view c.in-Paren.output)) (sym c.as_slice-in-Paren.ensures))
    (passes_next (grouped_levels c.args.level (listed_levels (c.args.level + 1) (types_at (c.args.level + 1) c.as_slice-in-Paren.result.now) c.in-Paren.all.trailing)) (output_levels c.args.level (c.args.level + 1) (maybe_ty_view c.in-Paren.output)) c.args.rest.now c.in_ok-rest-in-Paren.rest.now c.path_output.result
    c.in_ok-rest-in-Paren.ensures (passes_equal _ _ c.in_ok-rest-in-Paren.rest.now c.path_output.result (ap (λ q. output_levels c.args.level (c.args.level + 1) (maybe_ty_view q)) c.in-Some.is ∙
    ap (λ (y : Ty). output_levels c.args.level (c.args.level + 1) (tree.some_type (ty_view y))) (sym c.deref.ensures)) c.path_output.ensures))

pub arguments-returns-in-None : goal.arguments-returns-in-None
arguments-returns-in-None t c =
    ap (λ l. pass l c.args.rest.now) (shown (arguments_levels c.args.level) arguments_view c.in-Paren.is (view_PathArguments-Paren _ _) ∙
    ap (λ l. grouped_levels c.args.level (listed_levels (c.args.level + 1) (types_at (c.args.level + 1) l) c.in-Paren.all.trailing) ++ output_levels c.args.level (c.args.level + 1) (maybe_ty_view c.in-Paren.output)) (sym c.as_slice-in-Paren.ensures)) ∙
    pass_last (grouped_levels c.args.level (listed_levels (c.args.level + 1) (types_at (c.args.level + 1) c.as_slice-in-Paren.result.now) c.in-Paren.all.trailing)) (output_levels c.args.level (c.args.level + 1) (maybe_ty_view c.in-Paren.output)) c.args.rest.now c.in_ok-rest-in-Paren.rest.now c.in_ok-rest-in-Paren.ensures
    (ap (λ q. output_levels c.args.level (c.args.level + 1) (maybe_ty_view q)) c.in-None.is)

pub function-returns-in_err-rest : goal.function-returns-in_err-rest
function-returns-in_err-rest t c =
    fn_front_fails c.args.level c.args.found.now c.args.rest.now c.in_err-rest.field-0.0 c.from_residual.result
    c.in_err-rest.ensures c.from_residual.ensures.1

pub function-returns-in_err-rest-2 : goal.function-returns-in_err-rest-2
function-returns-in_err-rest-2 t c =
    fn_word_fails c.args.level c.args.found.now c.args.rest.now c.in_ok-rest.rest.now c.in_err-rest-2.field-0.0 c.from_residual-in_err-rest-2.result
    c.in_ok-rest.ensures c.in_err-rest-2.ensures.gives c.from_residual-in_err-rest-2.ensures.1

pub function-returns-in-None : goal.function-returns-in-None
function-returns-in-None t c =
    fn_alone c.args.level c.args.found.now c.as_slice.result.now c.args.rest.now c.in_ok-rest.rest.now c.in_ok-rest-2.rest.now c.in_ok-rest-3.rest.now
    c.as_slice.ensures c.in-None.is c.in_ok-rest.ensures c.in_ok-rest-2.ensures.gives c.in_ok-rest-3.ensures

pub as_trait-returns-then-position-eq0 : goal.as_trait-returns-then-position-eq0
as_trait-returns-then-position-eq0 t c =
    ap (λ n. pass (as_levels c.args.level n c.args.leading_colon (segments_at c.args.level c.args.all.now)) c.args.rest.now) c.if-position-eq0.true

pub as_trait-returns-in_err-rest : goal.as_trait-returns-in_err-rest
as_trait-returns-in_err-rest t c =
    passes_equal _ _ c.args.rest.now c.from_residual.result (ap (λ b. cond b [] (c.args.level ∷ (given c.args.leading_colon (two c.args.level) ++ spaced_levels (two c.args.level) true (take c.args.position (segments_at c.args.level c.args.all.now))))) (ne_eqb c.args.position 0 c.if-position-eq0.false))
    (first_stops (c.args.level ∷ []) (given c.args.leading_colon (two c.args.level) ++ spaced_levels (two c.args.level) true (take c.args.position (segments_at c.args.level c.args.all.now))) c.args.rest.now c.in_err-rest.field-0.0 c.from_residual.result
    c.in_err-rest.ensures.gives c.from_residual.ensures.1)

pub as_trait-returns-in_err-rest-2 : goal.as_trait-returns-in_err-rest-2
as_trait-returns-in_err-rest-2 t c =
    passes_equal _ _ c.args.rest.now c.from_residual-in_err-rest-2.result (ap (λ b. cond b [] (c.args.level ∷ (given c.args.leading_colon (two c.args.level) ++ spaced_levels (two c.args.level) true (take c.args.position (segments_at c.args.level c.args.all.now))))) (ne_eqb c.args.position 0 c.if-position-eq0.false))
    (second_stops (c.args.level ∷ []) (given c.args.leading_colon (two c.args.level)) (spaced_levels (two c.args.level) true (take c.args.position (segments_at c.args.level c.args.all.now))) c.args.rest.now c.in_ok-rest.rest.now c.in_err-rest-2.field-0.0 c.from_residual-in_err-rest-2.result
    c.in_ok-rest.ensures.gives c.in_err-rest-2.ensures c.from_residual-in_err-rest-2.ensures.1)

pub as_trait-returns : goal.as_trait-returns
as_trait-returns t c =
    passes_equal _ _ c.args.rest.now c.first.result (ap (λ b. cond b [] (c.args.level ∷ (given c.args.leading_colon (two c.args.level) ++ spaced_levels (two c.args.level) true (take c.args.position (segments_at c.args.level c.args.all.now))))) (ne_eqb c.args.position 0 c.if-position-eq0.false))
    (third_passes (c.args.level ∷ []) (given c.args.leading_colon (two c.args.level)) (spaced_levels (two c.args.level) true (take c.args.position (segments_at c.args.level c.args.all.now))) c.args.rest.now c.in_ok-rest.rest.now c.in_ok-rest-2.rest.now c.first.result
    c.in_ok-rest.ensures.gives c.in_ok-rest-2.ensures c.first.ensures)

pub self_type-returns-in_err-rest-clause-gives : goal.self_type-returns-in_err-rest-clause-gives
self_type-returns-in_err-rest-clause-gives t c =
    first_stops (c.args.level ∷ []) (type_levels (c.args.level + 1) (ty_view c.args.qself.now.ty)) c.args.rest.now c.in_err-rest.field-0.0 c.from_residual.result
    c.in_err-rest.ensures.gives c.from_residual.ensures.1

pub self_type-returns-clause-gives : goal.self_type-returns-clause-gives
self_type-returns-clause-gives t c =
    passes_next (c.args.level ∷ []) (type_levels (c.args.level + 1) (ty_view c.args.qself.now.ty)) c.args.rest.now c.in_ok-rest.rest.now c.ty.result c.in_ok-rest.ensures.gives c.ty.ensures
