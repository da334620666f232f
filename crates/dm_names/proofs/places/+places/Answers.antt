use Rattle.std.proofs.Common.{◌++◌, map, option_map, refl, sym, ap, ◌∙◌}
use Rattle.dm_ast.specs.declared.ty.Bound.TheViews.{out-BareFn, out-TraitBound}
use Rattle.dm_ast.specs.Tree.{types_of, bounds_of, inputs_of, segments_of, arguments_of, maybe_type, maybe_ty_view, maybe_self_view, maybe_arguments_view, ty_view, node_view, fn_view, input_view, bound_view, path_view, segment_view, arguments_view, argument_view}
use Rattle.dm_ast.proofs.View.{view_TyNode-Paren, view_TyNode-Tuple, view_TyNode-Slice, view_TyNode-Array, view_TyNode-Reference, view_TyNode-Pointer, view_TyNode-BareFn, view_TyNode-TraitObject, view_TyNode-ImplTrait, view_TyNode-Infer, view_TyNode-Never, view_TyNode-Path, view_TyNode-Macro, view_Bound-Lifetime, view_Bound-Trait, view_PathArguments-Absent, view_PathArguments-Angle, view_PathArguments-Paren, view_GenericArgument-Lifetime, view_GenericArgument-Ty, view_GenericArgument-Const, view_GenericArgument-AssocTy, view_GenericArgument-AssocConst, view_GenericArgument-Constraint, view-Ty, view-PathSegment, view-FnArg, view-Path, view-TraitBound, view-BareFn, view-some_self}
use Rattle.dm_names.specs.NamePlaces.{first_place}
use Rattle.dm_names.proofs.PlaceSteps.{in_both, in_first, in_second, viewed, shown, found, goes_on, not_found}
use Rattle.dm_ast.specs.Names as names
use Rattle.dm_names.proofs.places.+places.Goals as goal

pub in_type-returns : goal.in_type-returns
in_type-returns t c =
    viewed (λ z. first_place c.args.wanted (names.in_type z)) (view-Ty c.args.ty.now) c.in_node.ensures

pub in_node-returns-in-Paren : goal.in_node-returns-in-Paren
in_node-returns-in-Paren t c =
    shown (λ z. first_place c.args.wanted (names.in_node z c.args.span)) node_view c.in-Paren.is (view_TyNode-Paren _)
    (c.in_type.ensures ∙ ap (λ z. first_place c.args.wanted (names.in_type (ty_view z))) c.deref.ensures)

pub in_node-returns-in-Slice : goal.in_node-returns-in-Slice
in_node-returns-in-Slice t c =
    shown (λ z. first_place c.args.wanted (names.in_node z c.args.span)) node_view c.in-Slice.is (view_TyNode-Slice _)
    (c.in_type-in-Slice.ensures ∙ ap (λ z. first_place c.args.wanted (names.in_type (ty_view z))) c.deref-in-Slice.ensures)

pub in_node-returns-in-Array : goal.in_node-returns-in-Array
in_node-returns-in-Array t c =
    shown (λ z. first_place c.args.wanted (names.in_node z c.args.span)) node_view c.in-Array.is (view_TyNode-Array _ _)
    (c.in_type-in-Array.ensures ∙ ap (λ z. first_place c.args.wanted (names.in_type (ty_view z))) c.deref-in-Array.ensures)

pub in_node-returns-in-Reference : goal.in_node-returns-in-Reference
in_node-returns-in-Reference t c =
    shown (λ z. first_place c.args.wanted (names.in_node z c.args.span)) node_view c.in-Reference.is (view_TyNode-Reference _ _ _)
    (c.in_type-in-Reference.ensures ∙ ap (λ z. first_place c.args.wanted (names.in_type (ty_view z))) c.deref-in-Reference.ensures)

pub in_node-returns-in-Pointer : goal.in_node-returns-in-Pointer
in_node-returns-in-Pointer t c =
    shown (λ z. first_place c.args.wanted (names.in_node z c.args.span)) node_view c.in-Pointer.is (view_TyNode-Pointer _ _)
    (c.in_type-in-Pointer.ensures ∙ ap (λ z. first_place c.args.wanted (names.in_type (ty_view z))) c.deref-in-Pointer.ensures)

pub in_node-returns-in-Tuple : goal.in_node-returns-in-Tuple
in_node-returns-in-Tuple t c =
    shown (λ z. first_place c.args.wanted (names.in_node z c.args.span)) node_view c.in-Tuple.is (view_TyNode-Tuple _)
    (c.in_types.ensures ∙ ap (λ z. first_place c.args.wanted (names.in_types (types_of (map ty_view z)))) c.as_slice.ensures)

pub in_node-returns-in-BareFn : goal.in_node-returns-in-BareFn
in_node-returns-in-BareFn t c =
    shown (λ z. first_place c.args.wanted (names.in_node z c.args.span)) node_view c.in-BareFn.is (view_TyNode-BareFn _)
    (c.in_function.ensures ∙ ap (λ z. first_place c.args.wanted (names.in_function (fn_view z))) c.deref-in-BareFn.ensures)

pub in_node-returns-in-TraitObject : goal.in_node-returns-in-TraitObject
in_node-returns-in-TraitObject t c =
    shown (λ z. first_place c.args.wanted (names.in_node z c.args.span)) node_view c.in-TraitObject.is (view_TyNode-TraitObject _)
    (c.in_bounds.ensures ∙ ap (λ z. first_place c.args.wanted (names.in_bounds (bounds_of (map bound_view z)))) c.as_slice-in-TraitObject.ensures)

pub in_node-returns-in-ImplTrait : goal.in_node-returns-in-ImplTrait
in_node-returns-in-ImplTrait t c =
    shown (λ z. first_place c.args.wanted (names.in_node z c.args.span)) node_view c.in-ImplTrait.is (view_TyNode-ImplTrait _)
    (c.in_bounds-in-ImplTrait.ensures ∙ ap (λ z. first_place c.args.wanted (names.in_bounds (bounds_of (map bound_view z)))) c.as_slice-in-ImplTrait.ensures)

pub in_node-returns-in-Infer : goal.in_node-returns-in-Infer
in_node-returns-in-Infer t c =
    shown (λ z. first_place c.args.wanted (names.in_node z c.args.span)) node_view c.in-Infer.is view_TyNode-Infer refl

pub in_node-returns-in-Never : goal.in_node-returns-in-Never
in_node-returns-in-Never t c =
    shown (λ z. first_place c.args.wanted (names.in_node z c.args.span)) node_view c.in-Never.is view_TyNode-Never refl

pub in_node-returns-in-Macro : goal.in_node-returns-in-Macro
in_node-returns-in-Macro t c =
    shown (λ z. first_place c.args.wanted (names.in_node z c.args.span)) node_view c.in-Macro.is (view_TyNode-Macro _ _ _) c.macro_place.ensures

pub in_node-returns-in-None : goal.in_node-returns-in-None
in_node-returns-in-None t c =
    shown (λ z. first_place c.args.wanted (names.in_node z c.args.span)) node_view c.in-Path.is (view_TyNode-Path _ _)
    (in_second c.args.wanted (names.in_self (maybe_self_view c.in-Path.qself)) (names.in_path (path_view c.in-Path.path))
    (ap (λ z. names.in_self (maybe_self_view z)) c.in-None.is) c.in_path.ensures)

pub in_node-returns-in-Some : goal.in_node-returns-in-Some
in_node-returns-in-Some t c =
    shown (λ z. first_place c.args.wanted (names.in_node z c.args.span)) node_view c.in-Path.is (view_TyNode-Path _ _)
    (c.or.ensures ∙ in_both c.args.wanted (names.in_self (maybe_self_view c.in-Path.qself)) (names.in_path (path_view c.in-Path.path))
    (c.in_self.ensures ∙ ap (λ z. first_place c.args.wanted (names.in_type (ty_view z.ty))) c.deref-in-Some.ensures ∙ sym
    (ap (λ z. first_place c.args.wanted (names.in_self (maybe_self_view z))) c.in-Some.is ∙ ap (λ z. first_place c.args.wanted (names.in_self z))
    (view-some_self c.in-Some.qself))) c.in_path-in-Some.ensures)

pub in_self-returns : goal.in_self-returns
in_self-returns t c =
    c.in_type.ensures

pub in_types-loop-item-init : goal.in_types-loop-item-init
in_types-loop-item-init t c =
    refl

pub in_types-returns-in-Some : goal.in_types-returns-in-Some
in_types-returns-in-Some t c =
    found c.args.wanted (λ z. names.in_type (ty_view z)) (λ z. names.in_types (types_of (map ty_view z))) (λ y ys. refl) c.args.all.now c.item-item.result
    c.loop-item.item-index c.loop-item-test.true c.item-item.is c.loop-item.invariant c.in_type.result c.in-Some.span c.in_type.ensures c.in-Some.is

pub in_types-loop-item-preserved : goal.in_types-loop-item-preserved
in_types-loop-item-preserved t c =
    goes_on c.args.wanted (λ z. names.in_type (ty_view z)) (λ z. names.in_types (types_of (map ty_view z))) (λ y ys. refl) c.args.all.now c.item-item.result
    c.loop-item.item-index c.loop-item-test.true c.item-item.is c.loop-item.invariant c.in_type.result c.in_type.ensures c.in_default.is

pub in_types-returns : goal.in_types-returns
in_types-returns t c =
    not_found c.args.wanted (λ z. names.in_types (types_of (map ty_view z))) c.args.all.now c.loop-item.item-index c.loop-item-test.false refl
    c.loop-item.invariant

pub in_function-returns-in-None : goal.in_function-returns-in-None
in_function-returns-in-None t c =
    viewed (λ z. first_place c.args.wanted (names.in_function z)) (view-BareFn c.args.function.now)
    (c.or.ensures ∙ in_both c.args.wanted (names.in_for (out-BareFn c.args.function.now).lifetimes)
    (names.in_inputs (inputs_of (map input_view (out-BareFn c.args.function.now).inputs.items)) ++ names.in_output
    (maybe_type (option_map ty_view (out-BareFn c.args.function.now).output))) c.in_for-lifetimes.ensures
    (in_first c.args.wanted (names.in_inputs (inputs_of (map input_view (out-BareFn c.args.function.now).inputs.items)))
    (names.in_output (maybe_type (option_map ty_view (out-BareFn c.args.function.now).output)))
    (c.in_inputs-inputs.ensures ∙ ap (λ z. first_place c.args.wanted (names.in_inputs (inputs_of (map input_view z)))) c.as_slice.ensures)
    (ap (λ z. names.in_output (maybe_type (option_map ty_view z))) c.in-None.is)))

pub in_function-returns-in-Some : goal.in_function-returns-in-Some
in_function-returns-in-Some t c =
    viewed (λ z. first_place c.args.wanted (names.in_function z)) (view-BareFn c.args.function.now)
    (c.or-in-Some-2.ensures ∙ in_both c.args.wanted (names.in_for (out-BareFn c.args.function.now).lifetimes)
    (names.in_inputs (inputs_of (map input_view (out-BareFn c.args.function.now).inputs.items)) ++ names.in_output
    (maybe_type (option_map ty_view (out-BareFn c.args.function.now).output))) c.in_for-lifetimes.ensures
    (c.or-in-Some.ensures ∙ in_both c.args.wanted (names.in_inputs (inputs_of (map input_view (out-BareFn c.args.function.now).inputs.items)))
    (names.in_output (maybe_type (option_map ty_view (out-BareFn c.args.function.now).output)))
    (c.in_inputs-inputs.ensures ∙ ap (λ z. first_place c.args.wanted (names.in_inputs (inputs_of (map input_view z)))) c.as_slice.ensures)
    (c.in_type.ensures ∙ sym (ap (λ z. first_place c.args.wanted (names.in_output (maybe_type (option_map ty_view z)))) c.in-Some.is))))

pub in_inputs-loop-item-init : goal.in_inputs-loop-item-init
in_inputs-loop-item-init t c =
    refl

pub in_inputs-returns-in-Some : goal.in_inputs-returns-in-Some
in_inputs-returns-in-Some t c =
    found c.args.wanted (λ z. names.in_input (input_view z)) (λ z. names.in_inputs (inputs_of (map input_view z))) (λ y ys. refl) c.args.all.now
    c.item-item.result c.loop-item.item-index c.loop-item-test.true c.item-item.is c.loop-item.invariant c.in_input.result c.in-Some.span c.in_input.ensures
    c.in-Some.is

pub in_inputs-loop-item-preserved : goal.in_inputs-loop-item-preserved
in_inputs-loop-item-preserved t c =
    goes_on c.args.wanted (λ z. names.in_input (input_view z)) (λ z. names.in_inputs (inputs_of (map input_view z))) (λ y ys. refl) c.args.all.now
    c.item-item.result c.loop-item.item-index c.loop-item-test.true c.item-item.is c.loop-item.invariant c.in_input.result c.in_input.ensures c.in_default.is

pub in_inputs-returns : goal.in_inputs-returns
in_inputs-returns t c =
    not_found c.args.wanted (λ z. names.in_inputs (inputs_of (map input_view z))) c.args.all.now c.loop-item.item-index c.loop-item-test.false refl
    c.loop-item.invariant

pub in_input-returns : goal.in_input-returns
in_input-returns t c =
    viewed (λ z. first_place c.args.wanted (names.in_input z)) (view-FnArg c.args.input.now) c.in_type.ensures

pub in_bounds-loop-item-init : goal.in_bounds-loop-item-init
in_bounds-loop-item-init t c =
    refl

pub in_bounds-returns-in-Some : goal.in_bounds-returns-in-Some
in_bounds-returns-in-Some t c =
    found c.args.wanted (λ z. names.in_bound (bound_view z)) (λ z. names.in_bounds (bounds_of (map bound_view z))) (λ y ys. refl) c.args.all.now
    c.item-item.result c.loop-item.item-index c.loop-item-test.true c.item-item.is c.loop-item.invariant c.in_bound.result c.in-Some.span c.in_bound.ensures
    c.in-Some.is

pub in_bounds-loop-item-preserved : goal.in_bounds-loop-item-preserved
in_bounds-loop-item-preserved t c =
    goes_on c.args.wanted (λ z. names.in_bound (bound_view z)) (λ z. names.in_bounds (bounds_of (map bound_view z))) (λ y ys. refl) c.args.all.now
    c.item-item.result c.loop-item.item-index c.loop-item-test.true c.item-item.is c.loop-item.invariant c.in_bound.result c.in_bound.ensures c.in_default.is

pub in_bounds-returns : goal.in_bounds-returns
in_bounds-returns t c =
    not_found c.args.wanted (λ z. names.in_bounds (bounds_of (map bound_view z))) c.args.all.now c.loop-item.item-index c.loop-item-test.false refl
    c.loop-item.invariant

pub in_bound-returns-in-Lifetime : goal.in_bound-returns-in-Lifetime
in_bound-returns-in-Lifetime t c =
    shown (λ z. first_place c.args.wanted (names.in_bound z)) bound_view c.in-Lifetime.is (view_Bound-Lifetime _) refl

pub in_bound-returns-in-Trait : goal.in_bound-returns-in-Trait
in_bound-returns-in-Trait t c =
    shown (λ z. first_place c.args.wanted (names.in_bound z)) bound_view c.in-Trait.is (view_Bound-Trait _) c.in_trait.ensures

pub in_trait-returns : goal.in_trait-returns
in_trait-returns t c =
    viewed (λ z. first_place c.args.wanted (names.in_trait z)) (view-TraitBound c.args.bound.now)
    (c.or.ensures ∙ in_both c.args.wanted (names.in_for (out-TraitBound c.args.bound.now).lifetimes)
    (names.in_path (path_view (out-TraitBound c.args.bound.now).path)) c.in_for.ensures c.in_path.ensures)

pub in_path-returns : goal.in_path-returns
in_path-returns t c =
    viewed (λ z. first_place c.args.wanted (names.in_path z)) (view-Path c.args.path.now)
    (c.in_segments.ensures ∙ ap (λ z. first_place c.args.wanted (names.in_segments (segments_of (map segment_view z)))) c.as_slice.ensures)

pub in_segments-loop-item-init : goal.in_segments-loop-item-init
in_segments-loop-item-init t c =
    refl

pub in_segments-returns-in-Some : goal.in_segments-returns-in-Some
in_segments-returns-in-Some t c =
    found c.args.wanted (λ z. names.in_segment (segment_view z)) (λ z. names.in_segments (segments_of (map segment_view z))) (λ y ys. refl) c.args.all.now
    c.item-item.result c.loop-item.item-index c.loop-item-test.true c.item-item.is c.loop-item.invariant c.in_segment.result c.in-Some.span
    c.in_segment.ensures c.in-Some.is

pub in_segments-loop-item-preserved : goal.in_segments-loop-item-preserved
in_segments-loop-item-preserved t c =
    goes_on c.args.wanted (λ z. names.in_segment (segment_view z)) (λ z. names.in_segments (segments_of (map segment_view z))) (λ y ys. refl) c.args.all.now
    c.item-item.result c.loop-item.item-index c.loop-item-test.true c.item-item.is c.loop-item.invariant c.in_segment.result c.in_segment.ensures
    c.in_default.is

pub in_segments-returns : goal.in_segments-returns
in_segments-returns t c =
    not_found c.args.wanted (λ z. names.in_segments (segments_of (map segment_view z))) c.args.all.now c.loop-item.item-index c.loop-item-test.false refl
    c.loop-item.invariant

pub in_segment-returns : goal.in_segment-returns
in_segment-returns t c =
    viewed (λ z. first_place c.args.wanted (names.in_segment z)) (view-PathSegment c.args.segment.now) c.in_segment_arguments.ensures

pub in_segment_arguments-returns-in-Absent : goal.in_segment_arguments-returns-in-Absent
in_segment_arguments-returns-in-Absent t c =
    shown (λ z. first_place c.args.wanted (names.in_segment_arguments z)) arguments_view c.in-Absent.is view_PathArguments-Absent refl

pub in_segment_arguments-returns-in-Angle : goal.in_segment_arguments-returns-in-Angle
in_segment_arguments-returns-in-Angle t c =
    shown (λ z. first_place c.args.wanted (names.in_segment_arguments z)) arguments_view c.in-Angle.is (view_PathArguments-Angle _ _)
    (c.in_arguments.ensures ∙ ap (λ z. first_place c.args.wanted (names.in_arguments (arguments_of (map argument_view z)))) c.as_slice.ensures)

pub in_segment_arguments-returns-in-None : goal.in_segment_arguments-returns-in-None
in_segment_arguments-returns-in-None t c =
    shown (λ z. first_place c.args.wanted (names.in_segment_arguments z)) arguments_view c.in-Paren.is (view_PathArguments-Paren _ _)
    (in_first c.args.wanted (names.in_types (types_of (map ty_view c.in-Paren.all.items))) (names.in_output (maybe_ty_view c.in-Paren.output))
    (c.in_types-types.ensures ∙ ap (λ z. first_place c.args.wanted (names.in_types (types_of (map ty_view z)))) c.as_slice-in-Paren.ensures)
    (ap (λ z. names.in_output (maybe_ty_view z)) c.in-None.is))

pub in_segment_arguments-returns-in-Some : goal.in_segment_arguments-returns-in-Some
in_segment_arguments-returns-in-Some t c =
    shown (λ z. first_place c.args.wanted (names.in_segment_arguments z)) arguments_view c.in-Paren.is (view_PathArguments-Paren _ _)
    (c.or.ensures ∙ in_both c.args.wanted (names.in_types (types_of (map ty_view c.in-Paren.all.items))) (names.in_output (maybe_ty_view c.in-Paren.output))
    (c.in_types-types.ensures ∙ ap (λ z. first_place c.args.wanted (names.in_types (types_of (map ty_view z)))) c.as_slice-in-Paren.ensures)
    (c.in_type.ensures ∙ ap (λ z. first_place c.args.wanted (names.in_type (ty_view z))) c.deref.ensures ∙ sym
    (ap (λ z. first_place c.args.wanted (names.in_output (maybe_ty_view z))) c.in-Some.is)))

pub in_arguments-loop-item-init : goal.in_arguments-loop-item-init
in_arguments-loop-item-init t c =
    refl

pub in_arguments-returns-in-Some : goal.in_arguments-returns-in-Some
in_arguments-returns-in-Some t c =
    found c.args.wanted (λ z. names.in_argument (argument_view z)) (λ z. names.in_arguments (arguments_of (map argument_view z))) (λ y ys. refl) c.args.all.now
    c.item-item.result c.loop-item.item-index c.loop-item-test.true c.item-item.is c.loop-item.invariant c.in_argument.result c.in-Some.span
    c.in_argument.ensures c.in-Some.is

pub in_arguments-loop-item-preserved : goal.in_arguments-loop-item-preserved
in_arguments-loop-item-preserved t c =
    goes_on c.args.wanted (λ z. names.in_argument (argument_view z)) (λ z. names.in_arguments (arguments_of (map argument_view z))) (λ y ys. refl)
    c.args.all.now c.item-item.result c.loop-item.item-index c.loop-item-test.true c.item-item.is c.loop-item.invariant c.in_argument.result
    c.in_argument.ensures c.in_default.is

pub in_arguments-returns : goal.in_arguments-returns
in_arguments-returns t c =
    not_found c.args.wanted (λ z. names.in_arguments (arguments_of (map argument_view z))) c.args.all.now c.loop-item.item-index c.loop-item-test.false refl
    c.loop-item.invariant

pub in_argument-returns-in-Lifetime : goal.in_argument-returns-in-Lifetime
in_argument-returns-in-Lifetime t c =
    shown (λ z. first_place c.args.wanted (names.in_argument z)) argument_view c.in-Lifetime.is (view_GenericArgument-Lifetime _) refl

pub in_argument-returns-in-Const : goal.in_argument-returns-in-Const
in_argument-returns-in-Const t c =
    shown (λ z. first_place c.args.wanted (names.in_argument z)) argument_view c.in-Const.is (view_GenericArgument-Const _) refl

pub in_argument-returns-in-Ty : goal.in_argument-returns-in-Ty
in_argument-returns-in-Ty t c =
    shown (λ z. first_place c.args.wanted (names.in_argument z)) argument_view c.in-Ty.is (view_GenericArgument-Ty _) c.in_type.ensures

pub in_argument-returns-in-None : goal.in_argument-returns-in-None
in_argument-returns-in-None t c =
    shown (λ z. first_place c.args.wanted (names.in_argument z)) argument_view c.in-AssocTy.is (view_GenericArgument-AssocTy _ _ _)
    (in_second c.args.wanted (names.in_maybe_arguments (maybe_arguments_view c.in-AssocTy.arguments)) (names.in_type (ty_view c.in-AssocTy.ty))
    (ap (λ z. names.in_maybe_arguments (maybe_arguments_view z)) c.in-None.is) c.in_type-in-None.ensures)

pub in_argument-returns-in-Some : goal.in_argument-returns-in-Some
in_argument-returns-in-Some t c =
    shown (λ z. first_place c.args.wanted (names.in_argument z)) argument_view c.in-AssocTy.is (view_GenericArgument-AssocTy _ _ _)
    (c.or.ensures ∙ in_both c.args.wanted (names.in_maybe_arguments (maybe_arguments_view c.in-AssocTy.arguments)) (names.in_type (ty_view c.in-AssocTy.ty))
    (c.in_arguments.ensures ∙ ap (λ z. first_place c.args.wanted (names.in_arguments (arguments_of (map argument_view z)))) c.as_slice.ensures ∙ sym
    (ap (λ z. first_place c.args.wanted (names.in_maybe_arguments (maybe_arguments_view z))) c.in-Some.is)) c.in_type-in-Some.ensures)

pub in_argument-returns-in-None-arguments : goal.in_argument-returns-in-None-arguments
in_argument-returns-in-None-arguments t c =
    shown (λ z. first_place c.args.wanted (names.in_argument z)) argument_view c.in-AssocConst.is (view_GenericArgument-AssocConst _ _ _)
    (sym (ap (λ z. first_place c.args.wanted (names.in_maybe_arguments (maybe_arguments_view z))) c.in-None-arguments.is))

pub in_argument-returns-in-Some-arguments : goal.in_argument-returns-in-Some-arguments
in_argument-returns-in-Some-arguments t c =
    shown (λ z. first_place c.args.wanted (names.in_argument z)) argument_view c.in-AssocConst.is (view_GenericArgument-AssocConst _ _ _)
    (c.in_arguments-in-Some-arguments.ensures ∙ ap (λ z. first_place c.args.wanted (names.in_arguments (arguments_of (map argument_view z))))
    c.as_slice-in-Some-arguments.ensures ∙ sym (ap (λ z. first_place c.args.wanted (names.in_maybe_arguments (maybe_arguments_view z))) c.in-Some-arguments.is))

pub in_argument-returns-in-None-arguments-2 : goal.in_argument-returns-in-None-arguments-2
in_argument-returns-in-None-arguments-2 t c =
    shown (λ z. first_place c.args.wanted (names.in_argument z)) argument_view c.in-Constraint.is (view_GenericArgument-Constraint _ _ _)
    (in_second c.args.wanted (names.in_maybe_arguments (maybe_arguments_view c.in-Constraint.arguments))
    (names.in_bounds (bounds_of (map bound_view c.in-Constraint.bounds.items)))
    (ap (λ z. names.in_maybe_arguments (maybe_arguments_view z)) c.in-None-arguments-2.is)
    (c.in_bounds-bounded.ensures ∙ ap (λ z. first_place c.args.wanted (names.in_bounds (bounds_of (map bound_view z)))) c.as_slice-in-Constraint.ensures))

pub in_argument-returns-in-Some-arguments-2 : goal.in_argument-returns-in-Some-arguments-2
in_argument-returns-in-Some-arguments-2 t c =
    shown (λ z. first_place c.args.wanted (names.in_argument z)) argument_view c.in-Constraint.is (view_GenericArgument-Constraint _ _ _)
    (c.or-in-Some-arguments-2.ensures ∙ in_both c.args.wanted (names.in_maybe_arguments (maybe_arguments_view c.in-Constraint.arguments))
    (names.in_bounds (bounds_of (map bound_view c.in-Constraint.bounds.items)))
    (c.in_arguments-in-Some-arguments-2.ensures ∙ ap (λ z. first_place c.args.wanted (names.in_arguments (arguments_of (map argument_view z))))
    c.as_slice-in-Some-arguments-2.ensures ∙ sym (ap (λ z. first_place c.args.wanted (names.in_maybe_arguments (maybe_arguments_view z)))
    c.in-Some-arguments-2.is)) (c.in_bounds-bounded.ensures ∙ ap (λ z. first_place c.args.wanted (names.in_bounds (bounds_of (map bound_view z))))
    c.as_slice-in-Constraint.ensures))
