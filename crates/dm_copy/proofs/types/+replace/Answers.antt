use Rattle.std.proofs.Common.{map, Some, option_map, refl, sym, ap, ◌∙◌}
use Rattle.std.proofs.lemmas.Result.{IfOk-at_ok}
use Rattle.std.specs.Prelude.{option_copied}
use Rattle.dm_ast.specs.Tree.{no_type, some_type, arguments_absent, maybe_ty_view, ty_view, node_view, bound_view, fn_view, input_view, path_view, segment_view, argument_view, arguments_view}
use Rattle.dm_ast.specs.declared.ty.Bound.TheViews.{out-BareFn}
use Rattle.dm_copy.specs.Segments.{own_segment}
use Rattle.dm_copy.specs.Replaced.{replaced_type, replaced_input}
use Rattle.dm_copy.proofs.Copies.{shown_as}
use Rattle.dm_copy.proofs.Known.{boxed_known, both_known, some_known, list_known, option_known, options_known, listed_known}
use Rattle.dm_copy.proofs.Replacing.{each_more}
use Rattle.dm_copy.proofs.Shown.{some_arguments_known, no_boxed, no_arguments, boxed_shown, arguments_shown, paren_shown, tuple_shown, slice_shown, array_shown, reference_shown, pointer_shown, bare_fn_shown, trait_object_shown, impl_trait_shown, infer_shown, never_shown, macro_shown, path_shown, qualified_shown, outlives_shown, trait_shown, ty_shown, segments_shown, self_shown, segment_shown, absent_shown, input_shown, function_shown, angle_shown, parens_shown, lifetime_shown, const_shown, type_shown, assoc_ty_shown, assoc_const_shown, constraint_shown}
use Rattle.dm_copy.proofs.types.+replace.Goals as goal

-- ---- types

pub replaced_ty-returns : goal.replaced_ty-returns
replaced_ty-returns t c = shown_as _ ty_view _ _ (ty_shown _ c.args.ty.now) (c.ty_of.ensures _ c.replaced_node.ensures)

pub replaced_node-returns-in_ok-boxed-in-Paren : goal.replaced_node-returns-in_ok-boxed-in-Paren
replaced_node-returns-in_ok-boxed-in-Paren t c =
    paren_shown _ _ _ _ _ c.in-Paren.is c.deref.ensures (IfOk-at_ok _ c.in_ok-boxed-in-Paren.ensures c.replaced_ty.ensures)

pub replaced_node-returns-in_ok-all-in-Tuple : goal.replaced_node-returns-in_ok-all-in-Tuple
replaced_node-returns-in_ok-all-in-Tuple t c =
    tuple_shown _ _ _ _ _ c.in-Tuple.is c.as_slice.ensures c.in_ok-all-in-Tuple.ensures

pub replaced_node-returns-in_ok-boxed-in-Slice : goal.replaced_node-returns-in_ok-boxed-in-Slice
replaced_node-returns-in_ok-boxed-in-Slice t c =
    slice_shown _ _ _ _ _ c.in-Slice.is c.deref-in-Slice.ensures (IfOk-at_ok _ c.in_ok-boxed-in-Slice.ensures c.replaced_ty-in-Slice.ensures)

pub replaced_node-returns-in-Array : goal.replaced_node-returns-in-Array
replaced_node-returns-in-Array t c =
    shown_as _ node_view _ _ (array_shown _ _ _ _ _ c.in-Array.is c.deref-in-Array.ensures) (c.array_of.ensures _ c.replaced_ty-in-Array.ensures)

pub replaced_node-returns-in-Reference : goal.replaced_node-returns-in-Reference
replaced_node-returns-in-Reference t c =
    shown_as _ node_view _ _ (reference_shown _ _ _ _ _ _ c.in-Reference.is c.deref-in-Reference.ensures)
    (c.reference_of.ensures _ c.replaced_ty-in-Reference.ensures)

pub replaced_node-returns-in_ok-inner-in-Pointer : goal.replaced_node-returns-in_ok-inner-in-Pointer
replaced_node-returns-in_ok-inner-in-Pointer t c =
    pointer_shown _ _ _ _ _ _ c.in-Pointer.is c.deref-in-Pointer.ensures (IfOk-at_ok _ c.in_ok-inner-in-Pointer.ensures c.replaced_ty-in-Pointer.ensures)

pub replaced_node-returns-in_ok-function-in-BareFn : goal.replaced_node-returns-in_ok-function-in-BareFn
replaced_node-returns-in_ok-function-in-BareFn t c =
    bare_fn_shown _ _ _ _ _ c.in-BareFn.is c.deref-in-BareFn.ensures (IfOk-at_ok _ c.in_ok-function-in-BareFn.ensures c.replaced_fn.ensures)

pub replaced_node-returns-in_ok-all-in-TraitObject : goal.replaced_node-returns-in_ok-all-in-TraitObject
replaced_node-returns-in_ok-all-in-TraitObject t c =
    trait_object_shown _ _ _ _ _ c.in-TraitObject.is c.as_slice-in-TraitObject.ensures c.in_ok-all-in-TraitObject.ensures

pub replaced_node-returns-in_ok-all-in-ImplTrait : goal.replaced_node-returns-in_ok-all-in-ImplTrait
replaced_node-returns-in_ok-all-in-ImplTrait t c =
    impl_trait_shown _ _ _ _ _ c.in-ImplTrait.is c.as_slice-in-ImplTrait.ensures c.in_ok-all-in-ImplTrait.ensures

pub replaced_node-returns-in-Infer : goal.replaced_node-returns-in-Infer
replaced_node-returns-in-Infer t c = infer_shown _ _ c.in-Infer.is

pub replaced_node-returns-in-Never : goal.replaced_node-returns-in-Never
replaced_node-returns-in-Never t c = never_shown _ _ c.in-Never.is

pub replaced_node-returns-in-None : goal.replaced_node-returns-in-None
replaced_node-returns-in-None t c =
    shown_as _ node_view _ _ (path_shown _ _ _ _ c.in-Path.is c.in-None.is) (c.path_type_of.ensures _ c.replaced_path.ensures)

pub replaced_node-returns-in-Some : goal.replaced_node-returns-in-Some
replaced_node-returns-in-Some t c =
    let qself = boxed_known _ _ _ c.boxed-in-Some.ensures (c.qself_of-qself.ensures _ c.replaced_ty-in-Some.ensures) in
    let parts = both_known _ _ _ _ _ c.both.ensures qself c.replaced_path-in-Some.ensures in
    shown_as _ node_view _ _ (qualified_shown _ _ _ _ _ _ c.in-Path.is c.in-Some.is c.deref-in-Some.ensures) (c.qualified_of.ensures _ _ parts)

pub replaced_node-returns-in-Macro : goal.replaced_node-returns-in-Macro
replaced_node-returns-in-Macro t c =
    shown_as _ node_view _ _ (macro_shown _ _ _ _ _ c.in-Macro.is)
    (c.macro_of.ensures _ _ (both_known _ _ _ _ _ c.both-in-Macro.ensures c.clone_in.ensures c.clone_in-in-Macro.ensures))

-- ---- bounds, functions, paths and segments

pub replaced_bound-returns-in_ok-clone_in-in-Lifetime : goal.replaced_bound-returns-in_ok-clone_in-in-Lifetime
replaced_bound-returns-in_ok-clone_in-in-Lifetime t c = outlives_shown _ _ _ _ c.in-Lifetime.is c.in_ok-clone_in-in-Lifetime.ensures

pub replaced_bound-returns-in_ok-trait_of-in-Trait : goal.replaced_bound-returns-in_ok-trait_of-in-Trait
replaced_bound-returns-in_ok-trait_of-in-Trait t c =
    trait_shown _ _ _ _ c.in-Trait.is
    (IfOk-at_ok _ c.in_ok-trait_of-in-Trait.was
    (c.trait_of.ensures _ _ (both_known _ _ _ _ _ c.both-parts.ensures c.replaced_path-path.ensures (listed_known _ _ c.clone_in-in-Trait.ensures))))

pub replaced_fn-returns : goal.replaced_fn-returns
replaced_fn-returns t c =
    let s = own_segment (option_copied c.args.own) in
    let f = out-BareFn c.args.function.now in
    let head = both_known _ _ _ _ _ c.both-head.ensures (listed_known _ _ c.clone_in.ensures) (options_known _ _ c.clone_in-2.ensures) in
    shown_as _ fn_view _ _ (function_shown s c.args.function.now _ c.as_slice.ensures)
    (c.fn_of.ensures (map (replaced_input s) (map input_view c.as_slice.result.now)) f.inputs.trailing
    (option_map (replaced_type s) (option_map ty_view f.output)) f.lifetimes f.abi
    (both_known _ _ _ _ _ c.both.ensures
    (both_known _ _ _ _ _ c.both-parts.ensures c.replaced_inputs-inputs.ensures c.replaced_output.ensures) head))

pub replaced_path-returns : goal.replaced_path-returns
replaced_path-returns t c =
    shown_as _ path_view _ _ (segments_shown _ _ _ c.as_slice.ensures) (c.path_of.ensures _ c.replaced_segments-segments.ensures)

pub replaced_segment-returns-in-Some : goal.replaced_segment-returns-in-Some
replaced_segment-returns-in-Some t c =
    shown_as _ segment_view _ _ (self_shown _ _ _ (sym c.standing.ensures ∙ ap option_copied c.in-Some.is)) c.self_segment.ensures

pub replaced_segment-returns-in-None : goal.replaced_segment-returns-in-None
replaced_segment-returns-in-None t c =
    shown_as _ segment_view _ _ (segment_shown _ _ (sym c.standing.ensures ∙ ap option_copied c.in-None.is))
    (c.segment_of.ensures _ _ (both_known _ _ _ _ _ c.both.ensures c.replaced_segment_arguments-arguments.ensures c.clone_in.ensures))

pub replaced_output-returns-in-Some : goal.replaced_output-returns-in-Some
replaced_output-returns-in-Some t c =
    shown_as _ (option_map ty_view) _ _ (ap (λ z. option_map (replaced_type (own_segment (option_copied c.args.own))) (option_map ty_view z)) c.in-Some.is)
    (some_known _ _ (option_map ty_view) _ _ c.some_of.ensures c.replaced_ty.ensures (λ x h. ap (λ z. Some z) h))

pub replaced_segment_arguments-returns-in-Absent : goal.replaced_segment_arguments-returns-in-Absent
replaced_segment_arguments-returns-in-Absent t c = absent_shown _ _ c.in-Absent.is

pub replaced_segment_arguments-returns-in_ok-all-in-Angle : goal.replaced_segment_arguments-returns-in_ok-all-in-Angle
replaced_segment_arguments-returns-in_ok-all-in-Angle t c =
    angle_shown _ _ _ _ _ _ c.in-Angle.is c.as_slice.ensures c.in_ok-all-in-Angle.ensures

pub replaced_segment_arguments-returns-in-None : goal.replaced_segment_arguments-returns-in-None
replaced_segment_arguments-returns-in-None t c =
    shown_as _ arguments_view _ _ (parens_shown _ _ _ _ _ _ c.in-Paren.is c.as_slice-in-Paren.ensures (no_boxed _ _ c.in-None.is))
    (c.parens_of.ensures _ _ no_type (both_known _ _ _ _ _ c.both.ensures c.replaced_types-all.ensures refl))

pub replaced_segment_arguments-returns-in-Some : goal.replaced_segment_arguments-returns-in-Some
replaced_segment_arguments-returns-in-Some t c =
    shown_as _ arguments_view _ _
    (parens_shown _ _ _ _ _ _ c.in-Paren.is c.as_slice-in-Paren.ensures (boxed_shown _ _ _ _ c.in-Some.is c.deref.ensures))
    (c.parens_of-in-Some.ensures _ _ _
    (both_known _ _ _ _ _ c.both-in-Some.ensures c.replaced_types-all.ensures
    (some_known _ _ maybe_ty_view _ _ c.some_of.ensures (boxed_known _ _ _ c.boxed-ty.ensures c.replaced_ty.ensures) (λ x h. ap (λ z. some_type z) h))))

pub replaced_argument-returns-in_ok-clone_in-in-Lifetime : goal.replaced_argument-returns-in_ok-clone_in-in-Lifetime
replaced_argument-returns-in_ok-clone_in-in-Lifetime t c = lifetime_shown _ _ _ _ c.in-Lifetime.is c.in_ok-clone_in-in-Lifetime.ensures

pub replaced_argument-returns-in-Ty : goal.replaced_argument-returns-in-Ty
replaced_argument-returns-in-Ty t c =
    shown_as _ argument_view _ _ (type_shown _ _ _ c.in-Ty.is) (c.type_argument_of.ensures _ c.replaced_ty.ensures)

pub replaced_argument-returns-in_ok-clone_in-in-Const : goal.replaced_argument-returns-in_ok-clone_in-in-Const
replaced_argument-returns-in_ok-clone_in-in-Const t c = const_shown _ _ _ _ c.in-Const.is c.in_ok-clone_in-in-Const.ensures

pub replaced_argument-returns-in-None : goal.replaced_argument-returns-in-None
replaced_argument-returns-in-None t c =
    shown_as _ argument_view _ _ (assoc_ty_shown _ _ _ _ _ _ c.in-AssocTy.is (no_arguments _ _ c.in-None.is))
    (c.assoc_ty_of.ensures _ _ arguments_absent
    (both_known _ _ _ _ _ c.both.ensures
    (both_known _ _ _ _ _ c.both-head.ensures c.clone_in-in-AssocTy.ensures c.replaced_ty-in-AssocTy.ensures) refl))

pub replaced_argument-returns-in-Some : goal.replaced_argument-returns-in-Some
replaced_argument-returns-in-Some t c =
    shown_as _ argument_view _ _
    (assoc_ty_shown _ _ _ _ _ _ c.in-AssocTy.is (arguments_shown _ _ _ _ c.in-Some.is c.as_slice.ensures))
    (c.assoc_ty_of-in-Some.ensures _ _ _
    (both_known _ _ _ _ _ c.both-in-Some.ensures
    (both_known _ _ _ _ _ c.both-head.ensures c.clone_in-in-AssocTy.ensures c.replaced_ty-in-AssocTy.ensures)
    (some_arguments_known _ _ _ _ c.some_of.ensures c.replaced_arguments-all.ensures)))

pub replaced_argument-returns-in-None-arguments : goal.replaced_argument-returns-in-None-arguments
replaced_argument-returns-in-None-arguments t c =
    shown_as _ argument_view _ _ (assoc_const_shown _ _ _ _ _ _ c.in-AssocConst.is (no_arguments _ _ c.in-None-arguments.is))
    (c.assoc_const_of.ensures _ _ arguments_absent
    (both_known _ _ _ _ _ c.both-in-None-arguments.ensures
    (both_known _ _ _ _ _ c.both-head-in-AssocConst.ensures c.clone_in-in-AssocConst.ensures c.clone_in-in-AssocConst-2.ensures) refl))

pub replaced_argument-returns-in-Some-arguments : goal.replaced_argument-returns-in-Some-arguments
replaced_argument-returns-in-Some-arguments t c =
    shown_as _ argument_view _ _
    (assoc_const_shown _ _ _ _ _ _ c.in-AssocConst.is (arguments_shown _ _ _ _ c.in-Some-arguments.is c.as_slice-in-Some-arguments.ensures))
    (c.assoc_const_of-in-Some-arguments.ensures _ _ _
    (both_known _ _ _ _ _ c.both-in-Some-arguments.ensures
    (both_known _ _ _ _ _ c.both-head-in-AssocConst.ensures c.clone_in-in-AssocConst.ensures c.clone_in-in-AssocConst-2.ensures)
    (some_arguments_known _ _ _ _ c.some_of-in-Some-arguments.ensures c.replaced_arguments-all-in-Some-arguments.ensures)))

pub replaced_argument-returns-in-None-arguments-2 : goal.replaced_argument-returns-in-None-arguments-2
replaced_argument-returns-in-None-arguments-2 t c =
    shown_as _ argument_view _ _ (constraint_shown _ _ _ _ _ _ _ c.in-Constraint.is (no_arguments _ _ c.in-None-arguments-2.is) c.as_slice-in-Constraint.ensures)
    (c.constraint_of.ensures _ _ _ arguments_absent
    (both_known _ _ _ _ _ c.both-in-None-arguments-2.ensures
    (both_known _ _ _ _ _ c.both-head-in-Constraint.ensures c.clone_in-in-Constraint.ensures c.replaced_bounds-bounds.ensures) refl))

pub replaced_argument-returns-in-Some-arguments-2 : goal.replaced_argument-returns-in-Some-arguments-2
replaced_argument-returns-in-Some-arguments-2 t c =
    shown_as _ argument_view _ _
    (constraint_shown _ _ _ _ _ _ _ c.in-Constraint.is (arguments_shown _ _ _ _ c.in-Some-arguments-2.is c.as_slice-in-Some-arguments-2.ensures) c.as_slice-in-Constraint.ensures)
    (c.constraint_of-in-Some-arguments-2.ensures _ _ _ _
    (both_known _ _ _ _ _ c.both-in-Some-arguments-2.ensures
    (both_known _ _ _ _ _ c.both-head-in-Constraint.ensures c.clone_in-in-Constraint.ensures c.replaced_bounds-bounds.ensures)
    (some_arguments_known _ _ _ _ c.some_of-in-Some-arguments-2.ensures c.replaced_arguments-all-in-Some-arguments-2.ensures)))

pub replaced_input-returns : goal.replaced_input-returns
replaced_input-returns t c =
    let s = own_segment (option_copied c.args.own) in
    let i = c.args.input.now in
    shown_as _ input_view _ _ (input_shown s i)
    (c.input_of.ensures (replaced_type s (ty_view i.ty)) i.attrs i.name
    (both_known _ _ _ _ _ c.both.ensures c.replaced_ty.ensures
    (both_known _ _ _ _ _ c.both-head.ensures (list_known _ _ c.clone_in.ensures) (option_known _ _ c.clone_in-2.ensures))))

pub replaced_types-loop-ty-preserved : goal.replaced_types-loop-ty-preserved
replaced_types-loop-ty-preserved t c =
    each_more ty_view _ _ _ _ _ _ _ c.loop-ty.invariant c.loop-ty-test.true c.ty-item.is c.replaced_ty.ensures c.in_ok-items.ensures

pub replaced_bounds-loop-bound-preserved : goal.replaced_bounds-loop-bound-preserved
replaced_bounds-loop-bound-preserved t c =
    each_more bound_view _ _ _ _ _ _ _ c.loop-bound.invariant c.loop-bound-test.true c.bound-item.is c.replaced_bound.ensures c.in_ok-items.ensures

pub replaced_inputs-loop-input-preserved : goal.replaced_inputs-loop-input-preserved
replaced_inputs-loop-input-preserved t c =
    each_more input_view _ _ _ _ _ _ _ c.loop-input.invariant c.loop-input-test.true c.input-item.is c.replaced_input.ensures c.in_ok-items.ensures

pub replaced_arguments-loop-argument-preserved : goal.replaced_arguments-loop-argument-preserved
replaced_arguments-loop-argument-preserved t c =
    each_more argument_view _ _ _ _ _ _ _ c.loop-argument.invariant c.loop-argument-test.true c.argument-item.is c.replaced_argument.ensures c.in_ok-items.ensures

pub replaced_segments-loop-part-preserved : goal.replaced_segments-loop-part-preserved
replaced_segments-loop-part-preserved t c =
    each_more segment_view _ _ _ _ _ _ _ c.loop-part.invariant c.loop-part-test.true c.part-item.is c.replaced_segment.ensures c.in_ok-found.ensures
