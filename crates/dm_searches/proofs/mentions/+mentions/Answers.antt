use Rattle.std.proofs.Common.{map, option_map, refl, sym, ap, ◌∙◌, ◌||◌}
use Rattle.dm_ast.specs.declared.ty.Bound.TheViews.{out-BareFn, out-TraitBound}
use Rattle.dm_ast.specs.Tree.{bounds_of, inputs_of, maybe_type, maybe_ty_view, maybe_self_view, maybe_arguments_view, ty_view, node_view, fn_view, input_view, bound_view, path_view, arguments_view, argument_view}
use Rattle.dm_ast.proofs.View.{view_TyNode-Paren, view_TyNode-Tuple, view_TyNode-Slice, view_TyNode-Array, view_TyNode-Reference, view_TyNode-Pointer, view_TyNode-BareFn, view_TyNode-TraitObject, view_TyNode-ImplTrait, view_TyNode-Infer, view_TyNode-Never, view_TyNode-Path, view_TyNode-Macro, view_Bound-Lifetime, view_Bound-Trait, view_PathArguments-Absent, view_PathArguments-Angle, view_PathArguments-Paren, view_GenericArgument-Lifetime, view_GenericArgument-Ty, view_GenericArgument-Const, view_GenericArgument-AssocTy, view_GenericArgument-AssocConst, view_GenericArgument-Constraint, view-Ty, view-PathSegment, view-FnArg, view-Path, view-TraitBound, view-BareFn}
use Rattle.dm_searches.proofs.Steps.{first_of, second_of, alone_of, viewed, shown}
use Rattle.dm_searches.proofs.MentionsLists.{types_are, inputs_are, bounds_are, segments_are, arguments_are}
use Rattle.dm_searches.specs.Mentions as spec
use Rattle.dm_searches.proofs.mentions.+mentions.Goals as goal

pub TyHoldsParameter::holds-returns : goal.TyHoldsParameter::holds-returns
TyHoldsParameter::holds-returns t c =
    viewed (λ z. spec.in_type c.args.sought.sort c.args.sought.name.now z) (view-Ty c.args.self.now) c.in_node.ensures

pub in_node-returns-in-Paren : goal.in_node-returns-in-Paren
in_node-returns-in-Paren t c =
    shown (λ z. spec.in_node c.args.sought.sort c.args.sought.name.now z) node_view c.in-Paren.is (view_TyNode-Paren _) (c.holds.ensures ∙ ap
    (λ z. spec.in_type c.args.sought.sort c.args.sought.name.now (ty_view z)) c.deref.ensures)

pub in_node-returns-in-Slice : goal.in_node-returns-in-Slice
in_node-returns-in-Slice t c =
    shown (λ z. spec.in_node c.args.sought.sort c.args.sought.name.now z) node_view c.in-Slice.is (view_TyNode-Slice _) (c.holds-in-Slice.ensures ∙ ap
    (λ z. spec.in_type c.args.sought.sort c.args.sought.name.now (ty_view z)) c.deref-in-Slice.ensures)

pub in_node-returns-in-Pointer : goal.in_node-returns-in-Pointer
in_node-returns-in-Pointer t c =
    shown (λ z. spec.in_node c.args.sought.sort c.args.sought.name.now z) node_view c.in-Pointer.is (view_TyNode-Pointer _ _) (c.holds-in-Pointer.ensures ∙ ap
    (λ z. spec.in_type c.args.sought.sort c.args.sought.name.now (ty_view z)) c.deref-in-Pointer.ensures)

pub in_node-returns-in-Tuple : goal.in_node-returns-in-Tuple
in_node-returns-in-Tuple t c =
    shown (λ z. spec.in_node c.args.sought.sort c.args.sought.name.now z) node_view c.in-Tuple.is (view_TyNode-Tuple _) (c.any_holds.ensures ∙ types_are c.args.sought.sort c.args.sought.name.now _)

pub in_node-returns-in-BareFn : goal.in_node-returns-in-BareFn
in_node-returns-in-BareFn t c =
    shown (λ z. spec.in_node c.args.sought.sort c.args.sought.name.now z) node_view c.in-BareFn.is (view_TyNode-BareFn _) (c.in_function.ensures ∙ ap
    (λ z. spec.in_function c.args.sought.sort c.args.sought.name.now (fn_view z)) c.deref-in-BareFn.ensures)

pub in_node-returns-in-TraitObject : goal.in_node-returns-in-TraitObject
in_node-returns-in-TraitObject t c =
    shown (λ z. spec.in_node c.args.sought.sort c.args.sought.name.now z) node_view c.in-TraitObject.is (view_TyNode-TraitObject _) (c.any_holds-in-TraitObject.ensures ∙ bounds_are c.args.sought.sort c.args.sought.name.now _)

pub in_node-returns-in-ImplTrait : goal.in_node-returns-in-ImplTrait
in_node-returns-in-ImplTrait t c =
    shown (λ z. spec.in_node c.args.sought.sort c.args.sought.name.now z) node_view c.in-ImplTrait.is (view_TyNode-ImplTrait _) (c.any_holds-in-ImplTrait.ensures ∙ bounds_are c.args.sought.sort c.args.sought.name.now _)

pub in_node-returns-in-Infer : goal.in_node-returns-in-Infer
in_node-returns-in-Infer t c =
    shown (λ z. spec.in_node c.args.sought.sort c.args.sought.name.now z) node_view c.in-Infer.is view_TyNode-Infer refl

pub in_node-returns-in-Never : goal.in_node-returns-in-Never
in_node-returns-in-Never t c =
    shown (λ z. spec.in_node c.args.sought.sort c.args.sought.name.now z) node_view c.in-Never.is view_TyNode-Never refl

pub in_node-returns-in-Macro : goal.in_node-returns-in-Macro
in_node-returns-in-Macro t c =
    shown (λ z. spec.in_node c.args.sought.sort c.args.sought.name.now z) node_view c.in-Macro.is (view_TyNode-Macro _ _ _) c.in_tokens-in-Macro.ensures

pub in_node-returns-then-holds : goal.in_node-returns-then-holds
in_node-returns-then-holds t c =
    c.if-holds.true ∙ shown (λ z. spec.in_node c.args.sought.sort c.args.sought.name.now z) node_view c.in-Array.is (view_TyNode-Array _ _) (first_of (spec.in_trees
    c.args.sought.sort c.args.sought.name.now c.in-Array.size.tokens.trees) (c.if-holds.ensures ∙ ap (λ z. spec.in_type c.args.sought.sort c.args.sought.name.now (ty_view z))
    c.deref-in-Array.ensures))

pub in_node-returns-else-holds : goal.in_node-returns-else-holds
in_node-returns-else-holds t c =
    shown (λ z. spec.in_node c.args.sought.sort c.args.sought.name.now z) node_view c.in-Array.is (view_TyNode-Array _ _) (second_of (c.if-holds.ensures ∙ ap
    (λ z. spec.in_type c.args.sought.sort c.args.sought.name.now (ty_view z)) c.deref-in-Array.ensures) c.in_tokens.ensures)

pub in_node-returns-then-in_lifetime : goal.in_node-returns-then-in_lifetime
in_node-returns-then-in_lifetime t c =
    c.if-in_lifetime.true ∙ shown (λ z. spec.in_node c.args.sought.sort c.args.sought.name.now z) node_view c.in-Reference.is (view_TyNode-Reference _ _ _) (first_of
    (spec.in_type c.args.sought.sort c.args.sought.name.now (ty_view c.in-Reference.inner.value)) c.if-in_lifetime.ensures)

pub in_node-returns-else-in_lifetime : goal.in_node-returns-else-in_lifetime
in_node-returns-else-in_lifetime t c =
    shown (λ z. spec.in_node c.args.sought.sort c.args.sought.name.now z) node_view c.in-Reference.is (view_TyNode-Reference _ _ _) (second_of c.if-in_lifetime.ensures
    (c.holds-else-in_lifetime.ensures ∙ ap (λ z. spec.in_type c.args.sought.sort c.args.sought.name.now (ty_view z)) c.deref-else-in_lifetime.ensures))

pub in_node-returns-then-is_found : goal.in_node-returns-then-is_found
in_node-returns-then-is_found t c =
    c.if-is_found.true ∙ shown (λ z. spec.in_node c.args.sought.sort c.args.sought.name.now z) node_view c.in-Path.is (view_TyNode-Path _ _) (first_of (spec.in_self
    c.args.sought.sort c.args.sought.name.now (maybe_self_view c.in-Path.qself) || spec.in_path c.args.sought.sort c.args.sought.name.now (path_view c.in-Path.path)) c.if-is_found.ensures)

pub in_node-returns-else-is_found : goal.in_node-returns-else-is_found
in_node-returns-else-is_found t c =
    shown (λ z. spec.in_node c.args.sought.sort c.args.sought.name.now z) node_view c.in-Path.is (view_TyNode-Path _ _) (second_of c.if-is_found.ensures (second_of (sym (ap
    (λ z. spec.in_self c.args.sought.sort c.args.sought.name.now (maybe_self_view z)) c.in-None.is)) c.in_path.ensures))

pub in_self-returns : goal.in_self-returns
in_self-returns t c =
    c.holds.ensures

pub in_function-returns-then-in_for : goal.in_function-returns-then-in_for
in_function-returns-then-in_for t c =
    c.if-in_for.true ∙ viewed (λ z. spec.in_function c.args.sought.sort c.args.sought.name.now z) (view-BareFn c.args.function.now) (first_of
    (spec.in_inputs c.args.sought.sort c.args.sought.name.now (inputs_of (map input_view (out-BareFn c.args.function.now).inputs.items)) || spec.in_output c.args.sought.sort c.args.sought.name.now (maybe_type (option_map ty_view (out-BareFn c.args.function.now).output))) c.if-in_for.ensures)

pub in_function-returns-else-in_for : goal.in_function-returns-else-in_for
in_function-returns-else-in_for t c =
    viewed (λ z. spec.in_function c.args.sought.sort c.args.sought.name.now z) (view-BareFn c.args.function.now) (second_of c.if-in_for.ensures c.in_signature.ensures)

pub in_signature-returns-in-None : goal.in_signature-returns-in-None
in_signature-returns-in-None t c =
    alone_of _ (c.any_holds.ensures ∙ inputs_are c.args.sought.sort c.args.sought.name.now _) (ap (λ z. spec.in_output c.args.sought.sort c.args.sought.name.now (maybe_type (option_map ty_view z))) c.in-None.is)

pub in_signature-returns-then-any_holds : goal.in_signature-returns-then-any_holds
in_signature-returns-then-any_holds t c =
    c.if-any_holds.true ∙ first_of (spec.in_output c.args.sought.sort c.args.sought.name.now (maybe_type (option_map ty_view (out-BareFn c.args.function.now).output))) (c.if-any_holds.ensures ∙ inputs_are c.args.sought.sort c.args.sought.name.now _)

pub in_signature-returns-else-any_holds : goal.in_signature-returns-else-any_holds
in_signature-returns-else-any_holds t c =
    second_of (c.if-any_holds.ensures ∙ inputs_are c.args.sought.sort c.args.sought.name.now _) (c.holds.ensures ∙ sym (ap
    (λ z. spec.in_output c.args.sought.sort c.args.sought.name.now (maybe_type (option_map ty_view z))) c.in-Some.is))

pub FnArgHoldsParameter::holds-returns-then-in_attributes : goal.FnArgHoldsParameter::holds-returns-then-in_attributes
FnArgHoldsParameter::holds-returns-then-in_attributes t c =
    c.if-in_attributes.true ∙ viewed (λ z. spec.in_input c.args.sought.sort c.args.sought.name.now z) (view-FnArg c.args.self.now) (first_of (spec.in_type c.args.sought.sort
    c.args.sought.name.now (ty_view c.args.self.now.ty)) (c.if-in_attributes.ensures ∙ ap (λ z. spec.in_attributes c.args.sought.sort c.args.sought.name.now z) c.as_slice.ensures))

pub FnArgHoldsParameter::holds-returns-else-in_attributes : goal.FnArgHoldsParameter::holds-returns-else-in_attributes
FnArgHoldsParameter::holds-returns-else-in_attributes t c =
    viewed (λ z. spec.in_input c.args.sought.sort c.args.sought.name.now z) (view-FnArg c.args.self.now) (second_of (c.if-in_attributes.ensures ∙ ap
    (λ z. spec.in_attributes c.args.sought.sort c.args.sought.name.now z) c.as_slice.ensures) c.holds.ensures)

pub BoundHoldsParameter::holds-returns-in-Lifetime : goal.BoundHoldsParameter::holds-returns-in-Lifetime
BoundHoldsParameter::holds-returns-in-Lifetime t c =
    shown (λ z. spec.in_bound c.args.sought.sort c.args.sought.name.now z) bound_view c.in-Lifetime.is (view_Bound-Lifetime _) c.is_lifetime.ensures

pub BoundHoldsParameter::holds-returns-in-Trait : goal.BoundHoldsParameter::holds-returns-in-Trait
BoundHoldsParameter::holds-returns-in-Trait t c =
    shown (λ z. spec.in_bound c.args.sought.sort c.args.sought.name.now z) bound_view c.in-Trait.is (view_Bound-Trait _) c.in_trait.ensures

pub in_trait-returns-then-in_for : goal.in_trait-returns-then-in_for
in_trait-returns-then-in_for t c =
    c.if-in_for.true ∙ viewed (λ z. spec.in_trait c.args.sought.sort c.args.sought.name.now z) (view-TraitBound c.args.bound.now) (first_of (spec.in_path c.args.sought.sort
    c.args.sought.name.now (path_view (out-TraitBound c.args.bound.now).path)) c.if-in_for.ensures)

pub in_trait-returns-else-in_for : goal.in_trait-returns-else-in_for
in_trait-returns-else-in_for t c =
    viewed (λ z. spec.in_trait c.args.sought.sort c.args.sought.name.now z) (view-TraitBound c.args.bound.now) (second_of c.if-in_for.ensures c.in_path.ensures)

pub in_path-returns : goal.in_path-returns
in_path-returns t c =
    viewed (λ z. spec.in_path c.args.sought.sort c.args.sought.name.now z) (view-Path c.args.path.now) (c.any_holds.ensures ∙ segments_are c.args.sought.sort c.args.sought.name.now _)

pub PathSegmentHoldsParameter::holds-returns : goal.PathSegmentHoldsParameter::holds-returns
PathSegmentHoldsParameter::holds-returns t c =
    viewed (λ z. spec.in_segment c.args.sought.sort c.args.sought.name.now z) (view-PathSegment c.args.self.now) c.in_arguments.ensures

pub in_arguments-returns-in-Absent : goal.in_arguments-returns-in-Absent
in_arguments-returns-in-Absent t c =
    shown (λ z. spec.in_segment_arguments c.args.sought.sort c.args.sought.name.now z) arguments_view c.in-Absent.is view_PathArguments-Absent refl

pub in_arguments-returns-in-Angle : goal.in_arguments-returns-in-Angle
in_arguments-returns-in-Angle t c =
    shown (λ z. spec.in_segment_arguments c.args.sought.sort c.args.sought.name.now z) arguments_view c.in-Angle.is (view_PathArguments-Angle _ _) (c.any_holds.ensures ∙ arguments_are c.args.sought.sort c.args.sought.name.now _)

pub in_arguments-returns-in-None : goal.in_arguments-returns-in-None
in_arguments-returns-in-None t c =
    shown (λ z. spec.in_segment_arguments c.args.sought.sort c.args.sought.name.now z) arguments_view c.in-Paren.is (view_PathArguments-Paren _ _) (alone_of _
    (c.any_holds-in-None.ensures ∙ types_are c.args.sought.sort c.args.sought.name.now _) (ap
    (λ z. spec.in_output c.args.sought.sort c.args.sought.name.now (maybe_ty_view z)) c.in-None.is))

pub in_arguments-returns-then-any_holds : goal.in_arguments-returns-then-any_holds
in_arguments-returns-then-any_holds t c =
    c.if-any_holds.true ∙ shown (λ z. spec.in_segment_arguments c.args.sought.sort c.args.sought.name.now z) arguments_view c.in-Paren.is (view_PathArguments-Paren _ _)
    (first_of (spec.in_output c.args.sought.sort c.args.sought.name.now (maybe_ty_view c.in-Paren.output)) (c.if-any_holds.ensures ∙ types_are c.args.sought.sort c.args.sought.name.now _))

pub in_arguments-returns-else-any_holds : goal.in_arguments-returns-else-any_holds
in_arguments-returns-else-any_holds t c =
    shown (λ z. spec.in_segment_arguments c.args.sought.sort c.args.sought.name.now z) arguments_view c.in-Paren.is (view_PathArguments-Paren _ _) (second_of
    (c.if-any_holds.ensures ∙ types_are c.args.sought.sort c.args.sought.name.now _) (c.holds.ensures ∙ ap
    (λ z. spec.in_type c.args.sought.sort c.args.sought.name.now (ty_view z)) c.deref.ensures ∙ sym (ap (λ z. spec.in_output c.args.sought.sort c.args.sought.name.now (maybe_ty_view z))
    c.in-Some.is)))

pub GenericArgumentHoldsParameter::holds-returns-in-Lifetime : goal.GenericArgumentHoldsParameter::holds-returns-in-Lifetime
GenericArgumentHoldsParameter::holds-returns-in-Lifetime t c =
    shown (λ z. spec.in_argument c.args.sought.sort c.args.sought.name.now z) argument_view c.in-Lifetime.is (view_GenericArgument-Lifetime _) c.is_lifetime.ensures

pub GenericArgumentHoldsParameter::holds-returns-in-Ty : goal.GenericArgumentHoldsParameter::holds-returns-in-Ty
GenericArgumentHoldsParameter::holds-returns-in-Ty t c =
    shown (λ z. spec.in_argument c.args.sought.sort c.args.sought.name.now z) argument_view c.in-Ty.is (view_GenericArgument-Ty _) c.holds.ensures

pub GenericArgumentHoldsParameter::holds-returns-in-Const : goal.GenericArgumentHoldsParameter::holds-returns-in-Const
GenericArgumentHoldsParameter::holds-returns-in-Const t c =
    shown (λ z. spec.in_argument c.args.sought.sort c.args.sought.name.now z) argument_view c.in-Const.is (view_GenericArgument-Const _) c.in_constant.ensures

pub in_maybe-returns-in-None : goal.in_maybe-returns-in-None
in_maybe-returns-in-None t c =
    sym (ap (λ z. spec.in_maybe_arguments c.args.sought.sort c.args.sought.name.now (maybe_arguments_view z)) c.in-None.is)

pub in_maybe-returns-in-Some : goal.in_maybe-returns-in-Some
in_maybe-returns-in-Some t c =
    c.any_holds.ensures ∙ arguments_are c.args.sought.sort c.args.sought.name.now _ ∙ sym (ap (λ z. spec.in_maybe_arguments c.args.sought.sort c.args.sought.name.now (maybe_arguments_view z)) c.in-Some.is)

pub GenericArgumentHoldsParameter::holds-returns-then-in_maybe : goal.GenericArgumentHoldsParameter::holds-returns-then-in_maybe
GenericArgumentHoldsParameter::holds-returns-then-in_maybe t c =
    c.if-in_maybe.true ∙ shown (λ z. spec.in_argument c.args.sought.sort c.args.sought.name.now z) argument_view c.in-AssocTy.is (view_GenericArgument-AssocTy _ _ _) (first_of (spec.in_type c.args.sought.sort c.args.sought.name.now (ty_view c.in-AssocTy.ty)) c.if-in_maybe.ensures)

pub GenericArgumentHoldsParameter::holds-returns-else-in_maybe : goal.GenericArgumentHoldsParameter::holds-returns-else-in_maybe
GenericArgumentHoldsParameter::holds-returns-else-in_maybe t c =
    shown (λ z. spec.in_argument c.args.sought.sort c.args.sought.name.now z) argument_view c.in-AssocTy.is (view_GenericArgument-AssocTy _ _ _) (second_of c.if-in_maybe.ensures c.holds-else-in_maybe.ensures)

pub GenericArgumentHoldsParameter::holds-returns-then-in_maybe-2 : goal.GenericArgumentHoldsParameter::holds-returns-then-in_maybe-2
GenericArgumentHoldsParameter::holds-returns-then-in_maybe-2 t c =
    c.if-in_maybe-2.true ∙ shown (λ z. spec.in_argument c.args.sought.sort c.args.sought.name.now z) argument_view c.in-AssocConst.is (view_GenericArgument-AssocConst _ _ _) (first_of (spec.in_constant c.args.sought.sort c.args.sought.name.now c.in-AssocConst.constant) c.if-in_maybe-2.ensures)

pub GenericArgumentHoldsParameter::holds-returns-else-in_maybe-2 : goal.GenericArgumentHoldsParameter::holds-returns-else-in_maybe-2
GenericArgumentHoldsParameter::holds-returns-else-in_maybe-2 t c =
    shown (λ z. spec.in_argument c.args.sought.sort c.args.sought.name.now z) argument_view c.in-AssocConst.is (view_GenericArgument-AssocConst _ _ _) (second_of c.if-in_maybe-2.ensures c.in_constant-else-in_maybe-2.ensures)

pub GenericArgumentHoldsParameter::holds-returns-then-in_maybe-3 : goal.GenericArgumentHoldsParameter::holds-returns-then-in_maybe-3
GenericArgumentHoldsParameter::holds-returns-then-in_maybe-3 t c =
    c.if-in_maybe-3.true ∙ shown (λ z. spec.in_argument c.args.sought.sort c.args.sought.name.now z) argument_view c.in-Constraint.is (view_GenericArgument-Constraint _ _ _) (first_of (spec.in_bounds c.args.sought.sort c.args.sought.name.now (bounds_of (map bound_view c.in-Constraint.bounds.items))) c.if-in_maybe-3.ensures)

pub GenericArgumentHoldsParameter::holds-returns-else-in_maybe-3 : goal.GenericArgumentHoldsParameter::holds-returns-else-in_maybe-3
GenericArgumentHoldsParameter::holds-returns-else-in_maybe-3 t c =
    shown (λ z. spec.in_argument c.args.sought.sort c.args.sought.name.now z) argument_view c.in-Constraint.is (view_GenericArgument-Constraint _ _ _) (second_of c.if-in_maybe-3.ensures (c.any_holds.ensures ∙ bounds_are c.args.sought.sort c.args.sought.name.now _))
