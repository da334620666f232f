use Rattle.std.proofs.Common.{map, option_map, refl, sym, ap, ◌∙◌}
use Rattle.dm_ast.specs.declared.ty.Bound.TheViews.{out-BareFn, out-Path}
use Rattle.dm_ast.specs.Tree.{segments_of, maybe_type, maybe_ty_view, maybe_self_view, ty_view, node_view, fn_view, bound_view, path_view, segment_view, arguments_view, argument_view}
use Rattle.dm_ast.proofs.View.{view_TyNode-Paren, view_TyNode-Tuple, view_TyNode-Slice, view_TyNode-Array, view_TyNode-Reference, view_TyNode-Pointer, view_TyNode-BareFn, view_TyNode-TraitObject, view_TyNode-ImplTrait, view_TyNode-Infer, view_TyNode-Never, view_TyNode-Path, view_TyNode-Macro, view_Bound-Lifetime, view_Bound-Trait, view_PathArguments-Absent, view_PathArguments-Angle, view_PathArguments-Paren, view_GenericArgument-Lifetime, view_GenericArgument-Ty, view_GenericArgument-Const, view_GenericArgument-AssocTy, view_GenericArgument-AssocConst, view_GenericArgument-Constraint, view-Ty, view-PathSegment, view-FnArg, view-Path, view-TraitBound, view-BareFn, view-some_self}
use Rattle.dm_searches.specs.Parameters.{some_named, bare_first}
use Rattle.dm_searches.proofs.Steps.{first_of, second_of, alone_of, viewed, shown}
use Rattle.dm_searches.proofs.ContainsLists.{types_are, inputs_are, bounds_are, segments_are, arguments_are}
use Rattle.dm_searches.specs.Contains as spec
use Rattle.dm_searches.proofs.contains.+contains.Goals as goal

pub TyHoldsRefStr::holds-returns : goal.TyHoldsRefStr::holds-returns
TyHoldsRefStr::holds-returns t c =
    viewed (λ z. spec.in_type c.args.name.now z) (view-Ty c.args.self.now) c.in_node.ensures

pub in_node-returns-in-Paren : goal.in_node-returns-in-Paren
in_node-returns-in-Paren t c =
    shown (λ z. spec.in_node c.args.name.now z) node_view c.in-Paren.is (view_TyNode-Paren _) (c.holds.ensures ∙ ap
    (λ z. spec.in_type c.args.name.now (ty_view z)) c.deref.ensures)

pub in_node-returns-in-Slice : goal.in_node-returns-in-Slice
in_node-returns-in-Slice t c =
    shown (λ z. spec.in_node c.args.name.now z) node_view c.in-Slice.is (view_TyNode-Slice _) (c.holds-in-Slice.ensures ∙ ap
    (λ z. spec.in_type c.args.name.now (ty_view z)) c.deref-in-Slice.ensures)

pub in_node-returns-in-Array : goal.in_node-returns-in-Array
in_node-returns-in-Array t c =
    shown (λ z. spec.in_node c.args.name.now z) node_view c.in-Array.is (view_TyNode-Array _ _) (c.holds-in-Array.ensures ∙ ap
    (λ z. spec.in_type c.args.name.now (ty_view z)) c.deref-in-Array.ensures)

pub in_node-returns-in-Reference : goal.in_node-returns-in-Reference
in_node-returns-in-Reference t c =
    shown (λ z. spec.in_node c.args.name.now z) node_view c.in-Reference.is (view_TyNode-Reference _ _ _) (c.holds-in-Reference.ensures ∙ ap
    (λ z. spec.in_type c.args.name.now (ty_view z)) c.deref-in-Reference.ensures)

pub in_node-returns-in-Pointer : goal.in_node-returns-in-Pointer
in_node-returns-in-Pointer t c =
    shown (λ z. spec.in_node c.args.name.now z) node_view c.in-Pointer.is (view_TyNode-Pointer _ _) (c.holds-in-Pointer.ensures ∙ ap
    (λ z. spec.in_type c.args.name.now (ty_view z)) c.deref-in-Pointer.ensures)

pub in_node-returns-in-Tuple : goal.in_node-returns-in-Tuple
in_node-returns-in-Tuple t c =
    shown (λ z. spec.in_node c.args.name.now z) node_view c.in-Tuple.is (view_TyNode-Tuple _) (c.any_holds.ensures ∙ types_are c.args.name.now _)

pub in_node-returns-in-BareFn : goal.in_node-returns-in-BareFn
in_node-returns-in-BareFn t c =
    shown (λ z. spec.in_node c.args.name.now z) node_view c.in-BareFn.is (view_TyNode-BareFn _) (c.in_function.ensures ∙ ap
    (λ z. spec.in_function c.args.name.now (fn_view z)) c.deref-in-BareFn.ensures)

pub in_node-returns-in-TraitObject : goal.in_node-returns-in-TraitObject
in_node-returns-in-TraitObject t c =
    shown (λ z. spec.in_node c.args.name.now z) node_view c.in-TraitObject.is (view_TyNode-TraitObject _) (c.any_holds-in-TraitObject.ensures ∙ bounds_are c.args.name.now _)

pub in_node-returns-in-ImplTrait : goal.in_node-returns-in-ImplTrait
in_node-returns-in-ImplTrait t c =
    shown (λ z. spec.in_node c.args.name.now z) node_view c.in-ImplTrait.is (view_TyNode-ImplTrait _) refl

pub in_node-returns-in-Infer : goal.in_node-returns-in-Infer
in_node-returns-in-Infer t c =
    shown (λ z. spec.in_node c.args.name.now z) node_view c.in-Infer.is view_TyNode-Infer refl

pub in_node-returns-in-Never : goal.in_node-returns-in-Never
in_node-returns-in-Never t c =
    shown (λ z. spec.in_node c.args.name.now z) node_view c.in-Never.is view_TyNode-Never refl

pub in_node-returns-in-Macro : goal.in_node-returns-in-Macro
in_node-returns-in-Macro t c =
    shown (λ z. spec.in_node c.args.name.now z) node_view c.in-Macro.is (view_TyNode-Macro _ _ _) refl

pub in_node-returns-in-None : goal.in_node-returns-in-None
in_node-returns-in-None t c =
    shown (λ z. spec.in_node c.args.name.now z) node_view c.in-Path.is (view_TyNode-Path _ _) (second_of (sym (ap
    (λ z. spec.in_self c.args.name.now (maybe_self_view z)) c.in-None.is)) c.in_path.ensures)

pub in_node-returns-then-in_self : goal.in_node-returns-then-in_self
in_node-returns-then-in_self t c =
    c.if-in_self.true ∙ shown (λ z. spec.in_node c.args.name.now z) node_view c.in-Path.is (view_TyNode-Path _ _) (first_of (spec.in_path c.args.name.now
    (path_view c.in-Path.path)) (c.if-in_self.ensures ∙ ap (λ z. spec.in_type c.args.name.now (ty_view z.ty)) c.deref-in-Some.ensures ∙ sym (ap
    (λ z. spec.in_self c.args.name.now (maybe_self_view z)) c.in-Some.is ∙ ap (λ z. spec.in_self c.args.name.now z) (view-some_self c.in-Some.qself))))

pub in_node-returns-else-in_self : goal.in_node-returns-else-in_self
in_node-returns-else-in_self t c =
    shown (λ z. spec.in_node c.args.name.now z) node_view c.in-Path.is (view_TyNode-Path _ _) (second_of (c.if-in_self.ensures ∙ ap
    (λ z. spec.in_type c.args.name.now (ty_view z.ty)) c.deref-in-Some.ensures ∙ sym (ap (λ z. spec.in_self c.args.name.now (maybe_self_view z)) c.in-Some.is ∙
    ap (λ z. spec.in_self c.args.name.now z) (view-some_self c.in-Some.qself))) c.in_path-else-in_self.ensures)

pub in_self-returns : goal.in_self-returns
in_self-returns t c =
    c.holds.ensures

pub in_function-returns-in-None : goal.in_function-returns-in-None
in_function-returns-in-None t c =
    viewed (λ z. spec.in_function c.args.name.now z) (view-BareFn c.args.function.now) (alone_of _ (c.any_holds.ensures ∙ inputs_are c.args.name.now _) (ap
    (λ z. spec.in_output c.args.name.now (maybe_type (option_map ty_view z))) c.in-None.is))

pub in_function-returns-then-any_holds : goal.in_function-returns-then-any_holds
in_function-returns-then-any_holds t c =
    c.if-any_holds.true ∙ viewed (λ z. spec.in_function c.args.name.now z) (view-BareFn c.args.function.now) (first_of (spec.in_output c.args.name.now
    (maybe_type (option_map ty_view (out-BareFn c.args.function.now).output))) (c.if-any_holds.ensures ∙ inputs_are c.args.name.now _))

pub in_function-returns-else-any_holds : goal.in_function-returns-else-any_holds
in_function-returns-else-any_holds t c =
    viewed (λ z. spec.in_function c.args.name.now z) (view-BareFn c.args.function.now) (second_of (c.if-any_holds.ensures ∙ inputs_are c.args.name.now _) (c.holds.ensures ∙ sym (ap
    (λ z. spec.in_output c.args.name.now (maybe_type (option_map ty_view z))) c.in-Some.is)))

pub FnArgHoldsRefStr::holds-returns : goal.FnArgHoldsRefStr::holds-returns
FnArgHoldsRefStr::holds-returns t c =
    viewed (λ z. spec.in_input c.args.name.now z) (view-FnArg c.args.self.now) c.holds.ensures

pub BoundHoldsRefStr::holds-returns-in-Lifetime : goal.BoundHoldsRefStr::holds-returns-in-Lifetime
BoundHoldsRefStr::holds-returns-in-Lifetime t c =
    shown (λ z. spec.in_bound c.args.name.now z) bound_view c.in-Lifetime.is (view_Bound-Lifetime _) refl

pub BoundHoldsRefStr::holds-returns-in-Trait : goal.BoundHoldsRefStr::holds-returns-in-Trait
BoundHoldsRefStr::holds-returns-in-Trait t c =
    shown (λ z. spec.in_bound c.args.name.now z) bound_view c.in-Trait.is (view_Bound-Trait _) (viewed (λ z. spec.in_trait c.args.name.now z) (view-TraitBound
    c.in-Trait.bound) c.in_path.ensures)

pub in_path-returns-then-some_named : goal.in_path-returns-then-some_named
in_path-returns-then-some_named t c =
    c.if-some_named.true ∙ viewed (λ z. spec.in_path c.args.name.now z) (view-Path c.args.path.now) (first_of (spec.in_segments c.args.name.now (segments_of
    (map segment_view (out-Path c.args.path.now).segments))) (c.if-some_named.ensures ∙ ap (λ z. some_named c.args.name.now z) c.bare_first.ensures ∙ ap
    (λ z. some_named c.args.name.now (bare_first (segments_of (map segment_view z)))) c.as_slice.ensures))

pub in_path-returns-else-some_named : goal.in_path-returns-else-some_named
in_path-returns-else-some_named t c =
    viewed (λ z. spec.in_path c.args.name.now z) (view-Path c.args.path.now) (second_of (c.if-some_named.ensures ∙ ap (λ z. some_named c.args.name.now z)
    c.bare_first.ensures ∙ ap (λ z. some_named c.args.name.now (bare_first (segments_of (map segment_view z)))) c.as_slice.ensures) (c.any_holds.ensures ∙ segments_are c.args.name.now _))

pub PathSegmentHoldsRefStr::holds-returns : goal.PathSegmentHoldsRefStr::holds-returns
PathSegmentHoldsRefStr::holds-returns t c =
    viewed (λ z. spec.in_segment c.args.name.now z) (view-PathSegment c.args.self.now) c.in_arguments.ensures

pub in_arguments-returns-in-Absent : goal.in_arguments-returns-in-Absent
in_arguments-returns-in-Absent t c =
    shown (λ z. spec.in_segment_arguments c.args.name.now z) arguments_view c.in-Absent.is view_PathArguments-Absent refl

pub in_arguments-returns-in-Angle : goal.in_arguments-returns-in-Angle
in_arguments-returns-in-Angle t c =
    shown (λ z. spec.in_segment_arguments c.args.name.now z) arguments_view c.in-Angle.is (view_PathArguments-Angle _ _) (c.any_holds.ensures ∙ arguments_are c.args.name.now _)

pub in_arguments-returns-in-None : goal.in_arguments-returns-in-None
in_arguments-returns-in-None t c =
    shown (λ z. spec.in_segment_arguments c.args.name.now z) arguments_view c.in-Paren.is (view_PathArguments-Paren _ _) (alone_of _ (c.any_holds-in-None.ensures ∙ types_are c.args.name.now _) (ap (λ z. spec.in_output c.args.name.now (maybe_ty_view z))
    c.in-None.is))

pub in_arguments-returns-then-any_holds : goal.in_arguments-returns-then-any_holds
in_arguments-returns-then-any_holds t c =
    c.if-any_holds.true ∙ shown (λ z. spec.in_segment_arguments c.args.name.now z) arguments_view c.in-Paren.is (view_PathArguments-Paren _ _) (first_of
    (spec.in_output c.args.name.now (maybe_ty_view c.in-Paren.output)) (c.if-any_holds.ensures ∙ types_are c.args.name.now _))

pub in_arguments-returns-else-any_holds : goal.in_arguments-returns-else-any_holds
in_arguments-returns-else-any_holds t c =
    shown (λ z. spec.in_segment_arguments c.args.name.now z) arguments_view c.in-Paren.is (view_PathArguments-Paren _ _) (second_of (c.if-any_holds.ensures ∙ types_are c.args.name.now _) (c.holds.ensures ∙ ap
    (λ z. spec.in_type c.args.name.now (ty_view z)) c.deref.ensures ∙ sym (ap (λ z. spec.in_output c.args.name.now (maybe_ty_view z)) c.in-Some.is)))

pub GenericArgumentHoldsRefStr::holds-returns-in-Lifetime : goal.GenericArgumentHoldsRefStr::holds-returns-in-Lifetime
GenericArgumentHoldsRefStr::holds-returns-in-Lifetime t c =
    shown (λ z. spec.in_argument c.args.name.now z) argument_view c.in-Lifetime.is (view_GenericArgument-Lifetime _) refl

pub GenericArgumentHoldsRefStr::holds-returns-in-Ty : goal.GenericArgumentHoldsRefStr::holds-returns-in-Ty
GenericArgumentHoldsRefStr::holds-returns-in-Ty t c =
    shown (λ z. spec.in_argument c.args.name.now z) argument_view c.in-Ty.is (view_GenericArgument-Ty _) c.holds.ensures

pub GenericArgumentHoldsRefStr::holds-returns-in-Const : goal.GenericArgumentHoldsRefStr::holds-returns-in-Const
GenericArgumentHoldsRefStr::holds-returns-in-Const t c =
    shown (λ z. spec.in_argument c.args.name.now z) argument_view c.in-Const.is (view_GenericArgument-Const _) refl

pub GenericArgumentHoldsRefStr::holds-returns-in-AssocTy : goal.GenericArgumentHoldsRefStr::holds-returns-in-AssocTy
GenericArgumentHoldsRefStr::holds-returns-in-AssocTy t c =
    shown (λ z. spec.in_argument c.args.name.now z) argument_view c.in-AssocTy.is (view_GenericArgument-AssocTy _ _ _) c.holds-in-AssocTy.ensures

pub GenericArgumentHoldsRefStr::holds-returns-in-AssocConst : goal.GenericArgumentHoldsRefStr::holds-returns-in-AssocConst
GenericArgumentHoldsRefStr::holds-returns-in-AssocConst t c =
    shown (λ z. spec.in_argument c.args.name.now z) argument_view c.in-AssocConst.is (view_GenericArgument-AssocConst _ _ _) refl

pub GenericArgumentHoldsRefStr::holds-returns-in-Constraint : goal.GenericArgumentHoldsRefStr::holds-returns-in-Constraint
GenericArgumentHoldsRefStr::holds-returns-in-Constraint t c =
    shown (λ z. spec.in_argument c.args.name.now z) argument_view c.in-Constraint.is (view_GenericArgument-Constraint _ _ _) refl
