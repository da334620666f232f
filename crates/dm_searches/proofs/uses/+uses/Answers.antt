use Rattle.std.proofs.Common.{map, refl, sym, ap, ◌∙◌}
use Rattle.dm_ast.specs.declared.ty.Bound.TheViews.{out-Path}
use Rattle.dm_ast.specs.Tree.{segments_of, arguments_of, maybe_self_view, ty_view, node_view, path_view, segment_view, arguments_view, argument_view}
use Rattle.dm_ast.proofs.View.{view_TyNode-Paren, view_TyNode-Tuple, view_TyNode-Slice, view_TyNode-Array, view_TyNode-Reference, view_TyNode-Pointer, view_TyNode-BareFn, view_TyNode-TraitObject, view_TyNode-ImplTrait, view_TyNode-Infer, view_TyNode-Never, view_TyNode-Path, view_TyNode-Macro, view_PathArguments-Absent, view_PathArguments-Angle, view_PathArguments-Paren, view_GenericArgument-Lifetime, view_GenericArgument-Ty, view_GenericArgument-Const, view_GenericArgument-AssocTy, view_GenericArgument-AssocConst, view_GenericArgument-Constraint, view-Ty, view-PathSegment, view-Path, view-some_self}
use Rattle.dm_searches.proofs.Steps.{first_of, second_of, viewed, shown, any_is}
use Rattle.dm_searches.specs.Uses as spec
use Rattle.dm_searches.proofs.uses.+uses.Goals as goal

pub in_type-returns-in-Reference : goal.in_type-returns-in-Reference
in_type-returns-in-Reference t c =
    viewed (λ z. spec.uses c.args.params.now.keys z) (view-Ty c.args.ty.now) (shown (λ z. spec.in_node c.args.params.now.keys z) node_view c.in-Reference.is
    (view_TyNode-Reference _ _ _) (c.in_type.ensures ∙ ap (λ z. spec.uses c.args.params.now.keys (ty_view z)) c.deref.ensures))

pub in_type-returns-in-None : goal.in_type-returns-in-None
in_type-returns-in-None t c =
    viewed (λ z. spec.uses c.args.params.now.keys z) (view-Ty c.args.ty.now) (shown (λ z. spec.in_node c.args.params.now.keys z) node_view c.in-Path.is
    (view_TyNode-Path _ _) (second_of (sym (ap (λ z. spec.in_self c.args.params.now.keys (maybe_self_view z)) c.in-None.is)) c.in_path.ensures))

pub in_type-returns-then-in_self : goal.in_type-returns-then-in_self
in_type-returns-then-in_self t c =
    c.if-in_self.true ∙ viewed (λ z. spec.uses c.args.params.now.keys z) (view-Ty c.args.ty.now) (shown (λ z. spec.in_node c.args.params.now.keys z) node_view
    c.in-Path.is (view_TyNode-Path _ _) (first_of (spec.in_path c.args.params.now.keys (path_view c.in-Path.path)) (c.if-in_self.ensures ∙ ap
    (λ z. spec.uses c.args.params.now.keys (ty_view z.ty)) c.deref-in-Some.ensures ∙ sym (ap (λ z. spec.in_self c.args.params.now.keys (maybe_self_view z))
    c.in-Some.is ∙ ap (λ z. spec.in_self c.args.params.now.keys z) (view-some_self c.in-Some.qself)))))

pub in_type-returns-else-in_self : goal.in_type-returns-else-in_self
in_type-returns-else-in_self t c =
    viewed (λ z. spec.uses c.args.params.now.keys z) (view-Ty c.args.ty.now) (shown (λ z. spec.in_node c.args.params.now.keys z) node_view c.in-Path.is
    (view_TyNode-Path _ _) (second_of (c.if-in_self.ensures ∙ ap (λ z. spec.uses c.args.params.now.keys (ty_view z.ty)) c.deref-in-Some.ensures ∙ sym (ap
    (λ z. spec.in_self c.args.params.now.keys (maybe_self_view z)) c.in-Some.is ∙ ap (λ z. spec.in_self c.args.params.now.keys z) (view-some_self
    c.in-Some.qself))) c.in_path-else-in_self.ensures))

pub in_type-returns-in-Paren : goal.in_type-returns-in-Paren
in_type-returns-in-Paren t c =
    viewed (λ z. spec.uses c.args.params.now.keys z) (view-Ty c.args.ty.now) (shown (λ z. spec.in_node c.args.params.now.keys z) node_view c.in-Paren.is
    (view_TyNode-Paren _) refl)

pub in_type-returns-in-Tuple : goal.in_type-returns-in-Tuple
in_type-returns-in-Tuple t c =
    viewed (λ z. spec.uses c.args.params.now.keys z) (view-Ty c.args.ty.now) (shown (λ z. spec.in_node c.args.params.now.keys z) node_view c.in-Tuple.is
    (view_TyNode-Tuple _) refl)

pub in_type-returns-in-Slice : goal.in_type-returns-in-Slice
in_type-returns-in-Slice t c =
    viewed (λ z. spec.uses c.args.params.now.keys z) (view-Ty c.args.ty.now) (shown (λ z. spec.in_node c.args.params.now.keys z) node_view c.in-Slice.is
    (view_TyNode-Slice _) refl)

pub in_type-returns-in-Array : goal.in_type-returns-in-Array
in_type-returns-in-Array t c =
    viewed (λ z. spec.uses c.args.params.now.keys z) (view-Ty c.args.ty.now) (shown (λ z. spec.in_node c.args.params.now.keys z) node_view c.in-Array.is
    (view_TyNode-Array _ _) refl)

pub in_type-returns-in-Pointer : goal.in_type-returns-in-Pointer
in_type-returns-in-Pointer t c =
    viewed (λ z. spec.uses c.args.params.now.keys z) (view-Ty c.args.ty.now) (shown (λ z. spec.in_node c.args.params.now.keys z) node_view c.in-Pointer.is
    (view_TyNode-Pointer _ _) refl)

pub in_type-returns-in-BareFn : goal.in_type-returns-in-BareFn
in_type-returns-in-BareFn t c =
    viewed (λ z. spec.uses c.args.params.now.keys z) (view-Ty c.args.ty.now) (shown (λ z. spec.in_node c.args.params.now.keys z) node_view c.in-BareFn.is
    (view_TyNode-BareFn _) refl)

pub in_type-returns-in-TraitObject : goal.in_type-returns-in-TraitObject
in_type-returns-in-TraitObject t c =
    viewed (λ z. spec.uses c.args.params.now.keys z) (view-Ty c.args.ty.now) (shown (λ z. spec.in_node c.args.params.now.keys z) node_view c.in-TraitObject.is
    (view_TyNode-TraitObject _) refl)

pub in_type-returns-in-ImplTrait : goal.in_type-returns-in-ImplTrait
in_type-returns-in-ImplTrait t c =
    viewed (λ z. spec.uses c.args.params.now.keys z) (view-Ty c.args.ty.now) (shown (λ z. spec.in_node c.args.params.now.keys z) node_view c.in-ImplTrait.is
    (view_TyNode-ImplTrait _) refl)

pub in_type-returns-in-Infer : goal.in_type-returns-in-Infer
in_type-returns-in-Infer t c =
    viewed (λ z. spec.uses c.args.params.now.keys z) (view-Ty c.args.ty.now) (shown (λ z. spec.in_node c.args.params.now.keys z) node_view
    c.in-Infer.is view_TyNode-Infer refl)

pub in_type-returns-in-Never : goal.in_type-returns-in-Never
in_type-returns-in-Never t c =
    viewed (λ z. spec.uses c.args.params.now.keys z) (view-Ty c.args.ty.now) (shown (λ z. spec.in_node c.args.params.now.keys z) node_view
    c.in-Never.is view_TyNode-Never refl)

pub in_type-returns-in-Macro : goal.in_type-returns-in-Macro
in_type-returns-in-Macro t c =
    viewed (λ z. spec.uses c.args.params.now.keys z) (view-Ty c.args.ty.now) (shown (λ z. spec.in_node c.args.params.now.keys z) node_view c.in-Macro.is
    (view_TyNode-Macro _ _ _) refl)

pub in_self-returns : goal.in_self-returns
in_self-returns t c =
    c.in_type.ensures

pub in_path-returns-then-is_first : goal.in_path-returns-then-is_first
in_path-returns-then-is_first t c =
    c.if-is_first.true ∙ viewed (λ z. spec.in_path c.args.params.now.keys z) (view-Path c.args.path.now) (first_of (spec.in_segments c.args.params.now.keys
    (segments_of (map segment_view (out-Path c.args.path.now).segments))) (c.if-is_first.ensures ∙ ap
    (λ z. spec.is_first c.args.params.now.keys (segments_of (map segment_view z))) c.as_slice.ensures))

pub in_path-returns-else-is_first : goal.in_path-returns-else-is_first
in_path-returns-else-is_first t c =
    viewed (λ z. spec.in_path c.args.params.now.keys z) (view-Path c.args.path.now) (second_of (c.if-is_first.ensures ∙ ap
    (λ z. spec.is_first c.args.params.now.keys (segments_of (map segment_view z))) c.as_slice.ensures) (c.any_holds.ensures ∙ any_is
    (λ z. spec.in_segment c.args.params.now.keys (segment_view z)) (λ z. spec.in_segments c.args.params.now.keys (segments_of (map segment_view z))) refl
    (λ y ys. refl) (out-Path c.args.path.now).segments))

pub PathSegmentHoldsRefIndexSetText::holds-returns-in-Absent : goal.PathSegmentHoldsRefIndexSetText::holds-returns-in-Absent
PathSegmentHoldsRefIndexSetText::holds-returns-in-Absent t c =
    viewed (λ z. spec.in_segment c.args.params.now.keys z) (view-PathSegment c.args.self.now) (shown
    (λ z. spec.in_segment_arguments c.args.params.now.keys z) arguments_view c.in-Absent.is view_PathArguments-Absent refl)

pub PathSegmentHoldsRefIndexSetText::holds-returns-in-Angle : goal.PathSegmentHoldsRefIndexSetText::holds-returns-in-Angle
PathSegmentHoldsRefIndexSetText::holds-returns-in-Angle t c =
    viewed (λ z. spec.in_segment c.args.params.now.keys z) (view-PathSegment c.args.self.now) (shown
    (λ z. spec.in_segment_arguments c.args.params.now.keys z) arguments_view c.in-Angle.is (view_PathArguments-Angle _ _) (c.any_holds.ensures ∙ any_is
    (λ z. spec.in_argument c.args.params.now.keys (argument_view z)) (λ z. spec.in_arguments c.args.params.now.keys (arguments_of (map argument_view z))) refl
    (λ y ys. refl) _))

pub PathSegmentHoldsRefIndexSetText::holds-returns-in-Paren : goal.PathSegmentHoldsRefIndexSetText::holds-returns-in-Paren
PathSegmentHoldsRefIndexSetText::holds-returns-in-Paren t c =
    viewed (λ z. spec.in_segment c.args.params.now.keys z) (view-PathSegment c.args.self.now) (shown
    (λ z. spec.in_segment_arguments c.args.params.now.keys z) arguments_view c.in-Paren.is (view_PathArguments-Paren _ _) refl)

pub GenericArgumentHoldsRefIndexSetText::holds-returns-in-Lifetime : goal.GenericArgumentHoldsRefIndexSetText::holds-returns-in-Lifetime
GenericArgumentHoldsRefIndexSetText::holds-returns-in-Lifetime t c =
    shown (λ z. spec.in_argument c.args.params.now.keys z) argument_view c.in-Lifetime.is (view_GenericArgument-Lifetime _) refl

pub GenericArgumentHoldsRefIndexSetText::holds-returns-in-Ty : goal.GenericArgumentHoldsRefIndexSetText::holds-returns-in-Ty
GenericArgumentHoldsRefIndexSetText::holds-returns-in-Ty t c =
    shown (λ z. spec.in_argument c.args.params.now.keys z) argument_view c.in-Ty.is (view_GenericArgument-Ty _) c.in_type.ensures

pub GenericArgumentHoldsRefIndexSetText::holds-returns-in-Const : goal.GenericArgumentHoldsRefIndexSetText::holds-returns-in-Const
GenericArgumentHoldsRefIndexSetText::holds-returns-in-Const t c =
    shown (λ z. spec.in_argument c.args.params.now.keys z) argument_view c.in-Const.is (view_GenericArgument-Const _) refl

pub GenericArgumentHoldsRefIndexSetText::holds-returns-in-AssocTy : goal.GenericArgumentHoldsRefIndexSetText::holds-returns-in-AssocTy
GenericArgumentHoldsRefIndexSetText::holds-returns-in-AssocTy t c =
    shown (λ z. spec.in_argument c.args.params.now.keys z) argument_view c.in-AssocTy.is (view_GenericArgument-AssocTy _ _ _) refl

pub GenericArgumentHoldsRefIndexSetText::holds-returns-in-AssocConst : goal.GenericArgumentHoldsRefIndexSetText::holds-returns-in-AssocConst
GenericArgumentHoldsRefIndexSetText::holds-returns-in-AssocConst t c =
    shown (λ z. spec.in_argument c.args.params.now.keys z) argument_view c.in-AssocConst.is (view_GenericArgument-AssocConst _ _ _) refl

pub GenericArgumentHoldsRefIndexSetText::holds-returns-in-Constraint : goal.GenericArgumentHoldsRefIndexSetText::holds-returns-in-Constraint
GenericArgumentHoldsRefIndexSetText::holds-returns-in-Constraint t c =
    shown (λ z. spec.in_argument c.args.params.now.keys z) argument_view c.in-Constraint.is (view_GenericArgument-Constraint _ _ _) c.is_key.ensures
