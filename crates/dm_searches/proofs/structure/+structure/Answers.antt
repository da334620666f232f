use Rattle.std.proofs.Common.{map, refl, ap, ◌∙◌}
use Rattle.dm_ast.specs.Tree.{types_of, segments_of, arguments_of, ty_view, node_view, segment_view, arguments_view, argument_view}
use Rattle.dm_ast.proofs.View.{view_TyNode-Paren, view_TyNode-Tuple, view_TyNode-Slice, view_TyNode-Array, view_TyNode-Reference, view_TyNode-Pointer, view_TyNode-TraitObject, view_TyNode-ImplTrait, view_TyNode-Infer, view_TyNode-Never, view_TyNode-Path, view_TyNode-Macro, view_PathArguments-Absent, view_PathArguments-Angle, view_PathArguments-Paren, view_GenericArgument-Lifetime, view_GenericArgument-Ty, view_GenericArgument-Const, view_GenericArgument-AssocTy, view_GenericArgument-AssocConst, view_GenericArgument-Constraint, view-Ty, view-PathSegment, view-Path}
use Rattle.dm_same.specs.SameTypes.{same_type}
use Rattle.dm_searches.proofs.Steps.{first_of, second_of, viewed, shown, found, goes_on, not_found}
use Rattle.dm_searches.specs.Inside as spec
use Rattle.dm_searches.proofs.structure.+structure.Goals as goal

pub contains_type_structurally-returns-then-same_type : goal.contains_type_structurally-returns-then-same_type
contains_type_structurally-returns-then-same_type t c =
    c.if-same_type.true ∙ viewed (λ z. spec.inside (ty_view c.args.needle.now) z) (view-Ty c.args.ty.now) (first_of (spec.in_node (ty_view c.args.needle.now)
    (node_view c.args.ty.now.node)) (c.if-same_type.ensures ∙ ap (λ z. same_type z (ty_view c.args.needle.now)) (view-Ty c.args.ty.now)))

pub contains_type_structurally-returns-else-same_type : goal.contains_type_structurally-returns-else-same_type
contains_type_structurally-returns-else-same_type t c =
    viewed (λ z. spec.inside (ty_view c.args.needle.now) z) (view-Ty c.args.ty.now) (second_of (c.if-same_type.ensures ∙ ap
    (λ z. same_type z (ty_view c.args.needle.now)) (view-Ty c.args.ty.now)) c.in_node.ensures)

pub in_node-returns-in-Paren : goal.in_node-returns-in-Paren
in_node-returns-in-Paren t c =
    shown (λ z. spec.in_node (ty_view c.args.needle.now) z) node_view c.in-Paren.is (view_TyNode-Paren _) (c.contains_type_structurally.ensures ∙ ap
    (λ z. spec.inside (ty_view c.args.needle.now) (ty_view z)) c.deref.ensures)

pub in_node-returns-in-Slice : goal.in_node-returns-in-Slice
in_node-returns-in-Slice t c =
    shown (λ z. spec.in_node (ty_view c.args.needle.now) z) node_view c.in-Slice.is (view_TyNode-Slice _) (c.contains_type_structurally-in-Slice.ensures ∙ ap
    (λ z. spec.inside (ty_view c.args.needle.now) (ty_view z)) c.deref-in-Slice.ensures)

pub in_node-returns-in-Array : goal.in_node-returns-in-Array
in_node-returns-in-Array t c =
    shown (λ z. spec.in_node (ty_view c.args.needle.now) z) node_view c.in-Array.is (view_TyNode-Array _ _) (c.contains_type_structurally-in-Array.ensures ∙ ap
    (λ z. spec.inside (ty_view c.args.needle.now) (ty_view z)) c.deref-in-Array.ensures)

pub in_node-returns-in-Reference : goal.in_node-returns-in-Reference
in_node-returns-in-Reference t c =
    shown (λ z. spec.in_node (ty_view c.args.needle.now) z) node_view c.in-Reference.is (view_TyNode-Reference _ _ _)
    (c.contains_type_structurally-in-Reference.ensures ∙ ap (λ z. spec.inside (ty_view c.args.needle.now) (ty_view z)) c.deref-in-Reference.ensures)

pub in_node-returns-in-Pointer : goal.in_node-returns-in-Pointer
in_node-returns-in-Pointer t c =
    shown (λ z. spec.in_node (ty_view c.args.needle.now) z) node_view c.in-Pointer.is (view_TyNode-Pointer _ _)
    (c.contains_type_structurally-in-Pointer.ensures ∙ ap (λ z. spec.inside (ty_view c.args.needle.now) (ty_view z)) c.deref-in-Pointer.ensures)

pub in_node-returns-in-Tuple : goal.in_node-returns-in-Tuple
in_node-returns-in-Tuple t c =
    shown (λ z. spec.in_node (ty_view c.args.needle.now) z) node_view c.in-Tuple.is (view_TyNode-Tuple _) (c.in_types.ensures ∙ ap
    (λ z. spec.in_types (ty_view c.args.needle.now) (types_of (map ty_view z))) c.as_slice.ensures)

pub in_node-returns-in-TraitObject : goal.in_node-returns-in-TraitObject
in_node-returns-in-TraitObject t c =
    shown (λ z. spec.in_node (ty_view c.args.needle.now) z) node_view c.in-TraitObject.is (view_TyNode-TraitObject _) refl

pub in_node-returns-in-ImplTrait : goal.in_node-returns-in-ImplTrait
in_node-returns-in-ImplTrait t c =
    shown (λ z. spec.in_node (ty_view c.args.needle.now) z) node_view c.in-ImplTrait.is (view_TyNode-ImplTrait _) refl

pub in_node-returns-in-Infer : goal.in_node-returns-in-Infer
in_node-returns-in-Infer t c =
    shown (λ z. spec.in_node (ty_view c.args.needle.now) z) node_view c.in-Infer.is view_TyNode-Infer refl

pub in_node-returns-in-Never : goal.in_node-returns-in-Never
in_node-returns-in-Never t c =
    shown (λ z. spec.in_node (ty_view c.args.needle.now) z) node_view c.in-Never.is view_TyNode-Never refl

pub in_node-returns-in-Macro : goal.in_node-returns-in-Macro
in_node-returns-in-Macro t c =
    shown (λ z. spec.in_node (ty_view c.args.needle.now) z) node_view c.in-Macro.is (view_TyNode-Macro _ _ _) refl

pub in_node-returns-in-Path : goal.in_node-returns-in-Path
in_node-returns-in-Path t c =
    shown (λ z. spec.in_node (ty_view c.args.needle.now) z) node_view c.in-Path.is (view_TyNode-Path _ _) c.in_path.ensures

pub in_types-loop-item-init : goal.in_types-loop-item-init
in_types-loop-item-init t c =
    refl

pub in_types-returns-then-contains_type_structurally : goal.in_types-returns-then-contains_type_structurally
in_types-returns-then-contains_type_structurally t c =
    found (λ z. spec.inside (ty_view c.args.needle.now) (ty_view z)) (λ z. spec.in_types (ty_view c.args.needle.now) (types_of (map ty_view z))) (λ y ys. refl)
    c.args.all.now c.item-item.result c.loop-item.item-index c.loop-item-test.true c.item-item.is c.loop-item.invariant c.if-contains_type_structurally.ensures

pub in_types-loop-item-preserved : goal.in_types-loop-item-preserved
in_types-loop-item-preserved t c =
    goes_on (λ z. spec.inside (ty_view c.args.needle.now) (ty_view z)) (λ z. spec.in_types (ty_view c.args.needle.now) (types_of (map ty_view z)))
    (λ y ys. refl) c.args.all.now c.item-item.result c.loop-item.item-index c.loop-item-test.true c.item-item.is c.loop-item.invariant
    c.if-contains_type_structurally.ensures

pub in_types-returns : goal.in_types-returns
in_types-returns t c =
    not_found (λ z. spec.in_types (ty_view c.args.needle.now) (types_of (map ty_view z))) c.args.all.now c.loop-item.item-index c.loop-item-test.false refl
    c.loop-item.invariant

pub in_path-returns : goal.in_path-returns
in_path-returns t c =
    viewed (λ z. spec.in_path (ty_view c.args.needle.now) z) (view-Path c.args.path.now) (c.in_segments.ensures ∙ ap
    (λ z. spec.in_segments (ty_view c.args.needle.now) (segments_of (map segment_view z))) c.as_slice.ensures)

pub in_segments-loop-item-init : goal.in_segments-loop-item-init
in_segments-loop-item-init t c =
    refl

pub in_segments-returns-then-in_segment : goal.in_segments-returns-then-in_segment
in_segments-returns-then-in_segment t c =
    found (λ z. spec.in_segment (ty_view c.args.needle.now) (segment_view z))
    (λ z. spec.in_segments (ty_view c.args.needle.now) (segments_of (map segment_view z))) (λ y ys. refl) c.args.all.now c.item-item.result
    c.loop-item.item-index c.loop-item-test.true c.item-item.is c.loop-item.invariant c.if-in_segment.ensures

pub in_segments-loop-item-preserved : goal.in_segments-loop-item-preserved
in_segments-loop-item-preserved t c =
    goes_on (λ z. spec.in_segment (ty_view c.args.needle.now) (segment_view z))
    (λ z. spec.in_segments (ty_view c.args.needle.now) (segments_of (map segment_view z))) (λ y ys. refl) c.args.all.now c.item-item.result
    c.loop-item.item-index c.loop-item-test.true c.item-item.is c.loop-item.invariant c.if-in_segment.ensures

pub in_segments-returns : goal.in_segments-returns
in_segments-returns t c =
    not_found (λ z. spec.in_segments (ty_view c.args.needle.now) (segments_of (map segment_view z))) c.args.all.now c.loop-item.item-index
    c.loop-item-test.false refl c.loop-item.invariant

pub in_segment-returns : goal.in_segment-returns
in_segment-returns t c =
    viewed (λ z. spec.in_segment (ty_view c.args.needle.now) z) (view-PathSegment c.args.segment.now) c.in_segment_arguments.ensures

pub in_segment_arguments-returns-in-Absent : goal.in_segment_arguments-returns-in-Absent
in_segment_arguments-returns-in-Absent t c =
    shown (λ z. spec.in_segment_arguments (ty_view c.args.needle.now) z) arguments_view c.in-Absent.is view_PathArguments-Absent refl

pub in_segment_arguments-returns-in-Angle : goal.in_segment_arguments-returns-in-Angle
in_segment_arguments-returns-in-Angle t c =
    shown (λ z. spec.in_segment_arguments (ty_view c.args.needle.now) z) arguments_view c.in-Angle.is (view_PathArguments-Angle _ _) (c.in_arguments.ensures ∙
    ap (λ z. spec.in_arguments (ty_view c.args.needle.now) (arguments_of (map argument_view z))) c.as_slice.ensures)

pub in_segment_arguments-returns-in-Paren : goal.in_segment_arguments-returns-in-Paren
in_segment_arguments-returns-in-Paren t c =
    shown (λ z. spec.in_segment_arguments (ty_view c.args.needle.now) z) arguments_view c.in-Paren.is (view_PathArguments-Paren _ _) refl

pub in_arguments-loop-item-init : goal.in_arguments-loop-item-init
in_arguments-loop-item-init t c =
    refl

pub in_arguments-returns-then-in_argument : goal.in_arguments-returns-then-in_argument
in_arguments-returns-then-in_argument t c =
    found (λ z. spec.in_argument (ty_view c.args.needle.now) (argument_view z))
    (λ z. spec.in_arguments (ty_view c.args.needle.now) (arguments_of (map argument_view z))) (λ y ys. refl) c.args.all.now c.item-item.result
    c.loop-item.item-index c.loop-item-test.true c.item-item.is c.loop-item.invariant c.if-in_argument.ensures

pub in_arguments-loop-item-preserved : goal.in_arguments-loop-item-preserved
in_arguments-loop-item-preserved t c =
    goes_on (λ z. spec.in_argument (ty_view c.args.needle.now) (argument_view z))
    (λ z. spec.in_arguments (ty_view c.args.needle.now) (arguments_of (map argument_view z))) (λ y ys. refl) c.args.all.now c.item-item.result
    c.loop-item.item-index c.loop-item-test.true c.item-item.is c.loop-item.invariant c.if-in_argument.ensures

pub in_arguments-returns : goal.in_arguments-returns
in_arguments-returns t c =
    not_found (λ z. spec.in_arguments (ty_view c.args.needle.now) (arguments_of (map argument_view z))) c.args.all.now c.loop-item.item-index
    c.loop-item-test.false refl c.loop-item.invariant

pub in_argument-returns-in-Lifetime : goal.in_argument-returns-in-Lifetime
in_argument-returns-in-Lifetime t c =
    shown (λ z. spec.in_argument (ty_view c.args.needle.now) z) argument_view c.in-Lifetime.is (view_GenericArgument-Lifetime _) refl

pub in_argument-returns-in-Ty : goal.in_argument-returns-in-Ty
in_argument-returns-in-Ty t c =
    shown (λ z. spec.in_argument (ty_view c.args.needle.now) z) argument_view c.in-Ty.is (view_GenericArgument-Ty _) c.contains_type_structurally.ensures

pub in_argument-returns-in-Const : goal.in_argument-returns-in-Const
in_argument-returns-in-Const t c =
    shown (λ z. spec.in_argument (ty_view c.args.needle.now) z) argument_view c.in-Const.is (view_GenericArgument-Const _) refl

pub in_argument-returns-in-AssocTy : goal.in_argument-returns-in-AssocTy
in_argument-returns-in-AssocTy t c =
    shown (λ z. spec.in_argument (ty_view c.args.needle.now) z) argument_view c.in-AssocTy.is (view_GenericArgument-AssocTy _ _ _) refl

pub in_argument-returns-in-AssocConst : goal.in_argument-returns-in-AssocConst
in_argument-returns-in-AssocConst t c =
    shown (λ z. spec.in_argument (ty_view c.args.needle.now) z) argument_view c.in-AssocConst.is (view_GenericArgument-AssocConst _ _ _) refl

pub in_argument-returns-in-Constraint : goal.in_argument-returns-in-Constraint
in_argument-returns-in-Constraint t c =
    shown (λ z. spec.in_argument (ty_view c.args.needle.now) z) argument_view c.in-Constraint.is (view_GenericArgument-Constraint _ _ _) refl
