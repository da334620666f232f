-- The tokens of types that are the same part for part.
use native.Mathlib.Omega.{arith}
use Rattle.std.proofs.Common.{◌≡◌, true, ◌&&◌, map, sym, ap, ap₂, ◌∙◌}
use Rattle.dm_ast.specs.Tree.{paren, tuple, slice, array, reference, pointer, bare_fn, trait_object, impl_trait, ty_view, node_view, fn_view, bound_view, argument_view, maybe_arguments_view, types_of, bounds_of, arguments_of}
use Rattle.dm_ast.proofs.View.{view-BareFn, view-FnArg, view-Path, view-PathSegment, view-TraitBound, view-Ty, view-some_self, view_Bound-Lifetime, view_Bound-Trait, view_GenericArgument-AssocConst, view_GenericArgument-AssocTy, view_GenericArgument-Const, view_GenericArgument-Constraint, view_GenericArgument-Lifetime, view_GenericArgument-Ty, view_PathArguments-Absent, view_PathArguments-Angle, view_PathArguments-Paren, view_TyNode-Array, view_TyNode-BareFn, view_TyNode-ImplTrait, view_TyNode-Infer, view_TyNode-Macro, view_TyNode-Never, view_TyNode-Paren, view_TyNode-Path, view_TyNode-Pointer, view_TyNode-Reference, view_TyNode-Slice, view_TyNode-TraitObject, view_TyNode-Tuple}
use Rattle.dm_same.specs.SameTypes.{same_name, same_flag, same_type, same_node, same_bounds, same_argument, same_arguments, same_maybe_arguments}
use Rattle.dm_same.specs.Shapes.{given_view, same_binding}
use Rattle.dm_same.proofs.Comparing.{and_true, and_none, types_alike, bounds_alike, inputs_alike, segments_alike, arguments_alike, all_apart, constraint_is}
use Rattle.dm_same.proofs.same_types.+same.Goals.{binding_eq-then-alike-4, binding_eq-else-alike-4}
use Rattle.dm_same.proofs.same_types.+same.Goals as goal

-- constraints without `<` and `>`
pub binding_eq-returns-then-alike-3 : goal.binding_eq-returns-then-alike-3
binding_eq-returns-then-alike-3 t c =
    let bs = c.in-Constraint.bounds in
    let cs = c.in-Constraint-other.of.now in
    constraint_is c.in-Constraint.label c.in-Constraint-other.name.now c.in-Constraint.all c.in-Constraint-other.found.now bs cs c.some_bounds_eq.result
    (sym c.alike-in-None-None-3.ensures ∙ c.if-alike-3.true)
    (ap₂ (λ x y. same_maybe_arguments (maybe_arguments_view x) (maybe_arguments_view y)) c.in-None-None-3.is-0 c.in-None-None-3.is-1)
    (c.some_bounds_eq.ensures ∙
    ap (λ l. same_bounds (bounds_of (map bound_view l)) (bounds_of (map bound_view cs.items)) && same_flag bs.trailing cs.trailing) c.as_slice-then-alike-3.ensures) ∙
    sym (ap₂ (λ x y. same_binding (argument_view x) (given_view y)) c.in-Constraint.is c.in-Constraint-other.is)

-- constraints with them
pub binding_eq-returns-then-angle_eq : goal.binding_eq-returns-then-angle_eq
binding_eq-returns-then-angle_eq t c =
    let bs = c.in-Constraint.bounds in
    let cs = c.in-Constraint-other.of.now in
    let xs = c.in-Some-Some-3.xs in
    let ys = c.in-Some-Some-3.ys in
    let named : same_name c.in-Constraint.label c.in-Constraint-other.name.now ≡ true =
    elim c.if-alike-4.branch [
      | binding_eq-then-alike-4 w ↦ sym c.alike-in-Some-Some-3.ensures ∙ w.if-alike-4.true
      | binding_eq-else-alike-4 w ↦ (let e = w.value-is in let f = c.if-angle_eq.true in absurd (cc))
    ] in
    let listed : (same_arguments (arguments_of (map argument_view xs.items)) (arguments_of (map argument_view ys.items)) && same_flag xs.trailing ys.trailing) ≡ true =
    elim c.if-alike-4.branch [
      | binding_eq-then-alike-4 w ↦
          sym (w.angle_eq.ensures ∙
          ap (λ l. same_arguments (arguments_of (map argument_view l)) (arguments_of (map argument_view ys.items)) && same_flag xs.trailing ys.trailing)
          w.as_slice-then-alike-4.ensures) ∙ sym w.value-is ∙ c.if-angle_eq.true
      | binding_eq-else-alike-4 w ↦ (let e = w.value-is in let f = c.if-angle_eq.true in absurd (cc))
    ] in
    constraint_is c.in-Constraint.label c.in-Constraint-other.name.now c.in-Constraint.all c.in-Constraint-other.found.now bs cs c.some_bounds_eq-then-angle_eq.result named
    (ap₂ (λ x y. same_maybe_arguments (maybe_arguments_view x) (maybe_arguments_view y)) c.in-Some-Some-3.is-0 c.in-Some-Some-3.is-1 ∙ listed)
    (c.some_bounds_eq-then-angle_eq.ensures ∙
    ap (λ l. same_bounds (bounds_of (map bound_view l)) (bounds_of (map bound_view cs.items)) && same_flag bs.trailing cs.trailing) c.as_slice-then-angle_eq.ensures) ∙
    sym (ap₂ (λ x y. same_binding (argument_view x) (given_view y)) c.in-Constraint.is c.in-Constraint-other.is)

-- a node, and the same node with its parts lent
pub node_eq-returns-in-Paren : goal.node_eq-returns-in-Paren
node_eq-returns-in-Paren t c =
    c.paren_eq.ensures ∙
    ap₂ (λ x y. same_node x y)
    (sym (ap node_view c.in-Paren.is ∙ view_TyNode-Paren _ ∙ ap (λ x. paren (ty_view x)) (sym c.deref.ensures)))
    c.shape_of-other.ensures

pub node_eq-returns-in-Tuple : goal.node_eq-returns-in-Tuple
node_eq-returns-in-Tuple t c =
    c.tuple_eq.ensures ∙
    ap₂ (λ x y. same_node x y)
    (sym (ap node_view c.in-Tuple.is ∙ view_TyNode-Tuple _ ∙ ap (λ l. tuple (types_of (map ty_view l)) c.in-Tuple.all.trailing) (sym c.as_slice.ensures)))
    c.shape_of-other.ensures

pub node_eq-returns-in-Slice : goal.node_eq-returns-in-Slice
node_eq-returns-in-Slice t c =
    c.slice_eq.ensures ∙
    ap₂ (λ x y. same_node x y)
    (sym (ap node_view c.in-Slice.is ∙ view_TyNode-Slice _ ∙ ap (λ x. slice (ty_view x)) (sym c.deref-in-Slice.ensures)))
    c.shape_of-other.ensures

pub node_eq-returns-in-Array : goal.node_eq-returns-in-Array
node_eq-returns-in-Array t c =
    c.array_eq.ensures ∙
    ap₂ (λ x y. same_node x y)
    (sym (ap node_view c.in-Array.is ∙ view_TyNode-Array _ _ ∙ ap (λ x. array (ty_view x) c.in-Array.size) (sym c.deref-in-Array.ensures)))
    c.shape_of-other.ensures

pub node_eq-returns-in-Reference : goal.node_eq-returns-in-Reference
node_eq-returns-in-Reference t c =
    c.reference_eq.ensures ∙
    ap₂ (λ x y. same_node x y)
    (sym (ap node_view c.in-Reference.is ∙ view_TyNode-Reference _ _ _ ∙ ap (λ x. reference c.in-Reference.name c.in-Reference.is_mut (ty_view x)) (sym c.deref-in-Reference.ensures)))
    c.shape_of-other.ensures

pub node_eq-returns-in-Pointer : goal.node_eq-returns-in-Pointer
node_eq-returns-in-Pointer t c =
    c.pointer_eq.ensures ∙
    ap₂ (λ x y. same_node x y)
    (sym (ap node_view c.in-Pointer.is ∙ view_TyNode-Pointer _ _ ∙ ap (λ x. pointer c.in-Pointer.is_mut (ty_view x)) (sym c.deref-in-Pointer.ensures)))
    c.shape_of-other.ensures

pub node_eq-returns-in-BareFn : goal.node_eq-returns-in-BareFn
node_eq-returns-in-BareFn t c =
    c.function_eq.ensures ∙
    ap₂ (λ x y. same_node x y)
    (sym (ap node_view c.in-BareFn.is ∙ view_TyNode-BareFn _ ∙ ap (λ x. bare_fn (fn_view x)) (sym c.deref-in-BareFn.ensures)))
    c.shape_of-other.ensures

pub node_eq-returns-in-TraitObject : goal.node_eq-returns-in-TraitObject
node_eq-returns-in-TraitObject t c =
    c.object_eq.ensures ∙
    ap₂ (λ x y. same_node x y)
    (sym (ap node_view c.in-TraitObject.is ∙ view_TyNode-TraitObject _ ∙ ap (λ l. trait_object (bounds_of (map bound_view l)) c.in-TraitObject.all.trailing) (sym c.as_slice-in-TraitObject.ensures)))
    c.shape_of-other.ensures

pub node_eq-returns-in-ImplTrait : goal.node_eq-returns-in-ImplTrait
node_eq-returns-in-ImplTrait t c =
    c.implied_eq.ensures ∙
    ap₂ (λ x y. same_node x y)
    (sym (ap node_view c.in-ImplTrait.is ∙ view_TyNode-ImplTrait _ ∙ ap (λ l. impl_trait (bounds_of (map bound_view l)) c.in-ImplTrait.all.trailing) (sym c.as_slice-in-ImplTrait.ensures)))
    c.shape_of-other.ensures

pub node_eq-returns-in-Macro : goal.node_eq-returns-in-Macro
node_eq-returns-in-Macro t c =
    c.macro_eq.ensures ∙
    ap₂ (λ x y. same_node x y)
    (sym (ap node_view c.in-Macro.is ∙ view_TyNode-Macro _ _ _))
    c.shape_of-other.ensures

-- nodes that are looked at in place
pub node_eq-returns-in-Infer-matches : goal.node_eq-returns-in-Infer-matches
node_eq-returns-in-Infer-matches t c = grind (arith, view_TyNode-Infer)

pub node_eq-returns-in_default : goal.node_eq-returns-in_default
node_eq-returns-in_default t c = grind (arith, view_TyNode-Infer)

pub node_eq-returns-in-Never-matches : goal.node_eq-returns-in-Never-matches
node_eq-returns-in-Never-matches t c = grind (arith, view_TyNode-Never)

pub node_eq-returns-in_default-matches : goal.node_eq-returns-in_default-matches
node_eq-returns-in_default-matches t c = grind (arith, view_TyNode-Never)

pub node_eq-returns-in-Path-other : goal.node_eq-returns-in-Path-other
node_eq-returns-in-Path-other t c = grind (arith, view_TyNode-Path)

pub node_eq-returns-in_default-other : goal.node_eq-returns-in_default-other
node_eq-returns-in_default-other t c = grind (arith, view_TyNode-Path)

pub node_eq-returns-then-self_eq : goal.node_eq-returns-then-self_eq
node_eq-returns-then-self_eq t c = grind (arith, view_TyNode-Path, view-some_self)

pub node_eq-returns-else-self_eq : goal.node_eq-returns-else-self_eq
node_eq-returns-else-self_eq t c = grind (arith, view_TyNode-Path, view-some_self)

pub node_eq-returns-in_default-other-2 : goal.node_eq-returns-in_default-other-2
node_eq-returns-in_default-other-2 t c = grind (arith, view_TyNode-Path, view-some_self)

-- a type is its node
pub same_type-returns : goal.same_type-returns
same_type-returns t c = c.node_eq.ensures ∙ sym (ap₂ (λ x y. same_type x y) (view-Ty c.args.a.now) (view-Ty c.args.b.now))

-- generic arguments
pub argument_eq-returns-in-Lifetime-other : goal.argument_eq-returns-in-Lifetime-other
argument_eq-returns-in-Lifetime-other t c =
    c.alike.ensures ∙
    ap₂ (λ x y. same_argument x y)
    (sym (ap argument_view c.in-Lifetime.is ∙ view_GenericArgument-Lifetime _))
    (sym (ap given_view c.in-Lifetime-other.is) ∙ c.given_of-other.ensures)

pub argument_eq-returns-in-Ty-other : goal.argument_eq-returns-in-Ty-other
argument_eq-returns-in-Ty-other t c =
    c.same_type.ensures ∙
    ap₂ (λ x y. same_argument x y)
    (sym (ap argument_view c.in-Ty.is ∙ view_GenericArgument-Ty _))
    (sym (ap given_view c.in-Ty-other.is) ∙ c.given_of-other.ensures)

pub argument_eq-returns-in-Const-other : goal.argument_eq-returns-in-Const-other
argument_eq-returns-in-Const-other t c =
    c.alike-in-Const-other.ensures ∙
    ap₂ (λ x y. same_argument x y)
    (sym (ap argument_view c.in-Const.is ∙ view_GenericArgument-Const _))
    (sym (ap given_view c.in-Const-other.is) ∙ c.given_of-other.ensures)

pub argument_eq-returns-in_default : goal.argument_eq-returns-in_default
argument_eq-returns-in_default t c = grind (arith, view_GenericArgument-Lifetime)

pub argument_eq-returns-in_default-other : goal.argument_eq-returns-in_default-other
argument_eq-returns-in_default-other t c = grind (arith, view_GenericArgument-Ty)

pub argument_eq-returns-in_default-other-2 : goal.argument_eq-returns-in_default-other-2
argument_eq-returns-in_default-other-2 t c = grind (arith, view_GenericArgument-Const)

pub argument_eq-returns-in-AssocTy : goal.argument_eq-returns-in-AssocTy
argument_eq-returns-in-AssocTy t c = grind (arith, view_GenericArgument-AssocTy)

pub argument_eq-returns-in-AssocConst : goal.argument_eq-returns-in-AssocConst
argument_eq-returns-in-AssocConst t c = grind (arith, view_GenericArgument-AssocConst)

pub argument_eq-returns-in-Constraint : goal.argument_eq-returns-in-Constraint
argument_eq-returns-in-Constraint t c = grind (arith, view_GenericArgument-Constraint)

-- what stands behind a segment
pub arguments_of_eq-returns-in-Absent-b : goal.arguments_of_eq-returns-in-Absent-b
arguments_of_eq-returns-in-Absent-b t c = grind (arith, view_PathArguments-Absent)

pub arguments_of_eq-returns-in-Angle-b : goal.arguments_of_eq-returns-in-Angle-b
arguments_of_eq-returns-in-Angle-b t c = grind (arith, view_PathArguments-Absent, view_PathArguments-Angle)

pub arguments_of_eq-returns-in-Paren-b : goal.arguments_of_eq-returns-in-Paren-b
arguments_of_eq-returns-in-Paren-b t c = grind (arith, view_PathArguments-Absent, view_PathArguments-Paren)

pub arguments_of_eq-returns-in-Absent-b-2 : goal.arguments_of_eq-returns-in-Absent-b-2
arguments_of_eq-returns-in-Absent-b-2 t c = grind (arith, view_PathArguments-Absent, view_PathArguments-Angle)

pub arguments_of_eq-returns-then-arguments_eq : goal.arguments_of_eq-returns-then-arguments_eq
arguments_of_eq-returns-then-arguments_eq t c = grind (arith, view_PathArguments-Angle, arguments_alike)

pub arguments_of_eq-returns-else-arguments_eq : goal.arguments_of_eq-returns-else-arguments_eq
arguments_of_eq-returns-else-arguments_eq t c = grind (arith, view_PathArguments-Angle, arguments_alike, and_none)

pub arguments_of_eq-returns-in-Paren-b-2 : goal.arguments_of_eq-returns-in-Paren-b-2
arguments_of_eq-returns-in-Paren-b-2 t c = grind (arith, view_PathArguments-Angle, view_PathArguments-Paren)

pub arguments_of_eq-returns-in-Absent-b-3 : goal.arguments_of_eq-returns-in-Absent-b-3
arguments_of_eq-returns-in-Absent-b-3 t c = grind (arith, view_PathArguments-Absent, view_PathArguments-Paren)

pub arguments_of_eq-returns-in-Angle-b-3 : goal.arguments_of_eq-returns-in-Angle-b-3
arguments_of_eq-returns-in-Angle-b-3 t c = grind (arith, view_PathArguments-Angle, view_PathArguments-Paren)

pub arguments_of_eq-returns-in-None-None : goal.arguments_of_eq-returns-in-None-None
arguments_of_eq-returns-in-None-None t c = grind (arith, view_PathArguments-Paren, types_alike, and_true)

pub arguments_of_eq-returns-in-None-Some : goal.arguments_of_eq-returns-in-None-Some
arguments_of_eq-returns-in-None-Some t c = grind (arith, view_PathArguments-Paren, and_none)

pub arguments_of_eq-returns-then-inputs_same : goal.arguments_of_eq-returns-then-inputs_same
arguments_of_eq-returns-then-inputs_same t c = grind (arith, view_PathArguments-Paren, types_alike)

pub arguments_of_eq-returns-else-inputs_same : goal.arguments_of_eq-returns-else-inputs_same
arguments_of_eq-returns-else-inputs_same t c = grind (arith, view_PathArguments-Paren, types_alike)

pub arguments_of_eq-returns-in-Some-None : goal.arguments_of_eq-returns-in-Some-None
arguments_of_eq-returns-in-Some-None t c = grind (arith, view_PathArguments-Paren, and_none)

-- arguments with a name
pub binding_eq-returns-in-Lifetime : goal.binding_eq-returns-in-Lifetime
binding_eq-returns-in-Lifetime t c = grind (arith, view_GenericArgument-Lifetime)

pub binding_eq-returns-in-Ty : goal.binding_eq-returns-in-Ty
binding_eq-returns-in-Ty t c = grind (arith, view_GenericArgument-Ty)

pub binding_eq-returns-in-Const : goal.binding_eq-returns-in-Const
binding_eq-returns-in-Const t c = grind (arith, view_GenericArgument-Const)

pub binding_eq-returns-then-same_angles : goal.binding_eq-returns-then-same_angles
binding_eq-returns-then-same_angles t c = grind (arith, view_GenericArgument-AssocTy)

pub binding_eq-returns-else-same_angles : goal.binding_eq-returns-else-same_angles
binding_eq-returns-else-same_angles t c = grind (arith, view_GenericArgument-AssocTy, and_none)

pub binding_eq-returns-in_default : goal.binding_eq-returns-in_default
binding_eq-returns-in_default t c = grind (arith, view_GenericArgument-AssocTy)

pub binding_eq-returns-then-same_angles-2 : goal.binding_eq-returns-then-same_angles-2
binding_eq-returns-then-same_angles-2 t c = grind (arith, view_GenericArgument-AssocConst)

pub binding_eq-returns-else-same_angles-2 : goal.binding_eq-returns-else-same_angles-2
binding_eq-returns-else-same_angles-2 t c = grind (arith, view_GenericArgument-AssocConst, and_none)

pub binding_eq-returns-in_default-other : goal.binding_eq-returns-in_default-other
binding_eq-returns-in_default-other t c = grind (arith, view_GenericArgument-AssocConst)

pub binding_eq-returns-else-alike-3 : goal.binding_eq-returns-else-alike-3
binding_eq-returns-else-alike-3 t c = grind (arith, view_GenericArgument-Constraint)

pub binding_eq-returns-in-None-Some-3 : goal.binding_eq-returns-in-None-Some-3
binding_eq-returns-in-None-Some-3 t c = grind (arith, view_GenericArgument-Constraint, and_none)

pub binding_eq-returns-else-angle_eq : goal.binding_eq-returns-else-angle_eq
binding_eq-returns-else-angle_eq t c = grind (arith, view_GenericArgument-Constraint, and_none)

pub binding_eq-returns-in-Some-None-3 : goal.binding_eq-returns-in-Some-None-3
binding_eq-returns-in-Some-None-3 t c = grind (arith, view_GenericArgument-Constraint, and_none)

pub binding_eq-returns-in_default-other-2 : goal.binding_eq-returns-in_default-other-2
binding_eq-returns-in_default-other-2 t c = grind (arith, view_GenericArgument-Constraint)

-- bounds and functions
pub bound_eq-returns-in-Lifetime-b : goal.bound_eq-returns-in-Lifetime-b
bound_eq-returns-in-Lifetime-b t c = grind (arith, view_Bound-Lifetime)

pub bound_eq-returns-in-Trait-b : goal.bound_eq-returns-in-Trait-b
bound_eq-returns-in-Trait-b t c = grind (arith, view_Bound-Lifetime, view_Bound-Trait)

pub bound_eq-returns-in-Lifetime-b-2 : goal.bound_eq-returns-in-Lifetime-b-2
bound_eq-returns-in-Lifetime-b-2 t c = grind (arith, view_Bound-Lifetime, view_Bound-Trait)

pub bound_eq-returns-in-Trait-b-2 : goal.bound_eq-returns-in-Trait-b-2
bound_eq-returns-in-Trait-b-2 t c = grind (arith, view_Bound-Trait)

pub fn_eq-returns-in-None-None : goal.fn_eq-returns-in-None-None
fn_eq-returns-in-None-None t c = grind (arith, view-BareFn, inputs_alike, and_true)

pub fn_eq-returns-in-None-Some : goal.fn_eq-returns-in-None-Some
fn_eq-returns-in-None-Some t c = grind (arith, view-BareFn, and_none)

pub fn_eq-returns-then-inputs_same : goal.fn_eq-returns-then-inputs_same
fn_eq-returns-then-inputs_same t c = grind (arith, view-BareFn, inputs_alike)

pub fn_eq-returns-else-inputs_same : goal.fn_eq-returns-else-inputs_same
fn_eq-returns-else-inputs_same t c = grind (arith, view-BareFn, inputs_alike)

pub fn_eq-returns-in-Some-None : goal.fn_eq-returns-in-Some-None
fn_eq-returns-in-Some-None t c = grind (arith, view-BareFn, and_none)

-- parts that are compared one after the other
pub input_eq-returns-then-options_alike : goal.input_eq-returns-then-options_alike
input_eq-returns-then-options_alike t c = grind (arith, view-FnArg)

pub path_eq-returns-then-flags_alike : goal.path_eq-returns-then-flags_alike
path_eq-returns-then-flags_alike t c = grind (arith, view-Path, segments_alike)

pub segment_eq-returns-then-alike : goal.segment_eq-returns-then-alike
segment_eq-returns-then-alike t c = grind (arith, view-PathSegment)

pub trait_bound_eq-returns-then-options_alike : goal.trait_bound_eq-returns-then-options_alike
trait_bound_eq-returns-then-options_alike t c = grind (arith, view-TraitBound)

pub tuple_eq-returns-then-types_eq : goal.tuple_eq-returns-then-types_eq
tuple_eq-returns-then-types_eq t c = grind (arith, types_alike)

pub object_eq-returns-then-bounds_eq : goal.object_eq-returns-then-bounds_eq
object_eq-returns-then-bounds_eq t c = grind (arith, bounds_alike)

pub implied_eq-returns-then-bounds_eq : goal.implied_eq-returns-then-bounds_eq
implied_eq-returns-then-bounds_eq t c = grind (arith, bounds_alike)

pub some_bounds_eq-returns-then-bounds_eq : goal.some_bounds_eq-returns-then-bounds_eq
some_bounds_eq-returns-then-bounds_eq t c = grind (arith, bounds_alike)

pub angle_eq-returns-then-arguments_eq : goal.angle_eq-returns-then-arguments_eq
angle_eq-returns-then-arguments_eq t c = grind (arith, arguments_alike)

pub input_eq-returns-else-options_alike : goal.input_eq-returns-else-options_alike
input_eq-returns-else-options_alike t c = grind (arith, view-FnArg)

pub path_eq-returns-else-flags_alike : goal.path_eq-returns-else-flags_alike
path_eq-returns-else-flags_alike t c = grind (arith, view-Path, segments_alike)

pub segment_eq-returns-else-alike : goal.segment_eq-returns-else-alike
segment_eq-returns-else-alike t c = grind (arith, view-PathSegment)

pub trait_bound_eq-returns-else-options_alike : goal.trait_bound_eq-returns-else-options_alike
trait_bound_eq-returns-else-options_alike t c = grind (arith, view-TraitBound)

pub tuple_eq-returns-else-types_eq : goal.tuple_eq-returns-else-types_eq
tuple_eq-returns-else-types_eq t c = grind (arith, types_alike)

pub object_eq-returns-else-bounds_eq : goal.object_eq-returns-else-bounds_eq
object_eq-returns-else-bounds_eq t c = grind (arith, bounds_alike)

pub implied_eq-returns-else-bounds_eq : goal.implied_eq-returns-else-bounds_eq
implied_eq-returns-else-bounds_eq t c = grind (arith, bounds_alike)

pub some_bounds_eq-returns-else-bounds_eq : goal.some_bounds_eq-returns-else-bounds_eq
some_bounds_eq-returns-else-bounds_eq t c = grind (arith, bounds_alike)

pub angle_eq-returns-else-arguments_eq : goal.angle_eq-returns-else-arguments_eq
angle_eq-returns-else-arguments_eq t c = grind (arith, arguments_alike)

-- lists of other lengths
pub types_eq-returns-then-a-b : goal.types_eq-returns-then-a-b
types_eq-returns-then-a-b t c = grind (arith, all_apart)

pub bounds_eq-returns-then-a-b : goal.bounds_eq-returns-then-a-b
bounds_eq-returns-then-a-b t c = grind (arith, all_apart)

pub inputs_eq-returns-then-a-b : goal.inputs_eq-returns-then-a-b
inputs_eq-returns-then-a-b t c = grind (arith, all_apart)

pub segments_eq-returns-then-a-b : goal.segments_eq-returns-then-a-b
segments_eq-returns-then-a-b t c = grind (arith, all_apart)

pub arguments_eq-returns-then-a-b : goal.arguments_eq-returns-then-a-b
arguments_eq-returns-then-a-b t c = grind (arith, all_apart)
