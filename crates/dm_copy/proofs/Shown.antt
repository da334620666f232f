-- What a part shows once `Self` was replaced in it, by what its own parts show.
use Rattle.std.proofs.Common.{◌≡◌, Bool, true, false, if◌then◌else◌, List, map, Result, Ok, IfOk, IsSomeAnd, Option, None, Some, option_map, unwrap_or, refl, ap, ap₂, sym, ◌∙◌}
use Rattle.std.specs.declared.boxed.Box.{Box}
use Rattle.std.specs.declared.alloc.Global.{Global}
use Rattle.dm_stream.specs.declared.seq.Punctuated.{Punctuated}
use Rattle.dm_stream.specs.declared.tokens.Delim.{Delim}
use Rattle.dm_stream.specs.declared.tokens.Ident.{Ident}
use Rattle.dm_stream.specs.declared.tokens.Lifetime.{Lifetime}
use Rattle.dm_stream.specs.Trees.{Stream}
use Rattle.dm_ast.specs.declared.plain.Opaque.{Opaque}
use Rattle.dm_ast.specs.declared.plain.PlainPath.{PlainPath}
use Rattle.dm_ast.specs.declared.plain.ConstArg.{ConstArg}
use Rattle.dm_ast.specs.declared.ty.BareFn.{BareFn}
use Rattle.dm_ast.specs.declared.ty.Bound.{Bound}
use Rattle.dm_ast.specs.declared.ty.Bound.TheVariants as b
use Rattle.dm_ast.specs.declared.ty.Bound.TheViews.{out-BareFn, out-Path, out-TraitBound}
use Rattle.dm_ast.specs.declared.ty.FnArg.{FnArg}
use Rattle.dm_ast.specs.declared.ty.GenericArgument.{GenericArgument}
use Rattle.dm_ast.specs.declared.ty.GenericArgument.TheVariants as g
use Rattle.dm_ast.specs.declared.ty.Path.{Path}
use Rattle.dm_ast.specs.declared.ty.PathArguments.{PathArguments}
use Rattle.dm_ast.specs.declared.ty.PathArguments.TheVariants as a
use Rattle.dm_ast.specs.declared.ty.PathSegment.{PathSegment}
use Rattle.dm_ast.specs.declared.ty.QSelf.{QSelf}
use Rattle.dm_ast.specs.declared.ty.TraitBound.{TraitBound}
use Rattle.dm_ast.specs.declared.ty.Ty.{Ty}
use Rattle.dm_ast.specs.declared.ty.TyNode.{TyNode}
use Rattle.dm_ast.specs.declared.ty.TyNode.TheVariants as n
use Rattle.dm_ast.specs.Tree.{TypeTree, type_tree, paren, tuple, slice, array, reference, pointer, bare_fn, trait_object, impl_trait, macro_type, path, no_self, some_self, implements, outlives, trait_bound, FnTree, fn_tree, input, inputs_of, maybe_type, MaybeType, no_type, some_type, path_tree, segments_of, SegmentTree, segment, angle, parens, types_of, lifetime_arg, type_arg, const_arg, ArgumentTree, assoc_type, assoc_const, constraint, bounds_of, arguments_of, MaybeArguments, arguments_absent, some_arguments, ty_view, node_view, fn_view, input_view, path_view, segment_view, bound_view, trait_view, argument_view, arguments_view, maybe_ty_view, maybe_self_view, maybe_arguments_view}
use Rattle.dm_ast.proofs.View.{view_TyNode-Paren, view_TyNode-Tuple, view_TyNode-Slice, view_TyNode-Array, view_TyNode-Reference, view_TyNode-Pointer, view_TyNode-BareFn, view_TyNode-TraitObject, view_TyNode-ImplTrait, view_TyNode-Infer, view_TyNode-Never, view_TyNode-Macro, view_TyNode-Path, view_Bound-Lifetime, view_Bound-Trait, view-Ty, view-Path, view-PathSegment, view-TraitBound, view-BareFn, view-FnArg, view-some_self, view_PathArguments-Absent, view_PathArguments-Angle, view_PathArguments-Paren, view_GenericArgument-Lifetime, view_GenericArgument-Ty, view_GenericArgument-Const, view_GenericArgument-AssocTy, view_GenericArgument-AssocConst, view_GenericArgument-Constraint}
use Rattle.dm_copy.specs.declared.self_type.SelfType.{SelfType}
use Rattle.dm_copy.specs.Segments.{segment_of, own_segment}
use Rattle.dm_copy.specs.Replaced.{is_self, standing, replaced_type, replaced_node, replaced_output, replaced_qualifier, replaced_function, replaced_input, replaced_path, replaced_segment, replaced_segment_arguments, replaced_bound, replaced_trait, replaced_argument, replaced_maybe_arguments}
use Rattle.dm_copy.proofs.Known.{some_known}
use Rattle.dm_copy.proofs.Replacing.{each_type, each_bound, each_input, each_segment, each_argument}

-- ---- what may be missing

output_shown : (own : Option SegmentTree) (o : Option TypeTree) → replaced_output own (maybe_type o) ≡ maybe_type (option_map (replaced_type own) o)
output_shown own None = refl
output_shown own (Some t) = refl

pub no_boxed : (own : Option SegmentTree) (o : Option (Box Ty Global)) → o ≡ None → replaced_output own (maybe_ty_view o) ≡ no_type
no_boxed own o is = ap (λ z. replaced_output own (maybe_ty_view z)) is

pub no_arguments : (own : Option SegmentTree) (o : Option (Punctuated GenericArgument)) → o ≡ None →
    replaced_maybe_arguments own (maybe_arguments_view o) ≡ arguments_absent
no_arguments own o is = ap (λ z. replaced_maybe_arguments own (maybe_arguments_view z)) is

pub some_arguments_known : {E : Type 0} (made : Result (Punctuated GenericArgument) E) (r : Result (Option (Punctuated GenericArgument)) E) (xs : List ArgumentTree) (trailing : Bool) →
    IfOk r (λ o. IsSomeAnd o (λ t. made ≡ Ok t)) → IfOk made (λ p. (map argument_view p.items ≡ xs) × (p.trailing ≡ trailing)) →
    IfOk r (λ o. maybe_arguments_view o ≡ some_arguments (arguments_of xs) trailing)
some_arguments_known made r xs trailing is known =
    some_known made r maybe_arguments_view (some_arguments (arguments_of xs) trailing) _ is known
    (λ p h. ap₂ (λ x y. some_arguments (arguments_of x) y) h.0 h.1)

pub boxed_shown : (own : Option SegmentTree) (o : Option (Box Ty Global)) (b : Box Ty Global) (t : Ty) → o ≡ Some b → t ≡ b.value →
    replaced_output own (maybe_ty_view o) ≡ some_type (replaced_type own (ty_view t))
boxed_shown own o b t is inside =
    ap (λ z. replaced_output own (maybe_ty_view z)) is ∙ ap (λ z. some_type (replaced_type own (ty_view z))) (sym inside)

pub arguments_shown : (own : Option SegmentTree) (o : Option (Punctuated GenericArgument)) (all : Punctuated GenericArgument) (xs : List GenericArgument) →
    o ≡ Some all → xs ≡ all.items →
    replaced_maybe_arguments own (maybe_arguments_view o) ≡ some_arguments (arguments_of (map (replaced_argument own) (map argument_view xs))) all.trailing
arguments_shown own o all xs is items =
    ap (λ z. replaced_maybe_arguments own (maybe_arguments_view z)) is ∙
    ap (λ z. some_arguments z all.trailing) (each_argument own (map argument_view all.items)) ∙
    ap (λ z. some_arguments (arguments_of (map (replaced_argument own) (map argument_view z))) all.trailing) (sym items)

-- ---- types

pub paren_shown : (own : Option SegmentTree) (k : TyNode) (b c : Box Ty Global) (t : Ty) → k ≡ n.Paren b → t ≡ b.value →
    ty_view c.value ≡ replaced_type own (ty_view t) → node_view (n.Paren c) ≡ replaced_node own (node_view k)
paren_shown own k b c t is inside made =
    view_TyNode-Paren c ∙ ap (λ z. paren z) made ∙
    sym
    (ap (λ z. replaced_node own (node_view z)) is ∙ ap (λ z. replaced_node own z) (view_TyNode-Paren b) ∙
    ap (λ z. paren (replaced_type own (ty_view z))) (sym inside))

pub tuple_shown : (own : Option SegmentTree) (k : TyNode) (all made : Punctuated Ty) (xs : List Ty) → k ≡ n.Tuple all → xs ≡ all.items →
    (map ty_view made.items ≡ map (replaced_type own) (map ty_view xs)) × (made.trailing ≡ all.trailing) → node_view (n.Tuple made) ≡ replaced_node own (node_view k)
tuple_shown own k all made xs is items known =
    view_TyNode-Tuple made ∙ ap₂ (λ x y. tuple (types_of x) y) known.0 known.1 ∙
    sym
    (ap (λ z. replaced_node own (node_view z)) is ∙ ap (λ z. replaced_node own z) (view_TyNode-Tuple all) ∙
    ap (λ z. tuple z all.trailing) (each_type own (map ty_view all.items)) ∙
    ap (λ z. tuple (types_of (map (replaced_type own) (map ty_view z))) all.trailing) (sym items))

pub slice_shown : (own : Option SegmentTree) (k : TyNode) (b c : Box Ty Global) (t : Ty) → k ≡ n.Slice b → t ≡ b.value →
    ty_view c.value ≡ replaced_type own (ty_view t) → node_view (n.Slice c) ≡ replaced_node own (node_view k)
slice_shown own k b c t is inside made =
    view_TyNode-Slice c ∙ ap (λ z. slice z) made ∙
    sym
    (ap (λ z. replaced_node own (node_view z)) is ∙ ap (λ z. replaced_node own z) (view_TyNode-Slice b) ∙
    ap (λ z. slice (replaced_type own (ty_view z))) (sym inside))

pub array_shown : (own : Option SegmentTree) (k : TyNode) (b : Box Ty Global) (o : Opaque) (t : Ty) → k ≡ n.Array b o → t ≡ b.value →
    replaced_node own (node_view k) ≡ array (replaced_type own (ty_view t)) o
array_shown own k b o t is inside =
    ap (λ z. replaced_node own (node_view z)) is ∙ ap (λ z. replaced_node own z) (view_TyNode-Array b o) ∙
    ap (λ z. array (replaced_type own (ty_view z)) o) (sym inside)

pub reference_shown : (own : Option SegmentTree) (k : TyNode) (l : Option Lifetime) (is_mut : Bool) (b : Box Ty Global) (t : Ty) →
    k ≡ n.Reference l is_mut b → t ≡ b.value → replaced_node own (node_view k) ≡ reference l is_mut (replaced_type own (ty_view t))
reference_shown own k l is_mut b t is inside =
    ap (λ z. replaced_node own (node_view z)) is ∙ ap (λ z. replaced_node own z) (view_TyNode-Reference l is_mut b) ∙
    ap (λ z. reference l is_mut (replaced_type own (ty_view z))) (sym inside)

pub pointer_shown : (own : Option SegmentTree) (k : TyNode) (is_mut : Bool) (b c : Box Ty Global) (t : Ty) → k ≡ n.Pointer is_mut b → t ≡ b.value →
    ty_view c.value ≡ replaced_type own (ty_view t) → node_view (n.Pointer is_mut c) ≡ replaced_node own (node_view k)
pointer_shown own k is_mut b c t is inside made =
    view_TyNode-Pointer is_mut c ∙ ap (λ z. pointer is_mut z) made ∙
    sym
    (ap (λ z. replaced_node own (node_view z)) is ∙ ap (λ z. replaced_node own z) (view_TyNode-Pointer is_mut b) ∙
    ap (λ z. pointer is_mut (replaced_type own (ty_view z))) (sym inside))

pub bare_fn_shown : (own : Option SegmentTree) (k : TyNode) (b c : Box BareFn Global) (t : BareFn) → k ≡ n.BareFn b → t ≡ b.value →
    fn_view c.value ≡ replaced_function own (fn_view t) → node_view (n.BareFn c) ≡ replaced_node own (node_view k)
bare_fn_shown own k b c t is inside made =
    view_TyNode-BareFn c ∙ ap (λ z. bare_fn z) made ∙
    sym
    (ap (λ z. replaced_node own (node_view z)) is ∙ ap (λ z. replaced_node own z) (view_TyNode-BareFn b) ∙
    ap (λ z. bare_fn (replaced_function own (fn_view z))) (sym inside))

pub trait_object_shown : (own : Option SegmentTree) (k : TyNode) (all made : Punctuated Bound) (xs : List Bound) → k ≡ n.TraitObject all → xs ≡ all.items →
    (map bound_view made.items ≡ map (replaced_bound own) (map bound_view xs)) × (made.trailing ≡ all.trailing) → node_view (n.TraitObject made) ≡ replaced_node own (node_view k)
trait_object_shown own k all made xs is items known =
    view_TyNode-TraitObject made ∙ ap₂ (λ x y. trait_object (bounds_of x) y) known.0 known.1 ∙
    sym
    (ap (λ z. replaced_node own (node_view z)) is ∙ ap (λ z. replaced_node own z) (view_TyNode-TraitObject all) ∙
    ap (λ z. trait_object z all.trailing) (each_bound own (map bound_view all.items)) ∙
    ap (λ z. trait_object (bounds_of (map (replaced_bound own) (map bound_view z))) all.trailing) (sym items))

pub impl_trait_shown : (own : Option SegmentTree) (k : TyNode) (all made : Punctuated Bound) (xs : List Bound) → k ≡ n.ImplTrait all → xs ≡ all.items →
    (map bound_view made.items ≡ map (replaced_bound own) (map bound_view xs)) × (made.trailing ≡ all.trailing) → node_view (n.ImplTrait made) ≡ replaced_node own (node_view k)
impl_trait_shown own k all made xs is items known =
    view_TyNode-ImplTrait made ∙ ap₂ (λ x y. impl_trait (bounds_of x) y) known.0 known.1 ∙
    sym
    (ap (λ z. replaced_node own (node_view z)) is ∙ ap (λ z. replaced_node own z) (view_TyNode-ImplTrait all) ∙
    ap (λ z. impl_trait z all.trailing) (each_bound own (map bound_view all.items)) ∙
    ap (λ z. impl_trait (bounds_of (map (replaced_bound own) (map bound_view z))) all.trailing) (sym items))

pub infer_shown : (own : Option SegmentTree) (k : TyNode) → k ≡ n.Infer → node_view n.Infer ≡ replaced_node own (node_view k)
infer_shown own k is =
    view_TyNode-Infer ∙ sym (ap (λ z. replaced_node own (node_view z)) is ∙ ap (λ z. replaced_node own z) view_TyNode-Infer)

pub never_shown : (own : Option SegmentTree) (k : TyNode) → k ≡ n.Never → node_view n.Never ≡ replaced_node own (node_view k)
never_shown own k is =
    view_TyNode-Never ∙ sym (ap (λ z. replaced_node own (node_view z)) is ∙ ap (λ z. replaced_node own z) view_TyNode-Never)

pub macro_shown : (own : Option SegmentTree) (k : TyNode) (p : PlainPath) (d : Delim) (ts : Stream) → k ≡ n.Macro p d ts →
    replaced_node own (node_view k) ≡ macro_type p d ts
macro_shown own k p d ts is = ap (λ z. replaced_node own (node_view z)) is ∙ ap (λ z. replaced_node own z) (view_TyNode-Macro p d ts)

pub path_shown : (own : Option SegmentTree) (k : TyNode) (q : Option (Box QSelf Global)) (p : Path) → k ≡ n.Path q p → q ≡ None →
    replaced_node own (node_view k) ≡ path no_self (replaced_path own (path_view p))
path_shown own k q p is none =
    ap (λ z. replaced_node own (node_view z)) is ∙ ap (λ z. replaced_node own z) (view_TyNode-Path q p) ∙
    ap (λ z. path (replaced_qualifier own (maybe_self_view z)) (replaced_path own (path_view p))) none

pub qualified_shown : (own : Option SegmentTree) (k : TyNode) (q : Option (Box QSelf Global)) (p : Path) (b : Box QSelf Global) (x : QSelf) →
    k ≡ n.Path q p → q ≡ Some b → x ≡ b.value →
    replaced_node own (node_view k) ≡ path (some_self (replaced_type own (ty_view x.ty)) x.position) (replaced_path own (path_view p))
qualified_shown own k q p b x is some inside =
    ap (λ z. replaced_node own (node_view z)) is ∙ ap (λ z. replaced_node own z) (view_TyNode-Path q p) ∙
    ap (λ z. path (replaced_qualifier own (maybe_self_view z)) (replaced_path own (path_view p))) some ∙
    ap (λ z. path (replaced_qualifier own z) (replaced_path own (path_view p))) (view-some_self b) ∙
    ap (λ z. path (some_self (replaced_type own (ty_view z.ty)) z.position) (replaced_path own (path_view p))) (sym inside)

pub input_shown : (own : Option SegmentTree) (i : FnArg) → replaced_input own (input_view i) ≡ input i.attrs i.name (replaced_type own (ty_view i.ty))
input_shown own i = ap (λ z. replaced_input own z) (view-FnArg i)

pub function_shown : (own : Option SegmentTree) (f : BareFn) (xs : List FnArg) → xs ≡ (out-BareFn f).inputs.items →
    replaced_function own (fn_view f) ≡
    fn_tree (out-BareFn f).lifetimes (out-BareFn f).is_unsafe (out-BareFn f).abi (inputs_of (map (replaced_input own) (map input_view xs)))
    (out-BareFn f).inputs.trailing (maybe_type (option_map (replaced_type own) (option_map ty_view (out-BareFn f).output)))
function_shown own f xs items =
    let out = option_map ty_view (out-BareFn f).output in
    let of : List FnArg → MaybeType → FnTree = λ x y. fn_tree (out-BareFn f).lifetimes (out-BareFn f).is_unsafe (out-BareFn f).abi (inputs_of (map (replaced_input own) (map input_view x))) (out-BareFn f).inputs.trailing y in
    ap (λ z. replaced_function own z) (view-BareFn f) ∙
    ap₂ (λ x y. fn_tree (out-BareFn f).lifetimes (out-BareFn f).is_unsafe (out-BareFn f).abi x (out-BareFn f).inputs.trailing y)
    (each_input own (map input_view (out-BareFn f).inputs.items)) (output_shown own out) ∙ ap (λ x. of x (maybe_type (option_map (replaced_type own) out))) (sym items)

-- ---- bounds, paths and segments

-- what stands for an identifier, seen through a function
standing_map : {A B : Type 0} (f : A → B) (i : Ident) (o : Option A) → standing i (option_map f o) ≡ option_map f (standing i o)
standing_map {A} {B} f i o = by (is_self i)
  where
    by : (b : Bool) → (if b then option_map f o else None) ≡ option_map f (if b then o else None)
    by true = refl
    by false = refl

pub outlives_shown : (own : Option SegmentTree) (k : Bound) (l m : Lifetime) → k ≡ b.Lifetime l → m ≡ l →
    bound_view (b.Lifetime m) ≡ replaced_bound own (bound_view k)
outlives_shown own k l m is same =
    view_Bound-Lifetime m ∙ ap (λ z. outlives z) same ∙
    sym (ap (λ z. replaced_bound own (bound_view z)) is ∙ ap (λ z. replaced_bound own z) (view_Bound-Lifetime l))

pub trait_shown : (own : Option SegmentTree) (k : Bound) (t c : TraitBound) → k ≡ b.Trait t →
    trait_view c ≡ trait_bound (out-TraitBound t).parens (out-TraitBound t).maybe (out-TraitBound t).lifetimes (replaced_path own (path_view (out-TraitBound t).path)) →
    bound_view (b.Trait c) ≡ replaced_bound own (bound_view k)
trait_shown own k t c is made =
    view_Bound-Trait c ∙ ap (λ z. implements z) made ∙
    sym
    (ap (λ z. replaced_bound own (bound_view z)) is ∙ ap (λ z. replaced_bound own z) (view_Bound-Trait t) ∙
    ap (λ z. implements (replaced_trait own z)) (view-TraitBound t))

pub ty_shown : (own : Option SegmentTree) (t : Ty) → replaced_type own (ty_view t) ≡ type_tree (replaced_node own (node_view t.node)) t.span
ty_shown own t = ap (λ z. replaced_type own z) (view-Ty t)

pub segments_shown : (own : Option SegmentTree) (p : Path) (xs : List PathSegment) → xs ≡ (out-Path p).segments →
    replaced_path own (path_view p) ≡ path_tree (out-Path p).leading_colon (segments_of (map (replaced_segment own) (map segment_view xs)))
segments_shown own p xs items =
    ap (λ z. replaced_path own z) (view-Path p) ∙
    ap (λ z. path_tree (out-Path p).leading_colon z) (each_segment own (map segment_view (out-Path p).segments)) ∙
    ap (λ z. path_tree (out-Path p).leading_colon (segments_of (map (replaced_segment own) (map segment_view z)))) (sym items)

-- the segment of the type in place of a `Self`
pub self_shown : (own : Option SelfType) (g : PathSegment) (t : SelfType) → standing g.ident own ≡ Some t →
    replaced_segment (own_segment own) (segment_view g) ≡ segment_of t
self_shown own g t is =
    let rest = segment g.ident (replaced_segment_arguments (own_segment own) (arguments_view g.arguments)) in
    ap (λ z. replaced_segment (own_segment own) z) (view-PathSegment g) ∙
    ap (λ z. unwrap_or z rest) (standing_map segment_of g.ident own ∙ ap (option_map segment_of) is)

pub segment_shown : (own : Option SelfType) (g : PathSegment) → standing g.ident own ≡ None →
    replaced_segment (own_segment own) (segment_view g) ≡ segment g.ident (replaced_segment_arguments (own_segment own) (arguments_view g.arguments))
segment_shown own g is =
    let rest = segment g.ident (replaced_segment_arguments (own_segment own) (arguments_view g.arguments)) in
    ap (λ z. replaced_segment (own_segment own) z) (view-PathSegment g) ∙
    ap (λ z. unwrap_or z rest) (standing_map segment_of g.ident own ∙ ap (option_map segment_of) is)

pub absent_shown : (own : Option SegmentTree) (k : PathArguments) → k ≡ a.Absent → arguments_view a.Absent ≡ replaced_segment_arguments own (arguments_view k)
absent_shown own k is =
    view_PathArguments-Absent ∙
    sym (ap (λ z. replaced_segment_arguments own (arguments_view z)) is ∙ ap (λ z. replaced_segment_arguments own z) view_PathArguments-Absent)

-- ---- arguments of a segment

pub angle_shown : (own : Option SegmentTree) (k : PathArguments) (colons : Bool) (all made : Punctuated GenericArgument) (xs : List GenericArgument) →
    k ≡ a.Angle colons all → xs ≡ all.items →
    (map argument_view made.items ≡ map (replaced_argument own) (map argument_view xs)) × (made.trailing ≡ all.trailing) →
    arguments_view (a.Angle colons made) ≡ replaced_segment_arguments own (arguments_view k)
angle_shown own k colons all made xs is items known =
    view_PathArguments-Angle colons made ∙ ap₂ (λ x y. angle colons (arguments_of x) y) known.0 known.1 ∙
    sym
    (ap (λ z. replaced_segment_arguments own (arguments_view z)) is ∙ ap (λ z. replaced_segment_arguments own z) (view_PathArguments-Angle colons all) ∙
    ap (λ z. angle colons z all.trailing) (each_argument own (map argument_view all.items)) ∙
    ap (λ z. angle colons (arguments_of (map (replaced_argument own) (map argument_view z))) all.trailing) (sym items))

pub parens_shown : (own : Option SegmentTree) (k : PathArguments) (all : Punctuated Ty) (o : Option (Box Ty Global)) (xs : List Ty) (out : MaybeType) →
    k ≡ a.Paren all o → xs ≡ all.items → replaced_output own (maybe_ty_view o) ≡ out →
    replaced_segment_arguments own (arguments_view k) ≡ parens (types_of (map (replaced_type own) (map ty_view xs))) all.trailing out
parens_shown own k all o xs out is items output =
    ap (λ z. replaced_segment_arguments own (arguments_view z)) is ∙ ap (λ z. replaced_segment_arguments own z) (view_PathArguments-Paren all o) ∙
    ap₂ (λ x y. parens x all.trailing y) (each_type own (map ty_view all.items)) output ∙
    ap (λ z. parens (types_of (map (replaced_type own) (map ty_view z))) all.trailing out) (sym items)

-- ---- an argument

pub assoc_ty_shown : (own : Option SegmentTree) (k : GenericArgument) (i : Ident) (o : Option (Punctuated GenericArgument)) (t : Ty) (gs : MaybeArguments) →
    k ≡ g.AssocTy i o t → replaced_maybe_arguments own (maybe_arguments_view o) ≡ gs →
    replaced_argument own (argument_view k) ≡ assoc_type i gs (replaced_type own (ty_view t))
assoc_ty_shown own k i o t gs is arguments =
    ap (λ z. replaced_argument own (argument_view z)) is ∙ ap (λ z. replaced_argument own z) (view_GenericArgument-AssocTy i o t) ∙
    ap (λ z. assoc_type i z (replaced_type own (ty_view t))) arguments

pub assoc_const_shown : (own : Option SegmentTree) (k : GenericArgument) (i : Ident) (o : Option (Punctuated GenericArgument)) (c : ConstArg) (gs : MaybeArguments) →
    k ≡ g.AssocConst i o c → replaced_maybe_arguments own (maybe_arguments_view o) ≡ gs →
    replaced_argument own (argument_view k) ≡ assoc_const i gs c
assoc_const_shown own k i o c gs is arguments =
    ap (λ z. replaced_argument own (argument_view z)) is ∙ ap (λ z. replaced_argument own z) (view_GenericArgument-AssocConst i o c) ∙
    ap (λ z. assoc_const i z c) arguments

pub constraint_shown : (own : Option SegmentTree) (k : GenericArgument) (i : Ident) (o : Option (Punctuated GenericArgument)) (bs : Punctuated Bound) (gs : MaybeArguments) (xs : List Bound) →
    k ≡ g.Constraint i o bs → replaced_maybe_arguments own (maybe_arguments_view o) ≡ gs → xs ≡ bs.items →
    replaced_argument own (argument_view k) ≡ constraint i gs (bounds_of (map (replaced_bound own) (map bound_view xs))) bs.trailing
constraint_shown own k i o bs gs xs is arguments items =
    ap (λ z. replaced_argument own (argument_view z)) is ∙ ap (λ z. replaced_argument own z) (view_GenericArgument-Constraint i o bs) ∙
    ap₂ (λ x y. constraint i x y bs.trailing) arguments (each_bound own (map bound_view bs.items)) ∙
    ap (λ z. constraint i gs (bounds_of (map (replaced_bound own) (map bound_view z))) bs.trailing) (sym items)

pub lifetime_shown : (own : Option SegmentTree) (k : GenericArgument) (l m : Lifetime) → k ≡ g.Lifetime l → m ≡ l →
    argument_view (g.Lifetime m) ≡ replaced_argument own (argument_view k)
lifetime_shown own k l m is same =
    view_GenericArgument-Lifetime m ∙ ap (λ z. lifetime_arg z) same ∙
    sym (ap (λ z. replaced_argument own (argument_view z)) is ∙ ap (λ z. replaced_argument own z) (view_GenericArgument-Lifetime l))

pub const_shown : (own : Option SegmentTree) (k : GenericArgument) (c d : ConstArg) → k ≡ g.Const c → d ≡ c →
    argument_view (g.Const d) ≡ replaced_argument own (argument_view k)
const_shown own k c d is same =
    view_GenericArgument-Const d ∙ ap (λ z. const_arg z) same ∙
    sym (ap (λ z. replaced_argument own (argument_view z)) is ∙ ap (λ z. replaced_argument own z) (view_GenericArgument-Const c))

pub type_shown : (own : Option SegmentTree) (k : GenericArgument) (t : Ty) → k ≡ g.Ty t → replaced_argument own (argument_view k) ≡ type_arg (replaced_type own (ty_view t))
type_shown own k t is = ap (λ z. replaced_argument own (argument_view z)) is ∙ ap (λ z. replaced_argument own z) (view_GenericArgument-Ty t)
