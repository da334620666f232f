-- Types, as plain data: a tree of the program without what its memory adds. Leaves are the program's own.
use Rattle.std.specs.Prelude.{ℕ, List, [], ◌∷◌, map, Bool, Option, Some, None}
use Rattle.dm_stream.specs.declared.seq.Punctuated.{Punctuated}
use Rattle.dm_stream.specs.declared.tokens.Span.{Span}
use Rattle.dm_stream.specs.declared.tokens.Delim.{Delim}
use Rattle.dm_stream.specs.declared.tokens.Ident.{Ident}
use Rattle.dm_stream.specs.declared.tokens.Literal.{Literal}
use Rattle.dm_stream.specs.declared.tokens.Lifetime.{Lifetime}
use Rattle.dm_stream.specs.Trees.{Stream}
use Rattle.std.specs.declared.boxed.Box.{Box}
use Rattle.std.specs.declared.alloc.Global.{Global}
use Rattle.dm_ast.specs.declared.plain.Opaque.{Opaque}
use Rattle.dm_ast.specs.declared.plain.PlainPath.{PlainPath}
use Rattle.dm_ast.specs.declared.plain.Attribute.{Attribute}
use Rattle.dm_ast.specs.declared.plain.ConstArg.{ConstArg}
use Rattle.dm_ast.specs.declared.ty.Bound.{Bound}
use Rattle.dm_ast.specs.declared.ty.GenericArgument.{GenericArgument}
use Rattle.dm_ast.specs.declared.ty.PathArguments.{PathArguments}
use Rattle.dm_ast.specs.declared.ty.TyNode.{TyNode}
use Rattle.dm_ast.specs.declared.ty.BareFn.{BareFn}
use Rattle.dm_ast.specs.declared.ty.FnArg.{FnArg}
use Rattle.dm_ast.specs.declared.ty.Path.{Path}
use Rattle.dm_ast.specs.declared.ty.PathSegment.{PathSegment}
use Rattle.dm_ast.specs.declared.ty.QSelf.{QSelf}
use Rattle.dm_ast.specs.declared.ty.TraitBound.{TraitBound}
use Rattle.dm_ast.specs.declared.ty.Ty.{Ty}
use Rattle.dm_ast.specs.declared.ty.Bound.TheOpen.{Bound-F, GenericArgument-F, PathArguments-F, TyNode-F, BareFn-F, FnArg-F, Path-F, PathSegment-F, QSelf-F, TraitBound-F, Ty-F}
use Rattle.dm_ast.specs.declared.ty.Bound.TheFolds.{fold-Bound, fold-GenericArgument, fold-PathArguments, fold-TyNode, fold-BareFn, fold-FnArg, fold-Path, fold-PathSegment, fold-QSelf, fold-TraitBound, fold-Ty}

-- the lifetimes of a `for`
abbrev pub Lifetimes : Type 0
Lifetimes = Option (Punctuated Lifetime)

mutual
  pub data TypeTree : Type 0 where
    type_tree : TypeNode → Span → TypeTree

  pub data TypeNode : Type 0 where
    paren : TypeTree → TypeNode
    tuple : TypeTrees → Bool → TypeNode
    slice : TypeTree → TypeNode
    array : TypeTree → Opaque → TypeNode
    reference : Option Lifetime → Bool → TypeTree → TypeNode
    pointer : Bool → TypeTree → TypeNode
    bare_fn : FnTree → TypeNode
    trait_object : BoundTrees → Bool → TypeNode
    impl_trait : BoundTrees → Bool → TypeNode
    infer : TypeNode
    never : TypeNode
    path : MaybeSelf → PathTree → TypeNode
    macro_type : PlainPath → Delim → Stream → TypeNode

  pub data TypeTrees : Type 0 where
    no_types : TypeTrees
    type_then : TypeTree → TypeTrees → TypeTrees

  pub data MaybeType : Type 0 where
    no_type : MaybeType
    some_type : TypeTree → MaybeType

  pub data MaybeSelf : Type 0 where
    no_self : MaybeSelf
    some_self : TypeTree → ℕ → MaybeSelf

  pub data BoundTree : Type 0 where
    outlives : Lifetime → BoundTree
    implements : TraitBoundTree → BoundTree

  pub data BoundTrees : Type 0 where
    no_bounds : BoundTrees
    bound_then : BoundTree → BoundTrees → BoundTrees

  pub data TraitBoundTree : Type 0 where
    trait_bound : Bool → Bool → Lifetimes → PathTree → TraitBoundTree

  pub data FnTree : Type 0 where
    fn_tree : Lifetimes → Bool → Option (Option Literal) → InputTrees → Bool → MaybeType → FnTree

  pub data InputTree : Type 0 where
    input : List Attribute → Option Ident → TypeTree → InputTree

  pub data InputTrees : Type 0 where
    no_inputs : InputTrees
    input_then : InputTree → InputTrees → InputTrees

  pub data PathTree : Type 0 where
    path_tree : Bool → SegmentTrees → PathTree

  pub data SegmentTree : Type 0 where
    segment : Ident → ArgumentsTree → SegmentTree

  pub data SegmentTrees : Type 0 where
    no_segments : SegmentTrees
    segment_then : SegmentTree → SegmentTrees → SegmentTrees

  pub data ArgumentsTree : Type 0 where
    absent : ArgumentsTree
    angle : Bool → ArgumentTrees → Bool → ArgumentsTree
    parens : TypeTrees → Bool → MaybeType → ArgumentsTree

  pub data ArgumentTree : Type 0 where
    lifetime_arg : Lifetime → ArgumentTree
    type_arg : TypeTree → ArgumentTree
    const_arg : ConstArg → ArgumentTree
    assoc_type : Ident → MaybeArguments → TypeTree → ArgumentTree
    assoc_const : Ident → MaybeArguments → ConstArg → ArgumentTree
    constraint : Ident → MaybeArguments → BoundTrees → Bool → ArgumentTree

  pub data ArgumentTrees : Type 0 where
    no_arguments : ArgumentTrees
    argument_then : ArgumentTree → ArgumentTrees → ArgumentTrees

  pub data MaybeArguments : Type 0 where
    arguments_absent : MaybeArguments
    some_arguments : ArgumentTrees → Bool → MaybeArguments

-- ---- lists of the program as lists of the data

abbrev pub types_of : List TypeTree → TypeTrees
types_of [] = no_types
types_of (t ∷ ts) = type_then t (types_of ts)

abbrev pub bounds_of : List BoundTree → BoundTrees
bounds_of [] = no_bounds
bounds_of (b ∷ bs) = bound_then b (bounds_of bs)

abbrev pub inputs_of : List InputTree → InputTrees
inputs_of [] = no_inputs
inputs_of (a ∷ as') = input_then a (inputs_of as')

abbrev pub segments_of : List SegmentTree → SegmentTrees
segments_of [] = no_segments
segments_of (s ∷ ss) = segment_then s (segments_of ss)

abbrev pub arguments_of : List ArgumentTree → ArgumentTrees
arguments_of [] = no_arguments
arguments_of (g ∷ gs) = argument_then g (arguments_of gs)

abbrev pub maybe_type : Option TypeTree → MaybeType
maybe_type None = no_type
maybe_type (Some t) = some_type t

-- ---- one step of the view for each type. A `Box` gives its value alone.

abbrev pub boxed_type : Option (Box TypeTree Global) → MaybeType
boxed_type None = no_type
boxed_type (Some b) = some_type b.value

abbrev pub boxed_self : Option (Box (TypeTree × ℕ) Global) → MaybeSelf
boxed_self None = no_self
boxed_self (Some b) = some_self b.value.0 b.value.1

abbrev pub maybe_arguments : Option (Punctuated ArgumentTree) → MaybeArguments
maybe_arguments None = arguments_absent
maybe_arguments (Some gs) = some_arguments (arguments_of gs.items) gs.trailing

abbrev pub bound_step : Bound-F BoundTree ArgumentTree ArgumentsTree TypeNode FnTree InputTree PathTree SegmentTree (TypeTree × ℕ) TraitBoundTree TypeTree → BoundTree
bound_step (Bound-F.«Bound::Lifetime» l) = outlives l
bound_step (Bound-F.Trait t) = implements t

abbrev pub argument_step : GenericArgument-F BoundTree ArgumentTree ArgumentsTree TypeNode FnTree InputTree PathTree SegmentTree (TypeTree × ℕ) TraitBoundTree TypeTree → ArgumentTree
argument_step (GenericArgument-F.«GenericArgument::Lifetime» l) = lifetime_arg l
argument_step (GenericArgument-F.Ty t) = type_arg t
argument_step (GenericArgument-F.Const c) = const_arg c
argument_step (GenericArgument-F.AssocTy i gs t) = assoc_type i (maybe_arguments gs) t
argument_step (GenericArgument-F.AssocConst i gs c) = assoc_const i (maybe_arguments gs) c
argument_step (GenericArgument-F.Constraint i gs bs) = constraint i (maybe_arguments gs) (bounds_of bs.items) bs.trailing

abbrev pub arguments_step : PathArguments-F BoundTree ArgumentTree ArgumentsTree TypeNode FnTree InputTree PathTree SegmentTree (TypeTree × ℕ) TraitBoundTree TypeTree → ArgumentsTree
arguments_step PathArguments-F.Absent = absent
arguments_step (PathArguments-F.Angle colons gs) = angle colons (arguments_of gs.items) gs.trailing
arguments_step (PathArguments-F.«PathArguments::Paren» ts out) = parens (types_of ts.items) ts.trailing (boxed_type out)

abbrev pub node_step : TyNode-F BoundTree ArgumentTree ArgumentsTree TypeNode FnTree InputTree PathTree SegmentTree (TypeTree × ℕ) TraitBoundTree TypeTree → TypeNode
node_step (TyNode-F.«TyNode::Paren» t) = paren t.value
node_step (TyNode-F.Tuple ts) = tuple (types_of ts.items) ts.trailing
node_step (TyNode-F.Slice t) = slice t.value
node_step (TyNode-F.Array t o) = array t.value o
node_step (TyNode-F.Reference l m t) = reference l m t.value
node_step (TyNode-F.Pointer m t) = pointer m t.value
node_step (TyNode-F.BareFn f) = bare_fn f.value
node_step (TyNode-F.TraitObject bs) = trait_object (bounds_of bs.items) bs.trailing
node_step (TyNode-F.ImplTrait bs) = impl_trait (bounds_of bs.items) bs.trailing
node_step TyNode-F.Infer = infer
node_step TyNode-F.Never = never
node_step (TyNode-F.Path q p) = path (boxed_self q) p
node_step (TyNode-F.Macro p d ts) = macro_type p d ts

abbrev pub fn_step : BareFn-F BoundTree ArgumentTree ArgumentsTree TypeNode FnTree InputTree PathTree SegmentTree (TypeTree × ℕ) TraitBoundTree TypeTree → FnTree
fn_step f = fn_tree f.lifetimes f.is_unsafe f.abi (inputs_of f.inputs.items) f.inputs.trailing (maybe_type f.output)

abbrev pub input_step : FnArg-F BoundTree ArgumentTree ArgumentsTree TypeNode FnTree InputTree PathTree SegmentTree (TypeTree × ℕ) TraitBoundTree TypeTree → InputTree
input_step a = input a.attrs a.name a.ty

abbrev pub path_step : Path-F BoundTree ArgumentTree ArgumentsTree TypeNode FnTree InputTree PathTree SegmentTree (TypeTree × ℕ) TraitBoundTree TypeTree → PathTree
path_step p = path_tree p.leading_colon (segments_of p.segments)

abbrev pub segment_step : PathSegment-F BoundTree ArgumentTree ArgumentsTree TypeNode FnTree InputTree PathTree SegmentTree (TypeTree × ℕ) TraitBoundTree TypeTree → SegmentTree
segment_step s = segment s.ident s.arguments

abbrev pub self_step : QSelf-F BoundTree ArgumentTree ArgumentsTree TypeNode FnTree InputTree PathTree SegmentTree (TypeTree × ℕ) TraitBoundTree TypeTree → TypeTree × ℕ
self_step q = (q.ty, q.position)

abbrev pub trait_step : TraitBound-F BoundTree ArgumentTree ArgumentsTree TypeNode FnTree InputTree PathTree SegmentTree (TypeTree × ℕ) TraitBoundTree TypeTree → TraitBoundTree
trait_step t = trait_bound t.parens t.maybe t.lifetimes t.path

abbrev pub ty_step : Ty-F BoundTree ArgumentTree ArgumentsTree TypeNode FnTree InputTree PathTree SegmentTree (TypeTree × ℕ) TraitBoundTree TypeTree → TypeTree
ty_step t = type_tree t.node t.span

-- ---- the views

unfoldable pub bound_view : Bound → BoundTree
bound_view = fold-Bound BoundTree ArgumentTree ArgumentsTree TypeNode FnTree InputTree PathTree SegmentTree (TypeTree × ℕ) TraitBoundTree TypeTree bound_step argument_step arguments_step node_step fn_step input_step path_step segment_step self_step trait_step ty_step

unfoldable pub argument_view : GenericArgument → ArgumentTree
argument_view = fold-GenericArgument BoundTree ArgumentTree ArgumentsTree TypeNode FnTree InputTree PathTree SegmentTree (TypeTree × ℕ) TraitBoundTree TypeTree bound_step argument_step arguments_step node_step fn_step input_step path_step segment_step self_step trait_step ty_step

unfoldable pub arguments_view : PathArguments → ArgumentsTree
arguments_view = fold-PathArguments BoundTree ArgumentTree ArgumentsTree TypeNode FnTree InputTree PathTree SegmentTree (TypeTree × ℕ) TraitBoundTree TypeTree bound_step argument_step arguments_step node_step fn_step input_step path_step segment_step self_step trait_step ty_step

unfoldable pub node_view : TyNode → TypeNode
node_view = fold-TyNode BoundTree ArgumentTree ArgumentsTree TypeNode FnTree InputTree PathTree SegmentTree (TypeTree × ℕ) TraitBoundTree TypeTree bound_step argument_step arguments_step node_step fn_step input_step path_step segment_step self_step trait_step ty_step

unfoldable pub fn_view : BareFn → FnTree
fn_view = fold-BareFn BoundTree ArgumentTree ArgumentsTree TypeNode FnTree InputTree PathTree SegmentTree (TypeTree × ℕ) TraitBoundTree TypeTree bound_step argument_step arguments_step node_step fn_step input_step path_step segment_step self_step trait_step ty_step

unfoldable pub input_view : FnArg → InputTree
input_view = fold-FnArg BoundTree ArgumentTree ArgumentsTree TypeNode FnTree InputTree PathTree SegmentTree (TypeTree × ℕ) TraitBoundTree TypeTree bound_step argument_step arguments_step node_step fn_step input_step path_step segment_step self_step trait_step ty_step

unfoldable pub path_view : Path → PathTree
path_view = fold-Path BoundTree ArgumentTree ArgumentsTree TypeNode FnTree InputTree PathTree SegmentTree (TypeTree × ℕ) TraitBoundTree TypeTree bound_step argument_step arguments_step node_step fn_step input_step path_step segment_step self_step trait_step ty_step

unfoldable pub segment_view : PathSegment → SegmentTree
segment_view = fold-PathSegment BoundTree ArgumentTree ArgumentsTree TypeNode FnTree InputTree PathTree SegmentTree (TypeTree × ℕ) TraitBoundTree TypeTree bound_step argument_step arguments_step node_step fn_step input_step path_step segment_step self_step trait_step ty_step

unfoldable pub self_view : QSelf → TypeTree × ℕ
self_view = fold-QSelf BoundTree ArgumentTree ArgumentsTree TypeNode FnTree InputTree PathTree SegmentTree (TypeTree × ℕ) TraitBoundTree TypeTree bound_step argument_step arguments_step node_step fn_step input_step path_step segment_step self_step trait_step ty_step

unfoldable pub trait_view : TraitBound → TraitBoundTree
trait_view = fold-TraitBound BoundTree ArgumentTree ArgumentsTree TypeNode FnTree InputTree PathTree SegmentTree (TypeTree × ℕ) TraitBoundTree TypeTree bound_step argument_step arguments_step node_step fn_step input_step path_step segment_step self_step trait_step ty_step

unfoldable pub ty_view : Ty → TypeTree
ty_view = fold-Ty BoundTree ArgumentTree ArgumentsTree TypeNode FnTree InputTree PathTree SegmentTree (TypeTree × ℕ) TraitBoundTree TypeTree bound_step argument_step arguments_step node_step fn_step input_step path_step segment_step self_step trait_step ty_step

-- ---- what may be missing

abbrev pub maybe_ty_view : Option (Box Ty Global) → MaybeType
maybe_ty_view None = no_type
maybe_ty_view (Some b) = some_type (ty_view b.value)

abbrev pub maybe_self_view : Option (Box QSelf Global) → MaybeSelf
maybe_self_view None = no_self
maybe_self_view (Some b) = some_self (self_view b.value).0 (self_view b.value).1

abbrev pub maybe_arguments_view : Option (Punctuated GenericArgument) → MaybeArguments
maybe_arguments_view None = arguments_absent
maybe_arguments_view (Some gs) = some_arguments (arguments_of (map argument_view gs.items)) gs.trailing
