-- The equations of the views, one for each variant.
use Rattle.std.proofs.Common.{◌≡◌, ℕ, List, map, Bool, Option, Some, None, option_map, refl, sym, ap, ◌∙◌}
use Rattle.std.proofs.lemmas.Grind.{common_steps}
use Rattle.std.specs.declared.boxed.Box.{Box}
use Rattle.std.specs.declared.alloc.Global.{Global}
use Rattle.dm_stream.specs.declared.seq.Punctuated.{Punctuated}
use Rattle.dm_stream.specs.declared.tokens.Delim.{Delim}
use Rattle.dm_stream.specs.declared.tokens.Ident.{Ident}
use Rattle.dm_stream.specs.declared.tokens.Literal.{Literal}
use Rattle.dm_stream.specs.declared.tokens.Lifetime.{Lifetime}
use Rattle.dm_stream.specs.Trees.{Stream}
use Rattle.dm_ast.specs.declared.plain.Opaque.{Opaque}
use Rattle.dm_ast.specs.declared.plain.PlainPath.{PlainPath}
use Rattle.dm_ast.specs.declared.plain.ConstArg.{ConstArg}
use Rattle.dm_ast.specs.declared.ty.Bound.{Bound}
use Rattle.dm_ast.specs.declared.ty.Bound.TheVariants as b
use Rattle.dm_ast.specs.declared.ty.GenericArgument.{GenericArgument}
use Rattle.dm_ast.specs.declared.ty.GenericArgument.TheVariants as g
use Rattle.dm_ast.specs.declared.ty.PathArguments.{PathArguments}
use Rattle.dm_ast.specs.declared.ty.PathArguments.TheVariants as a
use Rattle.dm_ast.specs.declared.ty.TyNode.{TyNode}
use Rattle.dm_ast.specs.declared.ty.TyNode.TheVariants as n
use Rattle.dm_ast.specs.declared.ty.BareFn.{BareFn}
use Rattle.dm_ast.specs.declared.ty.FnArg.{FnArg}
use Rattle.dm_ast.specs.declared.ty.Path.{Path}
use Rattle.dm_ast.specs.declared.ty.PathSegment.{PathSegment}
use Rattle.dm_ast.specs.declared.ty.QSelf.{QSelf}
use Rattle.dm_ast.specs.declared.ty.TraitBound.{TraitBound}
use Rattle.dm_ast.specs.declared.ty.Ty.{Ty}
use Rattle.dm_ast.specs.declared.ty.Bound.TheOpen as open'
use Rattle.dm_ast.specs.declared.ty.Bound.TheViews.{out-Path, out-TraitBound, out-BareFn, roll-Path, roll-TraitBound, roll-BareFn}
use Rattle.dm_ast.specs.declared.ty.Bound.TheFolds.{fold-roll-Bound, fold-roll-GenericArgument, fold-roll-PathArguments, fold-roll-TyNode, map-BareFn, fold-roll-Path, fold-roll-TraitBound, fold-roll-BareFn, fold_out-BareFn, fold_out-FnArg, fold_out-Path, fold_out-PathSegment, fold_out-QSelf, fold_out-TraitBound, fold_out-Ty}
use Rattle.dm_ast.specs.Tree.{Lifetimes, TypeTree, type_tree, TypeNode, paren, tuple, slice, array, reference, pointer, bare_fn, trait_object, impl_trait, infer, never, path, macro_type, BoundTree, outlives, implements, TraitBoundTree, trait_bound, FnTree, fn_tree, InputTree, input, PathTree, path_tree, SegmentTree, segment, ArgumentsTree, absent, angle, parens, ArgumentTree, lifetime_arg, type_arg, const_arg, assoc_type, assoc_const, constraint, types_of, bounds_of, inputs_of, segments_of, arguments_of, maybe_type, maybe_self_view, some_self, maybe_ty_view, maybe_arguments_view, bound_step, argument_step, arguments_step, node_step, fn_step, input_step, path_step, segment_step, self_step, trait_step, ty_step, bound_view, argument_view, arguments_view, node_view, fn_view, input_view, path_view, segment_view, self_view, trait_view, ty_view}

fn_layer : (l : Lifetimes) (u : Bool) (a : Option (Option Literal)) (i : Punctuated FnArg) (o : Option Ty) →
    fn_step (map-BareFn Bound GenericArgument PathArguments TyNode BareFn FnArg Path PathSegment QSelf TraitBound Ty BoundTree ArgumentTree ArgumentsTree TypeNode FnTree InputTree PathTree SegmentTree (TypeTree × ℕ) TraitBoundTree TypeTree bound_view argument_view arguments_view node_view fn_view input_view path_view segment_view self_view trait_view ty_view (record { lifetimes = l; is_unsafe = u; abi = a; inputs = i; output = o })) ≡
    fn_tree l u a (inputs_of (map input_view i.items)) i.trailing (maybe_type (option_map ty_view o))
fn_layer l u a i None = refl
fn_layer l u a i (Some t) = refl

pub view_TyNode-Paren : (t : Box Ty Global) → node_view (n.Paren t) ≡ paren (ty_view t.value)
unfolding bound_view argument_view arguments_view node_view fn_view input_view path_view segment_view self_view trait_view ty_view
view_TyNode-Paren t = ap node_view (sym (n.rolls-Paren t)) ∙ fold-roll-TyNode BoundTree ArgumentTree ArgumentsTree TypeNode FnTree InputTree PathTree SegmentTree (TypeTree × ℕ) TraitBoundTree TypeTree bound_step argument_step arguments_step node_step fn_step input_step path_step segment_step self_step trait_step ty_step (open'.«TyNode::Paren» t)

pub view_TyNode-Tuple : (ts : Punctuated Ty) → node_view (n.Tuple ts) ≡ tuple (types_of (map ty_view ts.items)) ts.trailing
unfolding bound_view argument_view arguments_view node_view fn_view input_view path_view segment_view self_view trait_view ty_view
view_TyNode-Tuple ts = ap node_view (sym (n.rolls-Tuple ts)) ∙ fold-roll-TyNode BoundTree ArgumentTree ArgumentsTree TypeNode FnTree InputTree PathTree SegmentTree (TypeTree × ℕ) TraitBoundTree TypeTree bound_step argument_step arguments_step node_step fn_step input_step path_step segment_step self_step trait_step ty_step (open'.Tuple ts)

pub view_TyNode-Slice : (t : Box Ty Global) → node_view (n.Slice t) ≡ slice (ty_view t.value)
unfolding bound_view argument_view arguments_view node_view fn_view input_view path_view segment_view self_view trait_view ty_view
view_TyNode-Slice t = ap node_view (sym (n.rolls-Slice t)) ∙ fold-roll-TyNode BoundTree ArgumentTree ArgumentsTree TypeNode FnTree InputTree PathTree SegmentTree (TypeTree × ℕ) TraitBoundTree TypeTree bound_step argument_step arguments_step node_step fn_step input_step path_step segment_step self_step trait_step ty_step (open'.Slice t)

pub view_TyNode-Array : (t : Box Ty Global) (o : Opaque) → node_view (n.Array t o) ≡ array (ty_view t.value) o
unfolding bound_view argument_view arguments_view node_view fn_view input_view path_view segment_view self_view trait_view ty_view
view_TyNode-Array t o = ap node_view (sym (n.rolls-Array t o)) ∙ fold-roll-TyNode BoundTree ArgumentTree ArgumentsTree TypeNode FnTree InputTree PathTree SegmentTree (TypeTree × ℕ) TraitBoundTree TypeTree bound_step argument_step arguments_step node_step fn_step input_step path_step segment_step self_step trait_step ty_step (open'.Array t o)

pub view_TyNode-Reference : (l : Option Lifetime) (m : Bool) (t : Box Ty Global) → node_view (n.Reference l m t) ≡ reference l m (ty_view t.value)
unfolding bound_view argument_view arguments_view node_view fn_view input_view path_view segment_view self_view trait_view ty_view
view_TyNode-Reference l m t = ap node_view (sym (n.rolls-Reference l m t)) ∙ fold-roll-TyNode BoundTree ArgumentTree ArgumentsTree TypeNode FnTree InputTree PathTree SegmentTree (TypeTree × ℕ) TraitBoundTree TypeTree bound_step argument_step arguments_step node_step fn_step input_step path_step segment_step self_step trait_step ty_step (open'.Reference l m t)

pub view_TyNode-Pointer : (m : Bool) (t : Box Ty Global) → node_view (n.Pointer m t) ≡ pointer m (ty_view t.value)
unfolding bound_view argument_view arguments_view node_view fn_view input_view path_view segment_view self_view trait_view ty_view
view_TyNode-Pointer m t = ap node_view (sym (n.rolls-Pointer m t)) ∙ fold-roll-TyNode BoundTree ArgumentTree ArgumentsTree TypeNode FnTree InputTree PathTree SegmentTree (TypeTree × ℕ) TraitBoundTree TypeTree bound_step argument_step arguments_step node_step fn_step input_step path_step segment_step self_step trait_step ty_step (open'.Pointer m t)

pub view_TyNode-BareFn : (f : Box BareFn Global) → node_view (n.BareFn f) ≡ bare_fn (fn_view f.value)
unfolding bound_view argument_view arguments_view node_view fn_view input_view path_view segment_view self_view trait_view ty_view
view_TyNode-BareFn f = ap node_view (sym (n.rolls-BareFn f)) ∙ fold-roll-TyNode BoundTree ArgumentTree ArgumentsTree TypeNode FnTree InputTree PathTree SegmentTree (TypeTree × ℕ) TraitBoundTree TypeTree bound_step argument_step arguments_step node_step fn_step input_step path_step segment_step self_step trait_step ty_step (open'.BareFn f)

pub view_TyNode-TraitObject : (bs : Punctuated Bound) → node_view (n.TraitObject bs) ≡ trait_object (bounds_of (map bound_view bs.items)) bs.trailing
unfolding bound_view argument_view arguments_view node_view fn_view input_view path_view segment_view self_view trait_view ty_view
view_TyNode-TraitObject bs = ap node_view (sym (n.rolls-TraitObject bs)) ∙ fold-roll-TyNode BoundTree ArgumentTree ArgumentsTree TypeNode FnTree InputTree PathTree SegmentTree (TypeTree × ℕ) TraitBoundTree TypeTree bound_step argument_step arguments_step node_step fn_step input_step path_step segment_step self_step trait_step ty_step (open'.TraitObject bs)

pub view_TyNode-ImplTrait : (bs : Punctuated Bound) → node_view (n.ImplTrait bs) ≡ impl_trait (bounds_of (map bound_view bs.items)) bs.trailing
unfolding bound_view argument_view arguments_view node_view fn_view input_view path_view segment_view self_view trait_view ty_view
view_TyNode-ImplTrait bs = ap node_view (sym (n.rolls-ImplTrait bs)) ∙ fold-roll-TyNode BoundTree ArgumentTree ArgumentsTree TypeNode FnTree InputTree PathTree SegmentTree (TypeTree × ℕ) TraitBoundTree TypeTree bound_step argument_step arguments_step node_step fn_step input_step path_step segment_step self_step trait_step ty_step (open'.ImplTrait bs)

pub view_TyNode-Infer : node_view n.Infer ≡ infer
unfolding bound_view argument_view arguments_view node_view fn_view input_view path_view segment_view self_view trait_view ty_view
view_TyNode-Infer = ap node_view (sym (n.rolls-Infer)) ∙ fold-roll-TyNode BoundTree ArgumentTree ArgumentsTree TypeNode FnTree InputTree PathTree SegmentTree (TypeTree × ℕ) TraitBoundTree TypeTree bound_step argument_step arguments_step node_step fn_step input_step path_step segment_step self_step trait_step ty_step open'.Infer

pub view_TyNode-Never : node_view n.Never ≡ never
unfolding bound_view argument_view arguments_view node_view fn_view input_view path_view segment_view self_view trait_view ty_view
view_TyNode-Never = ap node_view (sym (n.rolls-Never)) ∙ fold-roll-TyNode BoundTree ArgumentTree ArgumentsTree TypeNode FnTree InputTree PathTree SegmentTree (TypeTree × ℕ) TraitBoundTree TypeTree bound_step argument_step arguments_step node_step fn_step input_step path_step segment_step self_step trait_step ty_step open'.Never

pub view_TyNode-Path : (q : Option (Box QSelf Global)) (p : Path) → node_view (n.Path q p) ≡ path (maybe_self_view q) (path_view p)
unfolding bound_view argument_view arguments_view node_view fn_view input_view path_view segment_view self_view trait_view ty_view
view_TyNode-Path None p = ap node_view (sym (n.rolls-Path None p)) ∙ fold-roll-TyNode BoundTree ArgumentTree ArgumentsTree TypeNode FnTree InputTree PathTree SegmentTree (TypeTree × ℕ) TraitBoundTree TypeTree bound_step argument_step arguments_step node_step fn_step input_step path_step segment_step self_step trait_step ty_step (open'.Path None p)
view_TyNode-Path ((Some x)) p = ap node_view (sym (n.rolls-Path ((Some x)) p)) ∙ fold-roll-TyNode BoundTree ArgumentTree ArgumentsTree TypeNode FnTree InputTree PathTree SegmentTree (TypeTree × ℕ) TraitBoundTree TypeTree bound_step argument_step arguments_step node_step fn_step input_step path_step segment_step self_step trait_step ty_step (open'.Path ((Some x)) p)

pub view_TyNode-Macro : (p : PlainPath) (d : Delim) (ts : Stream) → node_view (n.Macro p d ts) ≡ macro_type p d ts
unfolding bound_view argument_view arguments_view node_view fn_view input_view path_view segment_view self_view trait_view ty_view
view_TyNode-Macro p d ts = ap node_view (sym (n.rolls-Macro p d ts)) ∙ fold-roll-TyNode BoundTree ArgumentTree ArgumentsTree TypeNode FnTree InputTree PathTree SegmentTree (TypeTree × ℕ) TraitBoundTree TypeTree bound_step argument_step arguments_step node_step fn_step input_step path_step segment_step self_step trait_step ty_step (open'.Macro p d ts)

pub view_Bound-Lifetime : (l : Lifetime) → bound_view (b.Lifetime l) ≡ outlives l
unfolding bound_view argument_view arguments_view node_view fn_view input_view path_view segment_view self_view trait_view ty_view
view_Bound-Lifetime l = ap bound_view (sym (b.rolls-Lifetime l)) ∙ fold-roll-Bound BoundTree ArgumentTree ArgumentsTree TypeNode FnTree InputTree PathTree SegmentTree (TypeTree × ℕ) TraitBoundTree TypeTree bound_step argument_step arguments_step node_step fn_step input_step path_step segment_step self_step trait_step ty_step (open'.«Bound::Lifetime» l)

pub view_Bound-Trait : (t : TraitBound) → bound_view (b.Trait t) ≡ implements (trait_view t)
unfolding bound_view argument_view arguments_view node_view fn_view input_view path_view segment_view self_view trait_view ty_view
view_Bound-Trait t = ap bound_view (sym (b.rolls-Trait t)) ∙ fold-roll-Bound BoundTree ArgumentTree ArgumentsTree TypeNode FnTree InputTree PathTree SegmentTree (TypeTree × ℕ) TraitBoundTree TypeTree bound_step argument_step arguments_step node_step fn_step input_step path_step segment_step self_step trait_step ty_step (open'.Trait t)

pub view_PathArguments-Absent : arguments_view a.Absent ≡ absent
unfolding bound_view argument_view arguments_view node_view fn_view input_view path_view segment_view self_view trait_view ty_view
view_PathArguments-Absent = ap arguments_view (sym (a.rolls-Absent)) ∙ fold-roll-PathArguments BoundTree ArgumentTree ArgumentsTree TypeNode FnTree InputTree PathTree SegmentTree (TypeTree × ℕ) TraitBoundTree TypeTree bound_step argument_step arguments_step node_step fn_step input_step path_step segment_step self_step trait_step ty_step open'.Absent

pub view_PathArguments-Angle : (c : Bool) (gs : Punctuated GenericArgument) → arguments_view (a.Angle c gs) ≡ angle c (arguments_of (map argument_view gs.items)) gs.trailing
unfolding bound_view argument_view arguments_view node_view fn_view input_view path_view segment_view self_view trait_view ty_view
view_PathArguments-Angle c gs = ap arguments_view (sym (a.rolls-Angle c gs)) ∙ fold-roll-PathArguments BoundTree ArgumentTree ArgumentsTree TypeNode FnTree InputTree PathTree SegmentTree (TypeTree × ℕ) TraitBoundTree TypeTree bound_step argument_step arguments_step node_step fn_step input_step path_step segment_step self_step trait_step ty_step (open'.Angle c gs)

pub view_PathArguments-Paren : (ts : Punctuated Ty) (out : Option (Box Ty Global)) → arguments_view (a.Paren ts out) ≡ parens (types_of (map ty_view ts.items)) ts.trailing (maybe_ty_view out)
unfolding bound_view argument_view arguments_view node_view fn_view input_view path_view segment_view self_view trait_view ty_view
view_PathArguments-Paren ts None = ap arguments_view (sym (a.rolls-Paren ts None)) ∙ fold-roll-PathArguments BoundTree ArgumentTree ArgumentsTree TypeNode FnTree InputTree PathTree SegmentTree (TypeTree × ℕ) TraitBoundTree TypeTree bound_step argument_step arguments_step node_step fn_step input_step path_step segment_step self_step trait_step ty_step (open'.«PathArguments::Paren» ts None)
view_PathArguments-Paren ts ((Some x)) = ap arguments_view (sym (a.rolls-Paren ts ((Some x)))) ∙ fold-roll-PathArguments BoundTree ArgumentTree ArgumentsTree TypeNode FnTree InputTree PathTree SegmentTree (TypeTree × ℕ) TraitBoundTree TypeTree bound_step argument_step arguments_step node_step fn_step input_step path_step segment_step self_step trait_step ty_step (open'.«PathArguments::Paren» ts ((Some x)))

pub view_GenericArgument-Lifetime : (l : Lifetime) → argument_view (g.Lifetime l) ≡ lifetime_arg l
unfolding bound_view argument_view arguments_view node_view fn_view input_view path_view segment_view self_view trait_view ty_view
view_GenericArgument-Lifetime l = ap argument_view (sym (g.rolls-Lifetime l)) ∙ fold-roll-GenericArgument BoundTree ArgumentTree ArgumentsTree TypeNode FnTree InputTree PathTree SegmentTree (TypeTree × ℕ) TraitBoundTree TypeTree bound_step argument_step arguments_step node_step fn_step input_step path_step segment_step self_step trait_step ty_step (open'.«GenericArgument::Lifetime» l)

pub view_GenericArgument-Ty : (t : Ty) → argument_view (g.Ty t) ≡ type_arg (ty_view t)
unfolding bound_view argument_view arguments_view node_view fn_view input_view path_view segment_view self_view trait_view ty_view
view_GenericArgument-Ty t = ap argument_view (sym (g.rolls-Ty t)) ∙ fold-roll-GenericArgument BoundTree ArgumentTree ArgumentsTree TypeNode FnTree InputTree PathTree SegmentTree (TypeTree × ℕ) TraitBoundTree TypeTree bound_step argument_step arguments_step node_step fn_step input_step path_step segment_step self_step trait_step ty_step (open'.Ty t)

pub view_GenericArgument-Const : (c : ConstArg) → argument_view (g.Const c) ≡ const_arg c
unfolding bound_view argument_view arguments_view node_view fn_view input_view path_view segment_view self_view trait_view ty_view
view_GenericArgument-Const c = ap argument_view (sym (g.rolls-Const c)) ∙ fold-roll-GenericArgument BoundTree ArgumentTree ArgumentsTree TypeNode FnTree InputTree PathTree SegmentTree (TypeTree × ℕ) TraitBoundTree TypeTree bound_step argument_step arguments_step node_step fn_step input_step path_step segment_step self_step trait_step ty_step (open'.Const c)

pub view_GenericArgument-AssocTy : (i : Ident) (gs : Option (Punctuated GenericArgument)) (t : Ty) → argument_view (g.AssocTy i gs t) ≡ assoc_type i (maybe_arguments_view gs) (ty_view t)
unfolding bound_view argument_view arguments_view node_view fn_view input_view path_view segment_view self_view trait_view ty_view
view_GenericArgument-AssocTy i None t = ap argument_view (sym (g.rolls-AssocTy i None t)) ∙ fold-roll-GenericArgument BoundTree ArgumentTree ArgumentsTree TypeNode FnTree InputTree PathTree SegmentTree (TypeTree × ℕ) TraitBoundTree TypeTree bound_step argument_step arguments_step node_step fn_step input_step path_step segment_step self_step trait_step ty_step (open'.AssocTy i None t)
view_GenericArgument-AssocTy i ((Some x)) t = ap argument_view (sym (g.rolls-AssocTy i ((Some x)) t)) ∙ fold-roll-GenericArgument BoundTree ArgumentTree ArgumentsTree TypeNode FnTree InputTree PathTree SegmentTree (TypeTree × ℕ) TraitBoundTree TypeTree bound_step argument_step arguments_step node_step fn_step input_step path_step segment_step self_step trait_step ty_step (open'.AssocTy i ((Some x)) t)

pub view_GenericArgument-AssocConst : (i : Ident) (gs : Option (Punctuated GenericArgument)) (c : ConstArg) → argument_view (g.AssocConst i gs c) ≡ assoc_const i (maybe_arguments_view gs) c
unfolding bound_view argument_view arguments_view node_view fn_view input_view path_view segment_view self_view trait_view ty_view
view_GenericArgument-AssocConst i None c = ap argument_view (sym (g.rolls-AssocConst i None c)) ∙ fold-roll-GenericArgument BoundTree ArgumentTree ArgumentsTree TypeNode FnTree InputTree PathTree SegmentTree (TypeTree × ℕ) TraitBoundTree TypeTree bound_step argument_step arguments_step node_step fn_step input_step path_step segment_step self_step trait_step ty_step (open'.AssocConst i None c)
view_GenericArgument-AssocConst i ((Some x)) c = ap argument_view (sym (g.rolls-AssocConst i ((Some x)) c)) ∙ fold-roll-GenericArgument BoundTree ArgumentTree ArgumentsTree TypeNode FnTree InputTree PathTree SegmentTree (TypeTree × ℕ) TraitBoundTree TypeTree bound_step argument_step arguments_step node_step fn_step input_step path_step segment_step self_step trait_step ty_step (open'.AssocConst i ((Some x)) c)

pub view_GenericArgument-Constraint : (i : Ident) (gs : Option (Punctuated GenericArgument)) (bs : Punctuated Bound) → argument_view (g.Constraint i gs bs) ≡ constraint i (maybe_arguments_view gs) (bounds_of (map bound_view bs.items)) bs.trailing
unfolding bound_view argument_view arguments_view node_view fn_view input_view path_view segment_view self_view trait_view ty_view
view_GenericArgument-Constraint i None bs = ap argument_view (sym (g.rolls-Constraint i None bs)) ∙ fold-roll-GenericArgument BoundTree ArgumentTree ArgumentsTree TypeNode FnTree InputTree PathTree SegmentTree (TypeTree × ℕ) TraitBoundTree TypeTree bound_step argument_step arguments_step node_step fn_step input_step path_step segment_step self_step trait_step ty_step (open'.Constraint i None bs)
view_GenericArgument-Constraint i ((Some x)) bs = ap argument_view (sym (g.rolls-Constraint i ((Some x)) bs)) ∙ fold-roll-GenericArgument BoundTree ArgumentTree ArgumentsTree TypeNode FnTree InputTree PathTree SegmentTree (TypeTree × ℕ) TraitBoundTree TypeTree bound_step argument_step arguments_step node_step fn_step input_step path_step segment_step self_step trait_step ty_step (open'.Constraint i ((Some x)) bs)

pub view-Ty : (t : Ty) → ty_view t ≡ type_tree (node_view t.node) t.span
unfolding bound_view argument_view arguments_view node_view fn_view input_view path_view segment_view self_view trait_view ty_view
view-Ty t = fold_out-Ty BoundTree ArgumentTree ArgumentsTree TypeNode FnTree InputTree PathTree SegmentTree (TypeTree × ℕ) TraitBoundTree TypeTree bound_step argument_step arguments_step node_step fn_step input_step path_step segment_step self_step trait_step ty_step t

pub view-PathSegment : (s : PathSegment) → segment_view s ≡ segment s.ident (arguments_view s.arguments)
unfolding bound_view argument_view arguments_view node_view fn_view input_view path_view segment_view self_view trait_view ty_view
view-PathSegment s = fold_out-PathSegment BoundTree ArgumentTree ArgumentsTree TypeNode FnTree InputTree PathTree SegmentTree (TypeTree × ℕ) TraitBoundTree TypeTree bound_step argument_step arguments_step node_step fn_step input_step path_step segment_step self_step trait_step ty_step s

pub view-FnArg : (a' : FnArg) → input_view a' ≡ input a'.attrs a'.name (ty_view a'.ty)
unfolding bound_view argument_view arguments_view node_view fn_view input_view path_view segment_view self_view trait_view ty_view
view-FnArg a' = fold_out-FnArg BoundTree ArgumentTree ArgumentsTree TypeNode FnTree InputTree PathTree SegmentTree (TypeTree × ℕ) TraitBoundTree TypeTree bound_step argument_step arguments_step node_step fn_step input_step path_step segment_step self_step trait_step ty_step a'

pub view-QSelf : (q : QSelf) → self_view q ≡ (ty_view q.ty, q.position)
unfolding bound_view argument_view arguments_view node_view fn_view input_view path_view segment_view self_view trait_view ty_view
view-QSelf q = fold_out-QSelf BoundTree ArgumentTree ArgumentsTree TypeNode FnTree InputTree PathTree SegmentTree (TypeTree × ℕ) TraitBoundTree TypeTree bound_step argument_step arguments_step node_step fn_step input_step path_step segment_step self_step trait_step ty_step q

pub view-Path : (p : Path) → path_view p ≡ path_tree (out-Path p).leading_colon (segments_of (map segment_view (out-Path p).segments))
unfolding bound_view argument_view arguments_view node_view fn_view input_view path_view segment_view self_view trait_view ty_view
view-Path p = fold_out-Path BoundTree ArgumentTree ArgumentsTree TypeNode FnTree InputTree PathTree SegmentTree (TypeTree × ℕ) TraitBoundTree TypeTree bound_step argument_step arguments_step node_step fn_step input_step path_step segment_step self_step trait_step ty_step p

pub view-TraitBound : (t : TraitBound) → trait_view t ≡ trait_bound (out-TraitBound t).parens (out-TraitBound t).maybe (out-TraitBound t).lifetimes (path_view (out-TraitBound t).path)
unfolding bound_view argument_view arguments_view node_view fn_view input_view path_view segment_view self_view trait_view ty_view
view-TraitBound t = fold_out-TraitBound BoundTree ArgumentTree ArgumentsTree TypeNode FnTree InputTree PathTree SegmentTree (TypeTree × ℕ) TraitBoundTree TypeTree bound_step argument_step arguments_step node_step fn_step input_step path_step segment_step self_step trait_step ty_step t

pub view-BareFn : (f : BareFn) → fn_view f ≡ fn_tree (out-BareFn f).lifetimes (out-BareFn f).is_unsafe (out-BareFn f).abi (inputs_of (map input_view (out-BareFn f).inputs.items)) (out-BareFn f).inputs.trailing (maybe_type (option_map ty_view (out-BareFn f).output))
unfolding bound_view argument_view arguments_view node_view fn_view input_view path_view segment_view self_view trait_view ty_view
view-BareFn f = fold_out-BareFn BoundTree ArgumentTree ArgumentsTree TypeNode FnTree InputTree PathTree SegmentTree (TypeTree × ℕ) TraitBoundTree TypeTree bound_step argument_step arguments_step node_step fn_step input_step path_step segment_step self_step trait_step ty_step f ∙ fn_layer (out-BareFn f).lifetimes (out-BareFn f).is_unsafe (out-BareFn f).abi (out-BareFn f).inputs (out-BareFn f).output

pub view_roll-Path : (c : Bool) (ss : List PathSegment) → path_view (roll-Path (record { leading_colon = c; segments = ss })) ≡ path_tree c (segments_of (map segment_view ss))
unfolding bound_view argument_view arguments_view node_view fn_view input_view path_view segment_view self_view trait_view ty_view
view_roll-Path c ss = fold-roll-Path BoundTree ArgumentTree ArgumentsTree TypeNode FnTree InputTree PathTree SegmentTree (TypeTree × ℕ) TraitBoundTree TypeTree bound_step argument_step arguments_step node_step fn_step input_step path_step segment_step self_step trait_step ty_step (record { leading_colon = c; segments = ss })

pub view_roll-TraitBound : (p : Bool) (m : Bool) (ls : Lifetimes) (q : Path) → trait_view (roll-TraitBound (record { parens = p; maybe = m; lifetimes = ls; path = q })) ≡ trait_bound p m ls (path_view q)
unfolding bound_view argument_view arguments_view node_view fn_view input_view path_view segment_view self_view trait_view ty_view
view_roll-TraitBound p m ls q = fold-roll-TraitBound BoundTree ArgumentTree ArgumentsTree TypeNode FnTree InputTree PathTree SegmentTree (TypeTree × ℕ) TraitBoundTree TypeTree bound_step argument_step arguments_step node_step fn_step input_step path_step segment_step self_step trait_step ty_step (record { parens = p; maybe = m; lifetimes = ls; path = q })

pub view_roll-BareFn : (l : Lifetimes) (u : Bool) (a' : Option (Option Literal)) (i : Punctuated FnArg) (z : Option Ty) → fn_view (roll-BareFn (record { lifetimes = l; is_unsafe = u; abi = a'; inputs = i; output = z })) ≡ fn_tree l u a' (inputs_of (map input_view i.items)) i.trailing (maybe_type (option_map ty_view z))
unfolding bound_view argument_view arguments_view node_view fn_view input_view path_view segment_view self_view trait_view ty_view
view_roll-BareFn l u a' i None = fold-roll-BareFn BoundTree ArgumentTree ArgumentsTree TypeNode FnTree InputTree PathTree SegmentTree (TypeTree × ℕ) TraitBoundTree TypeTree bound_step argument_step arguments_step node_step fn_step input_step path_step segment_step self_step trait_step ty_step (record { lifetimes = l; is_unsafe = u; abi = a'; inputs = i; output = None })
view_roll-BareFn l u a' i (Some x) = fold-roll-BareFn BoundTree ArgumentTree ArgumentsTree TypeNode FnTree InputTree PathTree SegmentTree (TypeTree × ℕ) TraitBoundTree TypeTree bound_step argument_step arguments_step node_step fn_step input_step path_step segment_step self_step trait_step ty_step (record { lifetimes = l; is_unsafe = u; abi = a'; inputs = i; output = (Some x) })

pub view-some_self : (b : Box QSelf Global) → maybe_self_view (Some b) ≡ some_self (ty_view b.value.ty) b.value.position
view-some_self b = ap (λ (p : TypeTree × ℕ). some_self p.0 p.1) (view-QSelf b.value)

-- every equation of a view
pub ruleset views = (view_TyNode-Paren, view_TyNode-Tuple, view_TyNode-Slice, view_TyNode-Array, view_TyNode-Reference, view_TyNode-Pointer, view_TyNode-BareFn, view_TyNode-TraitObject, view_TyNode-ImplTrait, view_TyNode-Infer, view_TyNode-Never, view_TyNode-Path, view_TyNode-Macro, view_Bound-Lifetime, view_Bound-Trait, view_PathArguments-Absent, view_PathArguments-Angle, view_PathArguments-Paren, view_GenericArgument-Lifetime, view_GenericArgument-Ty, view_GenericArgument-Const, view_GenericArgument-AssocTy, view_GenericArgument-AssocConst, view_GenericArgument-Constraint, view-Ty, view-PathSegment, view-FnArg, view-QSelf, view-Path, view-TraitBound, view-BareFn, view_roll-Path, view_roll-TraitBound, view_roll-BareFn)

-- the same with the usual steps
pub ruleset view_steps = (common_steps, views)
