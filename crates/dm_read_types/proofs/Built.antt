-- The views of nodes that a function builds at once.
use Rattle.std.proofs.Common.{◌≡◌, List, map, Bool, false, Option, None, option_map, ap, ◌∙◌}
use Rattle.std.proofs.lemmas.Grind.{common_steps}
use Rattle.std.specs.declared.boxed.Box.{Box}
use Rattle.std.specs.declared.alloc.Global.{Global}
use Rattle.dm_stream.specs.declared.seq.Punctuated.{Punctuated}
use Rattle.dm_stream.specs.declared.tokens.Literal.{Literal}
use Rattle.dm_ast.specs.declared.ty.Bound.{Bound}
use Rattle.dm_ast.specs.declared.ty.TyNode.TheVariants as n
use Rattle.dm_ast.specs.declared.ty.BareFn.{BareFn}
use Rattle.dm_ast.specs.declared.ty.FnArg.{FnArg}
use Rattle.dm_ast.specs.declared.ty.Path.{Path}
use Rattle.dm_ast.specs.declared.ty.Ty.{Ty}
use Rattle.dm_ast.specs.declared.ty.Bound.TheViews.{roll-BareFn}
use Rattle.dm_ast.specs.Tree.{Lifetimes, trait_object, impl_trait, bare_fn, fn_tree, path, no_self, maybe_type, bounds_of, inputs_of, node_view, fn_view, path_view, ty_view, bound_view, input_view}
use Rattle.dm_ast.proofs.View.{view_TyNode-TraitObject, view_TyNode-ImplTrait, view_TyNode-BareFn, view_TyNode-Path, view_roll-BareFn}

pub built_object : (bs : List Bound) → node_view (n.TraitObject (record { items = bs; trailing = false })) ≡ trait_object (bounds_of (map bound_view bs)) false
built_object bs = view_TyNode-TraitObject (record { items = bs; trailing = false })

pub built_implied : (bs : List Bound) → node_view (n.ImplTrait (record { items = bs; trailing = false })) ≡ impl_trait (bounds_of (map bound_view bs)) false
built_implied bs = view_TyNode-ImplTrait (record { items = bs; trailing = false })

pub built_path : (p : Path) → node_view (n.Path None p) ≡ path no_self (path_view p)
built_path p = view_TyNode-Path None p

pub built_function : (b : Box BareFn Global) (l : Lifetimes) (u : Bool) (e : Option (Option Literal)) (i : Punctuated FnArg) (z : Option Ty) →
    b.value ≡ roll-BareFn (record { lifetimes = l; is_unsafe = u; abi = e; inputs = i; output = z }) →
    node_view (n.BareFn b) ≡ bare_fn (fn_tree l u e (inputs_of (map input_view i.items)) i.trailing (maybe_type (option_map ty_view z)))
built_function b l u e i z h = view_TyNode-BareFn b ∙ ap (λ f. bare_fn (fn_view f)) h ∙ ap bare_fn (view_roll-BareFn l u e i z)

pub ruleset built_steps = (common_steps, built_object, built_implied, built_path, built_function)
