-- The tokens of implementations without ranges are their tokens, without ranges.
use Rattle.std.specs.Prelude.{◌≡◌, List, [], ◌∷◌, map, true, codes, Option, option_map, Some, None, refl}
use Rattle.std.proofs.Common.{ap, ap₂, ◌∙◌}
use Rattle.dm_stream.specs.declared.seq.Punctuated.{Punctuated}
use Rattle.dm_stream.specs.declared.tokens.Lifetime.{Lifetime}
use Rattle.dm_stream.specs.Trees.{Trees, join}
use Rattle.dm_lexer.specs.Written.{unplaced}
use Rattle.dm_ast.specs.declared.plain.ConstArg.{ConstArg}
use Rattle.dm_ast.specs.Tree.{TypeTree, PathTree, BoundTree, bounds_of}
use Rattle.dm_ast.specs.TypeTokens.{spaced}
use Rattle.dm_ast.specs.Declarations.{Listed, ParamTree, lifetime_param, type_param, const_param, PredicateTree, lifetime_predicate, type_predicate}
use Rattle.dm_output.specs.Output.{AssocTree, ParamOfMethod, MethodTree, ItemTree}
use Rattle.dm_output.specs.Tokens.{punct, word, comma, in_turn, maybe_bounds_trees, maybe_lifetimes_trees, default_type_trees, default_const_trees, param_trees, predicate_trees, attr_trees, params_trees, where_trees, trait_trees, assoc_trees, receiver_trees, inputs_trees, output_trees, method_trees, item_trees, private_bounds, dead_code, deprecated, unreachable_code, non_upper_case_globals, unused_unit, automatically_derived, track_caller}
use Rattle.dm_output.specs.declared.item.ItemAttr.{ItemAttr}
use Rattle.dm_output.specs.declared.item.ItemAttr.TheVariants as attr
use Rattle.dm_output.specs.declared.item.Receiver.{Receiver}
use Rattle.dm_output.specs.declared.item.Receiver.TheVariants as receiver
use Rattle.dm_type_eq.specs.Unplaced.{unplaced_bound, unplaced_bounds, unplaced_constant, unplaced_lifetimes, unplaced_path, unplaced_type}
use Rattle.dm_reread.specs.Bare.{bare_listed, bare_param, bare_predicate, bare_assoc, bare_param_of, bare_method, bare_item}
use Rattle.dm_reread.specs.Unplaced.{bare_items}
use Rattle.dm_type_eq.proofs.BareTypeTokens.{unplaced-spaced, each-bare, lifetimes-bare, for-bare, const-bare, attributes-bare, type-bare, bounds-bare, path-bare}
use Rattle.dm_reread.proofs.BareTokens.{unplaced_parts, block-bare}

-- ---- parameters and predicates

bounds-of-bare : (bs : List BoundTree) → unplaced_bounds (bounds_of bs) ≡ bounds_of (map unplaced_bound bs)
bounds-of-bare [] = refl
bounds-of-bare (b ∷ bs) = simp (bounds-of-bare bs)

bounds-are-bare : (bs : Option (Listed BoundTree)) → unplaced (maybe_bounds_trees bs) ≡ maybe_bounds_trees (option_map bare_listed bs)
bounds-are-bare None = refl
bounds-are-bare (Some bs) = simp (bounds-bare, bounds-of-bare, unplaced_parts)

maybe-lifetimes-bare : (ls : Option (Punctuated Lifetime)) → unplaced (maybe_lifetimes_trees ls) ≡ maybe_lifetimes_trees (unplaced_lifetimes ls)
maybe-lifetimes-bare None = refl
maybe-lifetimes-bare (Some ls) = simp (lifetimes-bare, unplaced_parts)

default-type-bare : (t : Option TypeTree) → unplaced (default_type_trees t) ≡ default_type_trees (option_map unplaced_type t)
default-type-bare None = refl
default-type-bare (Some t) = simp type-bare

default-const-bare : (c : Option ConstArg) → unplaced (default_const_trees c) ≡ default_const_trees (option_map unplaced_constant c)
default-const-bare None = refl
default-const-bare (Some c) = simp const-bare

param-bare : (p : ParamTree) → unplaced (param_trees p) ≡ param_trees (bare_param p)
param-bare (lifetime_param attrs l bounds) = simp (attributes-bare, maybe-lifetimes-bare, unplaced_parts)
param-bare (type_param attrs i bounds default) = simp (attributes-bare, bounds-are-bare, default-type-bare, unplaced_parts)
param-bare (const_param attrs i t default) = simp (attributes-bare, type-bare, default-const-bare, unplaced_parts)

params-are-bare : (ps : List ParamTree) → map unplaced (map param_trees ps) ≡ map param_trees (map bare_param ps)
params-are-bare = each-bare param_trees bare_param param-bare

angled-bare : (xs : List Trees) →
    unplaced (join (punct 60) (join (spaced comma true xs) (punct 62))) ≡
    join (punct 60) (join (spaced comma true (map unplaced xs)) (punct 62))
angled-bare xs = simp unplaced_parts

pub params-bare : (ps : List ParamTree) → unplaced (params_trees ps) ≡ params_trees (map bare_param ps)
params-bare [] = refl
params-bare (p ∷ ps) =
    angled-bare (map param_trees (p ∷ ps)) ∙ ap (λ xs. join (punct 60) (join (spaced comma true xs) (punct 62))) (params-are-bare (p ∷ ps))

predicate-bare : (p : PredicateTree) → unplaced (predicate_trees p) ≡ predicate_trees (bare_predicate p)
predicate-bare (lifetime_predicate l ls) = simp (maybe-lifetimes-bare (Some ls))
predicate-bare (type_predicate ls t bs) = simp (for-bare, type-bare, bounds-bare, bounds-of-bare, unplaced_parts)

predicates-are-bare : (ps : List PredicateTree) → map unplaced (map predicate_trees ps) ≡ map predicate_trees (map bare_predicate ps)
predicates-are-bare = each-bare predicate_trees bare_predicate predicate-bare

pub where-bare : (ps : List PredicateTree) → unplaced (where_trees ps) ≡ where_trees (map bare_predicate ps)
where-bare [] = refl
where-bare (p ∷ ps) =
    ap (join (word (codes "where")))
    (unplaced-spaced comma true (map predicate_trees (p ∷ ps)) ∙ ap (spaced comma true) (predicates-are-bare (p ∷ ps)))

pub trait-bare : (p : Option PathTree) → unplaced (trait_trees p) ≡ trait_trees (option_map unplaced_path p)
trait-bare None = refl
trait-bare (Some p) = simp (path-bare, unplaced_parts)

-- ---- members

attr-bare : (a : ItemAttr) → unplaced (attr_trees a) ≡ attr_trees a
unfolding private_bounds dead_code deprecated unreachable_code non_upper_case_globals unused_unit automatically_derived track_caller
attr-bare attr.AllowPrivateBounds = refl
attr-bare attr.AllowDeadCodePrivateBounds = refl
attr-bare attr.AllowDeprecated = refl
attr-bare attr.AllowUnreachableCode = refl
attr-bare attr.AllowNonUpperCaseGlobals = refl
attr-bare attr.AllowUnusedUnit = refl
attr-bare attr.AutomaticallyDerived = refl
attr-bare attr.DocHidden = refl
attr-bare attr.Inline = refl
attr-bare attr.TrackCaller = refl

attrs-bare : (as' : List ItemAttr) → map unplaced (map attr_trees as') ≡ map attr_trees as'
attrs-bare [] = refl
attrs-bare (a ∷ as') = ap₂ (λ x xs. x ∷ xs) (attr-bare a) (attrs-bare as')

assocs-bare : (as' : List AssocTree) → map unplaced (map assoc_trees as') ≡ map assoc_trees (map bare_assoc as')
assocs-bare [] = refl
assocs-bare (a ∷ as') = simp (type-bare, assocs-bare as', unplaced_parts)

receiver-bare : (r : Receiver) → unplaced (receiver_trees r) ≡ receiver_trees r
receiver-bare receiver.Value = refl
receiver-bare receiver.Ref = refl
receiver-bare receiver.RefMut = refl

inputs-bare : (r : Option Receiver) (p : Option ParamOfMethod) → unplaced (inputs_trees r p) ≡ inputs_trees r (option_map bare_param_of p)
inputs-bare None None = refl
inputs-bare None (Some p) = simp type-bare
inputs-bare (Some r) None = receiver-bare r
inputs-bare (Some r) (Some p) = simp (receiver-bare, type-bare, unplaced_parts)

output-bare : (o : Option TypeTree) → unplaced (output_trees o) ≡ output_trees (option_map unplaced_type o)
output-bare None = refl
output-bare (Some t) = simp type-bare

method-bare : (x : MethodTree) → unplaced (method_trees x) ≡ method_trees (bare_method x)
method-bare x = simp (attrs-bare, inputs-bare, output-bare, block-bare, unplaced_parts)

methods-bare : (xs : List MethodTree) → map unplaced (map method_trees xs) ≡ map method_trees (map bare_method xs)
methods-bare = each-bare method_trees bare_method method-bare

-- ---- implementations

pub item-bare : (i : ItemTree) → unplaced (item_trees i) ≡ item_trees (bare_item i)
item-bare i = simp (attrs-bare, params-bare, trait-bare, type-bare, where-bare, assocs-bare, methods-bare, unplaced_parts)

items-are-bare : (is : List ItemTree) → map unplaced (map item_trees is) ≡ map item_trees (bare_items is)
items-are-bare = each-bare item_trees bare_item item-bare

pub items-bare : (is : List ItemTree) → unplaced (in_turn (map item_trees is)) ≡ in_turn (map item_trees (bare_items is))
items-bare is = simp (items-are-bare, unplaced_parts)
