-- What is laid out as a predicate.
use Rattle.std.proofs.Common.{◌≡◌, List, [], ◌∷◌, map, Bool, true, false, codes, None, Some, refl, sym, ap, ◌∙◌}
use Rattle.dm_stream.specs.declared.tokens.Span.{Span}
use Rattle.dm_stream.specs.declared.tokens.Lifetime.{Lifetime}
use Rattle.dm_stream.specs.Layout.{Laid, nowhere}
use Rattle.dm_stream.specs.Trees.{Trees, no_trees, join}
use Rattle.dm_ast.specs.Tree.{Lifetimes, TypeTree, type_tree, paren, tuple, slice, array, reference, pointer, bare_fn, trait_object, impl_trait, infer, never, path, macro_type, fn_tree, PathTree}
use Rattle.dm_ast.specs.TypeTokens.{punct, word, given, spaced, for_trees, lifetime, type_trees, path_trees}
use Rattle.dm_output.specs.Tokens.{colon, maybe_bounds_trees, predicate_trees}
use Rattle.dm_print_types.specs.Laying.{lay, put}
use Rattle.dm_print_types.proofs.Laying.{lay-join, print_steps}
use Rattle.dm_bounds.specs.Needed.{subject, only_trait, bounded}

-- ---- the places of tokens don't show

spaced-anywhere : (range : Span) (s : Laid) (first : Bool) (ls : List Lifetime) →
    lay s (spaced (punct 44 range) first (map lifetime ls)) ≡ lay s (spaced (punct 44 nowhere) first (map lifetime ls))
unfolding put
spaced-anywhere range s first [] = refl
spaced-anywhere range s true (l ∷ ls) = spaced-anywhere range (lay s (lifetime l)) false ls
spaced-anywhere range s false (l ∷ ls) = spaced-anywhere range (lay (lay s (punct 44 nowhere)) (lifetime l)) false ls

given-anywhere : (range : Span) (s : Laid) (here : Bool) → lay s (given here (punct 44 range)) ≡ lay s (given here (punct 44 nowhere))
unfolding put
given-anywhere range s true = refl
given-anywhere range s false = refl

for-anywhere : (range : Span) (s : Laid) (ls : Lifetimes) → lay s (for_trees range ls) ≡ lay s (for_trees nowhere ls)
unfolding put
for-anywhere range s None = refl
for-anywhere range s (Some ls) =
    let front : Laid = lay s (join (word (codes "for") nowhere) (punct 60 nowhere)) in
    let items : Span → Trees = λ r. spaced (punct 44 r) true (map lifetime ls.items) in
    let last : Span → Trees = λ r. given ls.trailing (punct 44 r) in
    lay-join front (join (items range) (last range)) (punct 62 range) ∙
    ap (λ (l : Laid). lay l (punct 62 nowhere)) (
    lay-join front (items range) (last range) ∙ ap (λ (l : Laid). lay l (last range)) (spaced-anywhere range front true ls.items) ∙
    given-anywhere range (lay front (items nowhere)) ls.trailing ∙ sym (lay-join front (items nowhere) (last nowhere))) ∙
    sym (lay-join front (join (items nowhere) (last nowhere)) (punct 62 nowhere))

-- ---- a type and the trait that is asked of it

-- a `for` at the type's front is the predicate's
subject-laid : (s : Laid) (t : TypeTree) → lay s (type_trees t) ≡ lay (lay s (for_trees nowhere (subject t).0)) (type_trees (subject t).1)
subject-laid s (type_tree (bare_fn (fn_tree ls is_unsafe abi is trailing out)) range) =
    let behind : Trees = type_trees (type_tree (bare_fn (fn_tree None is_unsafe abi is trailing out)) range) in
    lay-join s (for_trees range ls) behind ∙ ap (λ (l : Laid). lay l behind) (for-anywhere range s ls)
subject-laid s (type_tree (paren t) range) = refl
subject-laid s (type_tree (tuple ts trailing) range) = refl
subject-laid s (type_tree (slice t) range) = refl
subject-laid s (type_tree (array t size) range) = refl
subject-laid s (type_tree (reference l is_mut t) range) = refl
subject-laid s (type_tree (pointer is_mut t) range) = refl
subject-laid s (type_tree (trait_object bs trailing) range) = refl
subject-laid s (type_tree (impl_trait bs trailing) range) = refl
subject-laid s (type_tree infer range) = refl
subject-laid s (type_tree never range) = refl
subject-laid s (type_tree (path q p) range) = refl
subject-laid s (type_tree (macro_type p d ts) range) = refl

only-laid : (s : Laid) (p : PathTree) → lay (lay s colon) (path_trees nowhere p) ≡ lay s (maybe_bounds_trees (Some (only_trait p)))
only-laid s p =
    let ts : Trees = path_trees nowhere p in
    sym (lay-join (lay s colon) (join ts no_trees) no_trees ∙ lay-join (lay s colon) ts no_trees)

-- the type, a colon, and the trait's path
pub bounded-laid : (s : Laid) (p : PathTree) (t : TypeTree) →
    lay (lay (lay s (type_trees t)) colon) (path_trees nowhere p) ≡ lay s (predicate_trees (bounded p t))
bounded-laid s p t =
    let front : Trees = for_trees nowhere (subject t).0 in
    let behind : Trees = type_trees (subject t).1 in
    let bounds : Trees = maybe_bounds_trees (Some (only_trait p)) in
    only-laid (lay s (type_trees t)) p ∙ ap (λ (l : Laid). lay l bounds) (subject-laid s t) ∙
    sym (lay-join s front (join behind bounds) ∙ lay-join (lay s front) behind bounds)

pub ruleset clause_steps = (print_steps)
