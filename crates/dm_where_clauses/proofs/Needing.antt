-- Steps that the adding of predicates takes.
use Rattle.std.proofs.Common.{◌≡◌, ℕ, ◌+◌, ◌<◌, ◌≤◌, List, [], ◌∷◌, ◌++◌, length, get_or, map, drop, sym, ap, ◌∙◌, append-nil, append_assoc}
use Rattle.std.specs.List.{flat_map}
use Rattle.std.proofs.lemmas.List.{map-append, drop_more, drop_all}
use Rattle.dm_ast.specs.declared.decl.WherePredicate.{WherePredicate}
use Rattle.dm_ast.specs.Declarations.{PredicateTree, predicate_view}
use Rattle.dm_bounds.specs.Needed.{Asking}
use Rattle.dm_where_clauses.specs.declared.needed.Predicate.{Predicate}
use Rattle.dm_where_clauses.specs.Shown.{shown}

-- what is added for the items from number i on is still to come behind what is there now
abbrev pub IsAdding : {Y X : Type 0} → Asking → (X → List PredicateTree) → (Y → X) → List Y → ℕ → List Predicate → List Predicate → Type 0
IsAdding asking adds view ys i now first =
    map (shown asking) now ++ flat_map adds (map view (drop i ys)) ≡ map (shown asking) first ++ flat_map adds (map view ys)

-- what is added for an item stands before what is added for the rest
pub needed_joined : {X A : Type 0} (f : X → List A) (front : List A) (x : X) (rest : List X) →
    (front ++ f x) ++ flat_map f rest ≡ front ++ flat_map f (x ∷ rest)
needed_joined f front x rest = append_assoc front (f x) (flat_map f rest)

-- one declared predicate more
pub declared_more : (a : Asking) (all : List WherePredicate) (i : ℕ) (x : WherePredicate) → i < length all → x ≡ get_or all i x →
    (front made : List Predicate) (r : Predicate) (whole : List PredicateTree) → made ≡ front ++ r ∷ [] → shown a r ≡ predicate_view x →
    map (shown a) front ++ map predicate_view (drop i all) ≡ whole → map (shown a) made ++ map predicate_view (drop (i + 1) all) ≡ whole
declared_more a all i x within is front made r whole grown same so_far =
    let rest = map predicate_view (drop (i + 1) all) in
    let left : drop i all ≡ x ∷ drop (i + 1) all = drop_more all i x within ∙ ap (λ y. y ∷ drop (i + 1) all) (sym is) in
    ap (λ ps. map (shown a) ps ++ rest) grown ∙ ap (λ ps. ps ++ rest) (map-append (shown a) front (r ∷ [])) ∙
    append_assoc (map (shown a) front) (shown a r ∷ []) rest ∙ ap (λ p. map (shown a) front ++ p ∷ rest) same ∙
    ap (λ ps. map (shown a) front ++ map predicate_view ps) (sym left) ∙ so_far

-- and none is left
pub declared_all : (a : Asking) (all : List WherePredicate) (i : ℕ) → length all ≤ i → (front : List Predicate) (whole : List PredicateTree) →
    map (shown a) front ++ map predicate_view (drop i all) ≡ whole → map (shown a) front ≡ whole
declared_all a all i past front whole so_far =
    sym (append-nil (map (shown a) front)) ∙ ap (λ ps. map (shown a) front ++ map predicate_view ps) (sym (drop_all i all past)) ∙ so_far

pub ruleset needing_steps = (needed_joined, map-append)
