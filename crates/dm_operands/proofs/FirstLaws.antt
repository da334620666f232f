-- The first of some refusals: there is none exactly where each of them is none.
use Rattle.std.proofs.Common.{◌≡◌, ℕ, zero, suc, ◌<◌, List, [], ◌∷◌, ◌++◌, length, map, Option, Some, None, refl, ap, ◌∙◌, arith}
use Rattle.std.specs.Prelude.{◌↔◌, All, flat_map, slice_index_or}
use Rattle.std.specs.Option.{option_or}
use Rattle.dm_stream.specs.declared.error.Refusal.{Refusal}
use Rattle.dm_operands.specs.Places.{first}

abbrev pub AllNone : List (Option Refusal) → Type 0
AllNone [] = Unit {0}
AllNone (r ∷ rs) = (r ≡ None) × AllNone rs

neither : (r s : Option Refusal) → option_or r s ≡ None → (r ≡ None) × (s ≡ None)
neither None s h = (refl, h)
neither (Some x) s h = absurd cc

pub first-none : (rs : List (Option Refusal)) → first rs ≡ None → AllNone rs
first-none [] h = tt
first-none (r ∷ rs) h = let both = neither r (first rs) h in (both.0, first-none rs both.1)

pub none-first : (rs : List (Option Refusal)) → AllNone rs → first rs ≡ None
none-first [] h = refl
none-first (r ∷ rs) h = ap (λ (x : Option Refusal). option_or x (first rs)) h.0 ∙ none-first rs h.1

-- ---- lists one behind the other

pub first-both : (rs ss : List (Option Refusal)) → first (rs ++ ss) ≡ option_or (first rs) (first ss)
first-both [] ss = refl
first-both (r ∷ rs) ss = elim r as (λ o. option_or o (first (rs ++ ss)) ≡ option_or (option_or o (first rs)) (first ss)) [
  | None ↦ first-both rs ss
  | Some x ↦ refl
]

pub none-front : (rs ss : List (Option Refusal)) → AllNone (rs ++ ss) → AllNone rs
none-front [] ss h = tt
none-front (r ∷ rs) ss h = (h.0, none-front rs ss h.1)

pub none-behind : (rs ss : List (Option Refusal)) → AllNone (rs ++ ss) → AllNone ss
none-behind [] ss h = h
none-behind (r ∷ rs) ss h = none-behind rs ss h.1

pub none-both : (rs ss : List (Option Refusal)) → AllNone rs → AllNone ss → AllNone (rs ++ ss)
none-both [] ss h k = k
none-both (r ∷ rs) ss h k = (h.0, none-both rs ss h.1 k)

-- ---- the same of each item

at_cons : {A : Type 0} (P : A → Type 0) (x : A) (xs : List A) → P x → All P xs → (k : ℕ) (d : A) → k < length (x ∷ xs) →
    P (slice_index_or (x ∷ xs) k d)
at_cons P x xs p h zero d lt = p
at_cons P x xs p h (suc k) d lt = h k d (omega arith)

all_behind : {A : Type 0} (P : A → Type 0) (x : A) (xs : List A) → All P (x ∷ xs) → All P xs
all_behind P x xs h = λ k d lt. h (suc k) d (omega arith)

pub each-none : {A : Type 0} (f : A → List (Option Refusal)) (P : A → Type 0) → ((x : A) → AllNone (f x) ↔ P x) → (xs : List A) →
    AllNone (flat_map f xs) ↔ All P xs
each-none {A} f P one [] = (λ h k d lt. absurd (omega arith), λ h. tt)
each-none {A} f P one (x ∷ xs) =
    let more = each-none f P one xs in (
      λ h. at_cons P x xs ((one x).0 (none-front (f x) (flat_map f xs) h)) (more.0 (none-behind (f x) (flat_map f xs) h)),
      λ h. none-both (f x) (flat_map f xs) ((one x).1 (h zero x (omega arith))) (more.1 (all_behind P x xs h)),
    )

pub map-none : {A : Type 0} (f : A → Option Refusal) (P : A → Type 0) → ((x : A) → (f x ≡ None) ↔ P x) → (xs : List A) →
    AllNone (map f xs) ↔ All P xs
map-none {A} f P one [] = (λ h k d lt. absurd (omega arith), λ h. tt)
map-none {A} f P one (x ∷ xs) =
    let more = map-none f P one xs in (
      λ h. at_cons P x xs ((one x).0 h.0) (more.0 h.1),
      λ h. ((one x).1 (h zero x (omega arith)), more.1 (all_behind P x xs h)),
    )
