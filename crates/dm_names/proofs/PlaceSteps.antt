-- How a search for a place goes on among a list's items, and what it answers of a value by its view.
use Rattle.std.proofs.Common.{◌≡◌, ℕ, ◌+◌, ◌<◌, ◌≤◌, List, [], ◌∷◌, ◌++◌, length, get_or, drop, Option, Some, None, sym, ap, ◌∙◌}
use Rattle.std.proofs.lemmas.List.{drop_more, drop_all}
use Rattle.std.specs.Option.{option_or}
use Rattle.dm_stream.specs.declared.tokens.Span.{Span}
use Rattle.dm_names.specs.declared.places.Wanted.{Wanted}
use Rattle.dm_ast.specs.Names.{Found}
use Rattle.dm_names.specs.NamePlaces.{first_place}
use Rattle.dm_names.proofs.NamePlaces.{places_append, or_none}

-- ---- one part after another

pub in_both : {a b : Option Span} (w : Wanted) (xs ys : List Found) → a ≡ first_place w xs → b ≡ first_place w ys → option_or a b ≡ first_place w (xs ++ ys)
in_both {b = b} w xs ys e f = ap (λ z. option_or z b) e ∙ ap (λ z. option_or (first_place w xs) z) f ∙ sym (places_append w xs ys)

-- nothing is found in the second part
pub in_first : {a : Option Span} (w : Wanted) (xs ys : List Found) → a ≡ first_place w xs → ys ≡ [] → a ≡ first_place w (xs ++ ys)
in_first w xs ys e f = e ∙ sym (ap (λ z. first_place w (xs ++ z)) f ∙ places_append w xs [] ∙ or_none (first_place w xs))

-- nothing is found in the first part
pub in_second : {a : Option Span} (w : Wanted) (xs ys : List Found) → xs ≡ [] → a ≡ first_place w ys → a ≡ first_place w (xs ++ ys)
in_second w xs ys e f = f ∙ sym (ap (λ z. first_place w (z ++ ys)) e)

-- ---- views

pub viewed : {B C : Type 0} (f : B → C) {v t : B} {r : C} → v ≡ t → r ≡ f t → r ≡ f v
viewed f by e = e ∙ sym (ap f by)

pub shown : {A B C : Type 0} (f : B → C) (view : A → B) {x y : A} {t : B} {r : C} → x ≡ y → view y ≡ t → r ≡ f t → r ≡ f (view x)
shown f view is by e = e ∙ sym (ap (λ z. f (view z)) is ∙ ap f by)

-- ---- loops: `s` is what is found among the items from the `i`-th on, and `p` what is found in one

rest_is : {X : Type 0} (w : Wanted) (p : X → List Found) (s : List X → List Found) → ((y : X) (ys : List X) → s (y ∷ ys) ≡ (p y ++ s ys)) →
    (xs : List X) (x : X) (i : ℕ) → i < length xs → x ≡ get_or xs i x → first_place w (s xs) ≡ first_place w (s (drop i xs)) →
    first_place w (s xs) ≡ option_or (first_place w (p x)) (first_place w (s (drop (i + 1) xs)))
rest_is w p s step xs x i below is kept =
    kept ∙ ap (λ z. first_place w (s z)) (drop_more xs i x below) ∙ ap (λ z. first_place w z) (step (get_or xs i x) (drop (i + 1) xs)) ∙
    ap (λ y. first_place w (p y ++ s (drop (i + 1) xs))) (sym is) ∙ places_append w (p x) (s (drop (i + 1) xs))

pub found : {X : Type 0} (w : Wanted) (p : X → List Found) (s : List X → List Found) → ((y : X) (ys : List X) → s (y ∷ ys) ≡ (p y ++ s ys)) →
    (xs : List X) (x : X) (i : ℕ) → i < length xs → x ≡ get_or xs i x → first_place w (s xs) ≡ first_place w (s (drop i xs)) →
    (r : Option Span) (a : Span) → r ≡ first_place w (p x) → r ≡ Some a → Some a ≡ first_place w (s xs)
found w p s step xs x i below is kept r a e some =
    sym (rest_is w p s step xs x i below is kept ∙ ap (λ z. option_or z (first_place w (s (drop (i + 1) xs)))) (sym e ∙ some))

pub goes_on : {X : Type 0} (w : Wanted) (p : X → List Found) (s : List X → List Found) → ((y : X) (ys : List X) → s (y ∷ ys) ≡ (p y ++ s ys)) →
    (xs : List X) (x : X) (i : ℕ) → i < length xs → x ≡ get_or xs i x → first_place w (s xs) ≡ first_place w (s (drop i xs)) →
    (r : Option Span) → r ≡ first_place w (p x) → r ≡ None → first_place w (s xs) ≡ first_place w (s (drop (i + 1) xs))
goes_on w p s step xs x i below is kept r e none =
    rest_is w p s step xs x i below is kept ∙ ap (λ z. option_or z (first_place w (s (drop (i + 1) xs)))) (sym e ∙ none)

pub not_found : {X : Type 0} (w : Wanted) (s : List X → List Found) (xs : List X) (i : ℕ) → length xs ≤ i → s [] ≡ [] →
    first_place w (s xs) ≡ first_place w (s (drop i xs)) → None ≡ first_place w (s xs)
not_found w s xs i past none kept = sym (kept ∙ ap (λ z. first_place w (s z)) (drop_all i xs past) ∙ ap (λ z. first_place w z) none)
