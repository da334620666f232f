-- How a search among a list's items goes on, and what it answers of a value by its view.
use Rattle.std.proofs.Common.{◌≡◌, ℕ, ◌+◌, ◌<◌, ◌≤◌, Bool, true, false, ◌||◌, List, [], ◌∷◌, length, get_or, drop, sym, ap, ◌∙◌}
use Rattle.std.specs.List.{list_any}
use Rattle.std.proofs.lemmas.List.{drop_more, drop_all}

-- ---- one search or another

pub first_of : {a : Bool} (b : Bool) → true ≡ a → true ≡ (a || b)
first_of b e = ap (λ x. x || b) e

pub second_of : {r a b : Bool} → false ≡ a → r ≡ b → r ≡ (a || b)
second_of {b = b} e f = f ∙ ap (λ x. x || b) e

-- the second finds nothing
pub alone_of : {r : Bool} (a : Bool) {b : Bool} → r ≡ a → b ≡ false → r ≡ (a || b)
alone_of true e f = e
alone_of false e f = e ∙ sym f

-- ---- views

pub viewed : {B C : Type 0} (f : B → C) {v t : B} {r : C} → v ≡ t → r ≡ f t → r ≡ f v
viewed f by e = e ∙ sym (ap f by)

pub shown : {A B C : Type 0} (f : B → C) (view : A → B) {x y : A} {t : B} {r : C} → x ≡ y → view y ≡ t → r ≡ f t → r ≡ f (view x)
shown f view is by e = e ∙ sym (ap (λ z. f (view z)) is ∙ ap f by)

-- ---- loops: `s` is the search among the items from the `i`-th on, and `p` the search in one

pub rest_is : {X : Type 0} (p : X → Bool) (s : List X → Bool) → ((y : X) (ys : List X) → s (y ∷ ys) ≡ (p y || s ys)) →
    (xs : List X) (x : X) (i : ℕ) → i < length xs → x ≡ get_or xs i x → s xs ≡ s (drop i xs) → s xs ≡ (p x || s (drop (i + 1) xs))
rest_is p s step xs x i below is kept =
    kept ∙ ap s (drop_more xs i x below) ∙ step (get_or xs i x) (drop (i + 1) xs) ∙ ap (λ y. p y || s (drop (i + 1) xs)) (sym is)

pub found : {X : Type 0} (p : X → Bool) (s : List X → Bool) → ((y : X) (ys : List X) → s (y ∷ ys) ≡ (p y || s ys)) →
    (xs : List X) (x : X) (i : ℕ) → i < length xs → x ≡ get_or xs i x → s xs ≡ s (drop i xs) → true ≡ p x → true ≡ s xs
found p s step xs x i below is kept e = sym (rest_is p s step xs x i below is kept ∙ ap (λ b. b || s (drop (i + 1) xs)) (sym e))

pub goes_on : {X : Type 0} (p : X → Bool) (s : List X → Bool) → ((y : X) (ys : List X) → s (y ∷ ys) ≡ (p y || s ys)) →
    (xs : List X) (x : X) (i : ℕ) → i < length xs → x ≡ get_or xs i x → s xs ≡ s (drop i xs) → false ≡ p x → s xs ≡ s (drop (i + 1) xs)
goes_on p s step xs x i below is kept e = rest_is p s step xs x i below is kept ∙ ap (λ b. b || s (drop (i + 1) xs)) (sym e)

pub not_found : {X : Type 0} (s : List X → Bool) (xs : List X) (i : ℕ) → length xs ≤ i → s [] ≡ false → s xs ≡ s (drop i xs) → false ≡ s xs
not_found s xs i past none kept = sym (kept ∙ ap s (drop_all i xs past) ∙ none)

-- whether one of a list holds something, as a search through the list
pub any_is : {X : Type 0} (p : X → Bool) (s : List X → Bool) → s [] ≡ false → ((y : X) (ys : List X) → s (y ∷ ys) ≡ (p y || s ys)) →
    (xs : List X) → list_any p xs ≡ s xs
any_is p s none step [] = sym none
any_is p s none step (x ∷ xs) = ap (λ b. p x || b) (any_is p s none step xs) ∙ sym (step x xs)
