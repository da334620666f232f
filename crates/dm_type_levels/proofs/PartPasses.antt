-- How parts go on one behind the other: two, three, a group, and the items of a list.
use Rattle.std.proofs.Common.{◌≡◌, ℕ, zero, suc, ◌+◌, ◌-◌, ◌<◌, ◌≤◌, ◌==◌, Bool, false, cond, List, [], ◌∷◌, ◌++◌, length, get_or, take, drop, Result, Ok, Err, arith, sym, ap, ◌∙◌}
use Rattle.std.proofs.lemmas.Bool.{ne_eqb}
use Rattle.std.proofs.lemmas.List.{drop_more, drop_all}
use Rattle.std.specs.Prelude.{IsErrAnd}
use denote.Ref.{Bor}
use Rattle.dm_stream.specs.declared.tokens.Span.{Span}
use Rattle.dm_stream.specs.declared.tokens.Entry.{Entry}
use Rattle.dm_ast.proofs.Split.{take_more, take_none}
use Rattle.dm_type_levels.specs.Passing.{pass, Passes}
use Rattle.dm_type_levels.specs.TypeLevels.{grouped_levels, spaced_levels}
use Rattle.dm_type_levels.proofs.Grouped.{pass_next}
use Rattle.dm_type_levels.proofs.TypePasses.{passes_next, pass_stops, passes_failed}

-- ---- two parts, or three

pub first_stops : (ls ms : List ℕ) (es : List Entry) (s : Span) (r : Result (Bor (List Entry)) Span) →
    pass ls es ≡ Err s → IsErrAnd r (λ d. d ≡ s) → Passes (ls ++ ms) es r
first_stops ls ms es s r h i = passes_failed (ls ++ ms) es s r (pass_stops ls ms es s h) i

pub second_stops : (ls ms ns : List ℕ) (es e1 : List Entry) (s : Span) (r : Result (Bor (List Entry)) Span) →
    pass ls es ≡ Ok e1 → pass ms e1 ≡ Err s → IsErrAnd r (λ d. d ≡ s) → Passes (ls ++ (ms ++ ns)) es r
second_stops ls ms ns es e1 s r h i j = passes_next ls (ms ++ ns) es e1 r h (first_stops ms ns e1 s r i j)

pub third_passes : (ls ms ns : List ℕ) (es e1 e2 : List Entry) (r : Result (Bor (List Entry)) Span) →
    pass ls es ≡ Ok e1 → pass ms e1 ≡ Ok e2 → Passes ns e2 r → Passes (ls ++ (ms ++ ns)) es r
third_passes ls ms ns es e1 e2 r h i p = passes_next ls (ms ++ ns) es e1 r h (passes_next ms ns e1 e2 r i p)

-- a part behind which nothing stands
pub pass_last : (ls ms : List ℕ) (es e1 : List Entry) → pass ls es ≡ Ok e1 → ms ≡ [] → pass (ls ++ ms) es ≡ Ok e1
pass_last ls ms es e1 h none = pass_next ls ms es e1 h ∙ ap (λ l. pass l e1) none

-- ---- a group whose opener is too deep, or a part inside

pub group_unopened : (k : ℕ) (inside : List ℕ) (es : List Entry) (s : Span) (r : Result (Bor (List Entry)) Span) →
    pass (k ∷ []) es ≡ Err s → IsErrAnd r (λ d. d ≡ s) → Passes (grouped_levels k inside) es r
group_unopened k inside es s r h i = first_stops (k ∷ []) (inside ++ k ∷ []) es s r h i

pub group_stops : (k : ℕ) (inside : List ℕ) (es e1 : List Entry) (s : Span) (r : Result (Bor (List Entry)) Span) →
    pass (k ∷ []) es ≡ Ok e1 → pass inside e1 ≡ Err s → IsErrAnd r (λ d. d ≡ s) → Passes (grouped_levels k inside) es r
group_stops k inside es e1 s r h i j = second_stops (k ∷ []) inside (k ∷ []) es e1 s r h i j

-- ---- the levels of a value by its view

pub shown : {A B : Type 0} (f : B → List ℕ) (view : A → B) {x y : A} {t : B} → x ≡ y → view y ≡ t → f (view x) ≡ f t
shown f view is by = ap (λ z. f (view z)) is ∙ ap f by

-- ---- items of a list, with `between` before each but the first: `all` has the levels of each, and `one` those of one

not_first : (i : ℕ) → ((i + 1) == 0) ≡ false
not_first i = ne_eqb (i + 1) 0 (λ e. omega (arith, e))

item_next : {X : Type 0} (xs : List X) (x : X) (i : ℕ) → i < length xs → x ≡ get_or xs i x → drop i xs ≡ x ∷ drop (i + 1) xs
item_next xs x i below is = drop_more xs i x below ∙ ap (λ y. y ∷ drop (i + 1) xs) (sym is)

-- the levels from the item at `i` on
abbrev items_from : List ℕ → ℕ → List (List ℕ) → List ℕ
items_from between i left = spaced_levels between (i == 0) left

from_next : (between : List ℕ) (i : ℕ) (ls : List ℕ) (left rest : List (List ℕ)) → left ≡ ls ∷ rest →
    items_from between i left ≡ cond (i == 0) [] between ++ (ls ++ items_from between (i + 1) rest)
from_next between i ls left rest e =
    ap (spaced_levels between (i == 0)) e ∙ ap (λ f. cond (i == 0) [] between ++ (ls ++ spaced_levels between f rest)) (sym (not_first i))

next_stops : (between : List ℕ) (i : ℕ) (ls : List ℕ) (left rest : List (List ℕ)) (es : List Entry) (s : Span) (r : Result (List Entry) Span) →
    left ≡ ls ∷ rest → pass (cond (i == 0) [] between) es ≡ Err s → pass (items_from between i left) es ≡ r → r ≡ Err s
next_stops between i ls left rest es s r e h kept =
    sym kept ∙ ap (λ l. pass l es) (from_next between i ls left rest e) ∙
    pass_stops (cond (i == 0) [] between) (ls ++ items_from between (i + 1) rest) es s h

next_passed : (between : List ℕ) (i : ℕ) (ls : List ℕ) (left rest : List (List ℕ)) (es e1 : List Entry) (r : Result (List Entry) Span) →
    left ≡ ls ∷ rest → pass (cond (i == 0) [] between) es ≡ Ok e1 → pass (items_from between i left) es ≡ r →
    r ≡ pass (ls ++ items_from between (i + 1) rest) e1
next_passed between i ls left rest es e1 r e h kept =
    sym kept ∙ ap (λ l. pass l es) (from_next between i ls left rest e) ∙
    pass_next (cond (i == 0) [] between) (ls ++ items_from between (i + 1) rest) es e1 h

left_stops : (between : List ℕ) (i : ℕ) (ls : List ℕ) (left rest : List (List ℕ)) (es e1 : List Entry) (s : Span) (r : Result (List Entry) Span) →
    left ≡ ls ∷ rest → pass (cond (i == 0) [] between) es ≡ Ok e1 → pass ls e1 ≡ Err s → pass (items_from between i left) es ≡ r → r ≡ Err s
left_stops between i ls left rest es e1 s r e h a kept =
    next_passed between i ls left rest es e1 r e h kept ∙ pass_stops ls (items_from between (i + 1) rest) e1 s a

left_passed : (between : List ℕ) (i : ℕ) (ls : List ℕ) (left rest : List (List ℕ)) (es e1 e2 : List Entry) (r : Result (List Entry) Span) →
    left ≡ ls ∷ rest → pass (cond (i == 0) [] between) es ≡ Ok e1 → pass ls e1 ≡ Ok e2 → pass (items_from between i left) es ≡ r →
    pass (items_from between (i + 1) rest) e2 ≡ r
left_passed between i ls left rest es e1 e2 r e h a kept =
    sym (next_passed between i ls left rest es e1 r e h kept ∙ pass_next ls (items_from between (i + 1) rest) e1 e2 a)

module _ {X : Type 0} (between : List ℕ) (one : X → List ℕ) (all : List X → List (List ℕ)) (step : (y : X) (ys : List X) → all (y ∷ ys) ≡ one y ∷ all ys) (xs : List X) (x : X) (i : ℕ) (below : i < length xs) (is : x ≡ get_or xs i x) where
  item_is : all (drop i xs) ≡ one x ∷ all (drop (i + 1) xs)
  item_is = ap all (item_next xs x i below is) ∙ step x (drop (i + 1) xs)

  pub separator_stops : (es : List Entry) (s : Span) (r : Result (List Entry) Span) → pass (cond (i == 0) [] between) es ≡ Err s →
      pass (spaced_levels between (i == 0) (all (drop i xs))) es ≡ r → r ≡ Err s
  separator_stops es s r h kept = next_stops between i (one x) (all (drop i xs)) (all (drop (i + 1) xs)) es s r item_is h kept

  pub item_stops : (es e1 : List Entry) (s : Span) (r : Result (List Entry) Span) → pass (cond (i == 0) [] between) es ≡ Ok e1 → pass (one x) e1 ≡ Err s →
      pass (spaced_levels between (i == 0) (all (drop i xs))) es ≡ r → r ≡ Err s
  item_stops es e1 s r h a kept = left_stops between i (one x) (all (drop i xs)) (all (drop (i + 1) xs)) es e1 s r item_is h a kept

  pub item_passed : (es e1 e2 : List Entry) (r : Result (List Entry) Span) → pass (cond (i == 0) [] between) es ≡ Ok e1 → pass (one x) e1 ≡ Ok e2 →
      pass (spaced_levels between (i == 0) (all (drop i xs))) es ≡ r →
      pass (spaced_levels between ((i + 1) == 0) (all (drop (i + 1) xs))) e2 ≡ r
  item_passed es e1 e2 r h a kept = left_passed between i (one x) (all (drop i xs)) (all (drop (i + 1) xs)) es e1 e2 r item_is h a kept

  -- the same of the first `n`
  taken_is : (n : ℕ) → i < n → take (n - i) (all (drop i xs)) ≡ one x ∷ take (n - (i + 1)) (all (drop (i + 1) xs))
  taken_is n few = ap (take (n - i)) item_is ∙ take_more n i (one x) (all (drop (i + 1) xs)) few

  pub taken_separator_stops : (n : ℕ) (es : List Entry) (s : Span) (r : Result (List Entry) Span) → i < n → pass (cond (i == 0) [] between) es ≡ Err s →
      pass (spaced_levels between (i == 0) (take (n - i) (all (drop i xs)))) es ≡ r → r ≡ Err s
  taken_separator_stops n es s r few h kept =
      next_stops between i (one x) (take (n - i) (all (drop i xs))) (take (n - (i + 1)) (all (drop (i + 1) xs))) es s r (taken_is n few) h kept

  pub taken_stops : (n : ℕ) (es e1 : List Entry) (s : Span) (r : Result (List Entry) Span) → i < n → pass (cond (i == 0) [] between) es ≡ Ok e1 →
      pass (one x) e1 ≡ Err s → pass (spaced_levels between (i == 0) (take (n - i) (all (drop i xs)))) es ≡ r → r ≡ Err s
  taken_stops n es e1 s r few h a kept =
      left_stops between i (one x) (take (n - i) (all (drop i xs))) (take (n - (i + 1)) (all (drop (i + 1) xs))) es e1 s r (taken_is n few) h a kept

  pub taken_passed : (n : ℕ) (es e1 e2 : List Entry) (r : Result (List Entry) Span) → i < n → pass (cond (i == 0) [] between) es ≡ Ok e1 →
      pass (one x) e1 ≡ Ok e2 → pass (spaced_levels between (i == 0) (take (n - i) (all (drop i xs)))) es ≡ r →
      pass (spaced_levels between ((i + 1) == 0) (take (n - (i + 1)) (all (drop (i + 1) xs)))) e2 ≡ r
  taken_passed n es e1 e2 r few h a kept =
      left_passed between i (one x) (take (n - i) (all (drop i xs))) (take (n - (i + 1)) (all (drop (i + 1) xs))) es e1 e2 r (taken_is n few) h a kept

-- none is left
pub all_passed : {X : Type 0} (between : List ℕ) (first : Bool) (all : List X → List (List ℕ)) (xs : List X) (i : ℕ) (es : List Entry)
    (r : Result (List Entry) Span) → all [] ≡ [] → length xs ≤ i → pass (spaced_levels between first (all (drop i xs))) es ≡ r → r ≡ Ok es
all_passed between first all xs i es r none past kept =
    sym kept ∙ ap (λ l. pass (spaced_levels between first (all l)) es) (drop_all i xs past) ∙ ap (λ l. pass (spaced_levels between first l) es) none

-- enough are taken
pub enough_passed : (between : List ℕ) (first : Bool) (n i : ℕ) (left : List (List ℕ)) (es : List Entry) (r : Result (List Entry) Span) → n ≤ i →
    pass (spaced_levels between first (take (n - i) left)) es ≡ r → r ≡ Ok es
enough_passed between first n i left es r enough kept =
    sym kept ∙ ap (λ l. pass (spaced_levels between first l) es) (take_none n i left enough)

no_more : {X : Type 0} (n : ℕ) (xs : List X) → xs ≡ [] → take n xs ≡ []
no_more zero xs e = ap (take zero) e
no_more (suc n) xs e = ap (take (suc n)) e

-- none is left of those to take
pub taken_all_passed : {X : Type 0} (between : List ℕ) (first : Bool) (n : ℕ) (all : List X → List (List ℕ)) (xs : List X) (i : ℕ) (es : List Entry)
    (r : Result (List Entry) Span) → all [] ≡ [] → length xs ≤ i → pass (spaced_levels between first (take n (all (drop i xs)))) es ≡ r → r ≡ Ok es
taken_all_passed between first n all xs i es r none past kept =
    sym kept ∙ ap (λ l. pass (spaced_levels between first l) es) (no_more n (all (drop i xs)) (ap all (drop_all i xs past) ∙ none))
