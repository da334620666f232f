-- Lines, and the byte that ends them.
use Rattle.std.proofs.Common.{◌≡◌, ◌≢◌, ℕ, ◌-◌, ◌+◌, ◌<◌, List, [], ◌∷◌, ◌++◌, true, false, cond, length, take, get_or, sym, ap, ◌∙◌, inl, inr, arith, eq-eqb}
use Rattle.std.proofs.lemmas.Bool.{cases_Bool, eqb-true}
use Rattle.std.proofs.lemmas.List.{take_more}
use Rattle.std.proofs.lemmas.Grind.{common_steps}
use Rattle.std.proofs.lemmas.List.Sums.{fails_before_first}
use Rattle.std.proofs.Math.Dec.{eqb}
use Rattle.std.specs.List.{position_or_len}
use Rattle.std.specs.Str.Lines.{strip_carriage_return}
use Rattle.dm_run.specs.Split.{is_line_feed, HasLine}

-- a line ends with its last byte
ends_so : (l : List ℕ) → eqb (get_or l (length l - 1) 0) 13 ≡ true → l ≡ take (length l - 1) l ++ (13 ∷ [])
ends_so [] h = cc
ends_so (b ∷ l) h =
    let whole : take (length (b ∷ l) - 1 + 1) (b ∷ l) ≡ b ∷ l = grind (arith, common_steps) in
    let last : get_or (b ∷ l) (length (b ∷ l) - 1) 0 ≡ 13 = eqb-true _ _ h in
    let more = take_more (b ∷ l) (length (b ∷ l) - 1) 0 (omega arith) in
    sym whole ∙ more ∙ ap (λ c. take (length (b ∷ l) - 1) (b ∷ l) ++ (c ∷ [])) last

-- a line that ends with no CR keeps all
pub kept : (l : List ℕ) → ((front : List ℕ) → l ≢ front ++ (13 ∷ [])) → l ≡ strip_carriage_return l
kept l none = elim (cases_Bool (eqb (get_or l (length l - 1) 0) 13)) [
  | inl h ↦ absurd (none _ (ends_so l h))
  | inr h ↦ sym (ap (λ b. cond b (take (length l - 1) l) l) h)
]

-- one that ends with a CR loses it
pub lost : (l x : List ℕ) → l ≡ x ++ (13 ∷ []) → x ≡ strip_carriage_return l
lost l x e =
    let last : get_or l (length l - 1) 0 ≡ 13 = grind (arith, common_steps) in
    let front : take (length l - 1) l ≡ x = grind (arith, common_steps) in
    sym (ap (λ t. cond t (take (length l - 1) l) l) (eq-eqb _ 13 last) ∙ front)

-- bytes whose first line feed would stand behind them all have none
pub no_line : (text bytes : List ℕ) → text ≡ bytes → position_or_len is_line_feed text ≡ length text → HasLine bytes → ⊥
no_line text bytes same e h =
    let e : position_or_len is_line_feed bytes ≡ length bytes = rw (← same) e in
    let below : h.feed.0 < position_or_len is_line_feed bytes = rw e h.feed.1 in
    let before = fails_before_first is_line_feed bytes h.feed.0 10 below in
    let here : eqb (get_or bytes h.feed.0 10) 10 ≡ true = eq-eqb _ _ h.feed.2 in
    let apart : true ≡ false = sym here ∙ before in
    cc
