-- How long keywords are, and that none begins with `__`.
use Rattle.std.proofs.Common.{◌≡◌, ◌<◌, ℕ, Bool, true, false, ◌&&◌, ◌||◌, not, eqb, nat_lt, List, [], ◌∷◌, length, codes, refl, ap, ◌∙◌, arith}
use Rattle.std.proofs.lemmas.Bool.{ltb-true}
use Rattle.std.proofs.lemmas.Grind.{common_steps}
use Rattle.std.specs.Str.{bytes_eq}
use Rattle.std.proofs.lemmas.Slice.Eq.{bytes_eq-Decides}
use Rattle.std.specs.List.{list_any, starts_with}
use Rattle.dm_ast.specs.Keywords.{keywords, is_keyword}

abbrev is_within : List ℕ → Bool
is_within w = nat_lt 1 (length w) && nat_lt (length w) 9

abbrev all_pass : (List ℕ → Bool) → List (List ℕ) → Bool
all_pass test [] = true
all_pass test (w ∷ ws) = test w && all_pass test ws

both : (a b : Bool) → (a && b) ≡ true → (a ≡ true) × (b ≡ true)
both true b e = (refl, e)
both false b e = absurd (cc)

-- what fails a test that all words pass is none of them
unlisted : (test : List ℕ → Bool) (name : List ℕ) (ws : List (List ℕ)) → all_pass test ws ≡ true → test name ≡ false →
    list_any (λ w. bytes_eq name w) ws ≡ false
unlisted test name [] e f = refl
unlisted test name (w ∷ ws) e f = by (bytes_eq name w) refl (unlisted test name ws (both (test w) (all_pass test ws) e).1 f)
  where
    by : (b : Bool) → bytes_eq name w ≡ b → list_any (λ v. bytes_eq name v) ws ≡ false → (b || list_any (λ v. bytes_eq name v) ws) ≡ false
    by true g later =
        let h : test name ≡ true = ap test ((bytes_eq-Decides name w).0 g) ∙ (both (test w) (all_pass test ws) e).0 in
        absurd (cc)
    by false g later = later

first_fails : (a b : Bool) → (a ≡ true → ⊥) → (a && b) ≡ false
first_fails true b h = absurd (h refl)
first_fails false b h = refl

second_fails : (a b : Bool) → (b ≡ true → ⊥) → (a && b) ≡ false
second_fails true true h = absurd (h refl)
second_fails true false h = refl
second_fails false b h = refl

pub too_short : (name : List ℕ) → length name < 2 → is_keyword name ≡ false
unfolding is_keyword
too_short name h =
    unlisted is_within name keywords refl (first_fails (nat_lt 1 (length name)) (nat_lt (length name) 9) (λ e. omega (arith, h, ltb-true 1 (length name) e)))

pub too_long : (name : List ℕ) → 8 < length name → is_keyword name ≡ false
unfolding is_keyword
too_long name h =
    unlisted is_within name keywords refl (second_fails (nat_lt 1 (length name)) (nat_lt (length name) 9) (λ e. omega (arith, h, ltb-true (length name) 9 e)))

abbrev no_mark : List ℕ → Bool
no_mark w = not (starts_with eqb w (codes "__"))

pub marked : (name : List ℕ) → starts_with eqb name (codes "__") ≡ true → is_keyword name ≡ false
unfolding is_keyword
marked name h = unlisted no_mark name keywords refl (ap not h)

pub ruleset size_steps = (common_steps, too_short, too_long, marked)
