-- Parts that are read one behind the other, to the end of the trees, come back from their tokens, and are read the same of the same tokens,
-- ranges aside.
use Rattle.std.specs.Prelude.{◌≡◌, ℕ, zero, suc, ◌≤◌, List, [], ◌∷◌, map, length, Option, option_map, Some, None, refl}
use Rattle.std.proofs.Common.{◌∙◌}
use native.Mathlib.Omega.{arith}
use Rattle.dm_stream.specs.Trees.{Trees, no_trees, token, group, join}
use Rattle.dm_lexer.specs.Written.{unplaced}
use Rattle.dm_output.specs.Tokens.{in_turn}
use Rattle.dm_reread.specs.BareReading.{bare_answer}
use Rattle.dm_reread.specs.Leaves.{Answer}
use Rattle.dm_reread.specs.Reading.{then}
use Rattle.dm_reread.specs.Items.{some_parts, parts_from, parts_within}
use Rattle.dm_reread.proofs.BareNext.{chained}

module _ {A : Type 0} (read : Trees → Answer A) (trees_of : A → Trees) (Are : List A → Type 0) (none : read no_trees ≡ None)
    (first : (x : A) (xs : List A) (rest : Trees) → Are (x ∷ xs) → (read (join (trees_of x) rest) ≡ Some (x, rest)) × Are xs) where
  parts-some : (more : Trees → Option (List A)) (ts : Trees) (x : A × Trees) → read ts ≡ Some x →
      parts_from read more ts ≡ then (more x.1) (λ s. Some (x.0 ∷ s))
  parts-some more no_trees x h = absurd (cc)
  parts-some more (token t ts) x h = rw h refl
  parts-some more (group d from inside upto ts) x h = rw h refl

  pub parts-row : (n : ℕ) (xs : List A) → Are xs → suc (length xs) ≤ n → parts_within read n (in_turn (map trees_of xs)) ≡ Some xs
  parts-row zero xs h m = absurd (omega (arith, m))
  parts-row (suc n) [] h m = refl
  parts-row (suc n) (x ∷ xs) h m =
      let more : Trees = in_turn (map trees_of xs) in
      let e = first x xs more h in
      parts-some (parts_within read n) (join (trees_of x) more) (x, more) e.0 ∙ rw (parts-row n xs e.1 (omega (arith, m))) refl

module _ {A : Type 0} (read : Trees → Answer A) (bare : A → A) (h : (ts : Trees) → read (unplaced ts) ≡ bare_answer bare (read ts)) where
  some-parts-bare : (more : Trees → Option (List A)) → ((ts : Trees) → more (unplaced ts) ≡ option_map (map bare) (more ts)) →
      (ts : Trees) → some_parts read more (unplaced ts) ≡ option_map (map bare) (some_parts read more ts)
  some-parts-bare more k ts = chained _ _ _ _ _ _ (h ts) (λ a. chained _ _ _ _ _ _ (k a.1) (λ s. refl))

  parts-from-bare : (more : Trees → Option (List A)) → ((ts : Trees) → more (unplaced ts) ≡ option_map (map bare) (more ts)) →
      (ts : Trees) → parts_from read more (unplaced ts) ≡ option_map (map bare) (parts_from read more ts)
  parts-from-bare more k no_trees = refl
  parts-from-bare more k (token j ts) = some-parts-bare more k (token j ts)
  parts-from-bare more k (group d from inside upto ts) = some-parts-bare more k (group d from inside upto ts)

  pub parts-bare : (n : ℕ) (ts : Trees) → parts_within read n (unplaced ts) ≡ option_map (map bare) (parts_within read n ts)
  parts-bare zero ts = refl
  parts-bare (suc n) ts = parts-from-bare (parts_within read n) (parts-bare n) ts
