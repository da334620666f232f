-- No keyword has more than six letters.
use Rattle.std.proofs.Common.{◌≡◌, ◌<◌, ℕ, Bool, true, false, cond, ◌&&◌, nat_lt, List, [], ◌∷◌, length, refl, ap, ◌∙◌, arith}
use Rattle.std.proofs.lemmas.Bool.{ltb-true}
use Rattle.std.proofs.lemmas.Grind.{common_steps}
use Rattle.std.specs.Str.{bytes_eq}
use Rattle.std.proofs.lemmas.Slice.Eq.{bytes_eq-Decides}
use Rattle.dm_reread.specs.Next.{Word, keyword_of}
use Rattle.dm_read_places.specs.Fronts.{first_keywords}

abbrev is_short : List ℕ → Bool
is_short w = nat_lt (length w) 7

abbrev are_short : List (List ℕ × Word) → Bool
are_short [] = true
are_short (x ∷ xs) = is_short x.0 && are_short xs

both : (a b : Bool) → (a && b) ≡ true → (a ≡ true) × (b ≡ true)
both true b e = (refl, e)
both false b e = absurd (cc)

passed : (xs : List (List ℕ × Word)) (name : List ℕ) (w : Word) → are_short xs ≡ true → 6 < length name → keyword_of xs name w ≡ w
passed [] name w e h = refl
passed (x ∷ xs) name w e h = by (bytes_eq name x.0) refl (passed xs name w (both (is_short x.0) (are_short xs) e).1 h)
  where
    by : (b : Bool) → bytes_eq name x.0 ≡ b → keyword_of xs name w ≡ w → cond b x.1 (keyword_of xs name w) ≡ w
    by true g later =
        let short : is_short name ≡ true = ap is_short ((bytes_eq-Decides name x.0).0 g) ∙ (both (is_short x.0) (are_short xs) e).0 in
        absurd (omega (arith, h, ltb-true (length name) 7 short))
    by false g later = later

pub too_long : (name : List ℕ) → 6 < length name → (w : Word) → keyword_of first_keywords name w ≡ w
too_long name h w = passed first_keywords name w refl h

pub ruleset length_steps = (common_steps, too_long)
