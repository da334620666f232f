-- Two words that ask for a sample.
use Rattle.std.proofs.Common.{◌≡◌, ℕ, ◌≤◌, ◌<◌, List, [], ◌∷◌, Option, Some, None, map, length, get_or, String, string_bytes, codes, sym, ap, subst, ◌∙◌, arith}
use Rattle.std.specs.Prelude.{MatchOption}
use Rattle.std.specs.declared.alloc.Global.{Global}
use Rattle.dm_sample.specs.Samples.{IsSample, IsSize}

-- a list of two
pub two : {A : Type 0} (xs : List A) (a b : A) → 2 ≤ length xs → length xs < 3 → a ≡ get_or xs 0 a → b ≡ get_or xs 1 b → xs ≡ a ∷ b ∷ []
two [] a b least most first second = absurd (omega (arith, least))
two (x ∷ []) a b least most first second = absurd (omega (arith, least))
two (x ∷ y ∷ []) a b least most first second = ap (λ z. z ∷ y ∷ []) (sym first) ∙ ap (λ z. a ∷ z ∷ []) (sym second)
two (x ∷ y ∷ z ∷ xs) a b least most first second = absurd (omega (arith, most))

-- of the second of two words, the first of which is `sample`, it hangs whether they ask for a sample, and of what size
pub sized : (words : List (String Global)) (a b : String Global) → words ≡ a ∷ b ∷ [] → string_bytes a ≡ codes "sample" → (word : List ℕ) →
    word ≡ string_bytes b → (r : Option ℕ) → MatchOption r ((n : ℕ) → ¬ (IsSize word n)) (λ n. IsSize word n) →
    MatchOption r ((n : ℕ) → ¬ (IsSample words n)) (λ n. IsSample words n)
sized words a b both first word second (Some n) size = record {
  size = word;
  words_are = ap (map string_bytes) both ∙ ap (λ w. w ∷ string_bytes b ∷ []) first ∙ ap (λ w. codes "sample" ∷ w ∷ []) (sym second);
  is_size = size;
}
sized words a b both first word second None none = λ n s.
    let same : string_bytes a ∷ string_bytes b ∷ [] ≡ codes "sample" ∷ s.size ∷ [] = sym (ap (map string_bytes) both) ∙ s.words_are in
    let size : s.size ≡ string_bytes b = cc in
    none n (subst (λ w. IsSize w n) (size ∙ sym second) s.is_size)
