-- Fronts of a text, by bytes and by characters.
use Rattle.std.specs.Prelude.{◌≡◌, ℕ, suc, ◌+◌, Bool, cond, Option, None, Some, List, [], ◌∷◌, take, drop}
use Rattle.std.specs.Str.{chars, encode_utf8_all, IsCharBoundary}

-- how many characters of the front pass the test
abbrev pub run : (ℕ → Bool) → List ℕ → ℕ
run p [] = 0
run p (c ∷ cs) = cond (p c) (suc (run p cs)) 0

-- n characters more before what is found
abbrev pub more : ℕ → Option ℕ → Option ℕ
more n None = None
more n (Some m) = Some (n + m)

-- the first `size` bytes of the text are its first `count` characters
pub record IsFront (text : List ℕ) (size count : ℕ) : Type 0 where
  pub boundary : IsCharBoundary text size
  pub bytes_are : take size text ≡ encode_utf8_all (take count (chars text))
  pub rest_is : chars (drop size text) ≡ drop count (chars text)

-- the first `size` bytes are a front of as many characters as were found
abbrev pub IsSized : List ℕ → ℕ → Option ℕ → Type 0
IsSized text size found = (count : ℕ) × (found ≡ Some count) × IsFront text size count

-- `rest` is the text behind its first `size` bytes, which are `count` characters
pub record IsBehind (text : List ℕ) (size count : ℕ) (rest : List ℕ) : Type 0 where
  pub front : IsFront text size count
  pub rest_is : drop size text ≡ rest
