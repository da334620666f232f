-- What each read gave and what each write offered, as a source and a sink may tell it.
use Rattle.std.specs.Prelude.{◌≡◌, ℕ, List, [], ◌∷◌, ◌++◌, Option, None, Some, Result, Ok, Err}

-- a piece that was offered, and how many of its bytes were taken
pub record Offer : Type 0 where
  pub piece : List ℕ
  pub taken : ℕ

-- entries that are told grow by these
abbrev pub Adds : {A : Type 0} → Option (List A) → Option (List A) → List A → Type 0
Adds None now more = Unit {0}
Adds (Some xs) None more = ⊥
Adds (Some xs) (Some ys) more = ys ≡ xs ++ more

-- what is told of a read: the count, unless it failed
abbrev pub counts_of : {E : Type 0} → Result ℕ E → List ℕ
counts_of (Ok n) = n ∷ []
counts_of (Err e) = []

-- how many bytes of a piece were taken: none where the write failed
abbrev pub taken_of : {E : Type 0} → Result ℕ E → ℕ
taken_of (Ok n) = n
taken_of (Err e) = 0

-- what is told of a write: the piece, and how many of its bytes were taken
abbrev pub offer_of : {E : Type 0} → List ℕ → Result ℕ E → List Offer
offer_of piece result = record { piece = piece; taken = taken_of result } ∷ []
