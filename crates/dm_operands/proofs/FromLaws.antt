-- The items of a list from a number on.
use Rattle.std.proofs.Common.{◌≡◌, ℕ, zero, suc, ◌+◌, List, ◌∷◌, Some, slice_get, ap, ◌∙◌, arith}

-- these are the items from number n on
abbrev pub AreFrom : {A : Type 0} → List A → ℕ → List A → Type 0
AreFrom all n xs = (k : ℕ) → slice_get all (n + k) ≡ slice_get xs k

pub from-start : {A : Type 0} (all : List A) → AreFrom all 0 all
from-start all = λ k. ap (slice_get all) (omega arith)

pub from-first : {A : Type 0} (all : List A) (n : ℕ) (x : A) (xs : List A) → AreFrom all n (x ∷ xs) → slice_get all n ≡ Some x
from-first all n x xs from = ap (slice_get all) (omega arith) ∙ from zero

pub from-rest : {A : Type 0} (all : List A) (n : ℕ) (x : A) (xs : List A) → AreFrom all n (x ∷ xs) → AreFrom all (n + 1) xs
from-rest all n x xs from = λ k. ap (slice_get all) (omega arith) ∙ from (suc k)
