-- Numbers as their digits.
use Rattle.std.specs.Prelude.{ℕ, zero, suc, ◌+◌, ◌/◌, ◌%◌, List, [], ◌∷◌, ◌++◌, cond, nat_lt}

-- the last digits of a number, so many at the most
abbrev pub digits_of : ℕ → ℕ → List ℕ
digits_of zero n = []
digits_of (suc most) n = cond (nat_lt n 10) ((48 + n) ∷ []) (digits_of most (n / 10) ++ ((48 + n % 10) ∷ []))

-- a number in decimal: all of its digits
unfoldable pub numeral : ℕ → List ℕ
numeral n = digits_of (suc n) n
