-- Numerals are what `{}` writes of a number, and differ where the numbers do.
use Rattle.std.proofs.Common.{◌≡◌, ℕ, zero, suc, ◌+◌, ◌-◌, ◌*◌, ◌/◌, ◌%◌, ◌<◌, ◌≤◌, ◌^◌, List, [], ◌∷◌, ◌++◌, true, false, cond, nat_lt, Result, Ok, Err, refl, sym, ap, ◌∙◌, arith}
use Rattle.std.specs.Prelude.{IfOk, String, string_bytes}
use Rattle.std.specs.declared.alloc.Global.{Global}
use Rattle.std.specs.Fmt.{decimal}
use Rattle.std.proofs.lemmas.Fmt.{decimal_by_steps}
use Rattle.dm_generics.specs.Numerals.{digits_of, numeral}

-- ---- as many digits as there are

small : (n : ℕ) → n < 10 → nat_lt n 10 ≡ true
small n l = grind arith

large : (n : ℕ) → 10 ≤ n → nat_lt n 10 ≡ false
large n l = grind arith

below : (n : ℕ) → nat_lt n 10 ≡ true → n < 10
below n e = grind arith

above : (n : ℕ) → nat_lt n 10 ≡ false → 10 ≤ n
above n e = grind arith

-- the digits of a number below 10, and those of another
one-digit : (m n : ℕ) → n < 10 → digits_of (suc m) n ≡ (48 + n) ∷ []
one-digit m n l = ap (λ b. cond b ((48 + n) ∷ []) (digits_of m (n / 10) ++ ((48 + n % 10) ∷ []))) (small n l)

more-digits : (m n : ℕ) → 10 ≤ n → digits_of (suc m) n ≡ digits_of m (n / 10) ++ ((48 + n % 10) ∷ [])
more-digits m n l = ap (λ b. cond b ((48 + n) ∷ []) (digits_of m (n / 10) ++ ((48 + n % 10) ∷ []))) (large n l)

-- ---- their value

abbrev value_from : ℕ → List ℕ → ℕ
value_from n [] = n
value_from n (c ∷ cs) = value_from (n * 10 + (c - 48)) cs

value-last : (n : ℕ) (cs : List ℕ) (d : ℕ) → value_from n (cs ++ ((48 + d) ∷ [])) ≡ value_from n cs * 10 + d
value-last n [] d = omega arith
value-last n (c ∷ cs) d = value-last (n * 10 + (c - 48)) cs d

digits-value : (m n : ℕ) → n < m → value_from 0 (digits_of m n) ≡ n
digits-value zero n l = absurd (omega arith)
digits-value (suc m) n l =
    (elim (nat_lt n 10) as (λ b. nat_lt n 10 ≡ b → value_from 0 (digits_of (suc m) n) ≡ n) [
      | true ↦ λ e. ap (value_from 0) (one-digit m n (below n e)) ∙ (omega arith)
      | false ↦ λ e.
          ap (value_from 0) (more-digits m n (above n e)) ∙ value-last 0 (digits_of m (n / 10)) (n % 10) ∙
          ap (λ v. v * 10 + n % 10) (digits-value m (n / 10) (omega (arith, l, above n e))) ∙ (omega arith)
    ]) refl

-- ---- all of them

-- how many digits are asked for doesn't matter where they suffice
digits-same : (m k n : ℕ) → n < m → n < k → digits_of m n ≡ digits_of k n
digits-same zero k n a b = absurd (omega arith)
digits-same (suc m) zero n a b = absurd (omega arith)
digits-same (suc m) (suc k) n a b =
    (elim (nat_lt n 10) as (λ v. nat_lt n 10 ≡ v → digits_of (suc m) n ≡ digits_of (suc k) n) [
      | true ↦ λ e. one-digit m n (below n e) ∙ sym (one-digit k n (below n e))
      | false ↦ λ e.
          more-digits m n (above n e) ∙
          ap (λ ds. ds ++ ((48 + n % 10) ∷ [])) (digits-same m k (n / 10) (omega (arith, a, above n e)) (omega (arith, b, above n e))) ∙
          sym (more-digits k n (above n e))
    ]) refl

numeral-step : (n : ℕ) → 10 ≤ n → numeral n ≡ numeral (n / 10) ++ ((48 + n % 10) ∷ [])
unfolding numeral
numeral-step n l = more-digits n n l ∙ ap (λ ds. ds ++ ((48 + n % 10) ∷ [])) (digits-same n (suc (n / 10)) (n / 10) (omega arith) (omega arith))

numeral-small : (n : ℕ) → n < 10 → numeral n ≡ (48 + n) ∷ []
unfolding numeral
numeral-small n l = one-digit n n l

-- numbers with one numeral are one
pub numeral_injective : (m n : ℕ) → numeral m ≡ numeral n → m ≡ n
unfolding numeral
numeral_injective m n e = sym (digits-value (suc m) m (omega arith)) ∙ ap (value_from 0) e ∙ digits-value (suc n) n (omega arith)

-- what `{}` writes of a number of 64 bits
pub decimal_numeral : (n : ℕ) → n < 2 ^ 64 → decimal n ≡ numeral n
decimal_numeral = decimal_by_steps (λ n ds. ds ≡ numeral n) (λ n l. sym (numeral-small n l))
    (λ n ds l h. ap (λ es. es ++ ((48 + n % 10) ∷ [])) h ∙ sym (numeral-step n l))

-- a text that ends with what `{}` writes of such a number ends with its numeral
pub ends_numeral : {E : Type 0} (front : List ℕ) (n : ℕ) (r : Result (String Global) E) → n < 2 ^ 64 →
    IfOk r (λ s. string_bytes s ≡ front ++ decimal n) → IfOk r (λ s. string_bytes s ≡ front ++ numeral n)
ends_numeral front n (Ok s) small h = h ∙ ap (λ ds. front ++ ds) (decimal_numeral n small)
ends_numeral front n (Err e) small h = tt
