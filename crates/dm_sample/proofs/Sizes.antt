-- Numbers in decimal, and the words that are such.
use Rattle.std.proofs.Common.{◌≡◌, ℕ, ◌≤◌, ◌<◌, ◌^◌, zero, suc, List, length, get_or, Result, Ok, Err, sym, ap, subst, ◌∙◌, arith}
use Rattle.std.proofs.lemmas.Fmt.{decimal_digit, decimal_is_IsNumeral, parse-decimal, first_decimal, decimal_nonempty, decimal-digits_value}
use Rattle.std.proofs.lemmas.Str.Parse.{IsNumeralModel, numerals_by_value, tells_digits, digit_at, parse_plain}
use Rattle.std.specs.Fmt.{decimal}
use Rattle.std.specs.Result.{OkIff}
use Rattle.std.specs.Str.Parse.{AllDigits, ParsesUnsigned, digits_value}
use Rattle.dm_sample.specs.declared.words.TheConstants.{LARGEST_SAMPLE}
use Rattle.dm_sample.specs.Samples.{BeginsNumber, IsSize}

own : IsNumeralModel (AllDigits 10) (digits_value 10)
own = numerals_by_value (AllDigits 10) tells_digits

-- no word that begins so is that of 0
above_zero : (word : List ℕ) (n : ℕ) → word ≡ decimal n → 48 < get_or word 0 0 → 1 ≤ n
above_zero word zero e low = absurd (omega (arith, ap (λ w. get_or w 0 0) (e ∙ decimal_digit 0 (omega arith)), low))
above_zero word (suc n) e low = omega arith

-- a word that begins so and reads as a number is that number in decimal
pub read_is : {E : Type 0} (word : List ℕ) (n : ℕ) (r : Result ℕ E) → BeginsNumber word → ParsesUnsigned 32 10 word r → r ≡ Ok n → n ≤ LARGEST_SAMPLE →
    IsSize word n
read_is {E} word n r b p e most =
    let h = subst (λ x. OkIff x (AllDigits 10 word × (0 < length word) × (digits_value 10 word < 2 ^ 32)) (digits_value 10 word)) e
    (parse_plain own 32 word r p (λ e. omega (arith, e, b.low, b.high))) in
    let text = decimal-digits_value own word h.0.0 b.some (λ e. absurd (omega (arith, e, b.low))) (omega (arith, h.0.2)) in
    let is = sym (ap decimal h.1 ∙ text) in
    record { is = is; least = above_zero word n is b.low; most = most }

small : (n : ℕ) → n ≤ LARGEST_SAMPLE → n < 2 ^ 32
small n most = omega (arith, most)

-- a word that is a number from 1 on begins so
pub begins : (word : List ℕ) (n : ℕ) → IsSize word n → BeginsNumber word
begins word n s =
    let low : n < 2 ^ 64 = omega (arith, s.most) in
    let some : 0 < length (decimal n) = decimal_nonempty n low in
    let digits = decimal_is_IsNumeral n low in
    subst BeginsNumber (sym s.is) (record {
      some = some;
      low = first_decimal n (omega (arith, s.least)) low;
      high = (digit_at (decimal n) 0 digits.0.1 some).1;
    })

-- and it reads as that number
pub reads : {E : Type 0} (word : List ℕ) (n : ℕ) (r : Result ℕ E) → IsSize word n → ParsesUnsigned 32 10 word r → r ≡ Ok n
reads word n r s p = parse-decimal 32 n word r (small n s.most) (omega (arith, s.most)) s.is p

-- so a word that reads as a number above the largest is no size
pub too_large : {E : Type 0} (word : List ℕ) (n : ℕ) (r : Result ℕ E) → ParsesUnsigned 32 10 word r → r ≡ Ok n → (n ≤ LARGEST_SAMPLE → ⊥) → (m : ℕ) → IsSize word m → ⊥
too_large word n r p is large m s =
    let same : Ok n ≡ Ok m = sym is ∙ reads word m r s p in
    let equal : n ≡ m = cc in
    large (subst (λ k. k ≤ LARGEST_SAMPLE) (sym equal) s.most)

-- and so is one that doesn't read
pub unread : {E : Type 0} (word : List ℕ) (e : E) (r : Result ℕ E) → ParsesUnsigned 32 10 word r → r ≡ Err e → (m : ℕ) → IsSize word m → ⊥
unread word e r p is m s =
    let same : Err e ≡ Ok m = sym is ∙ reads word m r s p in
    cc
