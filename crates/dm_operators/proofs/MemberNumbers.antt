-- The number of a tuple field, written as a literal, is read as that number.
use Rattle.std.proofs.Common.{◌≡◌, ℕ, ◌+◌, ◌<◌, ◌^◌, true, false, nat_lt, Some, List, length, drop, refl, ap, ◌∙◌, subst, arith}
use Rattle.std.proofs.lemmas.Bool.{and_from}
use Rattle.std.proofs.lemmas.Bool.Decides.{nat_tests}
use Rattle.std.proofs.lemmas.Fmt.{decimal_is_IsNumeral, IsAscii-decimal, digits_decimal, digits_value-decimal}
use Rattle.std.proofs.lemmas.Str.{chars-IsAscii}
use Rattle.std.proofs.lemmas.Str.Parse.{numerals_by_value, tells_all_ascii_digits}
use Rattle.std.specs.Fmt.{decimal}
use Rattle.std.specs.Str.{all_ascii_digits}
use Rattle.std.specs.Str.Parse.{digits_value}
use Rattle.dm_stream.specs.declared.tokens.LitKind.TheVariants.{Int}
use Rattle.dm_lexer.specs.declared.numbers.Base.TheVariants.{Decimal}
use Rattle.dm_lexer.specs.Numbers.{prefix_length, is_value, number_behind, behind_prefix, number, value_of_all, literal_value}
use Rattle.dm_lexer.proofs.KeptNumbers.{number-if}
use Rattle.dm_lexer.proofs.WritableLiterals.{digits-base, digits-behind, digits-begin}
use Rattle.dm_generics.specs.Numerals.{numeral}
use Rattle.dm_generics.proofs.NumeralLaws.{decimal_numeral}

-- ---- digits

none-left : (m v : ℕ) → value_of_all m (Some (0 + (m + 0), v)) ≡ Some v
none-left m v = let e : nat_lt (0 + (m + 0)) m ≡ false = grind (arith, nat_tests) in rw e refl

-- digits are read as their value, if that isn't too large
digits-read : (cs : List ℕ) → all_ascii_digits cs ≡ true → is_value Decimal cs ≡ true →
    value_of_all (length cs) (number cs) ≡ Some (digits_value 10 cs)
digits-read cs h v =
    ap (λ w. value_of_all (length cs) (number-if cs w)) (digits-begin cs h v) ∙
    ap (λ w. value_of_all (length cs) (behind_prefix (prefix_length w) (number_behind w (drop (prefix_length w) cs)))) (digits-base cs h) ∙
    ap (λ o. value_of_all (length cs) (behind_prefix 0 o)) (digits-behind cs h v) ∙ none-left (length cs) (digits_value 10 cs)

-- ---- numerals

some-digits : (cs : List ℕ) (n : ℕ) → digits_value 10 cs ≡ n → 0 < length cs → n < 2 ^ 64 → is_value Decimal cs ≡ true
some-digits cs n e l small =
    let some : nat_lt 0 (length cs) ≡ true = grind (arith, nat_tests) in
    let wide : n < 2 ^ 128 = omega arith in
    let few : nat_lt n (2 ^ 128) ≡ true = grind (arith, nat_tests) in
    and_from (nat_lt 0 (length cs)) (nat_lt (digits_value 10 cs) (2 ^ 128)) some (ap (λ (k : ℕ). nat_lt k (2 ^ 128)) e ∙ few)

decimal-value : (n : ℕ) → n < 2 ^ 64 → literal_value Int (decimal n) ≡ Some n
decimal-value n small =
    let own = numerals_by_value (λ ds. all_ascii_digits ds ≡ true) tells_all_ascii_digits in
    let all : all_ascii_digits (decimal n) ≡ true = digits_decimal own n small in
    let value : digits_value 10 (decimal n) ≡ n = digits_value-decimal own n small in
    ap (λ (cs : List ℕ). value_of_all (length cs) (number cs)) (chars-IsAscii (decimal n) (IsAscii-decimal n small)) ∙
    digits-read (decimal n) all (some-digits (decimal n) n value (decimal_is_IsNumeral n small).0.0 small) ∙ ap (λ (k : ℕ). Some k) value

pub numeral-value : (n : ℕ) → n < 2 ^ 64 → literal_value Int (numeral n) ≡ Some n
numeral-value n small = subst (λ (ds : List ℕ). literal_value Int ds ≡ Some n) (decimal_numeral n small) (decimal-value n small)
