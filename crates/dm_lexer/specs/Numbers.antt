-- Integers, over the characters of a text.
use Rattle.std.specs.Prelude.{◌≡◌, ℕ, ◌+◌, ◌^◌, Bool, true, false, ◌||◌, ◌&&◌, nat_eq, nat_lt, cond, Option, Some, None, List, [], ◌∷◌, length, take, drop, codes}
use Rattle.dm_lexer.specs.Characters.{dot, digit_zero, capital_e, small_b, small_e, small_o, small_x}
use Rattle.std.specs.Char.{is_digit, is_ascii_digit}
use Rattle.std.specs.List.{filter}
use Rattle.std.specs.Str.{bytes_eq, chars, encode_utf8_all}
use Rattle.std.specs.Str.Parse.{digits_value}
use Rattle.dm_lexer.specs.declared.numbers.Base.{Base}
use Rattle.dm_lexer.specs.declared.numbers.Base.TheVariants.{Binary, Octal, Decimal, Hexadecimal}
use Rattle.dm_lexer.specs.declared.words.Class.TheVariants.{Digits}
use Rattle.dm_stream.specs.declared.tokens.LitKind.{LitKind}
use Rattle.dm_stream.specs.declared.tokens.LitKind.TheVariants.{Str, RawStr, ByteStr, RawByteStr, CStr, RawCStr, Char, Byte, Int}
use Rattle.dm_lexer.specs.TextFronts.{IsFront, IsBehind, run}
use Rattle.dm_lexer.specs.Words.{begins_pair, begins_word, goes_on, passes, radix}

abbrev pub begins_digit : List ℕ → Bool
begins_digit [] = false
begins_digit (c ∷ cs) = is_ascii_digit c

-- by `0b`, `0o` or `0x`
abbrev pub base_of : List ℕ → Base
base_of cs = cond (begins_pair digit_zero small_b cs) Binary (cond (begins_pair digit_zero small_o cs) Octal (cond (begins_pair digit_zero small_x cs) Hexadecimal Decimal))

-- the number of characters of the opening that tells the base
abbrev pub prefix_length : Base → ℕ
prefix_length Binary = 2
prefix_length Octal = 2
prefix_length Decimal = 0
prefix_length Hexadecimal = 2

-- how many characters of the front are digits of the base or `_`
abbrev pub digits_length : Base → List ℕ → ℕ
digits_length base cs = run (passes (Digits base)) cs

-- the digits of the base among the characters
abbrev pub digits_among : Base → List ℕ → List ℕ
digits_among base cs = filter (λ c. is_digit c (radix base)) cs

-- there is a digit, and the digits' value is below 2^128
abbrev pub is_value : Base → List ℕ → Bool
is_value base ds = nat_lt 0 (length ds) && nat_lt (digits_value (radix base) ds) (2 ^ 128)

-- an identifier right behind the digits is their suffix
abbrev pub suffix_length : List ℕ → ℕ
suffix_length cs = cond (begins_word cs) (run goes_on cs) 0

-- a suffix that makes a float: one that begins with `e` or `E`, or a float's type
abbrev pub begins_exponent : List ℕ → Bool
begins_exponent [] = false
begins_exponent (c ∷ cs) = nat_eq c small_e || nat_eq c capital_e

abbrev pub is_float_name : List ℕ → Bool
is_float_name name = bytes_eq name (codes "f16") || bytes_eq name (codes "f32") || bytes_eq name (codes "f64") || bytes_eq name (codes "f128")

abbrev pub begins_float_suffix : List ℕ → Bool
begins_float_suffix cs = begins_exponent cs || is_float_name (encode_utf8_all (take (suffix_length cs) cs))

abbrev pub begins_point : List ℕ → Bool
begins_point [] = false
begins_point (c ∷ cs) = nat_eq c dot

-- `.`, and behind it no `.`, `_` or character that starts an identifier
abbrev pub begins_fraction : List ℕ → Bool
begins_fraction [] = false
begins_fraction (c ∷ cs) = nat_eq c dot && cond (begins_point cs || begins_word cs) false true

abbrev pub goes_on_as_float : Base → List ℕ → Bool
goes_on_as_float Binary cs = false
goes_on_as_float Octal cs = false
goes_on_as_float Decimal cs = begins_fraction cs
goes_on_as_float Hexadecimal cs = false

-- whether no integer ends before these characters, which stand behind its digits
abbrev pub spoils : Base → List ℕ → Bool
spoils base cs = begins_digit cs || begins_float_suffix cs || goes_on_as_float base cs

-- the number of characters and the value of an integer
abbrev pub number_with : Base → ℕ → List ℕ → Option (ℕ × ℕ)
number_with base digits cs =
    cond (spoils base (drop digits cs)) None
    (cond (is_value base (digits_among base (take digits cs)))
    (Some (digits + suffix_length (drop digits cs), digits_value (radix base) (digits_among base (take digits cs)))) None)

abbrev pub number_behind : Base → List ℕ → Option (ℕ × ℕ)
number_behind base cs = number_with base (digits_length base cs) cs

abbrev pub behind_prefix : ℕ → Option (ℕ × ℕ) → Option (ℕ × ℕ)
behind_prefix n None = None
behind_prefix n (Some r) = Some (n + r.0, r.1)

-- the number of characters and the value of the integer at the front
abbrev pub number : List ℕ → Option (ℕ × ℕ)
number cs =
    cond (begins_digit cs)
    (behind_prefix (prefix_length (base_of cs)) (number_behind (base_of cs) (drop (prefix_length (base_of cs)) cs))) None

abbrev pub length_of : Option (ℕ × ℕ) → Option ℕ
length_of None = None
length_of (Some r) = Some r.0

-- the number of characters of the integer at the front
abbrev pub number_length : List ℕ → Option ℕ
number_length cs = length_of (number cs)

-- the value, where none of the n characters is behind the integer
abbrev pub value_of_all : ℕ → Option (ℕ × ℕ) → Option ℕ
value_of_all n None = None
value_of_all n (Some r) = cond (nat_lt r.0 n) None (Some r.1)

abbrev pub whole_value : List ℕ → Option ℕ
whole_value cs = value_of_all (length cs) (number cs)

-- the value of a literal, of its kind and its bytes
abbrev pub literal_value : LitKind → List ℕ → Option ℕ
literal_value Str text = None
literal_value RawStr text = None
literal_value ByteStr text = None
literal_value RawByteStr text = None
literal_value CStr text = None
literal_value RawCStr text = None
literal_value Char text = None
literal_value Byte text = None
literal_value Int text = whole_value (chars text)

-- the first `size` bytes of the text are the integer that was found, whose value is `value`
pub record IsNumber (text : List ℕ) (size value : ℕ) (found : Option (ℕ × ℕ)) : Type 0 where
  pub count : ℕ
  pub found_is : found ≡ Some (count, value)
  pub front : IsFront text size count

-- `rest` is the text behind the opening that tells the base
pub record IsBasePrefix (text : List ℕ) (base : Base) (size : ℕ) (rest : List ℕ) : Type 0 where
  pub base_is : base ≡ base_of (chars text)
  pub behind : IsBehind text size (prefix_length (base_of (chars text))) rest
