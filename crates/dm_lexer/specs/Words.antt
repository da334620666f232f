-- Identifiers, over the characters of a text.
use Rattle.std.specs.Prelude.{ℕ, ◌+◌, Bool, true, false, ◌||◌, ◌&&◌, nat_eq, cond, Option, Some, None, List, [], ◌∷◌, take, drop, codes}
use Rattle.dm_lexer.specs.Characters.{line_feed, number_sign, underscore, small_r}
use Rattle.std.specs.Char.{is_digit}
use Rattle.std.specs.Str.{bytes_eq, encode_utf8_all}
use Rattle.unicode_ident.specs.Ident.{is_xid_start, is_xid_continue}
use Rattle.dm_lexer.specs.declared.numbers.Base.{Base}
use Rattle.dm_lexer.specs.declared.numbers.Base.TheVariants.{Binary, Octal, Decimal, Hexadecimal}
use Rattle.dm_lexer.specs.declared.words.Class.{Class}
use Rattle.dm_lexer.specs.declared.words.Class.TheVariants.{Word, Line, Digits}
use Rattle.dm_lexer.specs.TextFronts.{run}

-- a character that starts an identifier, or `_`
abbrev pub starts_word : ℕ → Bool
starts_word c = is_xid_start c || nat_eq c underscore

-- a character that goes on with an identifier
abbrev pub goes_on : ℕ → Bool
goes_on c = is_xid_continue c

-- the number that the digits of a base are below
abbrev pub radix : Base → ℕ
radix Binary = 2
radix Octal = 8
radix Decimal = 10
radix Hexadecimal = 16

-- the characters of a class: of an identifier, of a line, of a number's digits with the `_` between them
abbrev pub passes : Class → ℕ → Bool
passes Word c = goes_on c
passes Line c = cond (nat_eq c line_feed) false true
passes (Digits base) c = is_digit c (radix base) || nat_eq c underscore

-- the first two characters are a and b
abbrev pub begins_pair : ℕ → ℕ → List ℕ → Bool
begins_pair a b [] = false
begins_pair a b (c ∷ []) = false
begins_pair a b (c ∷ d ∷ cs) = nat_eq c a && nat_eq d b

abbrev pub begins_word : List ℕ → Bool
begins_word [] = false
begins_word (c ∷ cs) = starts_word c

-- the number of characters of the identifier at the front
abbrev pub word_length : List ℕ → Option ℕ
word_length cs = cond (begins_word cs) (Some (run goes_on cs)) None

-- `r#` and a character that starts an identifier, or `_`
abbrev pub begins_raw_word : List ℕ → Bool
begins_raw_word cs = begins_pair small_r number_sign cs && begins_word (drop 2 cs)

-- the words, as bytes, that have no raw form
abbrev pub is_never_raw : List ℕ → Bool
is_never_raw name =
    bytes_eq name (codes "_") || bytes_eq name (codes "self") || bytes_eq name (codes "Self") || bytes_eq name (codes "super") ||
    bytes_eq name (codes "crate")

-- the bytes of the identifier's characters at the front
abbrev pub word_bytes : List ℕ → List ℕ
word_bytes cs = encode_utf8_all (take (run goes_on cs) cs)

-- the number of characters of the raw identifier at the front, with its `r#`
abbrev pub raw_word_length : List ℕ → Option ℕ
raw_word_length cs =
    cond (begins_raw_word cs) (cond (is_never_raw (word_bytes (drop 2 cs))) None (Some (2 + run goes_on (drop 2 cs)))) None
