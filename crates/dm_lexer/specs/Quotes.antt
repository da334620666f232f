-- Strings, characters and lifetimes, over the characters of a text.
use Rattle.std.specs.Prelude.{◌≡◌, ℕ, zero, suc, ◌+◌, ◌-◌, ◌*◌, ◌<◌, ◌≤◌, Bool, true, false, ◌||◌, ◌&&◌, nat_eq, nat_lt, cond, Option, Some, None, List, [], ◌∷◌, length, take, drop}
use Rattle.dm_lexer.specs.Characters.{tab, line_feed, carriage_return, space, double_quote, number_sign, quote, digit_zero, backslash, underscore, small_b, small_c, small_n, small_r, small_t, small_u, small_x, open_brace, close_brace, ascii_bound, byte_bound}
use Rattle.std.specs.Char.{digit_value, is_digit}
use Rattle.std.specs.List.{filter}
use Rattle.std.specs.Str.{chars}
use Rattle.std.specs.Str.Parse.{digits_value}
use Rattle.dm_stream.specs.declared.tokens.LitKind.{LitKind}
use Rattle.dm_stream.specs.declared.tokens.LitKind.TheVariants as kind
use Rattle.dm_lexer.specs.declared.quotes.Segment.{Segment}
use Rattle.dm_lexer.specs.declared.quotes.Code.{Code}
use Rattle.dm_lexer.specs.declared.quotes.Inside.{Inside}
use Rattle.dm_lexer.specs.declared.quotes.Inside.TheVariants.{Characters, Bytes, Anything}
use Rattle.dm_lexer.specs.declared.quotes.Opening.{Opening}
pub use Rattle.dm_lexer.specs.TextFronts.{IsFront, IsSized, run, more}
pub use Rattle.dm_lexer.specs.Words.{goes_on, begins_pair, begins_word}

-- the first character is c
abbrev pub begins : ℕ → List ℕ → Bool
begins c [] = false
begins c (d ∷ cs) = nat_eq d c

abbrev pub is_hex : ℕ → Bool
is_hex c = is_digit c 16

-- the escapes, over the characters behind `\`; the sizes count `\` too

-- what a character behind `\` means by itself
abbrev pub short_meaning : ℕ → Option ℕ
short_meaning c =
    cond (nat_eq c small_n) (Some line_feed)
    (cond (nat_eq c small_r) (Some carriage_return)
    (cond (nat_eq c small_t) (Some tab)
    (cond (nat_eq c backslash) (Some backslash)
    (cond (nat_eq c digit_zero) (Some 0)
    (cond (nat_eq c quote) (Some quote)
    (cond (nat_eq c double_quote) (Some double_quote) None))))))

abbrev pub short_segment : Option ℕ → Option Segment
short_segment None = None
short_segment (Some c) = Some record { size = 2; means = Some c }

-- behind `\x`: two hexadecimal digits that spell a number below `limit`
abbrev pub hex_segment : ℕ → List ℕ → Option Segment
hex_segment limit [] = None
hex_segment limit (c ∷ []) = None
hex_segment limit (c ∷ d ∷ cs) =
    cond (is_hex c && is_hex d && nat_lt (digit_value c * 16 + digit_value d) limit)
    (Some record { size = 4; means = Some (digit_value c * 16 + digit_value d) }) None

-- a hexadecimal digit or `_`
abbrev pub is_code : ℕ → Bool
is_code c = is_hex c || nat_eq c underscore

-- the hexadecimal digits of the front, between which `_` may stand
abbrev pub code_digits : List ℕ → List ℕ
code_digits cs = filter is_hex (take (run is_code cs) cs)

abbrev pub begins_hex : List ℕ → Bool
begins_hex [] = false
begins_hex (c ∷ cs) = is_hex c

-- the code of a character: no surrogate, and at most 10FFFF
abbrev pub is_scalar : ℕ → Bool
is_scalar c = nat_lt c 0xD800 || (nat_lt 0xDFFF c && nat_lt c 0x11_0000)

-- one to six hexadecimal digits of a scalar value, each with any number of `_` behind it, and `}`
abbrev pub is_code_point : List ℕ → Bool
is_code_point cs =
    begins_hex cs && begins close_brace (drop (run is_code cs) cs) && nat_lt (length (code_digits cs)) 7 && is_scalar (digits_value 16 (code_digits cs))

-- behind `\u`
abbrev pub unicode_segment : List ℕ → Option Segment
unicode_segment [] = None
unicode_segment (c ∷ cs) =
    cond (nat_eq c open_brace && is_code_point cs)
    (Some record { size = run is_code cs + 4; means = Some (digits_value 16 (code_digits cs)) }) None

-- what stands for one character: with `in_bytes` there is no `\u`, and `\x` goes up to FF
abbrev pub escape : Bool → List ℕ → Option Segment
escape in_bytes [] = None
escape in_bytes (c ∷ cs) =
    cond (nat_eq c small_x) (hex_segment (cond in_bytes byte_bound ascii_bound) cs)
    (cond (nat_eq c small_u) (cond in_bytes None (unicode_segment cs)) (short_segment (short_meaning c)))

-- how many characters of the front are an LF, or a CR and an LF
abbrev pub line_end : List ℕ → ℕ
line_end [] = 0
line_end (c ∷ cs) = cond (nat_eq c line_feed) 1 (cond (nat_eq c carriage_return && begins line_feed cs) 2 0)

-- space, tab, LF, CR
abbrev pub is_gap : ℕ → Bool
is_gap c = nat_eq c space || nat_eq c tab || nat_eq c line_feed || nat_eq c carriage_return

-- `\` before a line end is dropped, with all spaces, tabs and line ends that follow
abbrev pub quoted_escape : Bool → List ℕ → Option Segment
quoted_escape in_bytes cs =
    cond (nat_lt 0 (line_end cs)) (Some record { size = run is_gap cs + 1; means = None }) (escape in_bytes cs)

-- `\` and any next character
abbrev pub any_escape : List ℕ → Option Segment
any_escape [] = None
any_escape (c ∷ cs) = Some record { size = 2; means = None }

abbrev pub behind_backslash : Inside → List ℕ → Option Segment
behind_backslash Characters cs = quoted_escape false cs
behind_backslash Bytes cs = quoted_escape true cs
behind_backslash Anything cs = any_escape cs

-- a string of bytes, or else of characters
abbrev pub inside_of : Bool → Inside
inside_of in_bytes = cond in_bytes Bytes Characters

-- whether a character other than `\` may stand in a string
abbrev pub is_plain : Inside → ℕ → Bool
is_plain Characters c = true
is_plain Bytes c = nat_lt c ascii_bound
is_plain Anything c = true

-- what stands at the front inside a string: its number of characters, and the character that it means, if any
abbrev pub segment : Inside → List ℕ → Option Segment
segment k [] = None
segment k (c ∷ cs) = cond (nat_eq c backslash) (behind_backslash k cs) (cond (is_plain k c) (Some record { size = 1; means = Some c }) None)

abbrev pub one_more : Option ℕ → Option ℕ
one_more None = None
one_more (Some n) = Some (suc n)

abbrev pub after_segment : Option Segment → (ℕ → Option ℕ) → Option ℕ
after_segment None next = None
after_segment (Some p) next = next (p.size - 1)

-- the number of characters up to the closing quote, with it, where each segment may stand; the first `skip` characters are passed over
abbrev pub string_closing : Inside → ℕ → List ℕ → Option ℕ
string_closing k skip [] = None
string_closing k (suc n) (c ∷ cs) = one_more (string_closing k n cs)
string_closing k zero (c ∷ cs) = cond (nat_eq c double_quote) (Some 1) (after_segment (segment k (c ∷ cs)) (λ more. one_more (string_closing k more cs)))

-- what a string means up to its closing quote
abbrev pub meant_with : Option ℕ → List ℕ → List ℕ
meant_with None rest = rest
meant_with (Some c) rest = c ∷ rest

abbrev pub meant_by : Option Segment → (ℕ → List ℕ) → List ℕ
meant_by None next = []
meant_by (Some p) next = meant_with p.means (next (p.size - 1))

abbrev pub meaning : ℕ → List ℕ → List ℕ
meaning skip [] = []
meaning (suc n) (c ∷ cs) = meaning n cs
meaning zero (c ∷ cs) = cond (nat_eq c double_quote) [] (meant_by (segment Characters (c ∷ cs)) (λ more. meaning more cs))

abbrev pub is_hash : ℕ → Bool
is_hash c = nat_eq c number_sign

-- at least `hashes` `#` stand at the front
abbrev pub begins_hashes : ℕ → List ℕ → Bool
begins_hashes hashes cs = nat_lt hashes (suc (run is_hash cs))

-- a quote that `hashes` `#` follow
abbrev pub closes_raw : ℕ → ℕ → List ℕ → Bool
closes_raw hashes c cs = nat_eq c double_quote && begins_hashes hashes cs

-- the number of characters up to the first quote that `hashes` `#` follow, with these
abbrev pub raw_closing : ℕ → List ℕ → Option ℕ
raw_closing hashes [] = None
raw_closing hashes (c ∷ cs) = cond (closes_raw hashes c cs) (Some (suc hashes)) (one_more (raw_closing hashes cs))

-- a CR stands right before an LF
abbrev pub keeps_line : ℕ → List ℕ → Bool
keeps_line c cs = cond (nat_eq c carriage_return) (begins line_feed cs) true

-- each CR stands right before an LF
abbrev pub whole_lines : List ℕ → Bool
whole_lines [] = true
whole_lines (c ∷ cs) = keeps_line c cs && whole_lines cs

-- n characters of the front, where they have whole lines
abbrev pub in_whole_lines : List ℕ → Option ℕ → Option ℕ
in_whole_lines cs None = None
in_whole_lines cs (Some n) = cond (whole_lines (take n cs)) (Some n) None

-- 0 to 255 `#` and a quote
abbrev pub opens_raw : List ℕ → Bool
opens_raw cs = nat_lt (run is_hash cs) 256 && begins double_quote (drop (run is_hash cs) cs)

-- a character that may stand alone between `'`: all but `'`, `\`, LF, CR and TAB, and with `in_bytes` only ASCII
abbrev pub is_lone : Bool → ℕ → Bool
is_lone in_bytes c = cond (nat_eq c quote || nat_eq c backslash || nat_eq c line_feed || nat_eq c carriage_return || nat_eq c tab) false (cond in_bytes (nat_lt c ascii_bound) true)

-- what stands between `'`
abbrev pub lone_segment : Bool → List ℕ → Option Segment
lone_segment in_bytes [] = None
lone_segment in_bytes (c ∷ cs) =
    cond (nat_eq c backslash) (escape in_bytes cs) (cond (is_lone in_bytes c) (Some record { size = 1; means = Some c }) None)

abbrev pub closed_by_tick : Option Segment → List ℕ → Option ℕ
closed_by_tick None cs = None
closed_by_tick (Some p) cs = cond (begins quote (drop p.size cs)) (Some (p.size + 1)) None

-- behind the opening `'`: one character or escape and the closing `'`
abbrev pub lone_closing : Bool → List ℕ → Option ℕ
lone_closing in_bytes cs = closed_by_tick (lone_segment in_bytes cs) cs

-- the openings of the literals with quotes, but for a character's

abbrev pub plain_opening : LitKind → ℕ → Opening
plain_opening k n = record { kind = k; hashes = 0; size = n }

-- behind `r`, with which the opening has `before` characters
abbrev pub raw_opening : LitKind → ℕ → List ℕ → Option Opening
raw_opening k before cs = cond (opens_raw cs) (Some record { kind = k; hashes = run is_hash cs; size = run is_hash cs + before + 1 }) None

-- behind `b` or `c`
abbrev pub second_raw : LitKind → List ℕ → Option Opening
second_raw k [] = None
second_raw k (c ∷ cs) = cond (nat_eq c small_r) (raw_opening k 2 cs) None

abbrev pub byte_opening : List ℕ → Option Opening
byte_opening cs =
    cond (begins double_quote cs) (Some (plain_opening kind.ByteStr 2))
    (cond (begins quote cs) (Some (plain_opening kind.Byte 2)) (second_raw kind.RawByteStr cs))

abbrev pub c_opening : List ℕ → Option Opening
c_opening cs = cond (begins double_quote cs) (Some (plain_opening kind.CStr 2)) (second_raw kind.RawCStr cs)

-- `"`, `b"`, `c"`, `b'`, and `r`, `br` or `cr` with 0 to 255 `#` and `"`
abbrev pub opening : List ℕ → Option Opening
opening [] = None
opening (c ∷ cs) =
    cond (nat_eq c double_quote) (Some (plain_opening kind.Str 1))
    (cond (nat_eq c small_b) (byte_opening cs)
    (cond (nat_eq c small_c) (c_opening cs)
    (cond (nat_eq c small_r) (raw_opening kind.RawStr 1 cs) None)))

-- the number of characters behind an opening, up to the literal's end
abbrev pub body : LitKind → ℕ → List ℕ → Option ℕ
body kind.Str hashes cs = string_closing Characters 0 cs
body kind.ByteStr hashes cs = string_closing Bytes 0 cs
body kind.CStr hashes cs = string_closing Anything 0 cs
body kind.RawStr hashes cs = raw_closing hashes cs
body kind.RawByteStr hashes cs = raw_closing hashes cs
body kind.RawCStr hashes cs = raw_closing hashes cs
body kind.Byte hashes cs = lone_closing true cs
body kind.Char hashes cs = None
body kind.Int hashes cs = None

-- the number of characters of the literal that has this opening
abbrev pub quoted_length : Opening → List ℕ → Option ℕ
quoted_length o cs = in_whole_lines cs (more o.size (body o.kind o.hashes (drop o.size cs)))

-- p is what stands at the front of the text inside a string: its size is in bytes
pub record IsSegment (k : Inside) (text : List ℕ) (p : Segment) : Type 0 where
  pub count : ℕ
  pub found : segment k (chars text) ≡ Some record { size = count; means = p.means }
  pub front : IsFront text p.size count
  pub some : 0 < count
  pub positive : 0 < p.size

-- p is what stands at the front of the text between `'`: its size is in bytes
pub record IsLoneSegment (in_bytes : Bool) (text : List ℕ) (p : Segment) : Type 0 where
  pub count : ℕ
  pub found : lone_segment in_bytes (chars text) ≡ Some record { size = count; means = p.means }
  pub front : IsFront text p.size count

-- the digits of a code, of which one more was read
abbrev pub with_digit : Code → ℕ → Option Code
with_digit code d =
    cond (nat_lt code.digits 6) (Some record { size = code.size + 1; digits = code.digits + 1; value = code.value * 16 + d }) None

abbrev pub with_code : Code → ℕ → Option Code
with_code code c =
    cond (is_hex c) (with_digit code (digit_value c)) (Some record { size = code.size + 1; digits = code.digits; value = code.value })

-- the code that a text begins with
pub record IsCode (text : List ℕ) (code : Code) : Type 0 where
  pub size_is : code.size ≡ run is_code (chars text)
  pub value_is : code.value ≡ digits_value 16 (code_digits (chars text))
  pub few : length (code_digits (chars text)) < 7
  pub fits : code.size ≤ length text

-- the number of characters of the Char that begins with `'`
abbrev pub char_length : List ℕ → Option ℕ
char_length [] = None
char_length (c ∷ cs) = more 1 (lone_closing false cs)

-- `r#`
abbrev pub begins_raw : List ℕ → Bool
begins_raw cs = begins_pair small_r number_sign cs

-- an identifier, behind which no `'` stands, and not `r#`
abbrev pub is_lifetime : List ℕ → Bool
is_lifetime cs = cond (begins_word cs) (cond (begins_raw cs) false (cond (begins quote (drop (run goes_on cs) cs)) false true)) false

-- the number of characters of the lifetime that begins with `'`
abbrev pub lifetime_length : List ℕ → Option ℕ
lifetime_length [] = None
lifetime_length (c ∷ cs) = cond (is_lifetime cs) (Some (suc (run goes_on cs))) None
