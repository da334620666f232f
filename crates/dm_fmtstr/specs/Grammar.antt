-- The grammar of format strings (std::fmt, "Syntax"), over the characters of a text. Each part is taken wherever it can be, from the left.
use Rattle.std.specs.Prelude.{◌≡◌, ℕ, suc, ◌^◌, Bool, false, ◌||◌, ◌&&◌, nat_eq, nat_lt, cond, Option, None, Some, List, [], ◌∷◌, take, drop}
use Rattle.std.specs.Char.{digit_value, is_digit}
use Rattle.std.specs.Str.{encode_utf8_all}
use Rattle.std.specs.Str.Parse.{digits_value}
use Rattle.unicode_ident.specs.Ident.{is_xid_start, is_xid_continue}
use Rattle.dm_lexer.specs.Characters.{number_sign, dollar, star, plus, minus, dot, digit_zero, colon, less_than, greater_than, question_mark, capital_e, caret, underscore, small_b, small_e, small_o, small_x, open_brace, close_brace}
use Rattle.dm_fmtstr.specs.Characters.{capital_x, small_p}
use Rattle.dm_lexer.specs.TextFronts.{run}
use Rattle.dm_fmtstr.specs.Fronts.{begins_with, behind}
use Rattle.dm_fmtstr.specs.Parts.{Argument, position, name, Count, number, parameter, Precision, counted, starred, Spec, Format}
use Rattle.dm_fmtstr.specs.declared.spec.Align.{Align}
use Rattle.dm_fmtstr.specs.declared.spec.Align.TheVariants.{Left, Center, Right}
use Rattle.dm_fmtstr.specs.declared.spec.Sign.{Sign}
use Rattle.dm_fmtstr.specs.declared.spec.Sign.TheVariants.{Plus, Minus}
use Rattle.dm_fmtstr.specs.declared.spec.Alternate.{Alternate}
use Rattle.dm_fmtstr.specs.declared.spec.ZeroPadding.{ZeroPadding}
use Rattle.dm_fmtstr.specs.declared.kind.FmtType.{FmtType}
use Rattle.dm_fmtstr.specs.declared.kind.FmtType.TheVariants as kind

-- ---- how parts are read

-- the characters behind what stands at the front, and what it is; or no such thing stands there
abbrev pub Read : Type 0 → Type 0
Read A = Option (List ℕ × A)

-- this thing, where the characters behind it are known
abbrev pub given : {A : Type 0} → A → Option (List ℕ) → Read A
given a None = None
given a (Some cs) = Some (cs, a)

-- as another thing
abbrev pub as_a : {A B : Type 0} → (A → B) → Read A → Read B
as_a f None = None
as_a f (Some r) = Some (r.0, f r.1)

-- the first of two that stands there
abbrev pub or_else : {A : Type 0} → Read A → Read A → Read A
or_else None other = other
or_else (Some r) other = Some r

-- a thing, and then one character
abbrev pub ended_by : {A : Type 0} → ℕ → Read A → Read A
ended_by c None = None
ended_by c (Some r) = given r.1 (behind c r.0)

abbrev pub and_then : {A : Type 0} → Option (List ℕ) → (List ℕ → Read A) → Read A
and_then None next = None
and_then (Some cs) next = next cs

-- the thing that one character is, or nothing where it is none
abbrev pub is_a : {A : Type 0} → List ℕ → Option A → Read A
is_a cs None = None
is_a cs (Some a) = Some (cs, a)

abbrev pub one : {A : Type 0} → (ℕ → Option A) → List ℕ → Read A
one of [] = None
one of (c ∷ cs) = is_a cs (of c)

-- a thing that may be absent, and the characters behind it, which are all where it is absent
abbrev pub optional : {A : Type 0} → List ℕ → Read A → List ℕ × Option A
optional cs None = (cs, None)
optional cs (Some r) = (r.0, Some r.1)

-- such a thing, and what stands behind it
abbrev pub perhaps : {A B : Type 0} → List ℕ × Option A → (Option A → List ℕ → B) → B
perhaps p next = next p.1 p.0

-- ---- arguments

-- n characters, as the bytes of their text
abbrev pub text_of : ℕ → List ℕ → Read (List ℕ)
text_of n cs = Some (drop n cs, encode_utf8_all (take n cs))

abbrev pub goes_on : List ℕ → Bool
goes_on [] = false
goes_on (c ∷ cs) = is_xid_continue c

-- a character that starts an identifier, or `_` before one that goes on with it
abbrev pub begins_identifier : ℕ → List ℕ → Bool
begins_identifier c cs = is_xid_start c || (nat_eq c underscore && goes_on cs)

-- an identifier (Rust Reference, "Identifiers"): a character that begins it, and all that go on with it
abbrev pub identifier_at : List ℕ → Read (List ℕ)
identifier_at [] = None
identifier_at (c ∷ cs) = cond (begins_identifier c cs) (text_of (suc (run is_xid_continue cs)) (c ∷ cs)) None

abbrev pub is_decimal : ℕ → Bool
is_decimal c = is_digit c 10

-- the value of a decimal digit
abbrev pub digit_of : ℕ → Option ℕ
digit_of c = cond (is_decimal c) (Some (digit_value c)) None

abbrev pub digit_at : List ℕ → Read ℕ
digit_at cs = one digit_of cs

-- n digits, and the number that they write
abbrev pub number_of : ℕ → List ℕ → Read ℕ
number_of n cs = cond (nat_lt 0 n && nat_lt (digits_value 10 (take n cs)) (2 ^ 64)) (Some (drop n cs, digits_value 10 (take n cs))) None

-- an integer: all decimal digits that stand there, which write a number below 2^64
abbrev pub integer_at : List ℕ → Read ℕ
integer_at cs = number_of (run is_decimal cs) cs

-- argument = identifier | integer
abbrev pub argument_at : List ℕ → Read Argument
argument_at cs = or_else (as_a name (identifier_at cs)) (as_a position (integer_at cs))

-- argument "$"
abbrev pub parameter_at : List ℕ → Read Argument
parameter_at cs = ended_by dollar (argument_at cs)

-- count = argument "$" | integer
abbrev pub count_at : List ℕ → Read Count
count_at cs = or_else (as_a parameter (parameter_at cs)) (as_a number (integer_at cs))

-- ---- what stands behind `:`

-- align = "<" | "^" | ">"
abbrev pub align_of : ℕ → Option Align
align_of c = cond (nat_eq c less_than) (Some Left) (cond (nat_eq c caret) (Some Center) (cond (nat_eq c greater_than) (Some Right) None))

abbrev pub side_at : List ℕ → Read Align
side_at cs = one align_of cs

-- any character, right before an align
abbrev pub filled_at : List ℕ → Read (Option ℕ × Align)
filled_at [] = None
filled_at (c ∷ cs) = as_a (λ a. (Some c, a)) (side_at cs)

-- fill? align
abbrev pub align_at : List ℕ → Read (Option ℕ × Align)
align_at cs = or_else (filled_at cs) (as_a (λ a. (None, a)) (side_at cs))

-- sign = "+" | "-"
abbrev pub sign_of : ℕ → Option Sign
sign_of c = cond (nat_eq c plus) (Some Plus) (cond (nat_eq c minus) (Some Minus) None)

abbrev pub sign_at : List ℕ → Read Sign
sign_at cs = one sign_of cs

abbrev pub alternate_at : List ℕ → Read Alternate
alternate_at cs = given record {} (behind number_sign cs)

-- `0` is padding where the next character isn't `$`
abbrev pub unless_dollar : List ℕ → Option (List ℕ)
unless_dollar cs = cond (begins_with dollar cs) None (Some cs)

abbrev pub behind_padding : Option (List ℕ) → Option (List ℕ)
behind_padding None = None
behind_padding (Some cs) = unless_dollar cs

abbrev pub padding_at : List ℕ → Read ZeroPadding
padding_at cs = given record {} (behind_padding (behind digit_zero cs))

-- precision = "." ( count | "*" )
abbrev pub precision_at : List ℕ → Read Precision
precision_at cs = and_then (behind dot cs) λ cs. or_else (as_a counted (count_at cs)) (given starred (behind star cs))

-- `x?` and `X?`
abbrev pub hexadecimal_of : ℕ → Option FmtType
hexadecimal_of c = cond (nat_eq c small_x) (Some kind.LowerDebug) (cond (nat_eq c capital_x) (Some kind.UpperDebug) None)

abbrev pub hexadecimal_at : List ℕ → Read FmtType
hexadecimal_at cs = ended_by question_mark (one hexadecimal_of cs)

abbrev pub letter_of : ℕ → Option FmtType
letter_of c =
    cond (nat_eq c question_mark) (Some kind.Debug) (cond (nat_eq c small_o) (Some kind.Octal) (cond (nat_eq c small_x) (Some kind.LowerHex)
    (cond (nat_eq c capital_x) (Some kind.UpperHex) (cond (nat_eq c small_p) (Some kind.Pointer) (cond (nat_eq c small_b) (Some kind.Binary)
    (cond (nat_eq c small_e) (Some kind.LowerExp) (cond (nat_eq c capital_e) (Some kind.UpperExp) None)))))))

-- no letter, before `}`
abbrev pub display_at : List ℕ → Read FmtType
display_at cs = cond (begins_with close_brace cs) (Some (cs, kind.Display)) None

-- kind = "x?" | "X?" | "?" | "o" | "x" | "X" | "p" | "b" | "e" | "E" | nothing
abbrev pub kind_at : List ℕ → Read FmtType
kind_at cs = or_else (hexadecimal_at cs) (or_else (one letter_of cs) (display_at cs))

abbrev pub spec_with : Option (Option ℕ × Align) → Option Sign → Option Alternate → Option ZeroPadding → Option Count → Option Precision → FmtType → Spec
spec_with align sign alternate padding width precision ty =
    record { align = align; sign = sign; alternate = alternate; zero_padding = padding; width = width; precision = precision; ty = ty }

-- spec = ( fill? align )? sign? "#"? "0"? count? ( "." ( count | "*" ) )? kind
abbrev pub spec_at : List ℕ → Read Spec
spec_at cs =
    perhaps (optional cs (align_at cs)) λ align cs.
    perhaps (optional cs (sign_at cs)) λ sign cs.
    perhaps (optional cs (alternate_at cs)) λ alternate cs.
    perhaps (optional cs (padding_at cs)) λ padding cs.
    perhaps (optional cs (count_at cs)) λ width cs.
    perhaps (optional cs (precision_at cs)) λ precision cs.
    as_a (spec_with align sign alternate padding width precision) (kind_at cs)

-- ---- placeholders and whole strings

-- ":" spec
abbrev pub spec_part_at : List ℕ → Read Spec
spec_part_at cs = and_then (behind colon cs) spec_at

-- argument? ( ":" spec )? "}"
abbrev pub inside_at : List ℕ → Read Format
inside_at cs =
    perhaps (optional cs (argument_at cs)) λ arg cs.
    perhaps (optional cs (spec_part_at cs)) λ spec cs.
    given record { arg = arg; spec = spec } (behind close_brace cs)

-- format = "{" argument? ( ":" spec )? "}"
abbrev pub format_at : List ℕ → Read Format
format_at cs = and_then (behind open_brace cs) inside_at

abbrev pub is_brace : ℕ → Bool
is_brace c = nat_eq c open_brace || nat_eq c close_brace

-- The characters are a format string, and these are its placeholders, in order: string = ( text | "{{" | "}}" | format )*, where text is
-- a character that is no brace.
pub data Formats : List ℕ → List Format → Type 0 where
  ends : Formats [] []
  text : {cs : List ℕ} {fs : List Format} (c : ℕ) → is_brace c ≡ false → Formats cs fs → Formats (c ∷ cs) fs
  opening : {cs : List ℕ} {fs : List Format} → Formats cs fs → Formats (open_brace ∷ open_brace ∷ cs) fs
  closing : {cs : List ℕ} {fs : List Format} → Formats cs fs → Formats (close_brace ∷ close_brace ∷ cs) fs
  placeholder : {cs rest : List ℕ} {f : Format} {fs : List Format} → format_at cs ≡ Some (rest, f) → Formats rest fs → Formats cs (f ∷ fs)

-- the characters are no format string
abbrev pub HasNoFormats : List ℕ → Type 0
HasNoFormats cs = (fs : List Format) → Formats cs fs → ⊥

-- the characters behind a first one that is no brace, or behind `{{` or `}}`
abbrev pub behind_text : List ℕ → Option (List ℕ)
behind_text [] = None
behind_text (c ∷ cs) = cond (is_brace c) (behind c cs) (Some cs)

-- no text has two lists of placeholders
abbrev pub NoTwoReadings : Type 0
NoTwoReadings = (cs : List ℕ) (fs gs : List Format) → Formats cs fs → Formats cs gs → fs ≡ gs
