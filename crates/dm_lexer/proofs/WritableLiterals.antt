-- Integers and strings that a program makes are spellable.
use Rattle.std.specs.Prelude.{◌≡◌, ℕ, suc, ◌+◌, Bool, true, false, ◌||◌, ◌&&◌, nat_eq, nat_lt, cond, Option, Some, None, List, [], ◌∷◌, ◌++◌, length, take, drop, refl}
use Rattle.std.proofs.Common.{ap, ◌∙◌, sym, subst, arith}
use Rattle.std.proofs.Math.Seq.{take-length}
use Rattle.std.proofs.Math.Utf8.{scalar, scalars}
use Rattle.std.proofs.lemmas.Bool.{and_from, and_parts}
use Rattle.std.proofs.lemmas.Bool.Decides.{nat_tests}
use Rattle.std.proofs.lemmas.Str.{chars-encodes, encodes-chars}
use Rattle.std.specs.Char.{is_digit, is_ascii_digit}
use Rattle.std.specs.Str.{chars, encode_utf8_all, IsUtf8, all_ascii_digits}
use Rattle.std.specs.Str.Parse.{digits_value}
use Rattle.dm_stream.specs.declared.tokens.Span.{Span}
use Rattle.dm_stream.specs.declared.tokens.LitKind.{LitKind}
use Rattle.dm_stream.specs.declared.tokens.LitKind.TheVariants as kind
use Rattle.dm_stream.specs.declared.tokens.Token.TheVariants as t
use Rattle.dm_lexer.specs.declared.lexing.Lexeme.TheVariants as lexeme
use Rattle.dm_lexer.specs.declared.numbers.Base.{Base}
use Rattle.dm_lexer.specs.declared.numbers.Base.TheVariants.{Binary, Octal, Decimal, Hexadecimal}
use Rattle.dm_lexer.specs.declared.words.Class.TheVariants.{Digits}
use Rattle.dm_lexer.specs.declared.quotes.Inside.TheVariants.{Characters}
use Rattle.dm_lexer.specs.declared.blanks.Blank.TheVariants.{Absent}
use Rattle.dm_lexer.specs.TextFronts.{run}
use Rattle.dm_lexer.specs.Words.{passes}
use Rattle.dm_lexer.specs.Numbers.{begins_digit, base_of, prefix_length, digits_among, is_value, suffix_length, spoils, number_with, number_behind, behind_prefix, number_length, length_of}
use Rattle.dm_lexer.specs.Quotes.{begins, plain_opening, in_whole_lines, more, quoted_length, string_closing, segment, after_segment, one_more, behind_backslash, keeps_line, whole_lines}
use Rattle.dm_lexer.specs.Blanks.{blank_length}
use Rattle.dm_stream.specs.Trees.{token, no_trees}
use Rattle.dm_lexer.specs.Rows.{literal}
use Rattle.dm_lexer.specs.Written.{HasTrees, IsSpellable}
use Rattle.dm_lexer.proofs.KeptNumbers.{number-if}
use Rattle.dm_lexer.proofs.KeptRows.{IsKept, kept-number, kept-quoted, no-blank}
use Rattle.dm_lexer.proofs.Writables.{all-read, drop-length, all_small, small-utf8, small-chars}

-- integers

digit-in : (c : ℕ) → is_ascii_digit c ≡ true → is_digit c 10 ≡ true
digit-in c h = grind (arith, nat_tests)

digit-small : (c : ℕ) → is_ascii_digit c ≡ true → nat_lt c 128 ≡ true
digit-small c h = grind (arith, nat_tests)

digits-small : (cs : List ℕ) → all_ascii_digits cs ≡ true → all_small cs ≡ true
digits-small [] h = refl
digits-small (c ∷ cs) h =
    and_from (nat_lt c 128) (all_small cs) (digit-small c (and_parts (is_ascii_digit c) (all_ascii_digits cs) h).0)
    (digits-small cs (and_parts (is_ascii_digit c) (all_ascii_digits cs) h).1)

digits-run : (cs : List ℕ) → all_ascii_digits cs ≡ true → run (passes (Digits Decimal)) cs ≡ length cs
digits-run [] h = refl
digits-run (c ∷ cs) h =
    ap (λ v. cond (v || nat_eq c 95) (suc (run (passes (Digits Decimal)) cs)) 0) (digit-in c (and_parts (is_ascii_digit c) (all_ascii_digits cs) h).0) ∙
    ap (λ n. suc n) (digits-run cs (and_parts (is_ascii_digit c) (all_ascii_digits cs) h).1)

digits-among : (cs : List ℕ) → all_ascii_digits cs ≡ true → digits_among Decimal cs ≡ cs
digits-among [] h = refl
digits-among (c ∷ cs) h =
    ap (λ v. cond {A = List ℕ} v (c ∷ digits_among Decimal cs) (digits_among Decimal cs)) (digit-in c (and_parts (is_ascii_digit c) (all_ascii_digits cs) h).0) ∙
    ap (λ l. c ∷ l) (digits-among cs (and_parts (is_ascii_digit c) (all_ascii_digits cs) h).1)

digit-letter : (c d n : ℕ) → is_ascii_digit d ≡ true → nat_lt 57 n ≡ true → (nat_eq c 48 && nat_eq d n) ≡ false
digit-letter c d n h l = grind (arith, nat_tests)

abbrev base-by : Bool → Bool → Bool → Base
base-by x y z = cond x Binary (cond y Octal (cond z Hexadecimal Decimal))

pub digits-base : (cs : List ℕ) → all_ascii_digits cs ≡ true → base_of cs ≡ Decimal
digits-base [] h = refl
digits-base (c ∷ []) h = refl
digits-base (c ∷ d ∷ cs) h =
    let e : is_ascii_digit d ≡ true = (and_parts (is_ascii_digit d) (all_ascii_digits cs) (and_parts (is_ascii_digit c) (all_ascii_digits (d ∷ cs)) h).1).0 in
    ap (λ v. base-by v (nat_eq c 48 && nat_eq d 111) (nat_eq c 48 && nat_eq d 120)) (digit-letter c d 98 e refl) ∙
    ap (λ v. base-by false v (nat_eq c 48 && nat_eq d 120)) (digit-letter c d 111 e refl) ∙ ap (λ v. base-by false false v) (digit-letter c d 120 e refl)

abbrev with-value : Bool → ℕ → ℕ → Option (ℕ × ℕ)
with-value b n v = cond b (Some (n, v)) None

pub digits-behind : (cs : List ℕ) → all_ascii_digits cs ≡ true → is_value Decimal cs ≡ true →
    number_behind Decimal cs ≡ Some (length cs + 0, digits_value 10 cs)
digits-behind cs h v =
    let front : digits_among Decimal (take (length cs) cs) ≡ cs = ap (digits_among Decimal) (take-length cs) ∙ digits-among cs h in
    ap (λ n. number_with Decimal n cs) (digits-run cs h) ∙
    ap (λ l. cond {A = Option (ℕ × ℕ)} (spoils Decimal l) None
    (with-value (is_value Decimal (digits_among Decimal (take (length cs) cs))) (length cs + suffix_length l) (digits_value 10 (digits_among Decimal (take (length cs) cs)))))
    (drop-length cs) ∙
    ap (λ l. with-value (is_value Decimal l) (length cs + 0) (digits_value 10 l)) front ∙ ap (λ b. with-value b (length cs + 0) (digits_value 10 cs)) v

zero-both : (n : ℕ) → 0 + (n + 0) ≡ n
zero-both n = omega arith

digits-length : (cs : List ℕ) → all_ascii_digits cs ≡ true → is_value Decimal cs ≡ true → begins_digit cs ≡ true → number_length cs ≡ Some (length cs)
digits-length cs h v b =
    ap (λ w. length_of (number-if cs w)) b ∙
    ap (λ w. length_of (behind_prefix (prefix_length w) (number_behind w (drop (prefix_length w) cs)))) (digits-base cs h) ∙
    ap (λ o. length_of (behind_prefix 0 o)) (digits-behind cs h v) ∙ ap (λ n. Some n) (zero-both (length cs))

no-value : (b : Bool) → (nat_lt 0 0 && b) ≡ true → ⊥
no-value b h = cc

pub digits-begin : (cs : List ℕ) → all_ascii_digits cs ≡ true → is_value Decimal cs ≡ true → begins_digit cs ≡ true
digits-begin [] h v = absurd (cc)
digits-begin (c ∷ cs) h v = (and_parts (is_ascii_digit c) (all_ascii_digits cs) h).0

digit-blank : (cs : List ℕ) → begins_digit cs ≡ true → blank_length cs ≡ Absent
digit-blank [] h = absurd (cc)
digit-blank (c ∷ cs) h = no-blank c cs (grind (arith, nat_tests)) (grind (arith, nat_tests))

-- a literal of a kind, by all of its characters
whole-literal : (k : LitKind) (cs text : List ℕ) (s : Span) → IsUtf8 text → chars text ≡ cs → IsKept 0 (length cs) cs [] (literal k 0 cs (length cs)) →
    IsSpellable (t.Literal record { kind = k; text = text; span = s })
whole-literal k cs text s u e kept =
    let again : IsKept 0 (length cs) cs [] (lexeme.Token (t.Literal record { kind = k; text = encode_utf8_all (take (length cs) cs); span = s })) =
    record { again = kept.again; row_is = kept.row_is; same = kept.same; no_blank = kept.no_blank } in
    let same : encode_utf8_all (take (length cs) cs) ≡ text = ap encode_utf8_all (take-length cs ∙ sym e) ∙ encodes-chars text u in
    let P : List ℕ → Type 0 = λ l. HasTrees text (token (t.Literal record { kind = k; text = l; span = s }) no_trees) in
    record {
      utf8 = u;
      has = subst P same (all-read text (t.Literal record { kind = k; text = encode_utf8_all (take (length cs) cs); span = s }) cs e again);
    }

-- decimal digits of a value below 2^128
pub int-spellable : (ds : List ℕ) (s : Span) → all_ascii_digits ds ≡ true → is_value Decimal ds ≡ true →
    IsSpellable (t.Literal record { kind = kind.Int; text = ds; span = s })
int-spellable ds s h v =
    let small : all_small ds ≡ true = digits-small ds h in
    let b : begins_digit ds ≡ true = digits-begin ds h v in
    whole-literal kind.Int ds ds s (small-utf8 ds small) (small-chars ds small)
    (kept-number 0 0 (length ds) ds [] (literal kind.Int 0 ds (length ds)) refl (digit-blank ds b) b (digits-length ds h v b) refl)

-- strings

-- with `\` before `"` and `\`
abbrev pub escaped : List ℕ → List ℕ
escaped [] = []
escaped (c ∷ cs) = cond (nat_eq c 34 || nat_eq c 92) (92 ∷ c ∷ escaped cs) (c ∷ escaped cs)

-- the characters of a string literal
abbrev pub in_quotes : List ℕ → List ℕ
in_quotes cs = 34 ∷ (escaped cs ++ 34 ∷ [])

abbrev ends-all : List ℕ → Type 0
ends-all l = string_closing Characters 0 l ≡ Some (length l)

ends-plain : (c : ℕ) (l : List ℕ) → nat_eq c 34 ≡ false → nat_eq c 92 ≡ false → ends-all l → ends-all (c ∷ l)
ends-plain c l h k e =
    ap (λ v. cond v (Some 1) (after_segment (segment Characters (c ∷ l)) (λ n. one_more (string_closing Characters n l)))) h ∙
    ap (λ v. after_segment (cond v (behind_backslash Characters l) (Some record { size = 1; means = Some c })) (λ n. one_more (string_closing Characters n l))) k ∙ ap one_more e

ends-quote : (l : List ℕ) → ends-all l → ends-all (92 ∷ 34 ∷ l)
ends-quote l e = ap (λ o. one_more (one_more o)) e

ends-backslash : (l : List ℕ) → ends-all l → ends-all (92 ∷ 92 ∷ l)
ends-backslash l e = ap (λ o. one_more (one_more o)) e

is-code : (c d : ℕ) → nat_eq c d ≡ true → c ≡ d
is-code c d h = grind (arith, nat_tests)

ends-if : (c : ℕ) (cs : List ℕ) (x y : Bool) → nat_eq c 34 ≡ x → nat_eq c 92 ≡ y → ends-all (escaped cs ++ 34 ∷ []) →
    ends-all (cond {A = List ℕ} (x || y) (92 ∷ c ∷ escaped cs) (c ∷ escaped cs) ++ 34 ∷ [])
ends-if c cs true y h k e =
    let P : ℕ → Type 0 = λ d. ends-all (92 ∷ d ∷ (escaped cs ++ 34 ∷ [])) in
    subst P (sym (is-code c 34 h)) (ends-quote (escaped cs ++ 34 ∷ []) e)
ends-if c cs false true h k e =
    let P : ℕ → Type 0 = λ d. ends-all (92 ∷ d ∷ (escaped cs ++ 34 ∷ [])) in
    subst P (sym (is-code c 92 k)) (ends-backslash (escaped cs ++ 34 ∷ []) e)
ends-if c cs false false h k e = ends-plain c (escaped cs ++ 34 ∷ []) h k e

escaped-ends : (cs : List ℕ) → ends-all (escaped cs ++ 34 ∷ [])
escaped-ends [] = refl
escaped-ends (c ∷ cs) = ends-if c cs (nat_eq c 34) (nat_eq c 92) refl refl (escaped-ends cs)

-- lines

line-begins : (cs : List ℕ) → begins 10 cs ≡ true → begins 10 (escaped cs ++ 34 ∷ []) ≡ true
line-begins [] h = absurd (cc)
line-begins (c ∷ cs) h =
    let P : ℕ → Type 0 = λ d. begins 10 (escaped (d ∷ cs) ++ 34 ∷ []) ≡ true in
    subst P (sym (is-code c 10 h)) refl

line-if : (b : Bool) (cs : List ℕ) → cond b (begins 10 cs) true ≡ true → cond b (begins 10 (escaped cs ++ 34 ∷ [])) true ≡ true
line-if true cs h = line-begins cs h
line-if false cs h = refl

other-line : (c d : ℕ) (l : List ℕ) → nat_eq c d ≡ true → nat_eq d 13 ≡ false → keeps_line c l ≡ true
other-line c d l h k =
    let e : nat_eq c 13 ≡ false = grind (arith, nat_tests) in
    ap (λ v. cond v (begins 10 l) true) e

lines-if : (c : ℕ) (cs : List ℕ) (x y : Bool) → nat_eq c 34 ≡ x → nat_eq c 92 ≡ y → keeps_line c cs ≡ true → whole_lines (escaped cs ++ 34 ∷ []) ≡ true →
    whole_lines (cond {A = List ℕ} (x || y) (92 ∷ c ∷ escaped cs) (c ∷ escaped cs) ++ 34 ∷ []) ≡ true
lines-if c cs true y h k l w = and_from (keeps_line c (escaped cs ++ 34 ∷ [])) (whole_lines (escaped cs ++ 34 ∷ [])) (other-line c 34 (escaped cs ++ 34 ∷ []) h refl) w
lines-if c cs false true h k l w = and_from (keeps_line c (escaped cs ++ 34 ∷ [])) (whole_lines (escaped cs ++ 34 ∷ [])) (other-line c 92 (escaped cs ++ 34 ∷ []) k refl) w
lines-if c cs false false h k l w =
    and_from (keeps_line c (escaped cs ++ 34 ∷ [])) (whole_lines (escaped cs ++ 34 ∷ [])) (line-if (nat_eq c 13) cs l) w

escaped-lines : (cs : List ℕ) → whole_lines cs ≡ true → whole_lines (escaped cs ++ 34 ∷ []) ≡ true
escaped-lines [] h = refl
escaped-lines (c ∷ cs) h =
    lines-if c cs (nat_eq c 34) (nat_eq c 92) refl refl (and_parts (keeps_line c cs) (whole_lines cs) h).0
    (escaped-lines cs (and_parts (keeps_line c cs) (whole_lines cs) h).1)

-- scalars

scalars-if : (c : ℕ) (cs : List ℕ) (b : Bool) → scalar c ≡ true → scalars (escaped cs ++ 34 ∷ []) ≡ true →
    scalars (cond {A = List ℕ} b (92 ∷ c ∷ escaped cs) (c ∷ escaped cs) ++ 34 ∷ []) ≡ true
scalars-if c cs true h k = and_from (scalar c) (scalars (escaped cs ++ 34 ∷ [])) h k
scalars-if c cs false h k = and_from (scalar c) (scalars (escaped cs ++ 34 ∷ [])) h k

escaped-scalars : (cs : List ℕ) → scalars cs ≡ true → scalars (escaped cs ++ 34 ∷ []) ≡ true
escaped-scalars [] h = refl
escaped-scalars (c ∷ cs) h =
    scalars-if c cs (nat_eq c 34 || nat_eq c 92) (and_parts (scalar c) (scalars cs) h).0 (escaped-scalars cs (and_parts (scalar c) (scalars cs) h).1)

one-more : (n : ℕ) → 1 + n ≡ suc n
one-more n = omega arith

quotes-length : (cs : List ℕ) → whole_lines cs ≡ true → quoted_length (plain_opening kind.Str 1) (in_quotes cs) ≡ Some (length (in_quotes cs))
quotes-length cs h =
    let all : List ℕ = in_quotes cs in
    let whole : whole_lines (take (length all) all) ≡ true = ap whole_lines (take-length all) ∙ escaped-lines cs h in
    ap (λ o. in_whole_lines all (more 1 o)) (escaped-ends cs) ∙ ap (λ n. in_whole_lines all (Some n)) (one-more (length (escaped cs ++ 34 ∷ []))) ∙
    ap (λ v. cond {A = Option ℕ} v (Some (length all)) None) whole

-- the string literal of any characters in which each CR stands before an LF
pub str-spellable : (cs : List ℕ) (s : Span) → scalars cs ≡ true → whole_lines cs ≡ true →
    IsSpellable (t.Literal record { kind = kind.Str; text = encode_utf8_all (in_quotes cs); span = s })
str-spellable cs s u h =
    let all : List ℕ = in_quotes cs in
    let ok : scalars all ≡ true = escaped-scalars cs u in
    let e : chars (encode_utf8_all all) ≡ all = chars-encodes all ok in
    whole-literal kind.Str all (encode_utf8_all all) s (all, (ok, refl)) e
    (kept-quoted 0 0 (length all) all [] (literal kind.Str 0 all (length all)) (plain_opening kind.Str 1) (no-blank 34 (escaped cs ++ 34 ∷ []) refl refl) refl
    (quotes-length cs h) refl)
