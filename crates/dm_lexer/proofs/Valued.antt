-- The strings that are read have values.
use Rattle.std.specs.Prelude.{◌≡◌, ℕ, zero, suc, ◌+◌, ◌-◌, ◌<◌, ◌≤◌, Bool, true, false, List, [], ◌∷◌, ◌++◌, length, take, drop, encode_utf8, refl, cond, nat_eq, nat_lt, ◌&&◌, Option, Some, None, option_map, IsSome, ⊤}
use Rattle.std.proofs.Common.{ap, ◌∙◌, sym, subst, arith, length-take, take-take}
use Rattle.std.proofs.Math.Utf8.{scalar, scalars}
use Rattle.std.proofs.lemmas.Bool.{and_parts}
use Rattle.std.proofs.lemmas.Bool.Decides.{nat_tests}
use Rattle.std.proofs.lemmas.Str.{chars-encodes, scalars-chars}
use Rattle.std.specs.Str.{chars, encode_utf8_all}
use Rattle.dm_stream.specs.declared.tokens.LitKind.{LitKind}
use Rattle.dm_stream.specs.declared.tokens.LitKind.TheVariants as kind
use Rattle.dm_stream.specs.declared.tokens.Delim.{Delim}
use Rattle.dm_lexer.specs.declared.quotes.Inside.TheVariants.{Characters}
use Rattle.dm_lexer.specs.declared.quotes.Opening.{Opening}
use Rattle.dm_lexer.specs.declared.lexing.Lexeme.{Lexeme}
use Rattle.dm_lexer.specs.declared.lexing.Lexeme.TheVariants as lexeme
use Rattle.dm_lexer.specs.declared.blanks.Blank.{Blank}
use Rattle.dm_lexer.specs.declared.blanks.Blank.TheVariants.{Absent, Size, Unclosed}
use Rattle.dm_lexer.specs.TextFronts.{run}
use Rattle.dm_lexer.specs.Words.{begins_word, begins_raw_word, word_length, raw_word_length, goes_on}
use Rattle.dm_lexer.specs.Numbers.{begins_digit, number_length}
use Rattle.dm_lexer.specs.Lexemes.{opened_by, closed_by, is_punct}
use Rattle.dm_lexer.specs.Blanks.{blank_length}
use Rattle.dm_lexer.specs.Quotes.{begins, is_hash, opens_raw, more, body, whole_lines, in_whole_lines, plain_opening, raw_opening, second_raw, byte_opening, c_opening, opening, quoted_length, char_length, lifetime_length, string_closing, raw_closing}
use Rattle.dm_lexer.specs.Rows.{Row, gives, refuses, passes, or_row, row_of, literal, word, raw_word, quoted, quoted_row, tick, tick_row, raw_row, word_row, number_row, opens, closes, puncts, punct, mark_row, unquoted_row, row, Reading, reading, read_front}
use Rattle.dm_stream.specs.Trees.{Trees, no_trees, token, group}
use Rattle.dm_lexer.specs.Nesting.{marks}
use Rattle.dm_lexer.specs.Values.{takes_all, whole_by, whole_opening, meant_behind, meant, str_value, is_string, HasValue, AllHaveValues, StringsHaveValues}
use Rattle.dm_lexer.proofs.Kept.{cut-nothing, run-cut, begins-cut, string_closing-cut, raw-cut}
use Rattle.dm_lexer.proofs.LexChars.{scalars-take}

-- what is found in a front alone

run-take : (p : ℕ → Bool) (m : ℕ) (cs : List ℕ) → run p cs < m → run p (take m cs) ≡ run p cs
run-take p m cs l = ap (run p) (sym (cut-nothing m cs)) ∙ run-cut p m cs [] l

begins-take : (d n m : ℕ) (cs : List ℕ) → n < m → begins d (drop n (take m cs)) ≡ begins d (drop n cs)
begins-take d n m cs l = ap (λ v. begins d (drop n v)) (sym (cut-nothing m cs)) ∙ begins-cut d n m cs [] l

string_closing-take : (n m : ℕ) (cs : List ℕ) → string_closing Characters n cs ≡ Some m → string_closing Characters n (take m cs) ≡ Some m
string_closing-take n m cs h = ap (string_closing Characters n) (sym (cut-nothing m cs)) ∙ string_closing-cut Characters n m cs [] h

raw-take : (hashes m : ℕ) (cs : List ℕ) → raw_closing hashes cs ≡ Some m → raw_closing hashes (take m cs) ≡ Some m
raw-take hashes m cs h = ap (raw_closing hashes) (sym (cut-nothing m cs)) ∙ raw-cut hashes m cs [] h

-- the body of a string, with nothing behind it
body-take : (k : LitKind) (hashes m : ℕ) (cs : List ℕ) → is_string k ≡ true → body k hashes cs ≡ Some m → body k hashes (take m cs) ≡ Some m
body-take kind.Str hashes m cs s h = string_closing-take 0 m cs h
body-take kind.RawStr hashes m cs s h = raw-take hashes m cs h
body-take kind.ByteStr hashes m cs s h = absurd (cc)
body-take kind.RawByteStr hashes m cs s h = absurd (cc)
body-take kind.CStr hashes m cs s h = absurd (cc)
body-take kind.RawCStr hashes m cs s h = absurd (cc)
body-take kind.Char hashes m cs s h = absurd (cc)
body-take kind.Byte hashes m cs s h = absurd (cc)
body-take kind.Int hashes m cs s h = absurd (cc)

suc-add : (n m : ℕ) → suc n + m ≡ suc (n + m)
suc-add n m = omega arith

zero-plus : (m : ℕ) → 0 + m ≡ m
zero-plus m = omega arith

drop-nil : (n : ℕ) → drop {A = ℕ} n [] ≡ []
drop-nil zero = refl
drop-nil (suc n) = refl

take-nil : (n : ℕ) → take {A = ℕ} n [] ≡ []
take-nil zero = refl
take-nil (suc n) = refl

drop-take : (n m : ℕ) (cs : List ℕ) → drop n (take (n + m) cs) ≡ take m (drop n cs)
drop-take zero m cs = ap (λ i. take i cs) (zero-plus m)
drop-take (suc n) m [] = ap (drop (suc n)) (take-nil (suc n + m)) ∙ sym (take-nil m)
drop-take (suc n) m (c ∷ cs) = ap (λ i. drop (suc n) (take i (c ∷ cs))) (suc-add n m) ∙ drop-take n m cs

-- openings of strings

data Opens (o : Opening) (c : ℕ) (cs : List ℕ) : Type 0 where
  plain : nat_eq c 34 ≡ true → plain_opening kind.Str 1 ≡ o → Opens o c cs
  raw : nat_eq c 34 ≡ false → nat_eq c 98 ≡ false → nat_eq c 99 ≡ false → nat_eq c 114 ≡ true → opens_raw cs ≡ true →
      record { kind = kind.RawStr; hashes = run is_hash cs; size = run is_hash cs + 1 + 1 } ≡ o → Opens o c cs

no_string : (p o : Opening) → Some p ≡ Some o → is_string p.kind ≡ false → is_string o.kind ≡ true → ⊥
no_string p o h f s = let e : p ≡ o = cc in absurd (cc)

raw-none : (k : LitKind) (n : ℕ) (cs : List ℕ) (b : Bool) (o : Opening) → is_string k ≡ false →
    cond {A = Option Opening} b (Some record { kind = k; hashes = run is_hash cs; size = run is_hash cs + n + 1 }) None ≡ Some o → is_string o.kind ≡ true → ⊥
raw-none k n cs true o f h s = no_string record { kind = k; hashes = run is_hash cs; size = run is_hash cs + n + 1 } o h f s
raw-none k n cs false o f h s = absurd (cc)

second-if : (k : LitKind) (cs : List ℕ) (b : Bool) (o : Opening) → is_string k ≡ false → cond {A = Option Opening} b (raw_opening k 2 cs) None ≡ Some o →
    is_string o.kind ≡ true → ⊥
second-if k cs true o f h s = raw-none k 2 cs (opens_raw cs) o f h s
second-if k cs false o f h s = absurd (cc)

second-none : (k : LitKind) (cs : List ℕ) (o : Opening) → is_string k ≡ false → second_raw k cs ≡ Some o → is_string o.kind ≡ true → ⊥
second-none k [] o f h s = absurd (cc)
second-none k (c ∷ cs) o f h s = second-if k cs (nat_eq c 114) o f h s

byte-none : (cs : List ℕ) (x y : Bool) (o : Opening) →
    cond {A = Option Opening} x (Some (plain_opening kind.ByteStr 2)) (cond {A = Option Opening} y (Some (plain_opening kind.Byte 2)) (second_raw kind.RawByteStr cs)) ≡ Some o →
    is_string o.kind ≡ true → ⊥
byte-none cs true y o h s = no_string (plain_opening kind.ByteStr 2) o h refl s
byte-none cs false true o h s = no_string (plain_opening kind.Byte 2) o h refl s
byte-none cs false false o h s = second-none kind.RawByteStr cs o refl h s

c-none : (cs : List ℕ) (x : Bool) (o : Opening) →
    cond {A = Option Opening} x (Some (plain_opening kind.CStr 2)) (second_raw kind.RawCStr cs) ≡ Some o → is_string o.kind ≡ true → ⊥
c-none cs true o h s = no_string (plain_opening kind.CStr 2) o h refl s
c-none cs false o h s = second-none kind.RawCStr cs o refl h s

raw-opens : (c : ℕ) (cs : List ℕ) (b : Bool) (o : Opening) → nat_eq c 34 ≡ false → nat_eq c 98 ≡ false → nat_eq c 99 ≡ false → nat_eq c 114 ≡ true → opens_raw cs ≡ b →
    cond {A = Option Opening} b (Some record { kind = kind.RawStr; hashes = run is_hash cs; size = run is_hash cs + 1 + 1 }) None ≡ Some o → Opens o c cs
raw-opens c cs true o x y z w b h = raw x y z w b (cc)
raw-opens c cs false o x y z w b h = absurd (cc)

opens-if : (c : ℕ) (cs : List ℕ) (x y z w : Bool) (o : Opening) → nat_eq c 34 ≡ x → nat_eq c 98 ≡ y → nat_eq c 99 ≡ z → nat_eq c 114 ≡ w →
    cond {A = Option Opening} x (Some (plain_opening kind.Str 1))
    (cond {A = Option Opening} y (byte_opening cs) (cond {A = Option Opening} z (c_opening cs) (cond {A = Option Opening} w (raw_opening kind.RawStr 1 cs) None))) ≡ Some o →
    is_string o.kind ≡ true → Opens o c cs
opens-if c cs true y z w o i j k l h s = plain i (cc)
opens-if c cs false true z w o i j k l h s = absurd (byte-none cs (begins 34 cs) (begins 39 cs) o h s)
opens-if c cs false false true w o i j k l h s = absurd (c-none cs (begins 34 cs) o h s)
opens-if c cs false false false true o i j k l h s = raw-opens c cs (opens_raw cs) o i j k l refl h
opens-if c cs false false false false o i j k l h s = absurd (cc)

abbrev opens-with : ℕ → List ℕ → Bool → Bool → Bool → Bool → Option Opening
opens-with c cs x y z w =
    cond x (Some (plain_opening kind.Str 1))
    (cond y (byte_opening cs) (cond z (c_opening cs) (cond w (raw_opening kind.RawStr 1 cs) None)))

abbrev raw-with : List ℕ → Bool → ℕ → Option Opening
raw-with cs b n = cond b (Some record { kind = kind.RawStr; hashes = n; size = n + 1 + 1 }) None

opens_raw-take : (m : ℕ) (cs : List ℕ) → run is_hash cs < m → opens_raw (take m cs) ≡ opens_raw cs
opens_raw-take m cs l =
    let r = run-take is_hash m cs l in
    ap (λ n. nat_lt n 256 && begins 34 (drop n (take m cs))) r ∙ ap (λ v. nat_lt (run is_hash cs) 256 && v) (begins-take 34 (run is_hash cs) m cs l)

opens-take : (o : Opening) (c m : ℕ) (cs : List ℕ) → Opens o c cs → o.size ≤ suc m → opening (c ∷ take m cs) ≡ Some o
opens-take o c m cs (plain i e) l =
    ap (λ v. opens-with c (take m cs) v (nat_eq c 98) (nat_eq c 99) (nat_eq c 114)) i ∙ ap (λ v. Some v) e
opens-take o c m cs (raw i j k w b e) l =
    let s : run is_hash cs + 1 + 1 ≡ o.size = ap (λ (v : Opening). v.size) e in
    let r : run is_hash cs < m = omega (arith, s, l) in
    ap (λ v. opens-with c (take m cs) v (nat_eq c 98) (nat_eq c 99) (nat_eq c 114)) i ∙
    ap (λ v. opens-with c (take m cs) false v (nat_eq c 99) (nat_eq c 114)) j ∙
    ap (λ v. opens-with c (take m cs) false false v (nat_eq c 114)) k ∙
    ap (λ v. opens-with c (take m cs) false false false v) w ∙
    ap (λ v. raw-with (take m cs) v (run is_hash (take m cs))) (opens_raw-take m cs r ∙ b) ∙
    ap (raw-with (take m cs) true) (run-take is_hash m cs r) ∙ ap (λ v. Some v) e

opens-some : (o : Opening) (c m : ℕ) (cs : List ℕ) → Opens o c cs → 0 < o.size
opens-some o c m cs (plain i e) = let s : 1 ≡ o.size = ap (λ (v : Opening). v.size) e in omega (arith, s)
opens-some o c m cs (raw i j k w b e) = let s : run is_hash cs + 1 + 1 ≡ o.size = ap (λ (v : Opening). v.size) e in omega (arith, s)

opening-take : (o : Opening) (n : ℕ) (cs : List ℕ) → opening cs ≡ Some o → is_string o.kind ≡ true → o.size ≤ n → opening (take n cs) ≡ Some o
opening-take o n [] h s l = absurd (cc)
opening-take o zero (c ∷ cs) h s l =
    let p = opens-if c cs (nat_eq c 34) (nat_eq c 98) (nat_eq c 99) (nat_eq c 114) o refl refl refl refl h s in
    absurd (omega (arith, l, opens-some o c 0 cs p))
opening-take o (suc n) (c ∷ cs) h s l =
    opens-take o c n cs (opens-if c cs (nat_eq c 34) (nat_eq c 98) (nat_eq c 99) (nat_eq c 114) o refl refl refl refl h s) l

-- the whole literal

more-some : (n m : ℕ) (o : Option ℕ) → more n o ≡ Some m → (k : ℕ) × (o ≡ Some k) × (n + k ≡ m)
more-some n m None h = absurd (cc)
more-some n m (Some k) h = let e : n + k ≡ m = cc in (k, refl, e)

lines-if : (b : Bool) (m n : ℕ) → cond {A = Option ℕ} b (Some m) None ≡ Some n → (m ≡ n) × (b ≡ true)
lines-if true m n h = (cc, refl)
lines-if false m n h = absurd (cc)

lines-some : (cs : List ℕ) (o : Option ℕ) (n : ℕ) → in_whole_lines cs o ≡ Some n → (o ≡ Some n) × (whole_lines (take n cs) ≡ true)
lines-some cs None n h = absurd (cc)
lines-some cs (Some m) n h =
    let r = lines-if (whole_lines (take m cs)) m n h in
    (ap (λ v. Some v) r.0, ap (λ v. whole_lines (take v cs)) (sym r.0) ∙ r.1)

all-taken : (n : ℕ) (cs : List ℕ) → nat_lt n (length (take n cs)) ≡ false
all-taken n cs = let e = length-take n cs in grind (arith, nat_tests)

quoted-take : (o : Opening) (cs : List ℕ) (n : ℕ) → opening cs ≡ Some o → quoted_length o cs ≡ Some n → is_string o.kind ≡ true →
    whole_opening (take n cs) ≡ Some o
quoted-take o cs n h q s =
    let lines = lines-some cs (more o.size (body o.kind o.hashes (drop o.size cs))) n q in
    let size = more-some o.size n (body o.kind o.hashes (drop o.size cs)) lines.0 in
    let k : ℕ = size.0 in
    let sum : o.size + k ≡ n = size.2 in
    let fits : o.size ≤ n = omega (arith, sum) in
    let front : List ℕ = take n cs in
    let inside : drop o.size front ≡ take k (drop o.size cs) = ap (λ i. drop o.size (take i cs)) (sym sum) ∙ drop-take o.size k cs in
    let ended : body o.kind o.hashes (drop o.size front) ≡ Some k =
    ap (body o.kind o.hashes) inside ∙ body-take o.kind o.hashes k (drop o.size cs) s size.1 in
    let whole : whole_lines (take n front) ≡ true = ap whole_lines (take-take n n cs (omega arith)) ∙ lines.1 in
    let found : quoted_length o front ≡ Some n =
    ap (λ v. in_whole_lines front (more o.size v)) ended ∙ ap (λ v. in_whole_lines front (Some v)) sum ∙
    ap (λ v. cond {A = Option ℕ} v (Some n) None) whole in
    ap (λ v. whole_by v front) (opening-take o n cs h s fits) ∙ ap (λ v. cond {A = Option Opening} (takes_all v front) (Some o) None) found ∙
    ap (λ v. cond {A = Option Opening} (cond v false true) (Some o) None) (all-taken n cs)

-- what the characters of a front mean

meant-some : (k : LitKind) (hashes : ℕ) (cs : List ℕ) → is_string k ≡ true → IsSome (option_map encode_utf8_all (meant_behind k k hashes cs))
meant-some kind.Str hashes cs s = refl
meant-some kind.RawStr hashes cs s = refl
meant-some kind.ByteStr hashes cs s = absurd (cc)
meant-some kind.RawByteStr hashes cs s = absurd (cc)
meant-some kind.CStr hashes cs s = absurd (cc)
meant-some kind.RawCStr hashes cs s = absurd (cc)
meant-some kind.Char hashes cs s = absurd (cc)
meant-some kind.Byte hashes cs s = absurd (cc)
meant-some kind.Int hashes cs s = absurd (cc)

value-some : (o : Opening) (cs : List ℕ) (n : ℕ) → scalars cs ≡ true → opening cs ≡ Some o → quoted_length o cs ≡ Some n → is_string o.kind ≡ true →
    IsSome (str_value o.kind (encode_utf8_all (take n cs)))
value-some o cs n u h q s =
    let P : Option (List ℕ) → Type 0 = λ v. IsSome v in
    let same : chars (encode_utf8_all (take n cs)) ≡ take n cs = chars-encodes (take n cs) (scalars-take n cs u) in
    let e : str_value o.kind (encode_utf8_all (take n cs)) ≡ option_map encode_utf8_all (meant_behind o.kind o.kind o.hashes (drop o.size (take n cs))) =
    ap (λ l. option_map encode_utf8_all (meant o.kind (whole_opening l) l)) same ∙
    ap (λ v. option_map encode_utf8_all (meant o.kind v (take n cs))) (quoted-take o cs n h q s) in
    subst P (sym e) (meant-some o.kind o.hashes (drop o.size (take n cs)) s)

-- rows

abbrev Valued : Lexeme → Type 0
Valued (lexeme.Token t) = HasValue t
Valued (lexeme.Open d s) = ⊤
Valued (lexeme.Close d s) = ⊤

abbrev RowValued : Row → Type 0
RowValued (gives x n) = Valued x
RowValued (refuses n) = ⊤
RowValued passes = ⊤

or-valued : (a b : Row) → RowValued a → RowValued b → RowValued (or_row a b)
or-valued (gives x n) b h k = h
or-valued (refuses n) b h k = h
or-valued passes b h k = k

if-valued : (b : Bool) (r : Row) → RowValued r → RowValued (cond b r passes)
if-valued true r h = h
if-valued false r h = tt

of-valued : (o : Option ℕ) (f : ℕ → Lexeme) (n : ℕ) → ((k : ℕ) → Valued (f k)) → RowValued (row_of o f n)
of-valued None f n h = tt
of-valued (Some k) f n h = h k

length-valued : (at : ℕ) (cs : List ℕ) (o : Opening) (found : Option ℕ) → scalars cs ≡ true → opening cs ≡ Some o → quoted_length o cs ≡ found →
    RowValued (row_of found (literal o.kind at cs) o.size)
length-valued at cs o None u h q = tt
length-valued at cs o (Some n) u h q = λ s. value-some o cs n u h q s

quoted-valued : (at : ℕ) (cs : List ℕ) (found : Option Opening) → scalars cs ≡ true → opening cs ≡ found → RowValued (quoted at cs found)
quoted-valued at cs None u h = tt
quoted-valued at cs (Some o) u h = length-valued at cs o (quoted_length o cs) u h refl

tick-valued : (at : ℕ) (cs : List ℕ) (char name : Option ℕ) → RowValued (tick at cs char name)
tick-valued at cs (Some n) name = λ s. absurd (cc)
tick-valued at cs None (Some n) = tt
tick-valued at cs None None = tt

opens-valued : (at : ℕ) (o : Option Delim) → RowValued (opens at o)
opens-valued at None = tt
opens-valued at (Some d) = tt

closes-valued : (at : ℕ) (o : Option Delim) → RowValued (closes at o)
closes-valued at None = tt
closes-valued at (Some d) = tt

mark-valued : (at : ℕ) (cs : List ℕ) → RowValued (mark_row at cs)
mark-valued at [] = tt
mark-valued at (c ∷ cs) =
    or-valued (opens at (opened_by c)) (or_row (closes at (closed_by c)) (or_row (puncts at c cs) (refuses 1))) (opens-valued at (opened_by c))
    (or-valued (closes at (closed_by c)) (or_row (puncts at c cs) (refuses 1)) (closes-valued at (closed_by c))
    (or-valued (puncts at c cs) (refuses 1) (if-valued (is_punct c) (gives (punct at c cs) 1) tt) tt))

unquoted-valued : (at : ℕ) (cs : List ℕ) → RowValued (unquoted_row at cs)
unquoted-valued at cs =
    or-valued (raw_row at cs) (or_row (word_row at cs) (or_row (number_row at cs) (mark_row at cs)))
    (if-valued (begins_raw_word cs) (row_of (raw_word_length cs) (raw_word at cs) 2) (of-valued (raw_word_length cs) (raw_word at cs) 2 (λ k. tt)))
    (or-valued (word_row at cs) (or_row (number_row at cs) (mark_row at cs))
    (if-valued (begins_word cs) (row_of (word_length cs) (word at cs) 1) (of-valued (word_length cs) (word at cs) 1 (λ k. tt)))
    (or-valued (number_row at cs) (mark_row at cs)
    (if-valued (begins_digit cs) (row_of (number_length cs) (literal kind.Int at cs) (run goes_on cs))
    (of-valued (number_length cs) (literal kind.Int at cs) (run goes_on cs) (λ k s. absurd (cc))))
    (mark-valued at cs)))

row-valued : (at : ℕ) (cs : List ℕ) → scalars cs ≡ true → RowValued (row at cs)
unfolding row
row-valued at cs u =
    or-valued (quoted_row at cs) (or_row (tick_row at cs) (unquoted_row at cs)) (quoted-valued at cs (opening cs) u refl)
    (or-valued (tick_row at cs) (unquoted_row at cs)
    (if-valued (begins 39 cs) (tick at cs (char_length cs) (lifetime_length cs)) (tick-valued at cs (char_length cs) (lifetime_length cs)))
    (unquoted-valued at cs))

-- texts

abbrev AllValued : List Lexeme → Type 0
AllValued [] = ⊤
AllValued (x ∷ xs) = Valued x × AllValued xs

given-valued : (at : ℕ) (cs : List ℕ) (r : Row) (b : Blank) (next : ℕ → Reading) → RowValued r → ((k : ℕ) → AllValued (next k).lexemes) →
    AllValued (read_front at cs b r next).lexemes
given-valued at cs r (Size k) next h f = f (k - 1)
given-valued at cs r Unclosed next h f = tt
given-valued at cs (gives x k) Absent next h f = (h, f (k - 1))
given-valued at cs (refuses k) Absent next h f = tt
given-valued at cs passes Absent next h f = tt

reading-valued : (at skip : ℕ) (cs : List ℕ) → scalars cs ≡ true → AllValued (reading at skip cs).lexemes
reading-valued at zero [] u = tt
reading-valued at (suc n) [] u = tt
reading-valued at zero (c ∷ cs) u =
    given-valued at (c ∷ cs) (row at (c ∷ cs)) (blank_length (c ∷ cs)) (λ more. reading (at + length (encode_utf8 c)) more cs) (row-valued at (c ∷ cs) u)
    (λ more. reading-valued (at + length (encode_utf8 c)) more cs (and_parts (scalar c) (scalars cs) u).1)
reading-valued at (suc n) (c ∷ cs) u = reading-valued (at + length (encode_utf8 c)) n cs (and_parts (scalar c) (scalars cs) u).1

valued-left : (xs ys : List Lexeme) → AllValued (xs ++ ys) → AllValued xs
valued-left [] ys h = tt
valued-left (x ∷ xs) ys h = (h.0, valued-left xs ys h.1)

valued-right : (xs ys : List Lexeme) → AllValued (xs ++ ys) → AllValued ys
valued-right [] ys h = h
valued-right (x ∷ xs) ys h = valued-right xs ys h.1

trees-valued : (ts : Trees) → AllValued (marks ts) → AllHaveValues ts
trees-valued no_trees h = tt
trees-valued (token t rest) h = (h.0, trees-valued rest h.1)
trees-valued (group d from inside upto rest) h =
    let behind = valued-right (marks inside) (lexeme.Close d upto ∷ marks rest) h.1 in
    (trees-valued inside (valued-left (marks inside) (lexeme.Close d upto ∷ marks rest) h.1), trees-valued rest behind.1)

pub strings-valued : StringsHaveValues
strings-valued text ts u h =
    let P : Reading → Type 0 = λ r. AllValued r.lexemes in
    trees-valued ts (subst P h (reading-valued 0 0 (chars text) (scalars-chars text u)))
