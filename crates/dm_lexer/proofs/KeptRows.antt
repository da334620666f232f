-- A row of the table finds its token again where other characters stand behind the token.
use Rattle.std.specs.Prelude.{◌≡◌, ℕ, zero, suc, ◌+◌, ◌<◌, ◌≤◌, Bool, true, false, ◌||◌, ◌&&◌, nat_eq, nat_lt, cond, Option, Some, None, List, [], ◌∷◌, take, drop, refl}
use Rattle.std.proofs.Common.{ap, ◌∙◌, sym, subst, arith}
use Rattle.std.proofs.lemmas.Bool.{and_from, and_parts}
use Rattle.std.proofs.lemmas.Bool.Decides.{nat_tests}
use Rattle.std.specs.Str.{encode_utf8_all}
use Rattle.std.specs.Char.{is_ascii_alphabetic}
use Rattle.unicode_ident.proofs.IdentLemmas.{is_xid_start-ascii}
use Rattle.dm_stream.specs.declared.tokens.LitKind.{LitKind}
use Rattle.dm_stream.specs.declared.tokens.LitKind.TheVariants as kind
use Rattle.dm_stream.specs.declared.tokens.Token.TheVariants as t
use Rattle.dm_lexer.specs.declared.lexing.Lexeme.{Lexeme}
use Rattle.dm_lexer.specs.declared.lexing.Lexeme.TheVariants as lexeme
use Rattle.dm_lexer.specs.declared.quotes.Opening.{Opening}
use Rattle.dm_lexer.specs.declared.quotes.Segment.{Segment}
use Rattle.dm_lexer.specs.declared.quotes.Inside.TheVariants.{Characters, Bytes, Anything}
use Rattle.dm_lexer.specs.declared.blanks.Blank.{Blank}
use Rattle.dm_lexer.specs.declared.blanks.Blank.TheVariants.{Absent, Size}
use Rattle.dm_lexer.specs.declared.words.Class.TheVariants.{Line}
use Rattle.dm_lexer.specs.TextFronts.{run}
use Rattle.dm_lexer.specs.Words.{begins_pair, begins_word, word_length, begins_raw_word, raw_word_length, is_never_raw, word_bytes, goes_on, starts_word, passes as in_class}
use Rattle.dm_lexer.specs.Numbers.{begins_digit, number_length}
use Rattle.dm_lexer.specs.Quotes.{begins, is_hash, opens_raw, more, body, whole_lines, in_whole_lines, plain_opening, raw_opening, second_raw, byte_opening, c_opening, opening, quoted_length, escape, is_lone, closed_by_tick, lone_closing, char_length, begins_raw, is_lifetime, lifetime_length}
use Rattle.dm_lexer.specs.Blanks.{is_blank_char, block, comment_closing, blank_length}
use Rattle.dm_lexer.specs.Rows.{Row, gives, refuses, passes, or_row, row_of, word, raw_word, lifetime, literal, quoted, quoted_row, tick, tick_row, raw_row, word_row, number_row, mark_row, unquoted_row, row}
use Rattle.dm_stream.specs.Layout.{nowhere}
use Rattle.dm_lexer.specs.Written.{unplaced_token}
use Rattle.dm_lexer.proofs.RowSteps.{starts-goes_on, some-only, raw_count, word-positive, number-positive}
use Rattle.dm_lexer.proofs.Kept.{cut, take-cut, drop-cut, run-cut, run-end, begins-cut, string_closing-cut, string_closing-skip, raw-cut, raw-some, lone-cut, lone-some}
use Rattle.dm_lexer.proofs.Stops.{is_stopped, stop-each, goes-no_ascii, is_tame, tame-stopped, tame-word, tame-quote, tame-tick, tame-hash, tame-raw, tame-pair, other-pair, stopped-run}
use Rattle.dm_lexer.proofs.KeptNumbers.{drop-run, word-begun, number-cut}

-- lexemes without their ranges
abbrev pub unplaced_lexeme : Lexeme → Lexeme
unplaced_lexeme (lexeme.Token k) = lexeme.Token (unplaced_token k)
unplaced_lexeme (lexeme.Open d s) = lexeme.Open d nowhere
unplaced_lexeme (lexeme.Close d s) = lexeme.Close d nowhere

-- the rows of the table, one by one

row-quoted : (at n : ℕ) (cs : List ℕ) (o : Opening) → opening cs ≡ Some o → quoted_length o cs ≡ Some n → row at cs ≡ gives (literal o.kind at cs n) n
unfolding row
row-quoted at n cs o h q =
    ap (λ v. or_row (quoted at cs v) (or_row (tick_row at cs) (unquoted_row at cs))) h ∙
    ap (λ v. or_row (row_of v (literal o.kind at cs) o.size) (or_row (tick_row at cs) (unquoted_row at cs))) q

row-ticked : (at : ℕ) (cs : List ℕ) → opening cs ≡ None → begins 39 cs ≡ true →
    row at cs ≡ or_row (tick at cs (char_length cs) (lifetime_length cs)) (unquoted_row at cs)
unfolding row
row-ticked at cs h b =
    ap (λ v. or_row (quoted at cs v) (or_row (tick_row at cs) (unquoted_row at cs))) h ∙
    ap (λ v. or_row (cond v (tick at cs (char_length cs) (lifetime_length cs)) passes) (unquoted_row at cs)) b

row-char : (at n : ℕ) (cs : List ℕ) → opening cs ≡ None → begins 39 cs ≡ true → char_length cs ≡ Some n → row at cs ≡ gives (literal kind.Char at cs n) n
row-char at n cs h b e = row-ticked at cs h b ∙ ap (λ v. or_row (tick at cs v (lifetime_length cs)) (unquoted_row at cs)) e

row-lifetime : (at n : ℕ) (cs : List ℕ) → opening cs ≡ None → begins 39 cs ≡ true → char_length cs ≡ None → lifetime_length cs ≡ Some n →
    row at cs ≡ gives (lifetime at cs n) n
row-lifetime at n cs h b e f =
    row-ticked at cs h b ∙ ap (λ v. or_row (tick at cs v (lifetime_length cs)) (unquoted_row at cs)) e ∙
    ap (λ v. or_row (tick at cs None v) (unquoted_row at cs)) f

pub row-unquoted : (at : ℕ) (cs : List ℕ) → opening cs ≡ None → begins 39 cs ≡ false → row at cs ≡ unquoted_row at cs
unfolding row
row-unquoted at cs h b =
    ap (λ v. or_row (quoted at cs v) (or_row (tick_row at cs) (unquoted_row at cs))) h ∙
    ap (λ v. or_row (cond v (tick at cs (char_length cs) (lifetime_length cs)) passes) (unquoted_row at cs)) b

row-raw : (at n : ℕ) (cs : List ℕ) → opening cs ≡ None → begins 39 cs ≡ false → begins_raw_word cs ≡ true → raw_word_length cs ≡ Some n →
    row at cs ≡ gives (raw_word at cs n) n
row-raw at n cs h b r e =
    let below : Row = or_row (word_row at cs) (or_row (number_row at cs) (mark_row at cs)) in
    row-unquoted at cs h b ∙ ap (λ v. or_row (cond v (row_of (raw_word_length cs) (raw_word at cs) 2) passes) below) r ∙
    ap (λ v. or_row (row_of v (raw_word at cs) 2) below) e

pub row-not_raw : (at : ℕ) (cs : List ℕ) → opening cs ≡ None → begins 39 cs ≡ false → begins_raw_word cs ≡ false →
    row at cs ≡ or_row (word_row at cs) (or_row (number_row at cs) (mark_row at cs))
row-not_raw at cs h b r =
    let below : Row = or_row (word_row at cs) (or_row (number_row at cs) (mark_row at cs)) in
    row-unquoted at cs h b ∙ ap (λ v. or_row (cond v (row_of (raw_word_length cs) (raw_word at cs) 2) passes) below) r

row-word : (at n : ℕ) (cs : List ℕ) → opening cs ≡ None → begins 39 cs ≡ false → begins_raw_word cs ≡ false → begins_word cs ≡ true → run goes_on cs ≡ n →
    row at cs ≡ gives (word at cs n) n
row-word at n cs h b r w e =
    let below : Row = or_row (number_row at cs) (mark_row at cs) in
    row-not_raw at cs h b r ∙ ap (λ v. or_row (cond v (row_of (cond v (Some (run goes_on cs)) None) (word at cs) 1) passes) below) w ∙
    ap (λ v. gives (word at cs v) v) e

pub row-not_word : (at : ℕ) (cs : List ℕ) → opening cs ≡ None → begins 39 cs ≡ false → begins_raw_word cs ≡ false → begins_word cs ≡ false →
    row at cs ≡ or_row (number_row at cs) (mark_row at cs)
row-not_word at cs h b r w =
    let below : Row = or_row (number_row at cs) (mark_row at cs) in
    row-not_raw at cs h b r ∙ ap (λ v. or_row (cond v (row_of (word_length cs) (word at cs) 1) passes) below) w

row-number : (at n : ℕ) (cs : List ℕ) → opening cs ≡ None → begins 39 cs ≡ false → begins_raw_word cs ≡ false → begins_word cs ≡ false →
    begins_digit cs ≡ true → number_length cs ≡ Some n → row at cs ≡ gives (literal kind.Int at cs n) n
row-number at n cs h b r w d e =
    row-not_word at cs h b r w ∙ ap (λ v. or_row (cond v (row_of (number_length cs) (literal kind.Int at cs) (run goes_on cs)) passes) (mark_row at cs)) d ∙
    ap (λ v. or_row (row_of v (literal kind.Int at cs) (run goes_on cs)) (mark_row at cs)) e

pub row-mark : (at : ℕ) (cs : List ℕ) → opening cs ≡ None → begins 39 cs ≡ false → begins_raw_word cs ≡ false → begins_word cs ≡ false →
    begins_digit cs ≡ false → row at cs ≡ mark_row at cs
row-mark at cs h b r w d =
    row-not_word at cs h b r w ∙ ap (λ v. or_row (cond v (row_of (number_length cs) (literal kind.Int at cs) (run goes_on cs)) passes) (mark_row at cs)) d

-- which row a lexeme is of

pub data Source (at : ℕ) (cs : List ℕ) (x : Lexeme) (n : ℕ) : Type 0 where
  of_quoted : (o : Opening) → opening cs ≡ Some o → quoted_length o cs ≡ Some n → x ≡ literal o.kind at cs n → Source at cs x n
  of_char : begins 39 cs ≡ true → char_length cs ≡ Some n → x ≡ literal kind.Char at cs n → Source at cs x n
  of_lifetime : begins 39 cs ≡ true → lifetime_length cs ≡ Some n → x ≡ lifetime at cs n → Source at cs x n
  of_raw : begins_raw_word cs ≡ true → raw_word_length cs ≡ Some n → x ≡ raw_word at cs n → Source at cs x n
  of_word : begins_word cs ≡ true → word_length cs ≡ Some n → x ≡ word at cs n → Source at cs x n
  of_number : begins_digit cs ≡ true → number_length cs ≡ Some n → x ≡ literal kind.Int at cs n → Source at cs x n
  of_mark : mark_row at cs ≡ gives x n → Source at cs x n

abbrev Sourced : ℕ → List ℕ → Row → Type 0
Sourced at cs r = (x : Lexeme) (n : ℕ) → r ≡ gives x n → Source at cs x n

or-sourced : (at : ℕ) (cs : List ℕ) (r below : Row) → Sourced at cs r → Sourced at cs below → Sourced at cs (or_row r below)
or-sourced at cs (gives y m) below h k x n e = h x n e
or-sourced at cs (refuses m) below h k x n e = absurd (cc)
or-sourced at cs passes below h k x n e = k x n e

if-sourced : (at : ℕ) (cs : List ℕ) (b : Bool) (r : Row) → (b ≡ true → Sourced at cs r) → Sourced at cs (cond b r passes)
if-sourced at cs true r h x n e = h refl x n e
if-sourced at cs false r h x n e = absurd (cc)

of-sourced : (at : ℕ) (cs : List ℕ) (o : Option ℕ) (make : ℕ → Lexeme) (refused : ℕ) →
    ((n : ℕ) → o ≡ Some n → Source at cs (make n) n) → Sourced at cs (row_of o make refused)
of-sourced at cs None make refused h x n e = absurd (cc)
of-sourced at cs (Some m) make refused h x n e =
    let P : Lexeme → ℕ → Type 0 = λ y i. Source at cs y i in
    let i : m ≡ n = cc in
    let y : make m ≡ x = cc in
    subst (λ j. P x j) i (subst (λ z. P z m) y (h m refl))

quoted-sourced : (at : ℕ) (cs : List ℕ) (o : Option Opening) → opening cs ≡ o → Sourced at cs (quoted at cs o)
quoted-sourced at cs None h x n e = absurd (cc)
quoted-sourced at cs (Some o) h x n e = of-sourced at cs (quoted_length o cs) (literal o.kind at cs) o.size (λ m q. of_quoted o h q refl) x n e

tick-sourced : (at : ℕ) (cs : List ℕ) (o p : Option ℕ) → begins 39 cs ≡ true → char_length cs ≡ o → lifetime_length cs ≡ p → Sourced at cs (tick at cs o p)
tick-sourced at cs (Some m) p b h k x n e =
    let i : m ≡ n = cc in
    of_char b (h ∙ ap (λ v. Some v) i) (let y : literal kind.Char at cs m ≡ x = cc in sym y ∙ ap (literal kind.Char at cs) i)
tick-sourced at cs None (Some m) b h k x n e =
    let i : m ≡ n = cc in
    of_lifetime b (k ∙ ap (λ v. Some v) i) (let y : lifetime at cs m ≡ x = cc in sym y ∙ ap (lifetime at cs) i)
tick-sourced at cs None None b h k x n e = absurd (cc)

mark-sourced : (at : ℕ) (cs : List ℕ) → Sourced at cs (mark_row at cs)
mark-sourced at cs x n e = of_mark e

unquoted-sourced : (at : ℕ) (cs : List ℕ) → Sourced at cs (unquoted_row at cs)
unquoted-sourced at cs =
    or-sourced at cs (raw_row at cs) (or_row (word_row at cs) (or_row (number_row at cs) (mark_row at cs)))
    (if-sourced at cs (begins_raw_word cs) (row_of (raw_word_length cs) (raw_word at cs) 2)
    (λ b. of-sourced at cs (raw_word_length cs) (raw_word at cs) 2 (λ n e. of_raw b e refl)))
    (or-sourced at cs (word_row at cs) (or_row (number_row at cs) (mark_row at cs))
    (if-sourced at cs (begins_word cs) (row_of (word_length cs) (word at cs) 1)
    (λ b. of-sourced at cs (word_length cs) (word at cs) 1 (λ n e. of_word b e refl)))
    (or-sourced at cs (number_row at cs) (mark_row at cs)
    (if-sourced at cs (begins_digit cs) (row_of (number_length cs) (literal kind.Int at cs) (run goes_on cs))
    (λ b. of-sourced at cs (number_length cs) (literal kind.Int at cs) (run goes_on cs) (λ n e. of_number b e refl)))
    (mark-sourced at cs)))

pub row-sourced : (at : ℕ) (cs : List ℕ) → Sourced at cs (row at cs)
unfolding row
row-sourced at cs =
    or-sourced at cs (quoted_row at cs) (or_row (tick_row at cs) (unquoted_row at cs)) (quoted-sourced at cs (opening cs) refl)
    (or-sourced at cs (tick_row at cs) (unquoted_row at cs)
    (if-sourced at cs (begins 39 cs) (tick at cs (char_length cs) (lifetime_length cs))
    (λ b. tick-sourced at cs (char_length cs) (lifetime_length cs) b refl refl))
    (unquoted-sourced at cs))

-- no blank begins with a character that is not blank and no slash

abbrev blank-by : Bool → Bool → Bool → List ℕ → Blank
blank-by x y z cs = cond x (Size 1) (cond y (Size (2 + run (in_class Line) (drop 2 cs))) (cond z (block (comment_closing 0 (drop 2 cs))) Absent))

not-blank : (b : Bool) (rest : Blank) → cond b (Size 1) rest ≡ Absent → b ≡ false
not-blank true rest h = absurd (cc)
not-blank false rest h = refl

pub no-blank : (c : ℕ) (cs : List ℕ) → is_blank_char c ≡ false → nat_eq c 47 ≡ false → blank_length (c ∷ cs) ≡ Absent
no-blank c cs h s =
    ap (λ v. blank-by v (begins_pair 47 47 (c ∷ cs)) (begins_pair 47 42 (c ∷ cs)) (c ∷ cs)) h ∙
    ap (λ v. blank-by false v (begins_pair 47 42 (c ∷ cs)) (c ∷ cs)) (other-pair 47 47 c cs s) ∙
    ap (λ v. blank-by false false v (c ∷ cs)) (other-pair 47 42 c cs s)

pub first-blank : (c : ℕ) (cs : List ℕ) → blank_length (c ∷ cs) ≡ Absent → is_blank_char c ≡ false
first-blank c cs h = not-blank (is_blank_char c) _ h

blank-kept : (c n : ℕ) (cs zs : List ℕ) → blank_length (c ∷ cs) ≡ Absent → nat_eq c 47 ≡ false → 0 < n → blank_length (cut n (c ∷ cs) zs) ≡ Absent
blank-kept c zero cs zs h s z = absurd (omega arith)
blank-kept c (suc n) cs zs h s z = no-blank c (cut n cs zs) (first-blank c cs h) s

-- the token of the first n characters is found again
pub record IsKept (at n : ℕ) (cs zs : List ℕ) (x : Lexeme) : Type 0 where
  pub again : Lexeme
  pub row_is : row at (cut n cs zs) ≡ gives again n
  pub same : unplaced_lexeme again ≡ unplaced_lexeme x
  pub no_blank : blank_length (cut n cs zs) ≡ Absent

all-taken : (n : ℕ) (cs zs : List ℕ) → take n (cut n cs zs) ≡ take n cs
all-taken n cs zs = take-cut n n cs zs (omega arith)

literal-same : (k : LitKind) (a b n : ℕ) (cs zs : List ℕ) → unplaced_lexeme (literal k a (cut n cs zs) n) ≡ unplaced_lexeme (literal k b cs n)
literal-same k a b n cs zs =
    ap (λ l. lexeme.Token (t.Literal record { kind = k; text = encode_utf8_all l; span = nowhere })) (all-taken n cs zs)

-- openings that are kept

abbrev opens-with : ℕ → List ℕ → Bool → Bool → Bool → Bool → Option Opening
opens-with c cs x y z w =
    cond x (Some (plain_opening kind.Str 1))
    (cond y (byte_opening cs) (cond z (c_opening cs) (cond w (raw_opening kind.RawStr 1 cs) None)))

pub no-opening : (c : ℕ) (cs : List ℕ) → nat_eq c 34 ≡ false → nat_eq c 98 ≡ false → nat_eq c 99 ≡ false → nat_eq c 114 ≡ false → opening (c ∷ cs) ≡ None
no-opening c cs x y z w =
    ap (λ v. opens-with c cs v (nat_eq c 98) (nat_eq c 99) (nat_eq c 114)) x ∙ ap (λ v. opens-with c cs false v (nat_eq c 99) (nat_eq c 114)) y ∙
    ap (λ v. opens-with c cs false false v (nat_eq c 114)) z ∙ ap (λ v. opens-with c cs false false false v) w

some-none : (o : Opening) → None ≡ Some o → ⊥
some-none o h = cc

raw-size : (k : LitKind) (before : ℕ) (cs : List ℕ) (b : Bool) (o : Opening) →
    cond {A = Option Opening} b (Some record { kind = k; hashes = run is_hash cs; size = run is_hash cs + before + 1 }) None ≡ Some o →
    (b ≡ true) × (o.size ≡ run is_hash cs + before + 1)
raw-size k before cs true o h =
    let e : record { kind = k; hashes = run is_hash cs; size = run is_hash cs + before + 1 } ≡ o = cc in
    (refl, ap (λ (v : Opening). v.size) (sym e))
raw-size k before cs false o h = absurd (cc)

abbrev raw-with : LitKind → ℕ → Bool → ℕ → Option Opening
raw-with k before b n = cond b (Some record { kind = k; hashes = n; size = n + before + 1 }) None

opens_raw-cut : (m : ℕ) (cs zs : List ℕ) → run is_hash cs < m → opens_raw (cut m cs zs) ≡ opens_raw cs
opens_raw-cut m cs zs l =
    ap (λ n. nat_lt n 256 && begins 34 (drop n (cut m cs zs))) (run-cut is_hash m cs zs l) ∙
    ap (λ v. nat_lt (run is_hash cs) 256 && v) (begins-cut 34 (run is_hash cs) m cs zs l)

raw_opening-cut : (k : LitKind) (before m : ℕ) (cs zs : List ℕ) (o : Opening) → raw_opening k before cs ≡ Some o → o.size ≤ before + m →
    raw_opening k before (cut m cs zs) ≡ Some o
raw_opening-cut k before m cs zs o h l =
    let s = raw-size k before cs (opens_raw cs) o h in
    let r : run is_hash cs < m = omega (arith, s.1, l) in
    ap (λ v. raw-with k before v (run is_hash (cut m cs zs))) (opens_raw-cut m cs zs r) ∙
    ap (raw-with k before (opens_raw cs)) (run-cut is_hash m cs zs r) ∙ h

second-if : (k : LitKind) (m : ℕ) (cs zs : List ℕ) (b : Bool) (o : Opening) → cond {A = Option Opening} b (raw_opening k 2 cs) None ≡ Some o → o.size ≤ suc (suc m) →
    cond {A = Option Opening} b (raw_opening k 2 (cut m cs zs)) None ≡ Some o
second-if k m cs zs true o h l = raw_opening-cut k 2 m cs zs o h (omega arith)
second-if k m cs zs false o h l = absurd (cc)

second-two : (k : LitKind) (cs : List ℕ) (b : Bool) (o : Opening) → cond {A = Option Opening} b (raw_opening k 2 cs) None ≡ Some o → 2 < o.size
second-two k cs true o h = let s = raw-size k 2 cs (opens_raw cs) o h in omega (arith, s.1)
second-two k cs false o h = absurd (cc)

second-cut : (k : LitKind) (m : ℕ) (cs zs : List ℕ) (o : Opening) → second_raw k cs ≡ Some o → o.size ≤ suc m → second_raw k (cut m cs zs) ≡ Some o
second-cut k m [] zs o h l = absurd (cc)
second-cut k zero (c ∷ cs) zs o h l = absurd (omega (arith, l, second-two k cs (nat_eq c 114) o h))
second-cut k (suc m) (c ∷ cs) zs o h l = second-if k m cs zs (nat_eq c 114) o h l

second-size : (k : LitKind) (cs : List ℕ) (o : Opening) → second_raw k cs ≡ Some o → 2 < o.size
second-size k [] o h = absurd (cc)
second-size k (c ∷ cs) o h = second-two k cs (nat_eq c 114) o h

plain-size : (k : LitKind) (n : ℕ) (o : Opening) → Some (plain_opening k n) ≡ Some o → o.size ≡ n
plain-size k n o h = let e : plain_opening k n ≡ o = cc in ap (λ (v : Opening). v.size) (sym e)

abbrev byte-with : List ℕ → Bool → Bool → Option Opening
byte-with cs x y = cond x (Some (plain_opening kind.ByteStr 2)) (cond y (Some (plain_opening kind.Byte 2)) (second_raw kind.RawByteStr cs))

byte-if : (m : ℕ) (cs zs : List ℕ) (x y : Bool) (o : Opening) → byte-with cs x y ≡ Some o → o.size ≤ suc m → (0 < m) × (byte-with (cut m cs zs) x y ≡ Some o)
byte-if m cs zs true y o h l = (omega (arith, l, plain-size kind.ByteStr 2 o h), h)
byte-if m cs zs false true o h l = (omega (arith, l, plain-size kind.Byte 2 o h), h)
byte-if zero cs zs false false o h l = absurd (omega (arith, l, second-size kind.RawByteStr cs o h))
byte-if (suc m) cs zs false false o h l = (omega arith, second-cut kind.RawByteStr (suc m) cs zs o h l)

byte-cut : (m : ℕ) (cs zs : List ℕ) (o : Opening) → byte_opening cs ≡ Some o → o.size ≤ suc m → byte_opening (cut m cs zs) ≡ Some o
byte-cut m cs zs o h l =
    let r = byte-if m cs zs (begins 34 cs) (begins 39 cs) o h l in
    ap (λ v. byte-with (cut m cs zs) v (begins 39 (cut m cs zs))) (begins-cut 34 0 m cs zs r.0) ∙
    ap (λ v. byte-with (cut m cs zs) (begins 34 cs) v) (begins-cut 39 0 m cs zs r.0) ∙ r.1

abbrev c-with : List ℕ → Bool → Option Opening
c-with cs x = cond x (Some (plain_opening kind.CStr 2)) (second_raw kind.RawCStr cs)

c-if : (m : ℕ) (cs zs : List ℕ) (x : Bool) (o : Opening) → c-with cs x ≡ Some o → o.size ≤ suc m → (0 < m) × (c-with (cut m cs zs) x ≡ Some o)
c-if m cs zs true o h l = (omega (arith, l, plain-size kind.CStr 2 o h), h)
c-if zero [] zs false o h l = absurd (cc)
c-if zero (c ∷ cs) zs false o h l = absurd (omega (arith, l, second-two kind.RawCStr cs (nat_eq c 114) o h))
c-if (suc m) cs zs false o h l = (omega arith, second-cut kind.RawCStr (suc m) cs zs o h l)

c-cut : (m : ℕ) (cs zs : List ℕ) (o : Opening) → c_opening cs ≡ Some o → o.size ≤ suc m → c_opening (cut m cs zs) ≡ Some o
c-cut m cs zs o h l =
    let r = c-if m cs zs (begins 34 cs) o h l in
    ap (c-with (cut m cs zs)) (begins-cut 34 0 m cs zs r.0) ∙ r.1

opens-if : (c m : ℕ) (cs zs : List ℕ) (x y z w : Bool) (o : Opening) → opens-with c cs x y z w ≡ Some o → o.size ≤ suc m → opens-with c (cut m cs zs) x y z w ≡ Some o
opens-if c m cs zs true y z w o h l = h
opens-if c m cs zs false true z w o h l = byte-cut m cs zs o h l
opens-if c m cs zs false false true w o h l = c-cut m cs zs o h l
opens-if c m cs zs false false false true o h l = raw_opening-cut kind.RawStr 1 m cs zs o h (omega arith)
opens-if c m cs zs false false false false o h l = absurd (cc)

opening-cut : (m : ℕ) (cs zs : List ℕ) (o : Opening) → opening cs ≡ Some o → o.size ≤ m → 0 < m → opening (cut m cs zs) ≡ Some o
opening-cut m [] zs o h l z = absurd (cc)
opening-cut zero (c ∷ cs) zs o h l z = absurd (omega arith)
opening-cut (suc m) (c ∷ cs) zs o h l z = opens-if c m cs zs (nat_eq c 34) (nat_eq c 98) (nat_eq c 99) (nat_eq c 114) o h l

slash-if : (c : ℕ) (cs : List ℕ) (x y z w : Bool) (o : Opening) → nat_eq c 34 ≡ x → nat_eq c 98 ≡ y → nat_eq c 99 ≡ z → nat_eq c 114 ≡ w →
    opens-with c cs x y z w ≡ Some o → nat_eq c 47 ≡ false
slash-if c cs true y z w o i j k l h = grind (arith, nat_tests)
slash-if c cs false true z w o i j k l h = grind (arith, nat_tests)
slash-if c cs false false true w o i j k l h = grind (arith, nat_tests)
slash-if c cs false false false true o i j k l h = grind (arith, nat_tests)
slash-if c cs false false false false o i j k l h = absurd (cc)

-- literals with quotes

body-cut : (k : LitKind) (hashes m : ℕ) (cs zs : List ℕ) → body k hashes cs ≡ Some m → (0 < m) × (body k hashes (cut m cs zs) ≡ Some m)
body-cut kind.Str hashes m cs zs h = (string_closing-skip Characters 0 m cs h, string_closing-cut Characters 0 m cs zs h)
body-cut kind.RawStr hashes m cs zs h = (raw-some hashes m cs h, raw-cut hashes m cs zs h)
body-cut kind.ByteStr hashes m cs zs h = (string_closing-skip Bytes 0 m cs h, string_closing-cut Bytes 0 m cs zs h)
body-cut kind.RawByteStr hashes m cs zs h = (raw-some hashes m cs h, raw-cut hashes m cs zs h)
body-cut kind.CStr hashes m cs zs h = (string_closing-skip Anything 0 m cs h, string_closing-cut Anything 0 m cs zs h)
body-cut kind.RawCStr hashes m cs zs h = (raw-some hashes m cs h, raw-cut hashes m cs zs h)
body-cut kind.Char hashes m cs zs h = absurd (cc)
body-cut kind.Byte hashes m cs zs h = (lone-some true m cs h, lone-cut true m cs zs h)
body-cut kind.Int hashes m cs zs h = absurd (cc)

pub more-some : (n m : ℕ) (o : Option ℕ) → more n o ≡ Some m → (k : ℕ) × (o ≡ Some k) × (n + k ≡ m)
more-some n m None h = absurd (cc)
more-some n m (Some k) h = let e : n + k ≡ m = cc in (k, refl, e)

lines-if : (b : Bool) (m n : ℕ) → cond {A = Option ℕ} b (Some m) None ≡ Some n → (m ≡ n) × (b ≡ true)
lines-if true m n h = (cc, refl)
lines-if false m n h = absurd (cc)

pub lines-some : (cs : List ℕ) (o : Option ℕ) (n : ℕ) → in_whole_lines cs o ≡ Some n → (o ≡ Some n) × (whole_lines (take n cs) ≡ true)
lines-some cs None n h = absurd (cc)
lines-some cs (Some m) n h =
    let r = lines-if (whole_lines (take m cs)) m n h in
    (ap (λ v. Some v) r.0, ap (λ v. whole_lines (take v cs)) (sym r.0) ∙ r.1)

-- the literal's length, and that it is no less than its opening
record HasLength (o : Opening) (n : ℕ) (cs zs : List ℕ) : Type 0 where
  fits : o.size < n
  length_is : quoted_length o (cut n cs zs) ≡ Some n

quoted-cut : (o : Opening) (n : ℕ) (cs zs : List ℕ) → quoted_length o cs ≡ Some n → HasLength o n cs zs
quoted-cut o n cs zs q =
    let lines = lines-some cs (more o.size (body o.kind o.hashes (drop o.size cs))) n q in
    let size = more-some o.size n (body o.kind o.hashes (drop o.size cs)) lines.0 in
    let k : ℕ = size.0 in
    let sum : o.size + k ≡ n = size.2 in
    let ended = body-cut o.kind o.hashes k (drop o.size cs) zs size.1 in
    let all : List ℕ = cut n cs zs in
    let inside : drop o.size all ≡ cut k (drop o.size cs) zs = drop-cut o.size k n cs zs sum ended.0 in
    let whole : whole_lines (take n all) ≡ true = ap whole_lines (all-taken n cs zs) ∙ lines.1 in
    record {
      fits = omega (arith, sum, ended.0);
      length_is =
          ap (λ l. in_whole_lines all (more o.size (body o.kind o.hashes l))) inside ∙ ap (λ v. in_whole_lines all (more o.size v)) ended.1 ∙
          ap (λ v. in_whole_lines all (Some v)) sum ∙ ap (λ v. cond {A = Option ℕ} v (Some n) None) whole;
    }

pub kept-quoted : (a b n : ℕ) (cs zs : List ℕ) (x : Lexeme) (o : Opening) → blank_length cs ≡ Absent → opening cs ≡ Some o → quoted_length o cs ≡ Some n →
    x ≡ literal o.kind b cs n → IsKept a n cs zs x
kept-quoted a b n [] zs x o k h q e = absurd (cc)
kept-quoted a b n (c ∷ cs) zs x o k h q e =
    let l = quoted-cut o n (c ∷ cs) zs q in
    let z : 0 < n = omega (arith, l.fits) in
    record {
      again = literal o.kind a (cut n (c ∷ cs) zs) n;
      row_is = row-quoted a n (cut n (c ∷ cs) zs) o (opening-cut n (c ∷ cs) zs o h (omega (arith, l.fits)) z) l.length_is;
      same = literal-same o.kind a b n (c ∷ cs) zs ∙ ap unplaced_lexeme (sym e);
      no_blank =
          blank-kept c n cs zs k (slash-if c cs (nat_eq c 34) (nat_eq c 98) (nat_eq c 99) (nat_eq c 114) o refl refl refl refl h) z;
    }

-- characters

pub tick-opening : (c : ℕ) (cs : List ℕ) → nat_eq c 39 ≡ true → opening (c ∷ cs) ≡ None
tick-opening c cs h = no-opening c cs (grind (arith, nat_tests)) (grind (arith, nat_tests)) (grind (arith, nat_tests)) (grind (arith, nat_tests))

char-cut : (c n : ℕ) (cs zs : List ℕ) → char_length (c ∷ cs) ≡ Some n → (m : ℕ) × (n ≡ suc m) × (char_length (c ∷ cut m cs zs) ≡ Some n)
char-cut c n cs zs h =
    let r = more-some 1 n (lone_closing false cs) h in
    (r.0, omega (arith, r.2), ap (more 1) (lone-cut false r.0 cs zs r.1) ∙ ap (λ v. Some v) r.2)

pub kept-char : (a b n : ℕ) (cs zs : List ℕ) (x : Lexeme) → blank_length cs ≡ Absent → begins 39 cs ≡ true → char_length cs ≡ Some n →
    x ≡ literal kind.Char b cs n → IsKept a n cs zs x
kept-char a b n [] zs x k h q e = absurd (cc)
kept-char a b n (c ∷ cs) zs x k h q e =
    let r = char-cut c n cs zs q in
    let all : List ℕ = c ∷ cut r.0 cs zs in
    let whole : cut n (c ∷ cs) zs ≡ all = ap (λ i. cut i (c ∷ cs) zs) r.1 in
    record {
      again = literal kind.Char a (cut n (c ∷ cs) zs) n;
      row_is =
          row-char a n (cut n (c ∷ cs) zs) (ap opening whole ∙ tick-opening c (cut r.0 cs zs) h) (ap (begins 39) whole ∙ h)
          (ap char_length whole ∙ r.2);
      same = literal-same kind.Char a b n (c ∷ cs) zs ∙ ap unplaced_lexeme (sym e);
      no_blank = blank-kept c n cs zs k (grind (arith, nat_tests)) (omega (arith, r.1));
    }

-- lifetimes

abbrev lone-with : ℕ → List ℕ → Bool → Bool → Option Segment
lone-with c cs x y = cond x (escape false cs) (cond y (Some record { size = 1; means = Some c }) None)

lone-if : (c : ℕ) (cs : List ℕ) (y : Bool) → begins 39 cs ≡ false → closed_by_tick (lone-with c cs false y) (c ∷ cs) ≡ None
lone-if c cs true h = ap (λ v. cond {A = Option ℕ} v (Some (1 + 1)) None) h
lone-if c cs false h = refl

no-lone : (c : ℕ) (cs : List ℕ) → nat_eq c 92 ≡ false → begins 39 cs ≡ false → lone_closing false (c ∷ cs) ≡ None
no-lone c cs s h = ap (λ v. closed_by_tick (lone-with c cs v (is_lone false c)) (c ∷ cs)) s ∙ lone-if c cs (is_lone false c) h

abbrev lifetime-with : Bool → Bool → Bool → Bool
lifetime-with x y z = cond x (cond y false (cond z false true)) false

lifetime-word : (x y z : Bool) → lifetime-with x y z ≡ true → x ≡ true
lifetime-word true y z h = refl
lifetime-word false y z h = absurd (cc)

-- the word of a lifetime, and what may stand behind it
record IsName (cs zs : List ℕ) : Type 0 where
  lifetime : is_lifetime (cut (run goes_on cs) cs zs) ≡ true
  no_char : lone_closing false (cut (run goes_on cs) cs zs) ≡ None
  ends : run goes_on (cut (run goes_on cs) cs zs) ≡ run goes_on cs

name-kept : (cs zs : List ℕ) → is_stopped zs ≡ true → begins_word cs ≡ true → IsName cs zs
name-kept [] zs h b = absurd (cc)
name-kept (c ∷ cs) zs h b =
    let goes : goes_on c ≡ true = starts-goes_on c b in
    let n : ℕ = run goes_on (c ∷ cs) in
    let all : List ℕ = cut n (c ∷ cs) zs in
    let rest : List ℕ = cut (run goes_on cs) cs zs in
    let begun : all ≡ c ∷ rest = word-begun c cs zs goes in
    let tame : is_tame rest ≡ true = tame-word cs zs h in
    let ends : run goes_on all ≡ n = run-end goes_on (c ∷ cs) zs (stopped-run zs h) in
    let behind : drop (run goes_on all) all ≡ zs = ap (λ i. drop i all) ends ∙ drop-run goes_on (c ∷ cs) zs in
    record {
      lifetime =
          ap (λ v. lifetime-with v (begins_raw all) (begins 39 (drop (run goes_on all) all))) (ap begins_word begun ∙ b) ∙
          ap (λ v. lifetime-with true v (begins 39 (drop (run goes_on all) all))) (ap begins_raw begun ∙ tame-pair 114 c rest tame) ∙
          ap (λ v. lifetime-with true false v) (ap (begins 39) behind ∙ tame-tick zs (tame-stopped zs h));
      no_char = ap (lone_closing false) begun ∙ no-lone c rest (goes-no_ascii c 92 (omega arith) refl goes) (tame-tick rest tame);
      ends = ends;
    }

pub kept-lifetime : (a b n : ℕ) (cs zs : List ℕ) (x : Lexeme) → is_stopped zs ≡ true → blank_length cs ≡ Absent → begins 39 cs ≡ true → lifetime_length cs ≡ Some n →
    x ≡ lifetime b cs n → IsKept a n cs zs x
kept-lifetime a b n [] zs x s k h q e = absurd (cc)
kept-lifetime a b n (c ∷ cs) zs x s k h q e =
    let r = some-only (is_lifetime cs) (suc (run goes_on cs)) n q in
    let size : suc (run goes_on cs) ≡ n = r.1 in
    let name : IsName cs zs = name-kept cs zs s (lifetime-word (begins_word cs) (begins_raw cs) (begins 39 (drop (run goes_on cs) cs)) r.0) in
    let inside : List ℕ = cut (run goes_on cs) cs zs in
    let whole : cut n (c ∷ cs) zs ≡ c ∷ inside = ap (λ i. cut i (c ∷ cs) zs) (sym size) in
    record {
      again = lifetime a (cut n (c ∷ cs) zs) n;
      row_is =
          row-lifetime a n (cut n (c ∷ cs) zs) (ap opening whole ∙ tick-opening c inside h) (ap (begins 39) whole ∙ h)
          (ap char_length whole ∙ ap (more 1) name.no_char)
          (ap lifetime_length whole ∙ ap (λ v. cond {A = Option ℕ} v (Some (suc (run goes_on inside))) None) name.lifetime ∙ ap (λ i. Some (suc i)) name.ends ∙
          ap (λ v. Some v) size);
      same =
          ap (λ l. lexeme.Token (t.Lifetime record { name = drop 1 (encode_utf8_all l); span = nowhere })) (all-taken n (c ∷ cs) zs) ∙
          ap unplaced_lexeme (sym e);
      no_blank = blank-kept c n cs zs k (grind (arith, nat_tests)) (omega (arith, size));
    }

-- words

none-by : (k : LitKind) (before : ℕ) (cs : List ℕ) → is_tame cs ≡ true → raw_opening k before cs ≡ None
none-by k before cs h = ap (λ v. raw-with k before v (run is_hash cs)) (tame-raw cs h)

none-if : (k : LitKind) (cs : List ℕ) (b : Bool) → (b ≡ true → is_tame cs ≡ true) → cond {A = Option Opening} b (raw_opening k 2 cs) None ≡ None
none-if k cs true h = none-by k 2 cs (h refl)
none-if k cs false h = refl

second-stopped : (k : LitKind) (zs : List ℕ) → is_stopped zs ≡ true → second_raw k zs ≡ None
second-stopped k [] h = refl
second-stopped k (c ∷ zs) h =
    ap (λ v. cond {A = Option Opening} v (raw_opening k 2 zs) None) (stop-each (λ v. nat_eq v 114 ≡ false) c h refl refl refl refl)

second_word-if : (k : LitKind) (c : ℕ) (cs zs : List ℕ) (b : Bool) → is_stopped zs ≡ true →
    second_raw k (cut (cond b (suc (run goes_on cs)) 0) (c ∷ cs) zs) ≡ None
second_word-if k c cs zs true h = none-if k (cut (run goes_on cs) cs zs) (nat_eq c 114) (λ e. tame-word cs zs h)
second_word-if k c cs zs false h = second-stopped k zs h

second-word : (k : LitKind) (cs zs : List ℕ) → is_stopped zs ≡ true → second_raw k (cut (run goes_on cs) cs zs) ≡ None
second-word k [] zs h = second-stopped k zs h
second-word k (c ∷ cs) zs h = second_word-if k c cs zs (goes_on c) h

none-each : (x y z w : Bool) (a : Option Opening) (p q r : Option Opening) → x ≡ false → p ≡ None → q ≡ None → r ≡ None →
    cond x a (cond y p (cond z q (cond w r None))) ≡ None
none-each true y z w a p q r h i j k = absurd (cc)
none-each false true z w a p q r h i j k = i
none-each false false true w a p q r h i j k = j
none-each false false false true a p q r h i j k = k
none-each false false false false a p q r h i j k = refl

-- no literal begins with a word
word-opening : (c : ℕ) (cs zs : List ℕ) → is_stopped zs ≡ true → goes_on c ≡ true → opening (c ∷ cut (run goes_on cs) cs zs) ≡ None
word-opening c cs zs h g =
    let rest : List ℕ = cut (run goes_on cs) cs zs in
    let tame : is_tame rest ≡ true = tame-word cs zs h in
    none-each (nat_eq c 34) (nat_eq c 98) (nat_eq c 99) (nat_eq c 114) (Some (plain_opening kind.Str 1)) (byte_opening rest) (c_opening rest)
    (raw_opening kind.RawStr 1 rest) (goes-no_ascii c 34 (omega arith) refl g)
    (ap (λ v. byte-with rest v (begins 39 rest)) (tame-quote rest tame) ∙ ap (λ v. byte-with rest false v) (tame-tick rest tame) ∙
    second-word kind.RawByteStr cs zs h)
    (ap (c-with rest) (tame-quote rest tame) ∙ second-word kind.RawCStr cs zs h) (none-by kind.RawStr 1 rest tame)

first-false : (a b : Bool) → a ≡ false → (a && b) ≡ false
first-false true b h = absurd (cc)
first-false false b h = refl

pub kept-word : (a b n : ℕ) (cs zs : List ℕ) (x : Lexeme) → is_stopped zs ≡ true → blank_length cs ≡ Absent → begins_word cs ≡ true → word_length cs ≡ Some n →
    x ≡ word b cs n → IsKept a n cs zs x
kept-word a b n [] zs x s k h q e = absurd (cc)
kept-word a b n (c ∷ cs) zs x s k h q e =
    let goes : goes_on c ≡ true = starts-goes_on c h in
    let size : run goes_on (c ∷ cs) ≡ n = (some-only (starts_word c) (run goes_on (c ∷ cs)) n q).1 in
    let rest : List ℕ = cut (run goes_on cs) cs zs in
    let all : List ℕ = cut n (c ∷ cs) zs in
    let same_cut : cut (run goes_on (c ∷ cs)) (c ∷ cs) zs ≡ all = ap (λ i. cut i (c ∷ cs) zs) size in
    let whole : all ≡ c ∷ rest = sym same_cut ∙ word-begun c cs zs goes in
    let tame : is_tame rest ≡ true = tame-word cs zs s in
    record {
      again = word a all n;
      row_is =
          row-word a n all (ap opening whole ∙ word-opening c cs zs s goes) (ap (begins 39) whole ∙ goes-no_ascii c 39 (omega arith) refl goes)
          (ap begins_raw_word whole ∙ first-false (begins_pair 114 35 (c ∷ rest)) (begins_word (drop 2 (c ∷ rest))) (tame-pair 114 c rest tame))
          (ap begins_word whole ∙ h) (ap (run goes_on) (sym same_cut) ∙ run-end goes_on (c ∷ cs) zs (stopped-run zs s) ∙ size);
      same =
          ap (λ l. lexeme.Token (t.Ident record { name = encode_utf8_all l; raw = false; span = nowhere })) (all-taken n (c ∷ cs) zs) ∙
          ap unplaced_lexeme (sym e);
      no_blank = blank-kept c n cs zs k (goes-no_ascii c 47 (omega arith) refl goes) (omega (arith, size, word-positive (c ∷ cs) h));
    }

-- raw words

hash-raw : (d : ℕ) (cs : List ℕ) → nat_eq d 35 ≡ true → is_tame cs ≡ true → opens_raw (d ∷ cs) ≡ false
hash-raw d cs h k =
    let one : run is_hash (d ∷ cs) ≡ 1 = ap (λ v. cond v (suc (run is_hash cs)) 0) h ∙ ap (λ n. suc n) (tame-hash cs k) in
    ap (λ n. nat_lt n 256 && begins 34 (drop n (d ∷ cs))) one ∙ tame-quote cs k

raw-opening : (c d : ℕ) (cs : List ℕ) → nat_eq c 114 ≡ true → nat_eq d 35 ≡ true → is_tame cs ≡ true → opening (c ∷ d ∷ cs) ≡ None
raw-opening c d cs h k l =
    let all : List ℕ = d ∷ cs in
    let x : nat_eq c 34 ≡ false = grind (arith, nat_tests) in
    let y : nat_eq c 98 ≡ false = grind (arith, nat_tests) in
    let z : nat_eq c 99 ≡ false = grind (arith, nat_tests) in
    ap (λ v. opens-with c all v (nat_eq c 98) (nat_eq c 99) (nat_eq c 114)) x ∙
    ap (λ v. opens-with c all false v (nat_eq c 99) (nat_eq c 114)) y ∙ ap (λ v. opens-with c all false false v (nat_eq c 114)) z ∙
    ap (λ v. opens-with c all false false false v) h ∙ ap (λ v. raw-with kind.RawStr 1 v (run is_hash all)) (hash-raw d cs k l)

never-by : (a b : Bool) (n count : ℕ) → cond a (cond b None (Some n)) None ≡ Some count → b ≡ false
never-by true true n count h = absurd (cc)
never-by true false n count h = refl
never-by false b n count h = absurd (cc)

abbrev raw_by : Bool → Bool → ℕ → Option ℕ
raw_by a b n = cond a (cond b None (Some n)) None

word-kept : (cs zs : List ℕ) → begins_word cs ≡ true → begins_word (cut (run goes_on cs) cs zs) ≡ true
word-kept [] zs b = absurd (cc)
word-kept (c ∷ cs) zs b = ap begins_word (word-begun c cs zs (starts-goes_on c b)) ∙ b

two-more : (n : ℕ) → 2 + n ≡ suc (suc n)
two-more n = omega arith

pub kept-raw : (a b n : ℕ) (cs zs : List ℕ) (x : Lexeme) → is_stopped zs ≡ true → blank_length cs ≡ Absent → begins_raw_word cs ≡ true → raw_word_length cs ≡ Some n →
    x ≡ raw_word b cs n → IsKept a n cs zs x
kept-raw a b n [] zs x s k h q e = absurd (cc)
kept-raw a b n (c ∷ []) zs x s k h q e = absurd (cc)
kept-raw a b n (c ∷ d ∷ cs) zs x s k h q e =
    let pair : (nat_eq c 114 && nat_eq d 35) ≡ true = (and_parts (nat_eq c 114 && nat_eq d 35) (begins_word cs) h).0 in
    let begun : begins_word cs ≡ true = (and_parts (nat_eq c 114 && nat_eq d 35) (begins_word cs) h).1 in
    let first : nat_eq c 114 ≡ true = (and_parts (nat_eq c 114) (nat_eq d 35) pair).0 in
    let second : nat_eq d 35 ≡ true = (and_parts (nat_eq c 114) (nat_eq d 35) pair).1 in
    let count : ℕ = run goes_on cs in
    let size : 2 + count ≡ n = raw_count (begins_raw_word (c ∷ d ∷ cs)) (is_never_raw (word_bytes cs)) (2 + count) n q in
    let never : is_never_raw (word_bytes cs) ≡ false = never-by (begins_raw_word (c ∷ d ∷ cs)) (is_never_raw (word_bytes cs)) (2 + count) n q in
    let rest : List ℕ = cut count cs zs in
    let all : List ℕ = cut n (c ∷ d ∷ cs) zs in
    let whole : all ≡ c ∷ d ∷ rest = ap (λ i. cut i (c ∷ d ∷ cs) zs) (sym size ∙ two-more count) in
    let tame : is_tame rest ≡ true = tame-word cs zs s in
    let ends : run goes_on rest ≡ count = run-end goes_on cs zs (stopped-run zs s) in
    let word_kept : begins_word rest ≡ true = word-kept cs zs begun in
    let raw_begun : begins_raw_word (c ∷ d ∷ rest) ≡ true = and_from (nat_eq c 114 && nat_eq d 35) (begins_word rest) pair word_kept in
    let name : word_bytes rest ≡ word_bytes cs =
    ap (λ i. encode_utf8_all (take i rest)) ends ∙ ap encode_utf8_all (all-taken count cs zs) in
    let length_is : raw_word_length (c ∷ d ∷ rest) ≡ Some n =
    ap (λ v. raw_by v (is_never_raw (word_bytes rest)) (2 + run goes_on rest)) raw_begun ∙
    ap (λ v. raw_by true v (2 + run goes_on rest)) (ap is_never_raw name ∙ never) ∙ ap (λ i. Some (2 + i)) ends ∙ ap (λ v. Some v) size in
    record {
      again = raw_word a all n;
      row_is =
          row-raw a n all (ap opening whole ∙ raw-opening c d rest first second tame) (ap (begins 39) whole ∙ grind (arith, nat_tests))
          (ap begins_raw_word whole ∙ raw_begun) (ap raw_word_length whole ∙ length_is);
      same =
          ap (λ l. lexeme.Token (t.Ident record { name = drop 2 (encode_utf8_all l); raw = true; span = nowhere })) (all-taken n (c ∷ d ∷ cs) zs) ∙
          ap unplaced_lexeme (sym e);
      no_blank = blank-kept c n (d ∷ cs) zs k (grind (arith, nat_tests)) (omega (arith, size));
    }

-- integers

digit-other : (c : ℕ) → begins_digit (c ∷ []) ≡ true → is_ascii_alphabetic c || nat_eq c 95 ≡ false
digit-other c h = grind (arith, nat_tests)

digit-no_start : (c : ℕ) → begins_digit (c ∷ []) ≡ true → starts_word c ≡ false
digit-no_start c h = ap (λ v. v || nat_eq c 95) (is_xid_start-ascii c (let l : c < 128 = grind (arith, nat_tests) in l)) ∙ digit-other c h

pub kept-number : (a b n : ℕ) (cs zs : List ℕ) (x : Lexeme) → is_stopped zs ≡ true → blank_length cs ≡ Absent → begins_digit cs ≡ true → number_length cs ≡ Some n →
    x ≡ literal kind.Int b cs n → IsKept a n cs zs x
kept-number a b n [] zs x s k h q e = absurd (cc)
kept-number a b zero (c ∷ cs) zs x s k h q e = absurd (omega (arith, number-positive (c ∷ cs) 0 q))
kept-number a b (suc n) (c ∷ cs) zs x s k h q e =
    let rest : List ℕ = cut n cs zs in
    let all : List ℕ = c ∷ rest in
    let o : opening all ≡ None =
    no-opening c rest (grind (arith, nat_tests)) (grind (arith, nat_tests)) (grind (arith, nat_tests)) (grind (arith, nat_tests)) in
    let w : starts_word c ≡ false = digit-no_start c h in
    let pair : begins_pair 114 35 all ≡ false = other-pair 114 35 c rest (grind (arith, nat_tests)) in
    record {
      again = literal kind.Int a all (suc n);
      row_is =
          row-number a (suc n) all o (grind (arith, nat_tests)) (first-false (begins_pair 114 35 all) (begins_word (drop 2 all)) pair) w h
          (number-cut (suc n) (c ∷ cs) zs s h q);
      same = literal-same kind.Int a b (suc n) (c ∷ cs) zs ∙ ap unplaced_lexeme (sym e);
      no_blank = blank-kept c (suc n) cs zs k (grind (arith, nat_tests)) (omega arith);
    }

-- a token that is no punct

abbrev pub is_no_mark : Lexeme → Bool
is_no_mark (lexeme.Token (t.Ident i)) = true
is_no_mark (lexeme.Token (t.Lifetime l)) = true
is_no_mark (lexeme.Token (t.Literal l)) = true
is_no_mark (lexeme.Token (t.Punct p)) = false
is_no_mark (lexeme.Open d s) = false
is_no_mark (lexeme.Close d s) = false
