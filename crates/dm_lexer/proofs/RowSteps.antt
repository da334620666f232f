-- Rows of the table, in the words of the program.
use Rattle.std.specs.Prelude.{◌≡◌, ℕ, zero, suc, ◌+◌, ◌<◌, Bool, true, false, ◌&&◌, nat_eq, List, [], ◌∷◌, ◌++◌, length, take, drop, encode_utf8, refl, cond, Option, Some, None}
use Rattle.std.proofs.Common.{ap, ◌∙◌, sym, subst, arith, length-append}
use Rattle.std.proofs.lemmas.Grind.{common_steps}
use Rattle.std.proofs.lemmas.Bool.Decides.{nat_tests}
use Rattle.std.proofs.lemmas.List.{drop-take}
use Rattle.std.proofs.lemmas.Str.{length-encode, len_utf8_bounds, len_utf8_ascii, encodes-chars}
use Rattle.std.specs.Char.{len_utf8}
use Rattle.std.specs.Str.{chars, encode_utf8_all, IsUtf8}
use Rattle.unicode_ident.specs.Ident.{is_xid_start, is_xid_continue}
use Rattle.unicode_ident.proofs.IdentLemmas.{is_xid_start-is_xid_continue, is_xid_continue-ascii}
use Rattle.dm_stream.specs.declared.tokens.Span.{Span}
use Rattle.dm_stream.specs.declared.tokens.Delim.{Delim}
use Rattle.dm_stream.specs.declared.tokens.LitKind.{LitKind}
use Rattle.dm_stream.specs.declared.tokens.LitKind.TheVariants as kind
use Rattle.dm_stream.specs.declared.tokens.Token.TheVariants as t
use Rattle.dm_stream.specs.declared.tokens.Punct.{Punct}
use Rattle.dm_lexer.specs.declared.lexing.Lexeme.{Lexeme}
use Rattle.dm_lexer.specs.declared.lexing.Lexeme.TheVariants as lexeme
use Rattle.dm_lexer.specs.declared.numbers.Base.{Base}
use Rattle.dm_lexer.specs.TextFronts.{IsFront, IsSized, IsBehind, run}
use Rattle.std.specs.Str.Parse.{digits_value}
use Rattle.dm_lexer.specs.Words.{radix, begins_word, word_length, begins_raw_word, raw_word_length, is_never_raw, word_bytes, goes_on, starts_word}
use Rattle.dm_lexer.specs.Numbers.{begins_digit, number_length, number_with, number_behind, behind_prefix, length_of, spoils, is_value, digits_among, digits_length, base_of, prefix_length, suffix_length}
use Rattle.dm_lexer.specs.declared.quotes.Opening.{Opening}
use Rattle.dm_lexer.specs.Quotes.{begins, more, is_hash, opens_raw, plain_opening, raw_opening, second_raw, byte_opening, c_opening, opening, body, whole_lines, in_whole_lines, quoted_length, lone_closing, char_length, is_lifetime, lifetime_length}
use Rattle.dm_lexer.specs.Lexemes.{opened_by, closed_by, is_punct}
use Rattle.dm_lexer.specs.Rows.{Row, gives, refuses, passes, or_row, row_of, word, raw_word, literal, byte_at, punct, opens, closes, puncts, mark_row, raw_row, word_row, number_row, unquoted_row, quoted, quoted_row, tick, tick_row, lifetime, row, IsGiven, IsRefusing}
use Rattle.dm_lexer.proofs.TextFronts.{front-behind, behind-chars}
use Rattle.dm_lexer.proofs.Openings.{opening-front, tick-one, behind-tick}
use Rattle.dm_lexer.proofs.LexChars.{front-length, front-one}

chars_some : (text : List ℕ) → IsUtf8 text → 0 < length text → chars text ≡ [] → ⊥
chars_some text u z h =
    let e : text ≡ [] = sym (encodes-chars text u) ∙ ap encode_utf8_all h in
    let l : length text ≡ 0 = ap length e in
    omega arith

or-passes : (r s : Row) → or_row r s ≡ passes → s ≡ passes
or-passes (gives x n) s h = absurd (cc)
or-passes (refuses n) s h = absurd (cc)
or-passes passes s h = h

refuses-passes : (n : ℕ) → refuses n ≡ passes → ⊥
refuses-passes n h = absurd (cc)

mark-stands : (at c : ℕ) (cs : List ℕ) → mark_row at (c ∷ cs) ≡ passes → ⊥
mark-stands at c cs h =
    let a = or-passes (opens at (opened_by c)) (or_row (closes at (closed_by c)) (or_row (puncts at c cs) (refuses 1))) h in
    let b = or-passes (closes at (closed_by c)) (or_row (puncts at c cs) (refuses 1)) a in
    refuses-passes 1 (or-passes (puncts at c cs) (refuses 1) b)

-- some row stands where there are characters
row-stands_chars : (at c : ℕ) (cs : List ℕ) → row at (c ∷ cs) ≡ passes → ⊥
unfolding row
row-stands_chars at c cs h =
    let l : List ℕ = c ∷ cs in
    let q = or-passes (quoted_row at l) (or_row (tick_row at l) (unquoted_row at l)) h in
    let t = or-passes (tick_row at l) (unquoted_row at l) q in
    let a = or-passes (raw_row at l) (or_row (word_row at l) (or_row (number_row at l) (mark_row at l))) t in
    let b = or-passes (word_row at l) (or_row (number_row at l) (mark_row at l)) a in
    mark-stands at c cs (or-passes (number_row at l) (mark_row at l) b)

row_stands_by : (text cs : List ℕ) (at : ℕ) → chars text ≡ cs → (chars text ≡ [] → ⊥) → row at cs ≡ passes → ⊥
row_stands_by text [] at k some h = some k
row_stands_by text (c ∷ cs) at k some h = row-stands_chars at c cs h

pub row-stands : (text : List ℕ) (at : ℕ) → IsUtf8 text → 0 < length text → row at (chars text) ≡ passes → ⊥
row-stands text at u z h = row_stands_by text (chars text) at refl (chars_some text u z) h

-- the lexemes of a front

front_positive_chars : (text cs : List ℕ) (size n : ℕ) → chars text ≡ cs → (chars text ≡ [] → ⊥) →
    size ≡ length (encode_utf8_all (take (suc n) (chars text))) → 0 < size
front_positive_chars text [] size n k some e = absurd (some k)
front_positive_chars text (c ∷ cs) size n k some e =
    let m : size ≡ length (encode_utf8 c ++ encode_utf8_all (take n cs)) = e ∙ ap (λ l. length (encode_utf8_all (take (suc n) l))) k in
    omega (arith, m, length-append (encode_utf8 c) (encode_utf8_all (take n cs)), length-encode c, len_utf8_bounds c)

front-positive : (text : List ℕ) (size n : ℕ) → IsUtf8 text → IsFront text size n → 0 < n → 0 < length text → 0 < size
front-positive text size zero u f z l = absurd (omega arith)
front-positive text size (suc n) u f z l = front_positive_chars text (chars text) size n refl (chars_some text u l) (front-length text size (suc n) f)

pub word-made : (text : List ℕ) (at size n : ℕ) → IsFront text size n →
    word at (chars text) n ≡ lexeme.Token (t.Ident record { name = take size text; raw = false; span = record { start = at; «end» = at + size } })
word-made text at size n f =
    ap (λ v. lexeme.Token (t.Ident record { name = v; raw = false; span = record { start = at; «end» = at + length v } })) (sym f.bytes_are) ∙
    ap (λ v. lexeme.Token (t.Ident record { name = take size text; raw = false; span = record { start = at; «end» = at + v } }))
    (ap length f.bytes_are ∙ sym (front-length text size n f))

pub literal-made : (k : LitKind) (text : List ℕ) (at size n : ℕ) → IsFront text size n →
    literal k at (chars text) n ≡ lexeme.Token (t.Literal record { kind = k; text = take size text; span = record { start = at; «end» = at + size } })
literal-made k text at size n f =
    ap (λ v. lexeme.Token (t.Literal record { kind = k; text = v; span = record { start = at; «end» = at + length v } })) (sym f.bytes_are) ∙
    ap (λ v. lexeme.Token (t.Literal record { kind = k; text = take size text; span = record { start = at; «end» = at + v } }))
    (ap length f.bytes_are ∙ sym (front-length text size n f))

pub raw-made : (text name : List ℕ) (at size n : ℕ) → IsFront text size n → drop 2 (take size text) ≡ name →
    raw_word at (chars text) n ≡ lexeme.Token (t.Ident record { name = name; raw = true; span = record { start = at; «end» = at + size } })
raw-made text name at size n f e =
    ap (λ v. lexeme.Token (t.Ident record { name = drop 2 v; raw = true; span = record { start = at; «end» = at + length v } })) (sym f.bytes_are) ∙
    ap (λ v. lexeme.Token (t.Ident record { name = v; raw = true; span = record { start = at; «end» = at + length (take size text) } })) e ∙
    ap (λ v. lexeme.Token (t.Ident record { name = name; raw = true; span = record { start = at; «end» = at + v } }))
    (ap length f.bytes_are ∙ sym (front-length text size n f))

-- the answer of a row by the size that the program finds
given-row : (r : Row) (b : Bool) (o : Option ℕ) (make : ℕ → Lexeme) (refused size count : ℕ) (x : Lexeme) (text : List ℕ) →
    r ≡ cond b (row_of o make refused) passes → b ≡ true → o ≡ Some count → IsFront text size count → make count ≡ x → 0 < size → IsGiven r x size text
given-row r b o make refused size count x text e h k f m z = record {
  count = count;
  row_is = e ∙ ap (λ v. cond v (row_of o make refused) passes) h ∙ ap (λ v. row_of v make refused) k ∙ ap (λ l. gives l count) m;
  front = f;
  positive = z;
}

refusing-row : (r : Row) (b : Bool) (o : Option ℕ) (make : ℕ → Lexeme) (refused size : ℕ) (text : List ℕ) →
    r ≡ cond b (row_of o make refused) passes → b ≡ true → o ≡ None → IsFront text size refused → IsRefusing r size text
refusing-row r b o make refused size text e h k f = record {
  count = refused;
  row_is = e ∙ ap (λ v. cond v (row_of o make refused) passes) h ∙ ap (λ v. row_of v make refused) k;
  front = f;
}

-- words

pub some-only : (b : Bool) (n count : ℕ) → cond b (Some n) None ≡ Some count → (b ≡ true) × (n ≡ count)
some-only true n count h = (refl, cc)
some-only false n count h = absurd (cc)

pub is-code : (c d : ℕ) → nat_eq c d ≡ true → c ≡ d
is-code c d h = grind (arith, nat_tests)

starts_by : (c : ℕ) (a b : Bool) → is_xid_start c ≡ a → nat_eq c 95 ≡ b → starts_word c ≡ true → goes_on c ≡ true
starts_by c true b x y h = is_xid_start-is_xid_continue c x
starts_by c false true x y h =
    let e : c ≡ 95 = is-code c 95 y in
    let P : ℕ → Type 0 = λ v. is_xid_continue v ≡ true in
    subst P (sym e) (is_xid_continue-ascii 95 (omega arith))
starts_by c false false x y h = absurd (cc)

pub starts-goes_on : (c : ℕ) → starts_word c ≡ true → goes_on c ≡ true
starts-goes_on c h = starts_by c (is_xid_start c) (nat_eq c 95) refl refl h

run-positive : (p : ℕ → Bool) (c : ℕ) (cs : List ℕ) → p c ≡ true → 0 < run p (c ∷ cs)
run-positive p c cs h = let e : run p (c ∷ cs) ≡ suc (run p cs) = ap (λ b. cond b (suc (run p cs)) 0) h in omega (arith, e)

pub word-positive : (cs : List ℕ) → begins_word cs ≡ true → 0 < run goes_on cs
word-positive [] h = absurd (cc)
word-positive (c ∷ cs) h = run-positive goes_on c cs (starts-goes_on c h)

pub word-found : (text : List ℕ) (at size : ℕ) → IsUtf8 text → 0 < length text → IsSized text size (word_length (chars text)) →
    IsGiven (word_row at (chars text)) (lexeme.Token (t.Ident record { name = take size text; raw = false; span = record { start = at; «end» = at + size } })) size text
word-found text at size u l (count, e, f) =
    let s = some-only (begins_word (chars text)) (run goes_on (chars text)) count e in
    let z : 0 < run goes_on (chars text) = word-positive (chars text) s.0 in
    let n = s.1 in
    given-row (word_row at (chars text)) (begins_word (chars text)) (word_length (chars text)) (word at (chars text)) 1 size count _ text refl s.0 e f
    (word-made text at size count f) (front-positive text size count u f (omega (arith, z, n)) l)

-- raw words

pub raw_count : (a b : Bool) (n count : ℕ) → cond a (cond b None (Some n)) None ≡ Some count → n ≡ count
raw_count true true n count h = absurd (cc)
raw_count true false n count h = cc
raw_count false b n count h = absurd (cc)

pub raw-found : (text rest : List ℕ) (at size known : ℕ) → IsUtf8 text → 0 < length text → begins_raw_word (chars text) ≡ true → IsBehind text 2 2 rest →
    IsFront rest size (run goes_on (chars rest)) → IsSized text known (raw_word_length (chars text)) →
    IsGiven (raw_row at (chars text)) (lexeme.Token (t.Ident record { name = take size rest; raw = true; span = record { start = at; «end» = at + (2 + size) } })) (2 + size) text
raw-found text rest at size known u l h b f (count, e, g) =
    let cs : List ℕ = chars text in
    let k : chars rest ≡ drop 2 cs = behind-chars text rest 2 2 b in
    let n : 2 + run goes_on (drop 2 cs) ≡ count =
    raw_count (begins_raw_word cs) (is_never_raw (word_bytes (drop 2 cs))) (2 + run goes_on (drop 2 cs)) count e in
    let m : 2 + run goes_on (chars rest) ≡ count = ap (λ v. 2 + run goes_on v) k ∙ n in
    let P : ℕ → Type 0 = λ i. IsFront text (2 + size) i in
    let whole : IsFront text (2 + size) count = subst P m (front-behind text rest 2 size 2 (run goes_on (chars rest)) b f) in
    let name : drop 2 (take (2 + size) text) ≡ take size rest = drop-take 2 size text ∙ ap (take size) b.rest_is in
    given-row (raw_row at cs) (begins_raw_word cs) (raw_word_length cs) (raw_word at cs) 2 (2 + size) count _ text refl h e whole
    (raw-made text (take size rest) at (2 + size) count whole name) (omega arith)

pub raw-refused : (text rest : List ℕ) (at : ℕ) → begins_raw_word (chars text) ≡ true → IsBehind text 2 2 rest → raw_word_length (chars text) ≡ None →
    IsRefusing (raw_row at (chars text)) 2 text
raw-refused text rest at h b n =
    refusing-row (raw_row at (chars text)) (begins_raw_word (chars text)) (raw_word_length (chars text)) (raw_word at (chars text)) 2 2 text refl h n b.front

right-false : (a b : Bool) → b ≡ false → (a && b) ≡ false
right-false a true h = absurd (cc)
right-false true false h = refl
right-false false false h = refl

-- numbers

none-some : (a : Bool) (x r : ℕ × ℕ) → cond a None (cond false (Some x) None) ≡ Some r → ⊥
none-some true x r h = absurd (cc)
none-some false x r h = absurd (cc)

is-some : (a b : Bool) (x r : ℕ × ℕ) → cond a None (cond b (Some x) None) ≡ Some r → x.0 ≡ r.0
is-some true b x r h = absurd (cc)
is-some false true x r h = let e : x ≡ r = cc in ap (λ v. v.0) e
is-some false false x r h = absurd (cc)

pub with-positive : (base : Base) (digits : ℕ) (cs : List ℕ) (r : ℕ × ℕ) → number_with base digits cs ≡ Some r → 0 < r.0
with-positive base zero cs r h =
    absurd (none-some (spoils base (drop 0 cs)) (0 + suffix_length (drop 0 cs), digits_value (radix base) (digits_among base (take 0 cs))) r h)
with-positive base (suc n) cs r h =
    let cut : List ℕ = take (suc n) cs in
    let x : ℕ × ℕ = (suc n + suffix_length (drop (suc n) cs), digits_value (radix base) (digits_among base cut)) in
    let e : x.0 ≡ r.0 = is-some (spoils base (drop (suc n) cs)) (is_value base (digits_among base cut)) x r h in
    omega (arith, e)

opening-positive : (n count : ℕ) (o : Option (ℕ × ℕ)) → ((r : ℕ × ℕ) → o ≡ Some r → 0 < r.0) → length_of (behind_prefix n o) ≡ Some count → 0 < count
opening-positive n count None h e = absurd (cc)
opening-positive n count (Some r) h e = let z : 0 < r.0 = h r refl in let m : n + r.0 ≡ count = cc in omega (arith, z, m)

cond_length : (b : Bool) (o : Option (ℕ × ℕ)) (count : ℕ) → length_of (cond b o None) ≡ Some count → length_of o ≡ Some count
cond_length true o count h = h
cond_length false o count h = absurd (cc)

pub number-positive : (cs : List ℕ) (count : ℕ) → number_length cs ≡ Some count → 0 < count
number-positive cs count h =
    let inside : List ℕ = drop (prefix_length (base_of cs)) cs in
    opening-positive (prefix_length (base_of cs)) count (number_behind (base_of cs) inside)
    (λ r e. with-positive (base_of cs) (digits_length (base_of cs) inside) inside r e) (cond_length (begins_digit cs) _ count h)

pub number-found : (text : List ℕ) (at size : ℕ) → IsUtf8 text → 0 < length text → begins_digit (chars text) ≡ true →
    IsSized text size (number_length (chars text)) →
    IsGiven (number_row at (chars text)) (lexeme.Token (t.Literal record { kind = kind.Int; text = take size text; span = record { start = at; «end» = at + size } })) size text
number-found text at size u l h (count, e, f) =
    given-row (number_row at (chars text)) (begins_digit (chars text)) (number_length (chars text)) (literal kind.Int at (chars text))
    (run goes_on (chars text)) size count _ text refl h e f (literal-made kind.Int text at size count f)
    (front-positive text size count u f (number-positive (chars text) count e) l)

-- literals with quotes

-- no opening is empty
abbrev pub HasSize : Option Opening → Type 0
HasSize None = 0 < 1
HasSize (Some o) = 0 < o.size

size-cond : (b : Bool) (x y : Option Opening) → HasSize x → HasSize y → HasSize (cond b x y)
size-cond true x y h k = h
size-cond false x y h k = k

raw-size : (k : LitKind) (before : ℕ) (cs : List ℕ) → HasSize (raw_opening k before cs)
raw-size k before cs = size-cond (opens_raw cs) (Some record { kind = k; hashes = run is_hash cs; size = run is_hash cs + before + 1 }) None (omega arith) (omega arith)

second-size : (k : LitKind) (cs : List ℕ) → HasSize (second_raw k cs)
second-size k [] = omega arith
second-size k (c ∷ cs) = size-cond (nat_eq c 114) (raw_opening k 2 cs) None (raw-size k 2 cs) (omega arith)

byte-size : (cs : List ℕ) → HasSize (byte_opening cs)
byte-size cs =
    size-cond (begins 34 cs) (Some (plain_opening kind.ByteStr 2)) (cond (begins 39 cs) (Some (plain_opening kind.Byte 2)) (second_raw kind.RawByteStr cs))
    (omega arith)
    (size-cond (begins 39 cs) (Some (plain_opening kind.Byte 2)) (second_raw kind.RawByteStr cs) (omega arith) (second-size kind.RawByteStr cs))

c-size : (cs : List ℕ) → HasSize (c_opening cs)
c-size cs = size-cond (begins 34 cs) (Some (plain_opening kind.CStr 2)) (second_raw kind.RawCStr cs) (omega arith) (second-size kind.RawCStr cs)

pub opening-size : (cs : List ℕ) → HasSize (opening cs)
opening-size [] = omega arith
opening-size (c ∷ cs) =
    size-cond (nat_eq c 34) (Some (plain_opening kind.Str 1))
    (cond (nat_eq c 98) (byte_opening cs) (cond (nat_eq c 99) (c_opening cs) (cond (nat_eq c 114) (raw_opening kind.RawStr 1 cs) None)))
    (omega arith)
    (size-cond (nat_eq c 98) (byte_opening cs) (cond (nat_eq c 99) (c_opening cs) (cond (nat_eq c 114) (raw_opening kind.RawStr 1 cs) None)) (byte-size cs)
    (size-cond (nat_eq c 99) (c_opening cs) (cond (nat_eq c 114) (raw_opening kind.RawStr 1 cs) None) (c-size cs)
    (size-cond (nat_eq c 114) (raw_opening kind.RawStr 1 cs) None (raw-size kind.RawStr 1 cs) (omega arith))))

more-positive : (n count : ℕ) (o : Option ℕ) → 0 < n → more n o ≡ Some count → 0 < count
more-positive n count None z h = absurd (cc)
more-positive n count (Some m) z h = let e : n + m ≡ count = cc in omega (arith, e)

pub whole-positive : (n count : ℕ) (cs : List ℕ) (o : Option ℕ) → 0 < n → in_whole_lines cs (more n o) ≡ Some count → 0 < count
whole-positive n count cs None z h = absurd (cc)
whole-positive n count cs (Some m) z h =
    let e : n + m ≡ count = (some-only (whole_lines (take (n + m) cs)) (n + m) count h).1 in
    omega (arith, e)

pub quoted-found : (text : List ℕ) (at size : ℕ) (o : Opening) → IsUtf8 text → 0 < length text → opening (chars text) ≡ Some o →
    IsSized text size (quoted_length o (chars text)) →
    IsGiven (quoted_row at (chars text)) (lexeme.Token (t.Literal record { kind = o.kind; text = take size text; span = record { start = at; «end» = at + size } })) size text
quoted-found text at size o u l h (count, e, f) =
    let cs : List ℕ = chars text in
    let z : 0 < o.size = subst HasSize h (opening-size cs) in
    record {
      count = count;
      row_is =
          ap (quoted at cs) h ∙ ap (λ v. row_of v (literal o.kind at cs) o.size) e ∙
          ap (λ v. gives v count) (literal-made o.kind text at size count f);
      front = f;
      positive =
          front-positive text size count u f (whole-positive o.size count cs (body o.kind o.hashes (drop o.size cs)) z e) l;
    }

pub quoted-refused : (text : List ℕ) (at : ℕ) (o : Opening) → IsUtf8 text → opening (chars text) ≡ Some o → quoted_length o (chars text) ≡ None →
    IsRefusing (quoted_row at (chars text)) o.size text
quoted-refused text at o u h n = record {
  count = o.size;
  row_is = ap (quoted at (chars text)) h ∙ ap (λ v. row_of v (literal o.kind at (chars text)) o.size) n;
  front = opening-front text o u h;
}

-- Chars and lifetimes

pub char-positive : (cs : List ℕ) (count : ℕ) → char_length cs ≡ Some count → 0 < count
char-positive [] count h = absurd (cc)
char-positive (c ∷ cs) count h = more-positive 1 count (lone_closing false cs) (omega arith) h

ticked : (at : ℕ) (cs : List ℕ) → begins 39 cs ≡ true → tick_row at cs ≡ tick at cs (char_length cs) (lifetime_length cs)
ticked at cs h = ap (λ v. cond v (tick at cs (char_length cs) (lifetime_length cs)) passes) h

pub char-found : (text : List ℕ) (at size : ℕ) → IsUtf8 text → 0 < length text → begins 39 (chars text) ≡ true →
    IsSized text size (char_length (chars text)) →
    IsGiven (tick_row at (chars text)) (lexeme.Token (t.Literal record { kind = kind.Char; text = take size text; span = record { start = at; «end» = at + size } })) size text
char-found text at size u l h (count, e, f) =
    let cs : List ℕ = chars text in
    record {
      count = count;
      row_is =
          ticked at cs h ∙ ap (λ v. tick at cs v (lifetime_length cs)) e ∙ ap (λ v. gives v count) (literal-made kind.Char text at size count f);
      front = f;
      positive = front-positive text size count u f (char-positive cs count e) l;
    }

lifetime-made : (text name : List ℕ) (at size n : ℕ) → IsFront text size n → drop 1 (take size text) ≡ name →
    lifetime at (chars text) n ≡ lexeme.Token (t.Lifetime record { name = name; span = record { start = at; «end» = at + size } })
lifetime-made text name at size n f e =
    ap (λ v. lexeme.Token (t.Lifetime record { name = drop 1 v; span = record { start = at; «end» = at + length v } })) (sym f.bytes_are) ∙
    ap (λ v. lexeme.Token (t.Lifetime record { name = v; span = record { start = at; «end» = at + length (take size text) } })) e ∙
    ap (λ v. lexeme.Token (t.Lifetime record { name = name; span = record { start = at; «end» = at + v } }))
    (ap length f.bytes_are ∙ sym (front-length text size n f))

pub lifetime-found : (text after : List ℕ) (at c size known : ℕ) → IsUtf8 text → text ≡ encode_utf8 c ++ after → chars text ≡ c ∷ chars after →
    begins 39 (chars text) ≡ true → char_length (chars text) ≡ None → IsSized text known (lifetime_length (chars text)) →
    IsFront after size (run goes_on (chars after)) →
    IsGiven (tick_row at (chars text)) (lexeme.Token (t.Lifetime record { name = take size after; span = record { start = at; «end» = at + (1 + size) } })) (1 + size) text
lifetime-found text after at c size known u x k h i (count, e, g) f =
    let cs : List ℕ = chars text in
    let b : IsBehind text 1 1 after = record { front = tick-one text u h; rest_is = sym (behind-tick text after c x k h) } in
    let n : suc (run goes_on (chars after)) ≡ count =
    (some-only (is_lifetime (chars after)) (suc (run goes_on (chars after))) count (ap lifetime_length (sym k) ∙ e)).1 in
    let m : 1 + run goes_on (chars after) ≡ count = omega (arith, n) in
    let P : ℕ → Type 0 = λ j. IsFront text (1 + size) j in
    let whole : IsFront text (1 + size) count = subst P m (front-behind text after 1 size 1 (run goes_on (chars after)) b f) in
    let name : drop 1 (take (1 + size) text) ≡ take size after = drop-take 1 size text ∙ ap (take size) b.rest_is in
    record {
      count = count;
      row_is =
          ticked at cs h ∙ ap (λ v. tick at cs v (lifetime_length cs)) i ∙ ap (λ v. tick at cs None v) e ∙
          ap (λ v. gives v count) (lifetime-made text (take size after) at (1 + size) count whole name);
      front = whole;
      positive = omega arith;
    }

pub tick-refused : (text : List ℕ) (at : ℕ) → IsUtf8 text → begins 39 (chars text) ≡ true → char_length (chars text) ≡ None →
    lifetime_length (chars text) ≡ None → IsRefusing (tick_row at (chars text)) 1 text
tick-refused text at u h i n = record {
  count = 1;
  row_is =
      ticked at (chars text) h ∙ ap (λ v. tick at (chars text) v (lifetime_length (chars text))) i ∙ ap (λ v. tick at (chars text) None v) n;
  front = tick-one text u h;
}

pub no-tick : (text : List ℕ) → chars text ≡ [] → begins 39 (chars text) ≡ true → ⊥
no-tick text k h = let e : begins 39 (chars text) ≡ false = ap (begins 39) k in absurd (cc)

-- marks

pub opened-ascii : (c : ℕ) (d : Delim) → opened_by c ≡ Some d → c < 128
opened-ascii c d h = grind (arith, nat_tests)

pub closed-ascii : (c : ℕ) (d : Delim) → closed_by c ≡ Some d → c < 128
closed-ascii c d h = grind (arith, nat_tests)

pub punct-ascii : (c : ℕ) → is_punct c ≡ true → c < 128
punct-ascii c h = grind (arith, nat_tests)

front-ascii : (text after : List ℕ) (c : ℕ) → IsUtf8 text → text ≡ encode_utf8 c ++ after → chars text ≡ c ∷ chars after → c < 128 → IsFront text 1 1
front-ascii text after c u e k a =
    let P : ℕ → Type 0 = λ i. IsFront text i 1 in
    subst P (len_utf8_ascii c a) (front-one text after c u e k)

pub mark-open : (text after : List ℕ) (at c : ℕ) (d : Delim) (s : Span) → IsUtf8 text → text ≡ encode_utf8 c ++ after →
    chars text ≡ c ∷ chars after → opened_by c ≡ Some d → s ≡ byte_at at → IsGiven (mark_row at (chars text)) (lexeme.Open d s) 1 text
mark-open text after at c d s u e k o q = record {
  count = 1;
  row_is =
      ap (mark_row at) k ∙
      ap (λ v. or_row (opens at v) (or_row (closes at (closed_by c)) (or_row (puncts at c (chars after)) (refuses 1)))) o ∙
      ap (λ v. gives (lexeme.Open d v) 1) (sym q);
  front = front-ascii text after c u e k (opened-ascii c d o);
  positive = omega arith;
}

pub mark-close : (text after : List ℕ) (at c : ℕ) (d : Delim) (s : Span) → IsUtf8 text → text ≡ encode_utf8 c ++ after →
    chars text ≡ c ∷ chars after → opened_by c ≡ None → closed_by c ≡ Some d → s ≡ byte_at at → IsGiven (mark_row at (chars text)) (lexeme.Close d s) 1 text
mark-close text after at c d s u e k n o q = record {
  count = 1;
  row_is =
      ap (mark_row at) k ∙
      ap (λ v. or_row (opens at v) (or_row (closes at (closed_by c)) (or_row (puncts at c (chars after)) (refuses 1)))) n ∙
      ap (λ v. or_row (closes at v) (or_row (puncts at c (chars after)) (refuses 1))) o ∙ ap (λ v. gives (lexeme.Close d v) 1) (sym q);
  front = front-ascii text after c u e k (closed-ascii c d o);
  positive = omega arith;
}

below-puncts : (at c : ℕ) (cs : List ℕ) → opened_by c ≡ None → closed_by c ≡ None → mark_row at (c ∷ cs) ≡ or_row (puncts at c cs) (refuses 1)
below-puncts at c cs n o =
    ap (λ v. or_row (opens at v) (or_row (closes at (closed_by c)) (or_row (puncts at c cs) (refuses 1)))) n ∙
    ap (λ v. or_row (closes at v) (or_row (puncts at c cs) (refuses 1))) o

pub mark-punct : (text after : List ℕ) (at c : ℕ) (p : Punct) → IsUtf8 text → text ≡ encode_utf8 c ++ after → chars text ≡ c ∷ chars after →
    opened_by c ≡ None → closed_by c ≡ None → is_punct c ≡ true → lexeme.Token (t.Punct p) ≡ punct at c (chars after) →
    IsGiven (mark_row at (chars text)) (lexeme.Token (t.Punct p)) 1 text
mark-punct text after at c p u e k n o h q = record {
  count = 1;
  row_is =
      ap (mark_row at) k ∙ below-puncts at c (chars after) n o ∙
      ap (λ v. or_row (cond v (gives (punct at c (chars after)) 1) passes) (refuses 1)) h ∙ ap (λ v. gives v 1) (sym q);
  front = front-ascii text after c u e k (punct-ascii c h);
  positive = omega arith;
}

pub mark-other : (text after : List ℕ) (at c : ℕ) → IsUtf8 text → text ≡ encode_utf8 c ++ after → chars text ≡ c ∷ chars after →
    opened_by c ≡ None → closed_by c ≡ None → is_punct c ≡ false → IsRefusing (mark_row at (chars text)) (len_utf8 c) text
mark-other text after at c u e k n o h = record {
  count = 1;
  row_is =
      ap (mark_row at) k ∙ below-puncts at c (chars after) n o ∙
      ap (λ v. or_row (cond v (gives (punct at c (chars after)) 1) passes) (refuses 1)) h;
  front = front-one text after c u e k;
}

pub ruleset rows = (common_steps)
