-- The tokens of a text stand in it at their ranges.
use Rattle.std.specs.Prelude.{◌≡◌, ℕ, zero, suc, ◌+◌, ◌-◌, ◌<◌, ◌≤◌, Bool, true, false, List, [], ◌∷◌, ◌++◌, length, take, drop, codes, encode_utf8, refl, cond, Option, Some, None, ⊤}
use Rattle.std.proofs.Common.{ap, ◌∙◌, sym, subst, arith, length-append, append_assoc, append-nil, map}
use Rattle.std.proofs.lemmas.Bool.{and_parts}
use Rattle.std.proofs.lemmas.Bool.Decides.{nat_tests}
use Rattle.std.proofs.lemmas.List.{map-append, take-append-drop}
use Rattle.std.proofs.lemmas.Str.{length-encode, len_utf8_bounds, encodes-chars, encodes-append, encode_ascii, IsUtf8-past_char, IsCharBoundary-at_seam}
use Rattle.std.proofs.Math.Seq.{take-append_seam, drop-append_seam}
use Rattle.std.specs.Str.{chars, encode_utf8_all, IsUtf8, IsCharBoundary}
use Rattle.dm_stream.specs.Cursors.{token_span}
use Rattle.dm_stream.specs.declared.tokens.Span.{Span}
use Rattle.dm_stream.specs.declared.tokens.Delim.{Delim}
use Rattle.dm_stream.specs.declared.tokens.LitKind.{LitKind}
use Rattle.dm_stream.specs.declared.tokens.LitKind.TheVariants as kind
use Rattle.dm_stream.specs.declared.tokens.Entry.{Entry}
use Rattle.dm_stream.specs.declared.tokens.Entry.TheVariants as entry
use Rattle.dm_lexer.specs.declared.lexing.Lexeme.{Lexeme}
use Rattle.dm_lexer.specs.declared.lexing.Lexeme.TheVariants as lexeme
use Rattle.dm_lexer.specs.declared.blanks.Blank.{Blank}
use Rattle.dm_lexer.specs.declared.blanks.Blank.TheVariants.{Absent, Size, Unclosed}
use Rattle.dm_lexer.specs.declared.quotes.Opening.{Opening}
use Rattle.dm_stream.specs.Trees.{Trees, no_trees, token, group, flatten}
use Rattle.dm_stream.specs.Layout.{spelled}
use Rattle.dm_lexer.specs.Nesting.{marks, IsTreesOf}
use Rattle.dm_lexer.specs.TextFronts.{run}
use Rattle.dm_lexer.specs.Words.{begins_pair, begins_word, word_length, begins_raw_word, raw_word_length, is_never_raw, word_bytes, goes_on}
use Rattle.dm_lexer.specs.Numbers.{begins_digit, number_length}
use Rattle.dm_lexer.specs.Quotes.{begins, opening, body, quoted_length, char_length, lifetime_length, is_lifetime}
use Rattle.dm_lexer.specs.Blanks.{blank_length}
use Rattle.dm_lexer.specs.Lexemes.{opened_by, closed_by, is_punct}
use Rattle.dm_lexer.specs.Rows.{Row, gives, refuses, passes, or_row, row_of, range, byte_at, word, raw_word, lifetime, literal, punct, quoted, quoted_row, tick, tick_row, raw_row, word_row, number_row, opens, closes, puncts, mark_row, unquoted_row, row, Reading, reading, read_front, read_row}
use Rattle.dm_lexer.specs.Ranges.{bytes_in, opener, closer, IsSpelledAt, AreSpelledFrom, AreSpelled}
use Rattle.dm_lexer.proofs.RowSteps.{HasSize, opening-size, whole-positive, char-positive, word-positive, number-positive, raw_count, some-only, is-code, opened-ascii, closed-ascii, punct-ascii}

-- lexemes are entries without numbers

abbrev pub lexeme_of : Entry → Lexeme
lexeme_of (entry.Token t) = lexeme.Token t
lexeme_of (entry.Open d from n) = lexeme.Open d from
lexeme_of (entry.Close d upto) = lexeme.Close d upto

abbrev pub lexeme_range : Lexeme → Span
lexeme_range (lexeme.Token t) = token_span t
lexeme_range (lexeme.Open d from) = from
lexeme_range (lexeme.Close d upto) = upto

abbrev pub lexeme_spelling : Lexeme → List ℕ
lexeme_spelling (lexeme.Token t) = spelled t
lexeme_spelling (lexeme.Open d from) = opener d
lexeme_spelling (lexeme.Close d upto) = closer d

abbrev LexemesFrom : List ℕ → ℕ → List Lexeme → Type 0
LexemesFrom text from [] = ⊤
LexemesFrom text from (x ∷ xs) = IsSpelledAt text from (lexeme_range x) (lexeme_spelling x) × LexemesFrom text (lexeme_range x).«end» xs

pub marks-flatten : (ts : Trees) → marks ts ≡ map lexeme_of (flatten ts)
marks-flatten no_trees = refl
marks-flatten (token t rest) = ap (λ l. lexeme.Token t ∷ l) (marks-flatten rest)
marks-flatten (group d from inside upto rest) =
    ap (λ l. lexeme.Open d from ∷ (l ++ lexeme.Close d upto ∷ marks rest)) (marks-flatten inside) ∙
    ap (λ l. lexeme.Open d from ∷ (map lexeme_of (flatten inside) ++ lexeme.Close d upto ∷ l)) (marks-flatten rest) ∙
    ap (λ l. lexeme.Open d from ∷ l) (sym (map-append lexeme_of (flatten inside) (entry.Close d upto ∷ flatten rest)))

entries-from : (text : List ℕ) (from : ℕ) (es : List Entry) → LexemesFrom text from (map lexeme_of es) → AreSpelledFrom text from es
entries-from text from [] h = tt
entries-from text from (entry.Token t ∷ es) h = (h.0, entries-from text (token_span t).«end» es h.1)
entries-from text from (entry.Open d s n ∷ es) h = (h.0, entries-from text s.«end» es h.1)
entries-from text from (entry.Close d s ∷ es) h = (h.0, entries-from text s.«end» es h.1)

-- what each row gives is spelled as the characters that it takes

-- the first n characters, of which the first starts at the byte `at`, are the lexeme
pub record IsMadeOf (at : ℕ) (cs : List ℕ) (x : Lexeme) (n : ℕ) : Type 0 where
  pub range_is : lexeme_range x ≡ range at cs n
  pub spelling_is : encode_utf8_all (take n cs) ≡ lexeme_spelling x
  pub positive : 0 < n

abbrev pub Makes : ℕ → List ℕ → Row → Type 0
Makes at cs (gives x n) = IsMadeOf at cs x n
Makes at cs (refuses n) = ⊤
Makes at cs passes = ⊤

makes-or : (at : ℕ) (cs : List ℕ) (r below : Row) → Makes at cs r → Makes at cs below → Makes at cs (or_row r below)
makes-or at cs (gives x n) below h k = h
makes-or at cs (refuses n) below h k = tt
makes-or at cs passes below h k = k

makes-of : (at : ℕ) (cs : List ℕ) (o : Option ℕ) (make : ℕ → Lexeme) (refused : ℕ) →
    ((n : ℕ) → o ≡ Some n → IsMadeOf at cs (make n) n) → Makes at cs (row_of o make refused)
makes-of at cs None make refused h = tt
makes-of at cs (Some n) make refused h = h n refl

makes-where : (at : ℕ) (cs : List ℕ) (b : Bool) (r : Row) → (b ≡ true → Makes at cs r) → Makes at cs (cond b r passes)
makes-where at cs true r h = h refl
makes-where at cs false r h = tt

literal-made : (k : LitKind) (at : ℕ) (cs : List ℕ) (n : ℕ) → 0 < n → IsMadeOf at cs (literal k at cs n) n
literal-made k at cs n z = record { range_is = refl; spelling_is = refl; positive = z }

makes-quoted_by : (at : ℕ) (cs : List ℕ) (o : Option Opening) → HasSize o → Makes at cs (quoted at cs o)
makes-quoted_by at cs None z = tt
makes-quoted_by at cs (Some o) z =
    makes-of at cs (quoted_length o cs) (literal o.kind at cs) o.size
    (λ n e. literal-made o.kind at cs n (whole-positive o.size n cs (body o.kind o.hashes (drop o.size cs)) z e))

makes-quoted : (at : ℕ) (cs : List ℕ) → Makes at cs (quoted_row at cs)
makes-quoted at cs = makes-quoted_by at cs (opening cs) (opening-size cs)

begins-tick : (cs : List ℕ) → encode_utf8_all (39 ∷ cs) ≡ codes "'" ++ drop 1 (encode_utf8_all (39 ∷ cs))
begins-tick cs =
    subst (λ l. l ++ encode_utf8_all cs ≡ codes "'" ++ drop 1 (l ++ encode_utf8_all cs)) (sym (encode_ascii 39 (omega arith))) refl

begins-mark : (cs : List ℕ) → encode_utf8_all (114 ∷ 35 ∷ cs) ≡ codes "r#" ++ drop 2 (encode_utf8_all (114 ∷ 35 ∷ cs))
begins-mark cs =
    let P : List ℕ → List ℕ → Type 0 = λ k l. k ++ (l ++ encode_utf8_all cs) ≡ codes "r#" ++ drop 2 (k ++ (l ++ encode_utf8_all cs)) in
    let first : P (encode_utf8 114) (35 ∷ []) = subst (λ k. P k (35 ∷ [])) (sym (encode_ascii 114 (omega arith))) refl in
    subst (P (encode_utf8 114)) (sym (encode_ascii 35 (omega arith))) first

-- a lifetime's spelling begins with `'`
lifetime-made : (at : ℕ) (cs : List ℕ) (n : ℕ) → begins 39 cs ≡ true → lifetime_length cs ≡ Some n → IsMadeOf at cs (lifetime at cs n) n
lifetime-made at [] n b e = absurd (cc)
lifetime-made at (c ∷ cs) n b e =
    let tick : c ≡ 39 = is-code c 39 b in
    let size : suc (run goes_on cs) ≡ n = (some-only (is_lifetime cs) (suc (run goes_on cs)) n e).1 in
    let P : ℕ → ℕ → Type 0 = λ d m. encode_utf8_all (take m (d ∷ cs)) ≡ codes "'" ++ drop 1 (encode_utf8_all (take m (d ∷ cs))) in
    let at_tick : P 39 n = subst (P 39) size (begins-tick (take (run goes_on cs) cs)) in
    record { range_is = refl; spelling_is = subst (λ d. P d n) (sym tick) at_tick; positive = omega (arith, size) }

makes-tick_by : (at : ℕ) (cs : List ℕ) (o p : Option ℕ) → begins 39 cs ≡ true → char_length cs ≡ o → lifetime_length cs ≡ p → Makes at cs (tick at cs o p)
makes-tick_by at cs (Some n) p b e f = literal-made kind.Char at cs n (char-positive cs n e)
makes-tick_by at cs None (Some n) b e f = lifetime-made at cs n b f
makes-tick_by at cs None None b e f = tt

makes-tick : (at : ℕ) (cs : List ℕ) → Makes at cs (tick_row at cs)
makes-tick at cs =
    makes-where at cs (begins 39 cs) (tick at cs (char_length cs) (lifetime_length cs))
    (λ b. makes-tick_by at cs (char_length cs) (lifetime_length cs) b refl refl)

-- a raw word's spelling begins with `r#`
raw-made_by : (at : ℕ) (cs : List ℕ) (n : ℕ) → begins_pair 114 35 cs ≡ true → IsMadeOf at cs (raw_word at cs (2 + n)) (2 + n)
raw-made_by at [] n b = absurd (cc)
raw-made_by at (c ∷ []) n b = absurd (cc)
raw-made_by at (c ∷ d ∷ cs) n b =
    let first : c ≡ 114 = grind (arith, nat_tests) in
    let second : d ≡ 35 = grind (arith, nat_tests) in
    let size : 2 + n ≡ suc (suc n) = omega arith in
    let P : ℕ → ℕ → ℕ → Type 0 = λ a b m. encode_utf8_all (take m (a ∷ b ∷ cs)) ≡ codes "r#" ++ drop 2 (encode_utf8_all (take m (a ∷ b ∷ cs))) in
    let at_mark : P 114 35 (2 + n) = subst (P 114 35) (sym size) (begins-mark (take n cs)) in
    let at_first : P c 35 (2 + n) = subst (λ a. P a 35 (2 + n)) (sym first) at_mark in
    record { range_is = refl; spelling_is = subst (λ b. P c b (2 + n)) (sym second) at_first; positive = omega arith }

raw-made : (at : ℕ) (cs : List ℕ) (n : ℕ) → begins_raw_word cs ≡ true → raw_word_length cs ≡ Some n → IsMadeOf at cs (raw_word at cs n) n
raw-made at cs n b e =
    let size : 2 + run goes_on (drop 2 cs) ≡ n =
    raw_count (begins_raw_word cs) (is_never_raw (word_bytes (drop 2 cs))) (2 + run goes_on (drop 2 cs)) n e in
    subst (λ m. IsMadeOf at cs (raw_word at cs m) m) size
    (raw-made_by at cs (run goes_on (drop 2 cs)) (and_parts (begins_pair 114 35 cs) (begins_word (drop 2 cs)) b).0)

makes-raw : (at : ℕ) (cs : List ℕ) → Makes at cs (raw_row at cs)
makes-raw at cs =
    makes-where at cs (begins_raw_word cs) (row_of (raw_word_length cs) (raw_word at cs) 2)
    (λ b. makes-of at cs (raw_word_length cs) (raw_word at cs) 2 (λ n e. raw-made at cs n b e))

word-made : (at : ℕ) (cs : List ℕ) (n : ℕ) → begins_word cs ≡ true → word_length cs ≡ Some n → IsMadeOf at cs (word at cs n) n
word-made at cs n b e =
    let size : run goes_on cs ≡ n = (some-only (begins_word cs) (run goes_on cs) n e).1 in
    record { range_is = refl; spelling_is = refl; positive = omega (arith, size, word-positive cs b) }

makes-word : (at : ℕ) (cs : List ℕ) → Makes at cs (word_row at cs)
makes-word at cs =
    makes-where at cs (begins_word cs) (row_of (word_length cs) (word at cs) 1)
    (λ b. makes-of at cs (word_length cs) (word at cs) 1 (λ n e. word-made at cs n b e))

makes-number : (at : ℕ) (cs : List ℕ) → Makes at cs (number_row at cs)
makes-number at cs =
    makes-where at cs (begins_digit cs) (row_of (number_length cs) (literal kind.Int at cs) (run goes_on cs))
    (λ b. makes-of at cs (number_length cs) (literal kind.Int at cs) (run goes_on cs) (λ n e. literal-made kind.Int at cs n (number-positive cs n e)))

-- one ASCII character

ascii-bytes : (c : ℕ) (cs : List ℕ) → c < 128 → encode_utf8_all (take 1 (c ∷ cs)) ≡ c ∷ []
ascii-bytes c cs h = append-nil (encode_utf8 c) ∙ encode_ascii c h

ascii-made : (at c : ℕ) (cs : List ℕ) (x : Lexeme) → c < 128 → lexeme_range x ≡ byte_at at → lexeme_spelling x ≡ c ∷ [] → IsMadeOf at (c ∷ cs) x 1
ascii-made at c cs x h r s = record {
  range_is = r ∙ ap (λ l. record { start = at; «end» = at + length l }) (sym (ascii-bytes c cs h));
  spelling_is = ascii-bytes c cs h ∙ sym s;
  positive = omega arith;
}

opener-spelled : (c : ℕ) (d : Delim) → opened_by c ≡ Some d → opener d ≡ c ∷ []
opener-spelled c d h = grind (arith, nat_tests)

closer-spelled : (c : ℕ) (d : Delim) → closed_by c ≡ Some d → closer d ≡ c ∷ []
closer-spelled c d h = grind (arith, nat_tests)

makes-opens : (at c : ℕ) (cs : List ℕ) (o : Option Delim) → opened_by c ≡ o → Makes at (c ∷ cs) (opens at o)
makes-opens at c cs None h = tt
makes-opens at c cs (Some d) h = ascii-made at c cs (lexeme.Open d (byte_at at)) (opened-ascii c d h) refl (opener-spelled c d h)

makes-closes : (at c : ℕ) (cs : List ℕ) (o : Option Delim) → closed_by c ≡ o → Makes at (c ∷ cs) (closes at o)
makes-closes at c cs None h = tt
makes-closes at c cs (Some d) h = ascii-made at c cs (lexeme.Close d (byte_at at)) (closed-ascii c d h) refl (closer-spelled c d h)

makes-puncts : (at c : ℕ) (cs : List ℕ) → Makes at (c ∷ cs) (puncts at c cs)
makes-puncts at c cs =
    makes-where at (c ∷ cs) (is_punct c) (gives (punct at c cs) 1)
    (λ h. ascii-made at c cs (punct at c cs) (punct-ascii c h) refl (encode_ascii c (punct-ascii c h)))

makes-mark : (at : ℕ) (cs : List ℕ) → Makes at cs (mark_row at cs)
makes-mark at [] = tt
makes-mark at (c ∷ cs) =
    let l : List ℕ = c ∷ cs in
    let punct_row : Row = or_row (puncts at c cs) (refuses 1) in
    makes-or at l (opens at (opened_by c)) (or_row (closes at (closed_by c)) punct_row) (makes-opens at c cs (opened_by c) refl)
    (makes-or at l (closes at (closed_by c)) punct_row (makes-closes at c cs (closed_by c) refl)
    (makes-or at l (puncts at c cs) (refuses 1) (makes-puncts at c cs) tt))

makes-unquoted : (at : ℕ) (cs : List ℕ) → Makes at cs (unquoted_row at cs)
makes-unquoted at cs =
    makes-or at cs (raw_row at cs) (or_row (word_row at cs) (or_row (number_row at cs) (mark_row at cs))) (makes-raw at cs)
    (makes-or at cs (word_row at cs) (or_row (number_row at cs) (mark_row at cs)) (makes-word at cs)
    (makes-or at cs (number_row at cs) (mark_row at cs) (makes-number at cs) (makes-mark at cs)))

pub makes-row : (at : ℕ) (cs : List ℕ) → Makes at cs (row at cs)
unfolding row
makes-row at cs =
    makes-or at cs (quoted_row at cs) (or_row (tick_row at cs) (unquoted_row at cs)) (makes-quoted at cs)
    (makes-or at cs (tick_row at cs) (unquoted_row at cs) (makes-tick at cs) (makes-unquoted at cs))

-- The text is the bytes `before` and then the characters cs.
record IsBefore (text before : List ℕ) (at : ℕ) (cs : List ℕ) : Type 0 where
  length_is : length before ≡ at
  text_is : text ≡ before ++ encode_utf8_all cs
  utf8 : IsUtf8 (encode_utf8_all cs)

before-next : (text before : List ℕ) (at c : ℕ) (cs : List ℕ) → IsBefore text before at (c ∷ cs) →
    IsBefore text (before ++ encode_utf8 c) (at + length (encode_utf8 c)) cs
before-next text before at c cs b = record {
  length_is = length-append before (encode_utf8 c) ∙ ap (λ n. n + length (encode_utf8 c)) b.length_is;
  text_is = b.text_is ∙ sym (append_assoc before (encode_utf8 c) (encode_utf8_all cs));
  utf8 = IsUtf8-past_char (encode_utf8_all (c ∷ cs)) (encode_utf8_all cs) c b.utf8 refl;
}

utf8-behind : (n : ℕ) (cs : List ℕ) → IsUtf8 (encode_utf8_all cs) → IsUtf8 (encode_utf8_all (drop n cs))
utf8-behind zero cs u = u
utf8-behind (suc n) [] u = u
utf8-behind (suc n) (c ∷ cs) u = utf8-behind n cs (IsUtf8-past_char (encode_utf8_all (c ∷ cs)) (encode_utf8_all cs) c u refl)

seam-ends : (text before bytes : List ℕ) (at : ℕ) (cs : List ℕ) → length before ≡ at → text ≡ (before ++ bytes) ++ encode_utf8_all cs →
    IsUtf8 (encode_utf8_all cs) → IsCharBoundary text (at + length bytes)
seam-ends text before bytes at cs l e u =
    subst (IsCharBoundary text) (length-append before bytes ∙ ap (λ n. n + length bytes) l)
    (IsCharBoundary-at_seam text (before ++ bytes) (encode_utf8_all cs) e u)

bytes-there : (text before bytes rest : List ℕ) (at : ℕ) → length before ≡ at → text ≡ before ++ (bytes ++ rest) →
    bytes_in text record { start = at; «end» = at + length bytes } ≡ bytes
bytes-there text before bytes rest at l e =
    let size : (at + length bytes) - at ≡ length bytes = omega arith in
    let behind : drop at text ≡ bytes ++ rest =
    ap (λ n. drop n text) (sym l) ∙ ap (drop (length before)) e ∙ drop-append_seam before (bytes ++ rest) in
    ap (λ n. take n (drop at text)) size ∙ ap (take (length bytes)) behind ∙ take-append_seam bytes rest

front-some : (c n : ℕ) (cs : List ℕ) → 0 < n → 0 < length (encode_utf8_all (take n (c ∷ cs)))
front-some c zero cs h = absurd (omega arith)
front-some c (suc n) cs h =
    omega (arith, length-append (encode_utf8 c) (encode_utf8_all (take n cs)), length-encode c, len_utf8_bounds c)

front-seam : (n : ℕ) (cs : List ℕ) → encode_utf8_all cs ≡ encode_utf8_all (take n cs) ++ encode_utf8_all (drop n cs)
front-seam n cs = ap encode_utf8_all (sym (take-append-drop n cs)) ∙ encodes-append (take n cs) (drop n cs)

front-spelled : (text before : List ℕ) (from at c n : ℕ) (cs : List ℕ) → IsBefore text before at (c ∷ cs) → from ≤ at → 0 < n →
    IsSpelledAt text from (range at (c ∷ cs) n) (encode_utf8_all (take n (c ∷ cs)))
front-spelled text before from at c n cs b f z =
    let bytes : List ℕ = encode_utf8_all (take n (c ∷ cs)) in
    let rest : List ℕ = drop n (c ∷ cs) in
    let whole : text ≡ before ++ (bytes ++ encode_utf8_all rest) = b.text_is ∙ ap (λ l. before ++ l) (front-seam n (c ∷ cs)) in
    record {
      behind = f;
      some = omega (arith, front-some c n cs z);
      starts = subst (IsCharBoundary text) b.length_is (IsCharBoundary-at_seam text before (encode_utf8_all (c ∷ cs)) b.text_is b.utf8);
      ends = seam-ends text before bytes at rest b.length_is (whole ∙ sym (append_assoc before bytes (encode_utf8_all rest))) (utf8-behind n (c ∷ cs) b.utf8);
      bytes_are = bytes-there text before bytes (encode_utf8_all rest) at b.length_is whole;
    }

lexeme-spelled : (text before : List ℕ) (from at c n : ℕ) (cs : List ℕ) (x : Lexeme) → IsBefore text before at (c ∷ cs) → from ≤ at →
    IsMadeOf at (c ∷ cs) x n → IsSpelledAt text from (lexeme_range x) (lexeme_spelling x)
lexeme-spelled text before from at c n cs x b f m =
    subst (λ s. IsSpelledAt text from s (lexeme_spelling x)) (sym m.range_is)
    (subst (IsSpelledAt text from (range at (c ∷ cs) n)) m.spelling_is (front-spelled text before from at c n cs b f m.positive))

-- the first n characters end before as many of them are passed over
passed-front : (c n : ℕ) (cs : List ℕ) →
    length (encode_utf8_all (take n (c ∷ cs))) ≤ length (encode_utf8 c) + length (encode_utf8_all (take (n - 1) cs))
passed-front c zero cs = omega arith
passed-front c (suc n) cs =
    let same : suc n - 1 ≡ n = omega arith in
    let e : length (encode_utf8_all (take (suc n - 1) cs)) ≡ length (encode_utf8_all (take n cs)) = ap (λ m. length (encode_utf8_all (take m cs))) same in
    omega (arith, e, length-append (encode_utf8 c) (encode_utf8_all (take n cs)))

-- what follows is spelled, from any place up to where as many more characters are passed over
abbrev GoesOn : List ℕ → ℕ → List ℕ → (ℕ → Reading) → Type 0
GoesOn text at cs next = (from more : ℕ) → from ≤ at + length (encode_utf8_all (take more cs)) → LexemesFrom text from (next more).lexemes

given-spelled : (text before : List ℕ) (from at c : ℕ) (cs : List ℕ) (r : Row) (next : ℕ → Reading) → IsBefore text before at (c ∷ cs) → from ≤ at →
    Makes at (c ∷ cs) r → GoesOn text (at + length (encode_utf8 c)) cs next → LexemesFrom text from (read_row at (c ∷ cs) r next).lexemes
given-spelled text before from at c cs (gives x n) next b f m g =
    let last : (lexeme_range x).«end» ≡ at + length (encode_utf8_all (take n (c ∷ cs))) = ap (λ s. s.«end») m.range_is in
    (lexeme-spelled text before from at c n cs x b f m, g (lexeme_range x).«end» (n - 1) (omega (arith, last, passed-front c n cs)))
given-spelled text before from at c cs (refuses n) next b f m g = tt
given-spelled text before from at c cs passes next b f m g = tt

front-read : (text before : List ℕ) (from at c : ℕ) (cs : List ℕ) (l : Blank) (r : Row) (next : ℕ → Reading) → IsBefore text before at (c ∷ cs) → from ≤ at →
    Makes at (c ∷ cs) r → GoesOn text (at + length (encode_utf8 c)) cs next → LexemesFrom text from (read_front at (c ∷ cs) l r next).lexemes
front-read text before from at c cs (Size n) r next b f m g = g from (n - 1) (omega (arith, f))
front-read text before from at c cs Unclosed r next b f m g = tt
front-read text before from at c cs Absent r next b f m g = given-spelled text before from at c cs r next b f m g

reading-spelled : (text before : List ℕ) (from at skip : ℕ) (cs : List ℕ) → IsBefore text before at cs →
    from ≤ at + length (encode_utf8_all (take skip cs)) → LexemesFrom text from (reading at skip cs).lexemes
reading-spelled text before from at skip [] b f = tt
reading-spelled text before from at (suc n) (c ∷ cs) b f =
    reading-spelled text (before ++ encode_utf8 c) from (at + length (encode_utf8 c)) n cs (before-next text before at c cs b)
    (omega (arith, f, length-append (encode_utf8 c) (encode_utf8_all (take n cs))))
reading-spelled text before from at zero (c ∷ cs) b f =
    front-read text before from at c cs (blank_length (c ∷ cs)) (row at (c ∷ cs)) (λ more. reading (at + length (encode_utf8 c)) more cs) b
    (omega (arith, f)) (makes-row at (c ∷ cs))
    (λ after more h. reading-spelled text (before ++ encode_utf8 c) after (at + length (encode_utf8 c)) more cs (before-next text before at c cs b) h)

-- the trees of a text stand in it
pub trees-spelled : (text : List ℕ) (ts : Trees) → IsUtf8 text → IsTreesOf text ts → AreSpelled text ts
trees-spelled text ts u h =
    let b : IsBefore text [] 0 (chars text) =
    record { length_is = refl; text_is = sym (encodes-chars text u); utf8 = subst IsUtf8 (sym (encodes-chars text u)) u } in
    entries-from text 0 (flatten ts)
    (subst (LexemesFrom text 0) (ap (λ r. r.lexemes) h ∙ marks-flatten ts) (reading-spelled text [] 0 0 0 (chars text) b (omega arith)))
