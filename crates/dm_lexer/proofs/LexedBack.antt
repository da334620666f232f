-- The text of a layout is lexed to the trees that were laid out.
use Rattle.std.specs.Prelude.{◌≡◌, ℕ, zero, suc, ◌+◌, ◌-◌, ◌<◌, ◌≤◌, Bool, true, false, not, cond, if◌then◌else◌, None, List, [], ◌∷◌, ◌++◌, length, take, drop, codes, encode_utf8, refl, ⊤, map}
use Rattle.std.proofs.Common.{ap, ◌∙◌, sym, subst, arith, append_assoc, append-nil, length-append}
use Rattle.std.proofs.lemmas.Bool.{and_parts}
use Rattle.std.proofs.lemmas.List.{map-append}
use Rattle.std.proofs.Math.Seq.{drop-append_seam}
use Rattle.std.proofs.lemmas.Bool.Decides.{nat_tests}
use Rattle.std.proofs.lemmas.Str.{chars-append, chars_past_char, chars_from_encodes, encodes-chars, length-encode, len_utf8_bounds}
use Rattle.std.specs.Str.{chars, chars_after, continuation_len, lead_bits, encode_utf8_all, IsUtf8}
use Rattle.dm_stream.specs.declared.tokens.Span.{Span}
use Rattle.dm_stream.specs.declared.tokens.Delim.{Delim}
use Rattle.dm_stream.specs.declared.tokens.Delim.TheVariants.{Paren, Bracket, Brace}
use Rattle.dm_stream.specs.declared.tokens.Spacing.{Spacing}
use Rattle.dm_stream.specs.declared.tokens.Spacing.TheVariants.{Joint, Alone}
use Rattle.dm_stream.specs.declared.tokens.Token.{Token}
use Rattle.dm_stream.specs.declared.tokens.Token.TheVariants as t
use Rattle.dm_stream.specs.declared.tokens.Punct.{Punct}
use Rattle.dm_stream.specs.declared.tokens.Entry.{Entry}
use Rattle.dm_stream.specs.declared.tokens.Entry.TheVariants as entry
use Rattle.dm_lexer.specs.declared.lexing.Lexeme.{Lexeme}
use Rattle.dm_lexer.specs.declared.lexing.Lexeme.TheVariants as lexeme
use Rattle.dm_lexer.specs.declared.blanks.Blank.{Blank}
use Rattle.dm_lexer.specs.declared.blanks.Blank.TheVariants.{Absent, Size, Unclosed}
use Rattle.dm_lexer.specs.Blanks.{blank_length}
use Rattle.dm_lexer.specs.Lexemes.{is_punct}
use Rattle.dm_stream.specs.Trees.{Trees, no_trees, token, group, flatten}
use Rattle.dm_lexer.specs.Nesting.{marks}
use Rattle.dm_lexer.specs.Rows.{Row, gives, refuses, passes, row, Reading, reading, read_front, with_lexeme, begins_comment, spacing_before, punct}
use Rattle.dm_stream.specs.Layout.{Laid, laid, laid_one, laid_start, layout, opened, closed, spelled, is_joint, is_joint_punct, nowhere}
use Rattle.dm_lexer.specs.Written.{unplaced_token, unplaced, alone, HasTrees, IsSpellable, AreSpellable, may_touch, is_spaced, are_spaced, AreWritable, lines, joined, AllAreWritable, LayoutLexesBack, LinesLexBack}
use Rattle.dm_lexer.proofs.Ranges.{lexeme_of, lexeme_spelling, marks-flatten, makes-row, Makes, IsMadeOf}
use Rattle.dm_lexer.proofs.LexSteps.{reading-skip, reading-given}
use Rattle.dm_lexer.proofs.Nestings.{marks-join}
use Rattle.dm_lexer.proofs.Kept.{cut, cut-all}
use Rattle.dm_lexer.proofs.Stops.{is_stopped, stopped-alone, slash-stopped}
use Rattle.dm_lexer.proofs.KeptRows.{unplaced_lexeme, Source, IsKept, is_no_mark, row-sourced}
use Rattle.dm_lexer.proofs.MarkRows.{source-kept, source-fits, source-punct, gives_punct, punct-row, punct-no_blank, open_char, close_char, open-row, close-row, open-no_blank, close-no_blank}

-- one lexeme is read, and then the rest

pub record Step (at : ℕ) (cs rest : List ℕ) (x : Lexeme) : Type 0 where
  pub again : Lexeme
  pub next : ℕ
  pub reads : reading at 0 cs ≡ with_lexeme again (reading next 0 rest)
  pub same : unplaced_lexeme again ≡ unplaced_lexeme x

no-row : (at n : ℕ) (x : Lexeme) → row at [] ≡ gives x n → ⊥
unfolding row
no-row at n x h = cc

pub row-step : (at n : ℕ) (cs rest : List ℕ) (x y : Lexeme) → blank_length cs ≡ Absent → row at cs ≡ gives y n → 0 < n → drop n cs ≡ rest →
    unplaced_lexeme y ≡ unplaced_lexeme x → Step at cs rest x
row-step at n [] rest x y b r z d s = absurd (no-row at n y r)
row-step at n (c ∷ cs) rest x y b r z d s = record {
  again = y;
  next = at + length (encode_utf8_all (take n (c ∷ cs)));
  reads =
      reading-given at n c cs y b r z ∙ ap (with_lexeme y) (reading-skip at n (c ∷ cs)) ∙
      ap (λ l. with_lexeme y (reading (at + length (encode_utf8_all (take n (c ∷ cs)))) 0 l)) d;
  same = s;
}

-- a space or LF is passed over

space-step : (at : ℕ) (cs : List ℕ) → reading at 0 (32 ∷ cs) ≡ reading (at + length (encode_utf8 32)) 0 cs
space-step at cs = refl

line-step : (at : ℕ) (cs : List ℕ) → reading at 0 (10 ∷ cs) ≡ reading (at + length (encode_utf8 10)) 0 cs
line-step at cs = refl

-- what a token's own text is lexed to

pub spelled-unplaced : (k : Token) → spelled (unplaced_token k) ≡ spelled k
spelled-unplaced (t.Ident i) = refl
spelled-unplaced (t.Lifetime l) = refl
spelled-unplaced (t.Punct p) = refl
spelled-unplaced (t.Literal l) = refl

pub spelled-alone : (k : Token) → spelled (alone k) ≡ spelled k
spelled-alone (t.Ident i) = refl
spelled-alone (t.Lifetime l) = refl
spelled-alone (t.Punct p) = refl
spelled-alone (t.Literal l) = refl

same-spelled : (k j : Token) → unplaced_token k ≡ unplaced_token (alone j) → spelled k ≡ spelled j
same-spelled k j h = sym (spelled-unplaced k) ∙ ap spelled h ∙ spelled-unplaced (alone j) ∙ spelled-alone j

some-char : (c : ℕ) → 0 < length (encode_utf8 c)
some-char c = let e = length-encode c in let b = len_utf8_bounds c in omega (arith, e, b.0)

take-short : (n : ℕ) (cs : List ℕ) → length (encode_utf8_all (take n cs)) ≤ length (encode_utf8_all cs)
take-short zero cs = omega arith
take-short (suc n) [] = omega arith
take-short (suc n) (c ∷ cs) =
    let l : length (encode_utf8_all (take n cs)) ≤ length (encode_utf8_all cs) = take-short n cs in
    omega (arith, l, length-append (encode_utf8 c) (encode_utf8_all (take n cs)), length-append (encode_utf8 c) (encode_utf8_all cs))

-- the first lexeme is no longer than what it is read in
abbrev FirstFits : ℕ → List Lexeme → Type 0
FirstFits n [] = ⊤
FirstFits n (x ∷ xs) = length (lexeme_spelling x) ≤ n

more-fits : (n m : ℕ) (xs : List Lexeme) → n ≤ m → FirstFits n xs → FirstFits m xs
more-fits n m [] l h = tt
more-fits n m (x ∷ xs) l h = omega (arith, l, h)

front-fits : (at : ℕ) (cs : List ℕ) (b : Blank) (r : Row) (n : ℕ) (next : ℕ → Reading) → Makes at cs r → n ≤ length (encode_utf8_all cs) →
    ((k : ℕ) → FirstFits n (next k).lexemes) → FirstFits (length (encode_utf8_all cs)) (read_front at cs b r next).lexemes
front-fits at cs (Size k) r n next m l f = more-fits n (length (encode_utf8_all cs)) (next (k - 1)).lexemes l (f (k - 1))
front-fits at cs Unclosed r n next m l f = tt
front-fits at cs Absent (gives x k) n next m l f =
    let e : length (encode_utf8_all (take k cs)) ≡ length (lexeme_spelling x) = ap length m.spelling_is in
    omega (arith, e, take-short k cs)
front-fits at cs Absent (refuses k) n next m l f = tt
front-fits at cs Absent passes n next m l f = tt

reading-fits : (at skip : ℕ) (cs : List ℕ) → FirstFits (length (encode_utf8_all cs)) (reading at skip cs).lexemes
reading-fits at zero [] = tt
reading-fits at (suc n) [] = tt
reading-fits at zero (c ∷ cs) =
    front-fits at (c ∷ cs) (blank_length (c ∷ cs)) (row at (c ∷ cs)) (length (encode_utf8_all cs)) (λ more. reading (at + length (encode_utf8 c)) more cs)
    (makes-row at (c ∷ cs)) (omega (arith, length-append (encode_utf8 c) (encode_utf8_all cs))) (λ more. reading-fits (at + length (encode_utf8 c)) more cs)
reading-fits at (suc n) (c ∷ cs) =
    more-fits (length (encode_utf8_all cs)) (length (encode_utf8_all (c ∷ cs))) (reading (at + length (encode_utf8 c)) n cs).lexemes
    (omega (arith, length-append (encode_utf8 c) (encode_utf8_all cs))) (reading-fits (at + length (encode_utf8 c)) n cs)

-- the row of the table reads the token, and all of the text is this token
pub record IsRead (k : Token) (cs : List ℕ) : Type 0 where
  pub again : Token
  pub count : ℕ
  pub no_blank : blank_length cs ≡ Absent
  pub row_is : row 0 cs ≡ gives (lexeme.Token again) count
  pub same : unplaced_token again ≡ unplaced_token (alone k)
  pub whole : take count cs ≡ cs

read-by : (k again : Token) (c : ℕ) (cs : List ℕ) (b : Blank) (r : Row) → IsUtf8 (spelled k) → chars (spelled k) ≡ c ∷ cs → blank_length (c ∷ cs) ≡ b → row 0 (c ∷ cs) ≡ r →
    Makes 0 (c ∷ cs) r → read_front 0 (c ∷ cs) b r (λ more. reading (0 + length (encode_utf8 c)) more cs) ≡ record { lexemes = lexeme.Token again ∷ []; fault = None } →
    unplaced_token again ≡ unplaced_token (alone k) → IsRead k (c ∷ cs)
read-by k again c cs (Size n) r u e h q m f s =
    let P : Reading → Type 0 = λ v. FirstFits (length (encode_utf8_all cs)) v.lexemes in
    let l : length (spelled again) ≤ length (encode_utf8_all cs) = subst P f (reading-fits (0 + length (encode_utf8 c)) (n - 1) cs) in
    let all : length (spelled k) ≡ length (encode_utf8 c ++ encode_utf8_all cs) = ap length (sym (encodes-chars (spelled k) u) ∙ ap encode_utf8_all e) in
    let same : length (spelled again) ≡ length (spelled k) = ap length (same-spelled again k s) in
    absurd (omega (arith, l, all, same, some-char c, length-append (encode_utf8 c) (encode_utf8_all cs)))
read-by k again c cs Unclosed r u e h q m f s = absurd (let g : ◌≡◌ {A = List Lexeme} [] (lexeme.Token again ∷ []) = ap (λ (v : Reading). v.lexemes) f in cc)
read-by k again c cs Absent (gives x n) u e h q m f s =
    let g : ◌≡◌ {A = List Lexeme} (x ∷ (reading (0 + length (encode_utf8 c)) (n - 1) cs).lexemes) (lexeme.Token again ∷ []) = ap (λ (v : Reading). v.lexemes) f in
    let same : x ≡ lexeme.Token again = cc in
    let spelling : encode_utf8_all (take n (c ∷ cs)) ≡ spelled k = m.spelling_is ∙ ap lexeme_spelling same ∙ same-spelled again k s in
    record {
      again = again;
      count = n;
      no_blank = h;
      row_is = q ∙ ap (λ y. gives y n) same;
      same = s;
      whole = chars_from_encodes (take n (c ∷ cs)) (spelled k) u spelling ∙ e;
    }
read-by k again c cs Absent (refuses n) u e h q m f s = absurd (let g : ◌≡◌ {A = List Lexeme} [] (lexeme.Token again ∷ []) = ap (λ (v : Reading). v.lexemes) f in cc)
read-by k again c cs Absent passes u e h q m f s = absurd (let g : ◌≡◌ {A = List Lexeme} [] (lexeme.Token again ∷ []) = ap (λ (v : Reading). v.lexemes) f in cc)

read-in : (k again : Token) (cs : List ℕ) → IsUtf8 (spelled k) → chars (spelled k) ≡ cs →
    reading 0 0 cs ≡ record { lexemes = lexeme.Token again ∷ []; fault = None } → unplaced_token again ≡ unplaced_token (alone k) → IsRead k cs
read-in k again [] u e f s = absurd (let g : ◌≡◌ {A = List Lexeme} [] (lexeme.Token again ∷ []) = ap (λ (v : Reading). v.lexemes) f in cc)
read-in k again (c ∷ cs) u e f s = read-by k again c cs (blank_length (c ∷ cs)) (row 0 (c ∷ cs)) u e refl refl (makes-row 0 (c ∷ cs)) f s

one-token : (us : Trees) (j : Token) → unplaced us ≡ token (unplaced_token j) no_trees → (k : Token) × (us ≡ token k no_trees) × (unplaced_token k ≡ unplaced_token j)
one-token no_trees j h = absurd (cc)
one-token (token k no_trees) j h = (k, refl, cc)
one-token (token k (token i rest)) j h = absurd (cc)
one-token (token k (group d from inside upto rest)) j h = absurd (cc)
one-token (group d from inside upto rest) j h = absurd (cc)

pub token-read : (k : Token) → IsSpellable k → IsRead k (chars (spelled k))
token-read k w =
    let one = one-token w.has.read (alone k) w.has.same in
    read-in k one.0 (chars (spelled k)) w.utf8 refl (w.has.are_read ∙ ap (λ us. record { lexemes = marks us; fault = None }) one.1) one.2

-- how lexemes follow one another in a layout: `glued` says that no space stands before a token, and `rest` follows them all

abbrev space : Bool → List ℕ → List ℕ
space true cs = cs
space false cs = 32 ∷ cs

abbrev end_group : Delim → List ℕ → List ℕ
end_group Paren cs = 41 ∷ cs
end_group Bracket cs = 93 ∷ cs
end_group Brace cs = 32 ∷ 125 ∷ cs

abbrev glues : Delim → Bool
glues Paren = true
glues Bracket = true
glues Brace = false

-- the bytes
abbrev written : List ℕ → Bool → List Lexeme → List ℕ
written rest glued [] = rest
written rest glued (lexeme.Token k ∷ xs) = space glued (spelled k ++ written rest (is_joint_punct k) xs)
written rest glued (lexeme.Open d s ∷ xs) = space glued (open_char d ∷ written rest (glues d) xs)
written rest glued (lexeme.Close d s ∷ xs) = end_group d (written rest false xs)

-- the characters
abbrev letters : List ℕ → Bool → List Lexeme → List ℕ
letters rest glued [] = rest
letters rest glued (lexeme.Token k ∷ xs) = space glued (chars (spelled k) ++ letters rest (is_joint_punct k) xs)
letters rest glued (lexeme.Open d s ∷ xs) = space glued (open_char d ∷ letters rest (glues d) xs)
letters rest glued (lexeme.Close d s ∷ xs) = end_group d (letters rest false xs)

space-if : (text rest : List ℕ) (glued : Bool) → (if glued then text else text ++ codes " ") ++ rest ≡ text ++ space glued rest
space-if text rest true = refl
space-if text rest false = append_assoc text (codes " ") rest

behind-space : (text spelling rest : List ℕ) (glued : Bool) → ((if glued then text else text ++ codes " ") ++ spelling) ++ rest ≡ text ++ space glued (spelling ++ rest)
behind-space text spelling rest glued =
    append_assoc (if glued then text else text ++ codes " ") spelling rest ∙ space-if text (spelling ++ rest) glued

laid-written : (s : Laid) (es : List Entry) (rest : List ℕ) → (laid s es).text ++ rest ≡ s.text ++ written rest s.glued (map lexeme_of es)
laid-written s [] rest = refl
laid-written s (entry.Token k ∷ es) rest =
    laid-written (laid_one s (entry.Token k)) es rest ∙ behind-space s.text (spelled k) (written rest (is_joint_punct k) (map lexeme_of es)) s.glued
laid-written s (entry.Open Paren from n ∷ es) rest =
    laid-written (opened s Paren) es rest ∙ behind-space s.text (codes "(") (written rest true (map lexeme_of es)) s.glued
laid-written s (entry.Open Bracket from n ∷ es) rest =
    laid-written (opened s Bracket) es rest ∙ behind-space s.text (codes "[") (written rest true (map lexeme_of es)) s.glued
laid-written s (entry.Open Brace from n ∷ es) rest =
    laid-written (opened s Brace) es rest ∙ behind-space s.text (codes "{") (written rest false (map lexeme_of es)) s.glued
laid-written s (entry.Close Paren upto ∷ es) rest =
    laid-written (closed s Paren) es rest ∙ append_assoc s.text (codes ")") (written rest false (map lexeme_of es))
laid-written s (entry.Close Bracket upto ∷ es) rest =
    laid-written (closed s Bracket) es rest ∙ append_assoc s.text (codes "]") (written rest false (map lexeme_of es))
laid-written s (entry.Close Brace upto ∷ es) rest =
    laid-written (closed s Brace) es rest ∙ append_assoc s.text (codes " }") (written rest false (map lexeme_of es))

-- what holds of lexemes that are writable

abbrev pub touches : ℕ → List Lexeme → Bool
touches c [] = false
touches c (lexeme.Token (t.Punct q) ∷ xs) = not (begins_comment (c ∷ q.ch ∷ []))
touches c (lexeme.Token (t.Ident i) ∷ xs) = false
touches c (lexeme.Token (t.Lifetime l) ∷ xs) = false
touches c (lexeme.Token (t.Literal l) ∷ xs) = false
touches c (lexeme.Open d s ∷ xs) = false
touches c (lexeme.Close d s ∷ xs) = false

abbrev pub Follows : Token → List Lexeme → Type 0
Follows (t.Punct p) xs = is_joint p.spacing ≡ true → touches p.ch xs ≡ true
Follows (t.Ident i) xs = ⊤
Follows (t.Lifetime l) xs = ⊤
Follows (t.Literal l) xs = ⊤

abbrev pub AreGood : List Lexeme → Type 0
AreGood [] = ⊤
AreGood (lexeme.Token k ∷ xs) = IsSpellable k × Follows k xs × AreGood xs
AreGood (lexeme.Open d s ∷ xs) = AreGood xs
AreGood (lexeme.Close d s ∷ xs) = AreGood xs

touch-marks : (c : ℕ) (ts : Trees) (tail : List Lexeme) → may_touch c ts ≡ true → touches c (marks ts ++ tail) ≡ true
touch-marks c (token (t.Punct q) rest) tail h = h
touch-marks c _ tail h = absurd (cc)

spaced-joint : (s : Spacing) (b : Bool) → (if is_joint s then b else true) ≡ true → is_joint s ≡ true → b ≡ true
spaced-joint Joint b h j = h
spaced-joint Alone b h j = absurd (cc)

follow-marks : (k : Token) (ts : Trees) (tail : List Lexeme) → is_spaced k ts ≡ true → Follows k (marks ts ++ tail)
follow-marks (t.Punct p) ts tail h = λ j. touch-marks p.ch ts tail (spaced-joint p.spacing (may_touch p.ch ts) h j)
follow-marks (t.Ident i) ts tail h = tt
follow-marks (t.Lifetime l) ts tail h = tt
follow-marks (t.Literal l) ts tail h = tt

good-marks : (ts : Trees) (tail : List Lexeme) → AreSpellable ts → are_spaced ts ≡ true → AreGood tail → AreGood (marks ts ++ tail)
good-marks no_trees tail h s g = g
good-marks (token k rest) tail h s g = (
  h.0,
  follow-marks k rest tail (and_parts (is_spaced k rest) (are_spaced rest) s).0,
  good-marks rest tail h.1 (and_parts (is_spaced k rest) (are_spaced rest) s).1 g,
)
good-marks (group d from inside upto rest) tail h s g =
    let P : List Lexeme → Type 0 = λ xs. AreGood xs in
    subst P (sym (append_assoc (marks inside) (lexeme.Close d upto ∷ marks rest) tail))
    (good-marks inside (lexeme.Close d upto ∷ (marks rest ++ tail)) h.0 (and_parts (are_spaced inside) (are_spaced rest) s).0
    (good-marks rest tail h.1 (and_parts (are_spaced inside) (are_spaced rest) s).1 g))

-- the characters of the bytes

pub no-chars : chars [] ≡ []
unfolding chars
no-chars = refl

after-zero : (c : ℕ) (bs : List ℕ) → chars_after 0 c bs ≡ c ∷ chars bs
unfolding chars
after-zero c [] = refl
after-zero c (b ∷ bs) = refl

chars-first : (c : ℕ) (bs : List ℕ) → c < 128 → chars (c ∷ bs) ≡ c ∷ chars bs
unfolding chars
chars-first c bs h =
    let e : continuation_len c ≡ 0 = grind (arith, nat_tests) in
    let f : lead_bits c ≡ c = grind (arith, nat_tests) in
    ap (λ n. chars_after n (lead_bits c) bs) e ∙ ap (λ v. chars_after 0 v bs) f ∙ after-zero c bs

space-chars : (glued : Bool) (bs cs : List ℕ) → chars bs ≡ cs → chars (space glued bs) ≡ space glued cs
space-chars true bs cs h = h
space-chars false bs cs h = chars-first 32 bs (omega arith) ∙ ap (λ l. 32 ∷ l) h

open-chars : (d : Delim) (bs cs : List ℕ) → chars bs ≡ cs → chars (open_char d ∷ bs) ≡ open_char d ∷ cs
open-chars Paren bs cs h = chars-first 40 bs (omega arith) ∙ ap (λ l. 40 ∷ l) h
open-chars Bracket bs cs h = chars-first 91 bs (omega arith) ∙ ap (λ l. 91 ∷ l) h
open-chars Brace bs cs h = chars-first 123 bs (omega arith) ∙ ap (λ l. 123 ∷ l) h

end-chars : (d : Delim) (bs cs : List ℕ) → chars bs ≡ cs → chars (end_group d bs) ≡ end_group d cs
end-chars Paren bs cs h = chars-first 41 bs (omega arith) ∙ ap (λ l. 41 ∷ l) h
end-chars Bracket bs cs h = chars-first 93 bs (omega arith) ∙ ap (λ l. 93 ∷ l) h
end-chars Brace bs cs h =
    chars-first 32 (125 ∷ bs) (omega arith) ∙ ap (λ l. 32 ∷ l) (chars-first 125 bs (omega arith)) ∙ ap (λ l. 32 ∷ 125 ∷ l) h

written-chars : (rest : List ℕ) (glued : Bool) (xs : List Lexeme) → AreGood xs → chars (written rest glued xs) ≡ letters (chars rest) glued xs
written-chars rest glued [] g = refl
written-chars rest glued (lexeme.Token k ∷ xs) g =
    space-chars glued (spelled k ++ written rest (is_joint_punct k) xs) (chars (spelled k) ++ letters (chars rest) (is_joint_punct k) xs)
    (chars-append (spelled k) (written rest (is_joint_punct k) xs) g.0.utf8 ∙
    ap (λ l. chars (spelled k) ++ l) (written-chars rest (is_joint_punct k) xs g.2))
written-chars rest glued (lexeme.Open d s ∷ xs) g =
    space-chars glued (open_char d ∷ written rest (glues d) xs) (open_char d ∷ letters (chars rest) (glues d) xs)
    (open-chars d (written rest (glues d) xs) (letters (chars rest) (glues d) xs) (written-chars rest (glues d) xs g))
written-chars rest glued (lexeme.Close d s ∷ xs) g =
    end-chars d (written rest false xs) (letters (chars rest) false xs) (written-chars rest false xs g)

-- what follows a token that does not touch the next one
stopped-letters : (rest : List ℕ) (xs : List Lexeme) → is_stopped rest ≡ true → is_stopped (letters rest false xs) ≡ true
stopped-letters rest [] h = h
stopped-letters rest (lexeme.Token k ∷ xs) h = refl
stopped-letters rest (lexeme.Open d s ∷ xs) h = refl
stopped-letters rest (lexeme.Close Paren s ∷ xs) h = refl
stopped-letters rest (lexeme.Close Bracket s ∷ xs) h = refl
stopped-letters rest (lexeme.Close Brace s ∷ xs) h = refl

-- a token that is no punct

pub no_mark-unplaced : (k : Token) → is_no_mark (lexeme.Token (unplaced_token k)) ≡ is_no_mark (lexeme.Token k)
no_mark-unplaced (t.Ident i) = refl
no_mark-unplaced (t.Lifetime l) = refl
no_mark-unplaced (t.Punct p) = refl
no_mark-unplaced (t.Literal l) = refl

pub alone-plain : (k : Token) → is_no_mark (lexeme.Token k) ≡ true → alone k ≡ k
alone-plain (t.Ident i) h = refl
alone-plain (t.Lifetime l) h = refl
alone-plain (t.Punct p) h = absurd (cc)
alone-plain (t.Literal l) h = refl

take-most : (n : ℕ) (cs : List ℕ) → length (take n cs) ≤ n
take-most zero cs = omega arith
take-most (suc n) [] = omega arith
take-most (suc n) (c ∷ cs) = let l : length (take n cs) ≤ n = take-most n cs in omega (arith, l)

pub row-positive : (at n : ℕ) (cs : List ℕ) (x : Lexeme) → row at cs ≡ gives x n → 0 < n
row-positive at n cs x h =
    let P : Row → Type 0 = λ r. Makes at cs r in
    let m : IsMadeOf at cs x n = subst P h (makes-row at cs) in
    m.positive

plain-step : (at : ℕ) (k : Token) (cs more : List ℕ) → is_no_mark (lexeme.Token k) ≡ true → IsRead k cs → is_stopped more ≡ true →
    Step at (cs ++ more) more (lexeme.Token k)
plain-step at k cs more m r s =
    let x : Lexeme = lexeme.Token r.again in
    let same : unplaced_token r.again ≡ unplaced_token k = r.same ∙ ap unplaced_token (alone-plain k m) in
    let plain : is_no_mark x ≡ true =
    sym (no_mark-unplaced r.again) ∙ ap (λ j. is_no_mark (lexeme.Token j)) same ∙ no_mark-unplaced k ∙ m in
    let source : Source 0 cs x r.count = row-sourced 0 cs x r.count r.row_is in
    let kept : IsKept at r.count cs more x = source-kept at 0 r.count cs more x s r.no_blank plain source in
    let l : length (take r.count cs) ≡ length cs = ap length r.whole in
    let count : r.count ≡ length cs = omega (arith, source-fits 0 r.count cs x source, take-most r.count cs, l) in
    let all : cut r.count cs more ≡ cs ++ more = cut-all r.count cs more count in
    row-step at r.count (cs ++ more) more (lexeme.Token k) kept.again (ap blank_length (sym all) ∙ kept.no_blank) (ap (row at) (sym all) ∙ kept.row_is)
    (row-positive 0 r.count cs x r.row_is) (ap (λ n. drop n (cs ++ more)) count ∙ drop-append_seam cs more)
    (kept.same ∙ ap lexeme.Token same)

-- a punct

record IsOnePunct (p : Punct) : Type 0 where
  is_one : is_punct p.ch ≡ true
  chars_are : chars (encode_utf8 p.ch) ≡ p.ch ∷ []

gives-unplaced : (k : Token) → gives_punct (lexeme.Token (unplaced_token k)) ≡ gives_punct (lexeme.Token k)
gives-unplaced (t.Ident i) = refl
gives-unplaced (t.Lifetime l) = refl
gives-unplaced (t.Punct p) = refl
gives-unplaced (t.Literal l) = refl

punct-by : (p : Punct) (cs : List ℕ) → cs ≡ p.ch ∷ [] → IsRead (t.Punct p) cs → is_punct p.ch ≡ true
punct-by p cs e r =
    let x : Lexeme = lexeme.Token r.again in
    let g : gives_punct x ≡ true = sym (gives-unplaced r.again) ∙ ap (λ j. gives_punct (lexeme.Token j)) r.same in
    let P : List ℕ → Type 0 = λ l. Source 0 l x r.count in
    source-punct 0 p.ch r.count [] x (subst P e (row-sourced 0 cs x r.count r.row_is)) g

one-punct : (p : Punct) → IsSpellable (t.Punct p) → IsOnePunct p
one-punct p w =
    let e : chars (encode_utf8 p.ch) ≡ p.ch ∷ [] =
    chars_past_char (encode_utf8 p.ch) [] p.ch w.utf8 (sym (append-nil (encode_utf8 p.ch))) ∙ ap (λ l. p.ch ∷ l) no-chars in
    record { is_one = punct-by p (chars (encode_utf8 p.ch)) e (token-read (t.Punct p) w); chars_are = e }

-- the punct that is touched
data Touched (c : ℕ) (xs : List Lexeme) : Type 0 where
  touched : (q : Punct) (more : List Lexeme) → xs ≡ lexeme.Token (t.Punct q) ∷ more → begins_comment (c ∷ q.ch ∷ []) ≡ false → Touched c xs

not-false : (b : Bool) → not b ≡ true → b ≡ false
not-false true h = absurd (cc)
not-false false h = refl

touch : (c : ℕ) (xs : List Lexeme) → touches c xs ≡ true → Touched c xs
touch c [] h = absurd (cc)
touch c (lexeme.Token (t.Punct q) ∷ xs) h = touched q xs refl (not-false (begins_comment (c ∷ q.ch ∷ [])) h)
touch c (lexeme.Token (t.Ident i) ∷ xs) h = absurd (cc)
touch c (lexeme.Token (t.Lifetime l) ∷ xs) h = absurd (cc)
touch c (lexeme.Token (t.Literal l) ∷ xs) h = absurd (cc)
touch c (lexeme.Open d s ∷ xs) h = absurd (cc)
touch c (lexeme.Close d s ∷ xs) h = absurd (cc)

-- the text behind a Joint punct begins with the punct that it touches
record Begins (c : ℕ) (rest : List ℕ) (xs : List Lexeme) : Type 0 where
  punct : Punct
  more : List Lexeme
  xs_are : xs ≡ lexeme.Token (t.Punct punct) ∷ more
  is_one : is_punct punct.ch ≡ true
  letters_are : letters rest true xs ≡ punct.ch ∷ letters rest (is_joint punct.spacing) more
  no_comment : begins_comment (c ∷ punct.ch ∷ []) ≡ false
  follows : Follows (t.Punct punct) more
  good : AreGood more

begin-with : (c : ℕ) (rest : List ℕ) (xs more : List Lexeme) (q : Punct) → xs ≡ lexeme.Token (t.Punct q) ∷ more → begins_comment (c ∷ q.ch ∷ []) ≡ false →
    AreGood (lexeme.Token (t.Punct q) ∷ more) → Begins c rest xs
begin-with c rest xs more q e n g =
    let one = one-punct q g.0 in
    record {
      punct = q;
      more = more;
      xs_are = e;
      is_one = one.is_one;
      letters_are = ap (letters rest true) e ∙ ap (λ l. l ++ letters rest (is_joint q.spacing) more) one.chars_are;
      no_comment = n;
      follows = g.1;
      good = g.2;
    }

begin : (c : ℕ) (rest : List ℕ) (xs : List Lexeme) → touches c xs ≡ true → AreGood xs → Begins c rest xs
begin c rest xs h g =
    elim (touch c xs h) [
      | touched q more e n ↦ let P : List Lexeme → Type 0 = λ l. AreGood l in begin-with c rest xs more q e n (subst P e g)
    ]

no-comment : (c : ℕ) (rest : List ℕ) (xs : List Lexeme) (s : Spacing) → (is_joint s ≡ true → touches c xs ≡ true) → AreGood xs → is_stopped rest ≡ true →
    begins_comment (c ∷ letters rest (is_joint s) xs) ≡ false
no-comment c rest xs Joint f g h =
    let b : Begins c rest xs = begin c rest xs (f refl) g in
    ap (λ l. begins_comment (c ∷ l)) b.letters_are ∙ b.no_comment
no-comment c rest xs Alone f g h = slash-stopped c (letters rest false xs) (stopped-letters rest xs h)

spacing-same : (c : ℕ) (rest : List ℕ) (xs : List Lexeme) (s : Spacing) → (is_joint s ≡ true → touches c xs ≡ true) → AreGood xs → is_stopped rest ≡ true →
    spacing_before (letters rest (is_joint s) xs) ≡ s
spacing-same c rest xs Joint f g h =
    let b : Begins c rest xs = begin c rest xs (f refl) g in
    let l : List ℕ = letters rest (is_joint b.punct.spacing) b.more in
    ap spacing_before b.letters_are ∙
    ap (λ v. cond v Alone (cond (is_punct b.punct.ch) Joint Alone)) (no-comment b.punct.ch rest b.more b.punct.spacing b.follows b.good h) ∙
    ap (λ v. cond v Joint Alone) b.is_one
spacing-same c rest xs Alone f g h = stopped-alone (letters rest false xs) (stopped-letters rest xs h)

punct-step : (at : ℕ) (p : Punct) (rest : List ℕ) (xs : List Lexeme) → AreGood (lexeme.Token (t.Punct p) ∷ xs) → is_stopped rest ≡ true →
    Step at (chars (encode_utf8 p.ch) ++ letters rest (is_joint p.spacing) xs) (letters rest (is_joint p.spacing) xs) (lexeme.Token (t.Punct p))
punct-step at p rest xs g h =
    let one = one-punct p g.0 in
    let more : List ℕ = letters rest (is_joint p.spacing) xs in
    let P : List ℕ → Type 0 = λ l. Step at (l ++ more) more (lexeme.Token (t.Punct p)) in
    subst P (sym one.chars_are)
    (row-step at 1 (p.ch ∷ more) more (lexeme.Token (t.Punct p)) (punct at p.ch more)
    (punct-no_blank p.ch more one.is_one (no-comment p.ch rest xs p.spacing g.1 g.2 h)) (punct-row at p.ch more one.is_one) (omega arith) refl
    (ap (λ s. lexeme.Token (t.Punct record { ch = p.ch; spacing = s; span = nowhere })) (spacing-same p.ch rest xs p.spacing g.1 g.2 h)))

-- several lexemes

abbrev with_all : List Lexeme → Reading → Reading
with_all [] r = r
with_all (x ∷ xs) r = with_lexeme x (with_all xs r)

pub record Run (at : ℕ) (cs rest : List ℕ) (xs : List Lexeme) : Type 0 where
  pub again : List Lexeme
  pub next : ℕ
  pub reads : reading at 0 cs ≡ with_all again (reading next 0 rest)
  pub same : map unplaced_lexeme again ≡ map unplaced_lexeme xs

step-run : (at : ℕ) (cs mid rest : List ℕ) (x : Lexeme) (xs : List Lexeme) → Step at cs mid x → ((next : ℕ) → Run next mid rest xs) → Run at cs rest (x ∷ xs)
step-run at cs mid rest x xs s f =
    let r : Run s.next mid rest xs = f s.next in
    record {
      again = s.again ∷ r.again;
      next = r.next;
      reads = s.reads ∙ ap (with_lexeme s.again) r.reads;
      same = ap (λ y. y ∷ map unplaced_lexeme r.again) s.same ∙ ap (λ ys. unplaced_lexeme x ∷ ys) r.same;
    }

space-run : (glued : Bool) (cs rest : List ℕ) (xs : List Lexeme) → ((at : ℕ) → Run at cs rest xs) → (at : ℕ) → Run at (space glued cs) rest xs
space-run true cs rest xs f at = f at
space-run false cs rest xs f at =
    let r : Run (at + length (encode_utf8 32)) cs rest xs = f (at + length (encode_utf8 32)) in
    record { again = r.again; next = r.next; reads = space-step at cs ∙ r.reads; same = r.same }

token-step : (at : ℕ) (k : Token) (rest : List ℕ) (xs : List Lexeme) → AreGood (lexeme.Token k ∷ xs) → is_stopped rest ≡ true →
    Step at (chars (spelled k) ++ letters rest (is_joint_punct k) xs) (letters rest (is_joint_punct k) xs) (lexeme.Token k)
token-step at (t.Punct p) rest xs g h = punct-step at p rest xs g h
token-step at (t.Ident i) rest xs g h =
    plain-step at (t.Ident i) (chars (spelled (t.Ident i))) (letters rest false xs) refl (token-read (t.Ident i) g.0) (stopped-letters rest xs h)
token-step at (t.Lifetime l) rest xs g h =
    plain-step at (t.Lifetime l) (chars (spelled (t.Lifetime l))) (letters rest false xs) refl (token-read (t.Lifetime l) g.0) (stopped-letters rest xs h)
token-step at (t.Literal l) rest xs g h =
    plain-step at (t.Literal l) (chars (spelled (t.Literal l))) (letters rest false xs) refl (token-read (t.Literal l) g.0) (stopped-letters rest xs h)

open-step : (at : ℕ) (d : Delim) (s : Span) (more : List ℕ) → Step at (open_char d ∷ more) more (lexeme.Open d s)
open-step at d s more =
    row-step at 1 (open_char d ∷ more) more (lexeme.Open d s) (lexeme.Open d record { start = at; «end» = at + 1 }) (open-no_blank d more) (open-row at d more)
    (omega arith) refl refl

close-step : (at : ℕ) (d : Delim) (s : Span) (more : List ℕ) → Step at (close_char d ∷ more) more (lexeme.Close d s)
close-step at d s more =
    row-step at 1 (close_char d ∷ more) more (lexeme.Close d s) (lexeme.Close d record { start = at; «end» = at + 1 }) (close-no_blank d more) (close-row at d more)
    (omega arith) refl refl

end-run : (d : Delim) (s : Span) (more rest : List ℕ) (xs : List Lexeme) → ((at : ℕ) → Run at more rest xs) → (at : ℕ) →
    Run at (end_group d more) rest (lexeme.Close d s ∷ xs)
end-run Paren s more rest xs f at = step-run at (41 ∷ more) more rest (lexeme.Close Paren s) xs (close-step at Paren s more) f
end-run Bracket s more rest xs f at = step-run at (93 ∷ more) more rest (lexeme.Close Bracket s) xs (close-step at Bracket s more) f
end-run Brace s more rest xs f at =
    space-run false (125 ∷ more) rest (lexeme.Close Brace s ∷ xs)
    (λ i. step-run i (125 ∷ more) more rest (lexeme.Close Brace s) xs (close-step i Brace s more) f) at

-- the lexemes are read again, whatever follows them
run-letters : (rest : List ℕ) (glued : Bool) (xs : List Lexeme) → AreGood xs → is_stopped rest ≡ true → (at : ℕ) → Run at (letters rest glued xs) rest xs
run-letters rest glued [] g h at = record { again = []; next = at; reads = refl; same = refl }
run-letters rest glued (lexeme.Token k ∷ xs) g h at =
    let mid : List ℕ = letters rest (is_joint_punct k) xs in
    space-run glued (chars (spelled k) ++ mid) rest (lexeme.Token k ∷ xs)
    (λ i. step-run i (chars (spelled k) ++ mid) mid rest (lexeme.Token k) xs (token-step i k rest xs g h)
    (λ j. run-letters rest (is_joint_punct k) xs g.2 h j)) at
run-letters rest glued (lexeme.Open d s ∷ xs) g h at =
    let mid : List ℕ = letters rest (glues d) xs in
    space-run glued (open_char d ∷ mid) rest (lexeme.Open d s ∷ xs)
    (λ i. step-run i (open_char d ∷ mid) mid rest (lexeme.Open d s) xs (open-step i d s mid) (λ j. run-letters rest (glues d) xs g h j)) at
run-letters rest glued (lexeme.Close d s ∷ xs) g h at = end-run d s (letters rest false xs) rest xs (λ j. run-letters rest false xs g h j) at

-- trees from their lexemes

record Regrouped (ts : Trees) (again tail : List Lexeme) : Type 0 where
  read : Trees
  behind : List Lexeme
  again_is : again ≡ marks read ++ behind
  same : unplaced read ≡ unplaced ts
  behind_is : map unplaced_lexeme behind ≡ map unplaced_lexeme tail

data First (y : Lexeme) (ys : List Lexeme) (again : List Lexeme) : Type 0 where
  first : (x : Lexeme) (xs : List Lexeme) → again ≡ x ∷ xs → unplaced_lexeme x ≡ y → map unplaced_lexeme xs ≡ ys → First y ys again

first-of : (y : Lexeme) (ys again : List Lexeme) → map unplaced_lexeme again ≡ y ∷ ys → First y ys again
first-of y ys [] h = absurd (cc)
first-of y ys (x ∷ xs) h = first x xs refl (cc) (cc)

data IsToken (k : Token) (x : Lexeme) : Type 0 where
  is_token : (j : Token) → x ≡ lexeme.Token j → unplaced_token j ≡ unplaced_token k → IsToken k x

token-of : (k : Token) (x : Lexeme) → unplaced_lexeme x ≡ lexeme.Token (unplaced_token k) → IsToken k x
token-of k (lexeme.Token j) h = is_token j refl (cc)
token-of k (lexeme.Open d s) h = absurd (cc)
token-of k (lexeme.Close d s) h = absurd (cc)

open-of : (d : Delim) (x : Lexeme) → unplaced_lexeme x ≡ lexeme.Open d nowhere → (s : Span) × (x ≡ lexeme.Open d s)
open-of d (lexeme.Token j) h = absurd (cc)
open-of d (lexeme.Open e s) h = let q : e ≡ d = cc in (s, ap (λ v. lexeme.Open v s) q)
open-of d (lexeme.Close e s) h = absurd (cc)

close-of : (d : Delim) (x : Lexeme) → unplaced_lexeme x ≡ lexeme.Close d nowhere → (s : Span) × (x ≡ lexeme.Close d s)
close-of d (lexeme.Token j) h = absurd (cc)
close-of d (lexeme.Open e s) h = absurd (cc)
close-of d (lexeme.Close e s) h = let q : e ≡ d = cc in (s, ap (λ v. lexeme.Close v s) q)

regroup-token : (k : Token) (rest : Trees) (x : Lexeme) (xs tail again : List Lexeme) → again ≡ x ∷ xs → IsToken k x → Regrouped rest xs tail →
    Regrouped (token k rest) again tail
regroup-token k rest x xs tail again e (is_token j q s) r = record {
  read = token j r.read;
  behind = r.behind;
  again_is = e ∙ ap (λ v. v ∷ xs) q ∙ ap (λ l. lexeme.Token j ∷ l) r.again_is;
  same = ap (λ v. token v (unplaced r.read)) s ∙ ap (token (unplaced_token k)) r.same;
  behind_is = r.behind_is;
}

regroup-group : (d : Delim) (from upto f u : Span) (inside rest : Trees) (xs ys tail again : List Lexeme) → again ≡ lexeme.Open d f ∷ xs →
    (i : Regrouped inside xs (lexeme.Close d upto ∷ (marks rest ++ tail))) → i.behind ≡ lexeme.Close d u ∷ ys → Regrouped rest ys tail →
    Regrouped (group d from inside upto rest) again tail
regroup-group d from upto f u inside rest xs ys tail again e i q r = record {
  read = group d f i.read u r.read;
  behind = r.behind;
  again_is =
      e ∙ ap (λ l. lexeme.Open d f ∷ l) i.again_is ∙ ap (λ l. lexeme.Open d f ∷ (marks i.read ++ l)) q ∙
      ap (λ l. lexeme.Open d f ∷ (marks i.read ++ lexeme.Close d u ∷ l)) r.again_is ∙
      ap (λ l. lexeme.Open d f ∷ l) (sym (append_assoc (marks i.read) (lexeme.Close d u ∷ marks r.read) r.behind));
  same = ap (λ v. group d nowhere v nowhere (unplaced r.read)) i.same ∙ ap (group d nowhere (unplaced inside) nowhere) r.same;
  behind_is = r.behind_is;
}

regroup : (ts : Trees) (again tail : List Lexeme) → map unplaced_lexeme again ≡ map unplaced_lexeme (marks ts ++ tail) → Regrouped ts again tail
regroup no_trees again tail h = record { read = no_trees; behind = again; again_is = refl; same = refl; behind_is = h }
regroup (token k rest) again tail h =
    elim (first-of (lexeme.Token (unplaced_token k)) (map unplaced_lexeme (marks rest ++ tail)) again h) [
      | first x xs e s m ↦ regroup-token k rest x xs tail again e (token-of k x s) (regroup rest xs tail m)
    ]
regroup (group d from inside upto rest) again tail h =
    let ends : List Lexeme = lexeme.Close d upto ∷ (marks rest ++ tail) in
    let flat : (marks inside ++ lexeme.Close d upto ∷ marks rest) ++ tail ≡ marks inside ++ ends =
    append_assoc (marks inside) (lexeme.Close d upto ∷ marks rest) tail in
    elim (first-of (lexeme.Open d nowhere) (map unplaced_lexeme ((marks inside ++ lexeme.Close d upto ∷ marks rest) ++ tail)) again h) [
      | first x xs e s m ↦
          let o = open-of d x s in
          let i : Regrouped inside xs ends = regroup inside xs ends (m ∙ ap (map unplaced_lexeme) flat) in
          elim (first-of (lexeme.Close d nowhere) (map unplaced_lexeme (marks rest ++ tail)) i.behind i.behind_is) [
            | first y ys q w n ↦
                let c = close-of d y w in
                regroup-group d from upto o.0 c.0 inside rest xs ys tail again (e ∙ ap (λ v. v ∷ xs) o.1) i (q ∙ ap (λ v. v ∷ ys) c.1) (regroup rest ys tail n)
          ]
    ]

none-left : (xs : List Lexeme) → map unplaced_lexeme xs ≡ [] → xs ≡ []
none-left [] h = refl
none-left (x ∷ xs) h = absurd (cc)

-- the trees of a text of which these lexemes are read
pub trees-read : (text : List ℕ) (ts : Trees) (again : List Lexeme) → reading 0 0 (chars text) ≡ record { lexemes = again; fault = None } →
    map unplaced_lexeme again ≡ map unplaced_lexeme (marks ts) → HasTrees text ts
trees-read text ts again h s =
    let r : Regrouped ts again [] = regroup ts again [] (s ∙ ap (map unplaced_lexeme) (sym (append-nil (marks ts)))) in
    let all : again ≡ marks r.read = r.again_is ∙ ap (λ l. marks r.read ++ l) (none-left r.behind r.behind_is) ∙ append-nil (marks r.read) in
    record {
      read = r.read;
      are_read = h ∙ ap (λ l. record { lexemes = l; fault = None }) all;
      same = r.same;
    }

with-all : (xs ys : List Lexeme) → with_all xs record { lexemes = ys; fault = None } ≡ record { lexemes = xs ++ ys; fault = None }
with-all [] ys = refl
with-all (x ∷ xs) ys = ap (with_lexeme x) (with-all xs ys)

-- the layout of trees, with what follows it
layout-letters : (ts : Trees) (rest : List ℕ) → AreWritable ts → chars (layout ts ++ rest) ≡ letters (chars rest) true (marks ts)
layout-letters ts rest w =
    let P : List Lexeme → Type 0 = λ xs. AreGood xs in
    let g : AreGood (marks ts) = subst P (append-nil (marks ts)) (good-marks ts [] w.spellable w.spaced tt) in
    ap chars (laid-written laid_start (flatten ts) rest) ∙ ap (λ xs. chars (written rest true xs)) (sym (marks-flatten ts)) ∙
    written-chars rest true (marks ts) g

layout-run : (ts : Trees) (rest : List ℕ) (at : ℕ) → AreWritable ts → is_stopped (chars rest) ≡ true → Run at (chars (layout ts ++ rest)) (chars rest) (marks ts)
layout-run ts rest at w h =
    let P : List Lexeme → Type 0 = λ xs. AreGood xs in
    let Q : List ℕ → Type 0 = λ cs. Run at cs (chars rest) (marks ts) in
    let g : AreGood (marks ts) = subst P (append-nil (marks ts)) (good-marks ts [] w.spellable w.spaced tt) in
    subst Q (sym (layout-letters ts rest w)) (run-letters (chars rest) true (marks ts) g h at)

pub layout-lexes_back : LayoutLexesBack
layout-lexes_back ts w =
    let h : is_stopped (chars []) ≡ true = ap is_stopped no-chars in
    let r : Run 0 (chars (layout ts ++ [])) (chars []) (marks ts) = layout-run ts [] 0 w h in
    let read : reading 0 0 (chars (layout ts)) ≡ record { lexemes = r.again; fault = None } =
    ap (λ l. reading 0 0 (chars l)) (sym (append-nil (layout ts))) ∙ r.reads ∙ ap (λ l. with_all r.again (reading r.next 0 l)) no-chars ∙
    with-all r.again [] ∙ ap (λ l. record { lexemes = l; fault = None }) (append-nil r.again) in
    trees-read (layout ts) ts r.again read r.same

-- lines

record LinesRead (at : ℕ) (all : List Trees) : Type 0 where
  again : List Lexeme
  reads : reading at 0 (chars (lines all)) ≡ record { lexemes = again; fault = None }
  same : map unplaced_lexeme again ≡ map unplaced_lexeme (marks (joined all))

lines-read : (at : ℕ) (all : List Trees) → AllAreWritable all → LinesRead at all
lines-read at [] w = record { again = []; reads = ap (reading at 0) no-chars; same = refl }
lines-read at (ts ∷ more) w =
    let rest : List ℕ = 10 ∷ lines more in
    let begun : chars rest ≡ 10 ∷ chars (lines more) = chars-first 10 (lines more) (omega arith) in
    let r : Run at (chars (layout ts ++ rest)) (chars rest) (marks ts) = layout-run ts rest at w.0 (ap is_stopped begun) in
    let n : LinesRead (r.next + length (encode_utf8 10)) more = lines-read (r.next + length (encode_utf8 10)) more w.1 in
    let both : reading at 0 (chars (layout ts ++ rest)) ≡ record { lexemes = r.again ++ n.again; fault = None } =
    r.reads ∙ ap (λ l. with_all r.again (reading r.next 0 l)) begun ∙ ap (with_all r.again) (line-step r.next (chars (lines more))) ∙
    ap (with_all r.again) n.reads ∙ with-all r.again n.again in
    record {
      again = r.again ++ n.again;
      reads = both;
      same =
          map-append unplaced_lexeme r.again n.again ∙ ap (λ l. l ++ map unplaced_lexeme n.again) r.same ∙
          ap (λ l. map unplaced_lexeme (marks ts) ++ l) n.same ∙ sym (map-append unplaced_lexeme (marks ts) (marks (joined more))) ∙
          ap (map unplaced_lexeme) (sym (marks-join ts (joined more)));
    }

pub lines-lex_back : LinesLexBack
lines-lex_back all w = let r : LinesRead 0 all = lines-read 0 all w in trees-read (lines all) (joined all) r.again r.reads r.same
