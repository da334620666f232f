-- The trees of a text are writable.
use Rattle.std.specs.Prelude.{◌≡◌, ℕ, zero, suc, ◌+◌, ◌-◌, Bool, true, false, not, cond, if◌then◌else◌, List, [], ◌∷◌, ◌++◌, length, take, drop, encode_utf8, refl, ⊤}
use Rattle.std.proofs.Common.{ap, ◌∙◌, sym, subst, arith, append_assoc, append-nil}
use Rattle.std.proofs.Math.Utf8.{scalar, scalars}
use Rattle.std.proofs.lemmas.Bool.{and_from, and_parts}
use Rattle.std.proofs.lemmas.Str.{chars-encodes, scalars-chars}
use Rattle.std.specs.Str.{chars, IsUtf8}
use Rattle.dm_stream.specs.declared.tokens.Spacing.{Spacing}
use Rattle.dm_stream.specs.declared.tokens.Spacing.TheVariants.{Joint, Alone}
use Rattle.dm_stream.specs.declared.tokens.Token.{Token}
use Rattle.dm_stream.specs.declared.tokens.Token.TheVariants as t
use Rattle.dm_lexer.specs.declared.lexing.Lexeme.{Lexeme}
use Rattle.dm_lexer.specs.declared.lexing.Lexeme.TheVariants as lexeme
use Rattle.dm_lexer.specs.declared.blanks.Blank.{Blank}
use Rattle.dm_lexer.specs.declared.blanks.Blank.TheVariants.{Absent, Size, Unclosed}
use Rattle.dm_lexer.specs.Blanks.{blank_length}
use Rattle.dm_lexer.specs.Lexemes.{is_punct}
use Rattle.dm_stream.specs.Trees.{Trees, no_trees, token, group}
use Rattle.dm_lexer.specs.Nesting.{marks}
use Rattle.dm_lexer.specs.Rows.{Row, gives, refuses, passes, row, Reading, reading, read_front, with_lexeme, begins_comment, spacing_before, punct, mark_row}
use Rattle.dm_stream.specs.Layout.{spelled, is_joint}
use Rattle.dm_lexer.specs.Written.{alone, HasTrees, IsSpellable, may_touch, is_spaced, are_spaced, AreWritable, ReadIsWritable}
use Rattle.dm_lexer.proofs.Ranges.{makes-row, Makes, IsMadeOf}
use Rattle.dm_lexer.proofs.LexSteps.{reading-given}
use Rattle.dm_lexer.proofs.Kept.{cut, cut-nothing}
use Rattle.dm_lexer.proofs.LexChars.{scalars-take}
use Rattle.dm_lexer.proofs.KeptRows.{Source, of_quoted, of_char, of_lifetime, of_raw, of_word, of_number, of_mark, IsKept, is_no_mark, row-sourced}
use Rattle.dm_lexer.proofs.MarkRows.{source-kept, Marked, opens_with, closes_with, is_a_punct, marked, punct-row, punct-no_blank, blank-no_comment}
use Rattle.dm_lexer.proofs.LexedBack.{Step, row-step, row-positive, trees-read, alone-plain, touches, Follows, AreGood}

drop-take : (n : ℕ) (cs : List ℕ) → drop n (take n cs) ≡ []
drop-take zero cs = refl
drop-take (suc n) [] = refl
drop-take (suc n) (c ∷ cs) = drop-take n cs

-- a token's own text

pub step-has : (text : List ℕ) (k : Token) → Step 0 (chars text) [] (lexeme.Token k) → HasTrees text (token k no_trees)
step-has text k s = trees-read text (token k no_trees) (s.again ∷ []) s.reads (ap (λ y. y ∷ []) s.same)

-- what the first n characters spell
record Spells (k : Token) (n : ℕ) (cs : List ℕ) : Type 0 where
  utf8 : IsUtf8 (spelled k)
  chars_are : chars (spelled k) ≡ take n cs

spells : (at n : ℕ) (cs : List ℕ) (k : Token) → scalars cs ≡ true → row at cs ≡ gives (lexeme.Token k) n → Spells k n cs
spells at n cs k u h =
    let P : Row → Type 0 = λ r. Makes at cs r in
    let m : IsMadeOf at cs (lexeme.Token k) n = subst P h (makes-row at cs) in
    let s : scalars (take n cs) ≡ true = scalars-take n cs u in
    record {
      utf8 = (take n cs, (s, m.spelling_is));
      chars_are = ap chars (sym m.spelling_is) ∙ chars-encodes (take n cs) s;
    }

plain-writable : (at n : ℕ) (cs : List ℕ) (k : Token) → scalars cs ≡ true → blank_length cs ≡ Absent → row at cs ≡ gives (lexeme.Token k) n →
    is_no_mark (lexeme.Token k) ≡ true → IsSpellable k
plain-writable at n cs k u b h m =
    let x : Lexeme = lexeme.Token k in
    let w : Spells k n cs = spells at n cs k u h in
    let kept : IsKept 0 n cs [] x = source-kept 0 at n cs [] x refl b m (row-sourced at cs x n h) in
    let all : cut n cs [] ≡ take n cs = cut-nothing n cs in
    let s : Step 0 (take n cs) [] x =
    row-step 0 n (take n cs) [] x kept.again (ap blank_length (sym all) ∙ kept.no_blank) (ap (row 0) (sym all) ∙ kept.row_is)
    (row-positive at n cs x h) (drop-take n cs) kept.same in
    let P : List ℕ → Type 0 = λ l. Step 0 l [] x in
    let Q : Token → Type 0 = λ j. HasTrees (spelled k) (token j no_trees) in
    record { utf8 = w.utf8; has = subst Q (sym (alone-plain k m)) (step-has (spelled k) k (subst P (sym w.chars_are) s)) }

punct-writable : (at c : ℕ) (cs : List ℕ) (k : Token) → scalars (c ∷ cs) ≡ true → row at (c ∷ cs) ≡ gives (lexeme.Token k) 1 → is_punct c ≡ true →
    lexeme.Token k ≡ punct at c cs → IsSpellable k
punct-writable at c cs (t.Ident i) u h p e = absurd (cc)
punct-writable at c cs (t.Lifetime l) u h p e = absurd (cc)
punct-writable at c cs (t.Literal l) u h p e = absurd (cc)
punct-writable at c cs (t.Punct q) u h p e =
    let k : Token = t.Punct q in
    let ch : ℕ → Type 0 = λ d. Step 0 (c ∷ []) [] (lexeme.Token (t.Punct record { ch = d; spacing = Alone; span = q.span })) in
    let same : c ≡ q.ch = cc in
    let w : Spells k 1 (c ∷ cs) = spells at 1 (c ∷ cs) k u h in
    let s : Step 0 (c ∷ []) [] (lexeme.Token (t.Punct record { ch = c; spacing = Alone; span = q.span })) =
    row-step 0 1 (c ∷ []) [] (lexeme.Token (t.Punct record { ch = c; spacing = Alone; span = q.span })) (punct 0 c []) (punct-no_blank c [] p refl) (punct-row 0 c [] p) (omega arith) refl refl in
    let P : List ℕ → Type 0 = λ l. Step 0 l [] (lexeme.Token (alone k)) in
    record { utf8 = w.utf8; has = step-has (spelled k) (alone k) (subst P (sym w.chars_are) (subst ch same s)) }

-- what follows a punct

spacing-if : (a b : Bool) → cond a Alone (cond b Joint Alone) ≡ Joint → (a ≡ false) × (b ≡ true)
spacing-if true b h = absurd (cc)
spacing-if false true h = (refl, refl)
spacing-if false false h = absurd (cc)

not-true : (b : Bool) → b ≡ false → not b ≡ true
not-true true h = absurd (cc)
not-true false h = refl

punct-touches : (at c : ℕ) (cs : List ℕ) → blank_length (c ∷ cs) ≡ Absent → spacing_before cs ≡ Joint → touches c (reading at 0 cs).lexemes ≡ true
punct-touches at c [] b h = absurd (cc)
punct-touches at c (d ∷ cs) b h =
    let r = spacing-if (begins_comment (d ∷ cs)) (is_punct d) h in
    let read : reading at 0 (d ∷ cs) ≡ with_lexeme (punct at d cs) (reading at 1 (d ∷ cs)) =
    reading-given at 1 d cs (punct at d cs) (punct-no_blank d cs r.1 r.0) (punct-row at d cs r.1) (omega arith) in
    ap (λ v. touches c v.lexemes) read ∙ not-true (begins_comment (c ∷ d ∷ [])) (blank-no_comment (c ∷ d ∷ cs) b)

joint-only : (s : Spacing) → is_joint s ≡ true → s ≡ Joint
joint-only Joint h = refl
joint-only Alone h = absurd (cc)

punct-follows : (at a c : ℕ) (cs : List ℕ) (k : Token) → blank_length (c ∷ cs) ≡ Absent → lexeme.Token k ≡ punct a c cs → Follows k (reading at 0 cs).lexemes
punct-follows at a c cs (t.Ident i) b e = tt
punct-follows at a c cs (t.Lifetime l) b e = tt
punct-follows at a c cs (t.Literal l) b e = tt
punct-follows at a c cs (t.Punct q) b e =
    let same : c ≡ q.ch = cc in
    let spacing : spacing_before cs ≡ q.spacing = cc in
    λ j. ap (λ d. touches d (reading at 0 cs).lexemes) (sym same) ∙ punct-touches at c cs b (spacing ∙ joint-only q.spacing j)

plain-follows : (k : Token) (xs : List Lexeme) → is_no_mark (lexeme.Token k) ≡ true → Follows k xs
plain-follows (t.Ident i) xs h = tt
plain-follows (t.Lifetime l) xs h = tt
plain-follows (t.Literal l) xs h = tt
plain-follows (t.Punct q) xs h = absurd (cc)

-- each lexeme that is read

abbrev IsGood : Lexeme → List Lexeme → Type 0
IsGood (lexeme.Token k) xs = IsSpellable k × Follows k xs
IsGood (lexeme.Open d s) xs = ⊤
IsGood (lexeme.Close d s) xs = ⊤

good-then : (x : Lexeme) (xs : List Lexeme) → IsGood x xs → AreGood xs → AreGood (x ∷ xs)
good-then (lexeme.Token k) xs h g = (h.0, h.1, g)
good-then (lexeme.Open d s) xs h g = g
good-then (lexeme.Close d s) xs h g = g

mark-good : (at next c n : ℕ) (cs : List ℕ) (x : Lexeme) → scalars (c ∷ cs) ≡ true → blank_length (c ∷ cs) ≡ Absent → row at (c ∷ cs) ≡ gives x n → 1 ≡ n →
    Marked at c cs x → IsGood x (reading next (n - 1) cs).lexemes
mark-good at next c n cs x u b h one (opens_with d o e) =
    let P : Lexeme → Type 0 = λ y. IsGood y (reading next (n - 1) cs).lexemes in subst P (sym e) tt
mark-good at next c n cs x u b h one (closes_with d o e) =
    let P : Lexeme → Type 0 = λ y. IsGood y (reading next (n - 1) cs).lexemes in subst P (sym e) tt
mark-good at next c n cs (lexeme.Open d s) u b h one (is_a_punct p e) = tt
mark-good at next c n cs (lexeme.Close d s) u b h one (is_a_punct p e) = tt
mark-good at next c n cs (lexeme.Token k) u b h one (is_a_punct p e) =
    let P : ℕ → Type 0 = λ i. Follows k (reading next i cs).lexemes in
    let zero_left : 0 ≡ n - 1 = omega (arith, one) in
    (punct-writable at c cs k u (h ∙ ap (λ i. gives (lexeme.Token k) i) (sym one)) p e, subst P zero_left (punct-follows next at c cs k b e))

plain-good : (at n : ℕ) (cs : List ℕ) (x : Lexeme) (xs : List Lexeme) → scalars cs ≡ true → blank_length cs ≡ Absent → row at cs ≡ gives x n → is_no_mark x ≡ true →
    IsGood x xs
plain-good at n cs (lexeme.Token k) xs u b h m = (plain-writable at n cs k u b h m, plain-follows k xs m)
plain-good at n cs (lexeme.Open d s) xs u b h m = tt
plain-good at n cs (lexeme.Close d s) xs u b h m = tt

-- a lexeme that is a mark is of the row of marks
mark-source : (at n : ℕ) (cs : List ℕ) (x : Lexeme) → Source at cs x n → is_no_mark x ≡ false → mark_row at cs ≡ gives x n
mark-source at n cs x (of_quoted o h q e) m = absurd (let f : is_no_mark x ≡ true = ap is_no_mark e in cc)
mark-source at n cs x (of_char h q e) m = absurd (let f : is_no_mark x ≡ true = ap is_no_mark e in cc)
mark-source at n cs x (of_lifetime h q e) m = absurd (let f : is_no_mark x ≡ true = ap is_no_mark e in cc)
mark-source at n cs x (of_raw h q e) m = absurd (let f : is_no_mark x ≡ true = ap is_no_mark e in cc)
mark-source at n cs x (of_word h q e) m = absurd (let f : is_no_mark x ≡ true = ap is_no_mark e in cc)
mark-source at n cs x (of_number h q e) m = absurd (let f : is_no_mark x ≡ true = ap is_no_mark e in cc)
mark-source at n cs x (of_mark h) m = h

given-by : (at next c n : ℕ) (cs : List ℕ) (x : Lexeme) (m : Bool) → is_no_mark x ≡ m → scalars (c ∷ cs) ≡ true → blank_length (c ∷ cs) ≡ Absent →
    row at (c ∷ cs) ≡ gives x n → IsGood x (reading next (n - 1) cs).lexemes
given-by at next c n cs x true m u b h = plain-good at n (c ∷ cs) x (reading next (n - 1) cs).lexemes u b h m
given-by at next c n cs x false m u b h =
    let r = marked at c cs x n (mark-source at n (c ∷ cs) x (row-sourced at (c ∷ cs) x n h) m) in
    mark-good at next c n cs x u b h r.0 r.1

front-good : (at next c : ℕ) (cs : List ℕ) (b : Blank) (r : Row) → blank_length (c ∷ cs) ≡ b → row at (c ∷ cs) ≡ r → scalars (c ∷ cs) ≡ true →
    ((k : ℕ) → AreGood (reading next k cs).lexemes) → AreGood (read_front at (c ∷ cs) b r (λ more. reading next more cs)).lexemes
front-good at next c cs (Size n) r b h u f = f (n - 1)
front-good at next c cs Unclosed r b h u f = tt
front-good at next c cs Absent (gives x n) b h u f =
    good-then x (reading next (n - 1) cs).lexemes (given-by at next c n cs x (is_no_mark x) refl u b h) (f (n - 1))
front-good at next c cs Absent (refuses n) b h u f = tt
front-good at next c cs Absent passes b h u f = tt

reading-good : (at skip : ℕ) (cs : List ℕ) → scalars cs ≡ true → AreGood (reading at skip cs).lexemes
reading-good at zero [] u = tt
reading-good at (suc n) [] u = tt
reading-good at zero (c ∷ cs) u =
    front-good at (at + length (encode_utf8 c)) c cs (blank_length (c ∷ cs)) (row at (c ∷ cs)) refl refl u
    (λ more. reading-good (at + length (encode_utf8 c)) more cs (and_parts (scalar c) (scalars cs) u).1)
reading-good at (suc n) (c ∷ cs) u = reading-good (at + length (encode_utf8 c)) n cs (and_parts (scalar c) (scalars cs) u).1

-- trees of good lexemes

-- nothing, or the end of a group
abbrev is_end : List Lexeme → Bool
is_end [] = true
is_end (lexeme.Token k ∷ xs) = false
is_end (lexeme.Open d s ∷ xs) = false
is_end (lexeme.Close d s ∷ xs) = true

end-touch : (c : ℕ) (tail : List Lexeme) → is_end tail ≡ true → touches c tail ≡ false
end-touch c [] h = refl
end-touch c (lexeme.Token k ∷ xs) h = absurd (cc)
end-touch c (lexeme.Open d s ∷ xs) h = absurd (cc)
end-touch c (lexeme.Close d s ∷ xs) h = refl

touch-trees : (c : ℕ) (ts : Trees) (tail : List Lexeme) → is_end tail ≡ true → touches c (marks ts ++ tail) ≡ true → may_touch c ts ≡ true
touch-trees c no_trees tail e h = absurd (let f : touches c tail ≡ false = end-touch c tail e in cc)
touch-trees c (token (t.Punct q) rest) tail e h = h
touch-trees c (token (t.Ident i) rest) tail e h = absurd (cc)
touch-trees c (token (t.Lifetime l) rest) tail e h = absurd (cc)
touch-trees c (token (t.Literal l) rest) tail e h = absurd (cc)
touch-trees c (group d from inside upto rest) tail e h = absurd (cc)

spaced-if : (s : Spacing) (b : Bool) → (is_joint s ≡ true → b ≡ true) → (if is_joint s then b else true) ≡ true
spaced-if Joint b h = h refl
spaced-if Alone b h = refl

spaced-trees : (k : Token) (ts : Trees) (tail : List Lexeme) → is_end tail ≡ true → Follows k (marks ts ++ tail) → is_spaced k ts ≡ true
spaced-trees (t.Punct p) ts tail e h = spaced-if p.spacing (may_touch p.ch ts) (λ j. touch-trees p.ch ts tail e (h j))
spaced-trees (t.Ident i) ts tail e h = refl
spaced-trees (t.Lifetime l) ts tail e h = refl
spaced-trees (t.Literal l) ts tail e h = refl

writable-trees : (ts : Trees) (tail : List Lexeme) → is_end tail ≡ true → AreGood (marks ts ++ tail) → AreWritable ts × AreGood tail
writable-trees no_trees tail e g = (record { spellable = tt; spaced = refl }, g)
writable-trees (token k rest) tail e g =
    let r = writable-trees rest tail e g.2 in (
      record {
        spellable = (g.0, r.0.spellable);
        spaced = and_from (is_spaced k rest) (are_spaced rest) (spaced-trees k rest tail e g.1) r.0.spaced;
      },
      r.1,
    )
writable-trees (group d from inside upto rest) tail e g =
    let P : List Lexeme → Type 0 = λ xs. AreGood xs in
    let i = writable-trees inside (lexeme.Close d upto ∷ (marks rest ++ tail)) refl
    (subst P (append_assoc (marks inside) (lexeme.Close d upto ∷ marks rest) tail) g) in
    let r = writable-trees rest tail e i.1 in
    (record { spellable = (i.0.spellable, r.0.spellable); spaced = and_from (are_spaced inside) (are_spaced rest) i.0.spaced r.0.spaced }, r.1)

pub read-is_writable : ReadIsWritable
read-is_writable text ts u h =
    let P : List Lexeme → Type 0 = λ xs. AreGood xs in
    let g : AreGood (marks ts) = subst P (ap (λ (v : Reading). v.lexemes) h) (reading-good 0 0 (chars text) (scalars-chars text u)) in
    (writable-trees ts [] refl (subst P (sym (append-nil (marks ts))) g)).0
