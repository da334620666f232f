-- Delimiters and puncts: their rows, and which row a lexeme is of.
use Rattle.std.specs.Prelude.{◌≡◌, ℕ, ◌+◌, ◌<◌, ◌≤◌, Bool, true, false, ◌||◌, ◌&&◌, nat_eq, cond, Option, Some, None, List, [], ◌∷◌, length, drop, refl}
use Rattle.std.proofs.Common.{ap, ◌∙◌, arith}
use Rattle.std.proofs.lemmas.Bool.Decides.{nat_tests}
use Rattle.std.specs.Char.{is_ascii_alphabetic}
use Rattle.unicode_ident.proofs.IdentLemmas.{is_xid_start-ascii}
use Rattle.dm_stream.specs.declared.tokens.Delim.{Delim}
use Rattle.dm_stream.specs.declared.tokens.Delim.TheVariants.{Paren, Bracket, Brace}
use Rattle.dm_stream.specs.declared.tokens.Token.TheVariants as t
use Rattle.dm_lexer.specs.declared.lexing.Lexeme.{Lexeme}
use Rattle.dm_lexer.specs.declared.lexing.Lexeme.TheVariants as lexeme
use Rattle.dm_lexer.specs.declared.blanks.Blank.{Blank}
use Rattle.dm_lexer.specs.declared.blanks.Blank.TheVariants.{Absent, Size}
use Rattle.dm_lexer.specs.declared.words.Class.TheVariants.{Line}
use Rattle.dm_lexer.specs.TextFronts.{run}
use Rattle.dm_lexer.specs.Words.{begins_pair, begins_word, starts_word, passes as in_class}
use Rattle.dm_lexer.specs.Numbers.{begins_digit}
use Rattle.dm_lexer.specs.Blanks.{is_blank_char, begins_blank_char, block, comment_closing, blank_length}
use Rattle.dm_lexer.specs.Lexemes.{opened_by, closed_by, is_punct}
use Rattle.dm_lexer.specs.Rows.{gives, refuses, passes, or_row, byte_at, begins_comment, punct, opens, closes, puncts, mark_row, row}
use Rattle.dm_lexer.proofs.RowSteps.{punct-ascii}
use Rattle.dm_lexer.proofs.Stops.{is_stopped, other-pair}
use Rattle.dm_lexer.proofs.KeptRows.{Source, of_quoted, of_char, of_lifetime, of_raw, of_word, of_number, of_mark, IsKept, is_no_mark, kept-quoted, kept-char, kept-lifetime, kept-raw, kept-word, kept-number, no-opening, row-mark, no-blank}
use Rattle.dm_lexer.proofs.Fits.{quoted-fits, char-fits, lifetime-fits, word-fits, raw_word-fits, number-fits}

-- what a mark is
pub data Marked (at c : ℕ) (cs : List ℕ) (x : Lexeme) : Type 0 where
  opens_with : (d : Delim) → opened_by c ≡ Some d → x ≡ lexeme.Open d (byte_at at) → Marked at c cs x
  closes_with : (d : Delim) → closed_by c ≡ Some d → x ≡ lexeme.Close d (byte_at at) → Marked at c cs x
  is_a_punct : is_punct c ≡ true → x ≡ punct at c cs → Marked at c cs x

marked-by : (at c : ℕ) (cs : List ℕ) (x : Lexeme) (n : ℕ) (o p : Option Delim) (b : Bool) → opened_by c ≡ o → closed_by c ≡ p → is_punct c ≡ b →
    or_row (opens at o) (or_row (closes at p) (or_row (cond b (gives (punct at c cs) 1) passes) (refuses 1))) ≡ gives x n → (1 ≡ n) × Marked at c cs x
marked-by at c cs x n (Some d) p b h k l e = (cc, opens_with d h (cc))
marked-by at c cs x n None (Some d) b h k l e = (cc, closes_with d k (cc))
marked-by at c cs x n None None true h k l e = (cc, is_a_punct l (cc))
marked-by at c cs x n None None false h k l e = absurd (cc)

pub marked : (at c : ℕ) (cs : List ℕ) (x : Lexeme) (n : ℕ) → mark_row at (c ∷ cs) ≡ gives x n → (1 ≡ n) × Marked at c cs x
marked at c cs x n e = marked-by at c cs x n (opened_by c) (closed_by c) (is_punct c) refl refl refl e

-- a punct's row

no-letter : (c : ℕ) → is_punct c ≡ true → is_ascii_alphabetic c || nat_eq c 95 ≡ false
no-letter c h = grind (arith, nat_tests)

punct-starts : (c : ℕ) → is_punct c ≡ true → starts_word c ≡ false
punct-starts c h = ap (λ v. v || nat_eq c 95) (is_xid_start-ascii c (punct-ascii c h)) ∙ no-letter c h

punct-digit : (c : ℕ) → is_punct c ≡ true → begins_digit (c ∷ []) ≡ false
punct-digit c h = grind (arith, nat_tests)

punct-blank : (c : ℕ) → is_punct c ≡ true → is_blank_char c ≡ false
punct-blank c h = grind (arith, nat_tests)

punct-opened : (c : ℕ) → is_punct c ≡ true → opened_by c ≡ None
punct-opened c h = grind (arith, nat_tests)

punct-closed : (c : ℕ) → is_punct c ≡ true → closed_by c ≡ None
punct-closed c h = grind (arith, nat_tests)

first-false : (a b : Bool) → a ≡ false → (a && b) ≡ false
first-false true b h = absurd (cc)
first-false false b h = refl

mark-only : (at c : ℕ) (cs : List ℕ) → nat_eq c 34 ≡ false → nat_eq c 98 ≡ false → nat_eq c 99 ≡ false → nat_eq c 114 ≡ false → nat_eq c 39 ≡ false →
    starts_word c ≡ false → begins_digit (c ∷ []) ≡ false → row at (c ∷ cs) ≡ mark_row at (c ∷ cs)
mark-only at c cs x y z w u s d =
    row-mark at (c ∷ cs) (no-opening c cs x y z w) u (first-false (begins_pair 114 35 (c ∷ cs)) (begins_word (drop 2 (c ∷ cs))) (other-pair 114 35 c cs w)) s d

pub punct-row : (at c : ℕ) (cs : List ℕ) → is_punct c ≡ true → row at (c ∷ cs) ≡ gives (punct at c cs) 1
punct-row at c cs h =
    mark-only at c cs (grind (arith, nat_tests)) (grind (arith, nat_tests)) (grind (arith, nat_tests)) (grind (arith, nat_tests)) (grind (arith, nat_tests))
    (punct-starts c h) (punct-digit c h) ∙
    ap (λ v. or_row (opens at v) (or_row (closes at (closed_by c)) (or_row (puncts at c cs) (refuses 1)))) (punct-opened c h) ∙
    ap (λ v. or_row (closes at v) (or_row (puncts at c cs) (refuses 1))) (punct-closed c h) ∙
    ap (λ v. or_row (cond v (gives (punct at c cs) 1) passes) (refuses 1)) h

abbrev blank-by : Bool → Bool → Bool → List ℕ → Blank
blank-by x y z cs = cond x (Size 1) (cond y (Size (2 + run (in_class Line) (drop 2 cs))) (cond z (block (comment_closing 0 (drop 2 cs))) Absent))

neither : (a b : Bool) → (a || b) ≡ false → (a ≡ false) × (b ≡ false)
neither true b h = absurd (cc)
neither false b h = (refl, h)

pub no_comment-blank : (c : ℕ) (cs : List ℕ) → is_blank_char c ≡ false → begins_comment (c ∷ cs) ≡ false → blank_length (c ∷ cs) ≡ Absent
no_comment-blank c cs h k =
    let r = neither (begins_pair 47 47 (c ∷ cs)) (begins_pair 47 42 (c ∷ cs)) k in
    ap (λ v. blank-by v (begins_pair 47 47 (c ∷ cs)) (begins_pair 47 42 (c ∷ cs)) (c ∷ cs)) h ∙
    ap (λ v. blank-by false v (begins_pair 47 42 (c ∷ cs)) (c ∷ cs)) r.0 ∙ ap (λ v. blank-by false false v (c ∷ cs)) r.1

pub punct-no_blank : (c : ℕ) (cs : List ℕ) → is_punct c ≡ true → begins_comment (c ∷ cs) ≡ false → blank_length (c ∷ cs) ≡ Absent
punct-no_blank c cs h k = no_comment-blank c cs (punct-blank c h) k

block-absent : (o : Option ℕ) → block o ≡ Absent → ⊥
block-absent None h = absurd (cc)
block-absent (Some n) h = absurd (cc)

comment-if : (x y z : Bool) (cs : List ℕ) → blank-by x y z cs ≡ Absent → (y || z) ≡ false
comment-if true y z cs h = absurd (cc)
comment-if false true z cs h = absurd (cc)
comment-if false false true cs h = absurd (block-absent (comment_closing 0 (drop 2 cs)) h)
comment-if false false false cs h = refl

pub blank-no_comment : (cs : List ℕ) → blank_length cs ≡ Absent → begins_comment cs ≡ false
blank-no_comment cs h = comment-if (begins_blank_char cs) (begins_pair 47 47 cs) (begins_pair 47 42 cs) cs h

-- a delimiter's row

small-start : (c : ℕ) → c < 128 → is_ascii_alphabetic c || nat_eq c 95 ≡ false → starts_word c ≡ false
small-start c l h = ap (λ v. v || nat_eq c 95) (is_xid_start-ascii c l) ∙ h

abbrev pub open_char : Delim → ℕ
open_char Paren = 40
open_char Bracket = 91
open_char Brace = 123

abbrev pub close_char : Delim → ℕ
close_char Paren = 41
close_char Bracket = 93
close_char Brace = 125

pub open-row : (at : ℕ) (d : Delim) (cs : List ℕ) → row at (open_char d ∷ cs) ≡ gives (lexeme.Open d (byte_at at)) 1
open-row at Paren cs = mark-only at 40 cs refl refl refl refl refl (small-start 40 (omega arith) refl) refl
open-row at Bracket cs = mark-only at 91 cs refl refl refl refl refl (small-start 91 (omega arith) refl) refl
open-row at Brace cs = mark-only at 123 cs refl refl refl refl refl (small-start 123 (omega arith) refl) refl

pub close-row : (at : ℕ) (d : Delim) (cs : List ℕ) → row at (close_char d ∷ cs) ≡ gives (lexeme.Close d (byte_at at)) 1
close-row at Paren cs = mark-only at 41 cs refl refl refl refl refl (small-start 41 (omega arith) refl) refl
close-row at Bracket cs = mark-only at 93 cs refl refl refl refl refl (small-start 93 (omega arith) refl) refl
close-row at Brace cs = mark-only at 125 cs refl refl refl refl refl (small-start 125 (omega arith) refl) refl

pub open-no_blank : (d : Delim) (cs : List ℕ) → blank_length (open_char d ∷ cs) ≡ Absent
open-no_blank Paren cs = no-blank 40 cs refl refl
open-no_blank Bracket cs = no-blank 91 cs refl refl
open-no_blank Brace cs = no-blank 123 cs refl refl

pub close-no_blank : (d : Delim) (cs : List ℕ) → blank_length (close_char d ∷ cs) ≡ Absent
close-no_blank Paren cs = no-blank 41 cs refl refl
close-no_blank Bracket cs = no-blank 93 cs refl refl
close-no_blank Brace cs = no-blank 125 cs refl refl

-- any token but a punct

mark-no : (at : ℕ) (cs : List ℕ) (x : Lexeme) (n : ℕ) → mark_row at cs ≡ gives x n → is_no_mark x ≡ false
mark-no at [] x n h = absurd (cc)
mark-no at (c ∷ cs) x n h =
    elim (marked at c cs x n h).1 [
      | opens_with d o e ↦ ap is_no_mark e
      | closes_with d o e ↦ ap is_no_mark e
      | is_a_punct p e ↦ ap is_no_mark e
    ]

pub source-kept : (a b n : ℕ) (cs zs : List ℕ) (x : Lexeme) → is_stopped zs ≡ true → blank_length cs ≡ Absent → is_no_mark x ≡ true → Source b cs x n →
    IsKept a n cs zs x
source-kept a b n cs zs x s k m (of_quoted o h q e) = kept-quoted a b n cs zs x o k h q e
source-kept a b n cs zs x s k m (of_char h q e) = kept-char a b n cs zs x k h q e
source-kept a b n cs zs x s k m (of_lifetime h q e) = kept-lifetime a b n cs zs x s k h q e
source-kept a b n cs zs x s k m (of_raw h q e) = kept-raw a b n cs zs x s k h q e
source-kept a b n cs zs x s k m (of_word h q e) = kept-word a b n cs zs x s k h q e
source-kept a b n cs zs x s k m (of_number h q e) = kept-number a b n cs zs x s k h q e
source-kept a b n cs zs x s k m (of_mark h) = absurd (let f : is_no_mark x ≡ false = mark-no b cs x n h in cc)

pub source-fits : (b n : ℕ) (cs : List ℕ) (x : Lexeme) → Source b cs x n → n ≤ length cs
source-fits b n cs x (of_quoted o h q e) = quoted-fits o n cs q
source-fits b n cs x (of_char h q e) = char-fits n cs q
source-fits b n cs x (of_lifetime h q e) = lifetime-fits n cs q
source-fits b n cs x (of_raw h q e) = raw_word-fits n cs h q
source-fits b n cs x (of_word h q e) = word-fits n cs q
source-fits b n cs x (of_number h q e) = number-fits n cs h q
source-fits b n [] x (of_mark h) = absurd (cc)
source-fits b n (c ∷ cs) x (of_mark h) = let e : 1 ≡ n = (marked b c cs x n h).0 in omega (arith, e)

-- the row of a text that begins with the character c, where it gives a punct, gives the punct c

abbrev char_of : Lexeme → ℕ
char_of (lexeme.Token (t.Punct p)) = p.ch
char_of x = 0

abbrev pub gives_punct : Lexeme → Bool
gives_punct (lexeme.Token (t.Punct p)) = true
gives_punct x = false

mark-punct : (at c : ℕ) (cs : List ℕ) (x : Lexeme) → Marked at c cs x → gives_punct x ≡ true → is_punct c ≡ true
mark-punct at c cs x (opens_with d o e) g = absurd (let f : gives_punct x ≡ false = ap gives_punct e in cc)
mark-punct at c cs x (closes_with d o e) g = absurd (let f : gives_punct x ≡ false = ap gives_punct e in cc)
mark-punct at c cs x (is_a_punct p e) g = p

pub source-punct : (at c n : ℕ) (cs : List ℕ) (x : Lexeme) → Source at (c ∷ cs) x n → gives_punct x ≡ true → is_punct c ≡ true
source-punct at c n cs x (of_quoted o h q e) g = absurd (let f : gives_punct x ≡ false = ap gives_punct e in cc)
source-punct at c n cs x (of_char h q e) g = absurd (let f : gives_punct x ≡ false = ap gives_punct e in cc)
source-punct at c n cs x (of_lifetime h q e) g = absurd (let f : gives_punct x ≡ false = ap gives_punct e in cc)
source-punct at c n cs x (of_raw h q e) g = absurd (let f : gives_punct x ≡ false = ap gives_punct e in cc)
source-punct at c n cs x (of_word h q e) g = absurd (let f : gives_punct x ≡ false = ap gives_punct e in cc)
source-punct at c n cs x (of_number h q e) g = absurd (let f : gives_punct x ≡ false = ap gives_punct e in cc)
source-punct at c n cs x (of_mark h) g = mark-punct at c cs x (marked at c cs x n h).1 g
