-- Segments of strings, by bytes and by characters.
use Rattle.std.specs.Prelude.{◌≡◌, ℕ, zero, suc, ◌+◌, ◌<◌, ◌≤◌, Bool, true, false, List, [], ◌∷◌, ◌++◌, length, take, drop, encode_utf8, refl, cond, Option, Some, None}
use Rattle.std.proofs.Common.{ap, ◌∙◌, sym, subst, arith, length-drop, zero-add}
use Rattle.std.proofs.Math.Seq.{take-add}
use Rattle.std.proofs.lemmas.Str.{len_utf8_ascii, chars_past_char, encodes-chars, encodes-append, chars_from_encodes, IsUtf8-drop, IsUtf8-take, IsCharBoundary-from_drop}
use Rattle.std.specs.Char.{len_utf8}
use Rattle.std.specs.Str.{chars, encode_utf8_all, IsUtf8}
use Rattle.dm_lexer.specs.TextFronts.{IsFront, run}
use Rattle.dm_lexer.specs.Quotes.{one_more, more}
use Rattle.dm_stream.proofs.Cuts.{drop-more}
use Rattle.dm_lexer.proofs.LexChars.{front-none, front-next, run-pass}

-- a front of one character more, by characters alone
pub front-char : (text ds : List ℕ) (at n c : ℕ) → IsUtf8 text → IsFront text at n → drop n (chars text) ≡ c ∷ ds → IsFront text (at + len_utf8 c) (suc n)
front-char text ds at n c u f h =
    let v : IsUtf8 (drop at text) = IsUtf8-drop text at u f.boundary in
    let k : chars (drop at text) ≡ c ∷ ds = f.rest_is ∙ h in
    let e : drop at text ≡ encode_utf8 c ++ encode_utf8_all ds = sym (encodes-chars (drop at text) v) ∙ ap encode_utf8_all k in
    front-next text (encode_utf8_all ds) at n c f v e (chars_past_char (drop at text) (encode_utf8_all ds) c v e)

-- n characters of the front are there and are ASCII
abbrev pub AsciiFront : ℕ → List ℕ → Type 0
AsciiFront zero cs = Unit {0}
AsciiFront (suc n) [] = ⊥
AsciiFront (suc n) (c ∷ cs) = (c < 128) × AsciiFront n cs

data Last (n : ℕ) (cs : List ℕ) : Type 0 where
  last : AsciiFront n cs → (c : ℕ) (ds : List ℕ) → drop n cs ≡ c ∷ ds → c < 128 → Last n cs

last_of : (n : ℕ) (cs : List ℕ) → AsciiFront (suc n) cs → Last n cs
last_of n [] h = absurd h
last_of zero (c ∷ cs) h = last tt c cs refl h.0
last_of (suc n) (c ∷ cs) h = elim (last_of n cs h.1) [ last a d ds e l ↦ last (h.0, a) d ds e l ]

-- n ASCII characters are n bytes
pub ascii-front : (text : List ℕ) (n : ℕ) → IsUtf8 text → AsciiFront n (chars text) → IsFront text n n
ascii-front text zero u h = front-none text u
ascii-front text (suc n) u h =
    elim (last_of n (chars text) h) [
      | last a c ds e l ↦
          let size : n + len_utf8 c ≡ suc n = omega (arith, len_utf8_ascii c l) in
          let P : ℕ → Type 0 = λ i. IsFront text i (suc n) in
          subst P size (front-char text ds n n c u (ascii-front text n u a) e)
    ]

run-on : (p : ℕ → Bool) (c : ℕ) (cs : List ℕ) (b : Bool) → ((d : ℕ) → p d ≡ true → d < 128) → AsciiFront (run p cs) cs → p c ≡ b →
    AsciiFront (cond b (suc (run p cs)) 0) (c ∷ cs)
run-on p c cs true l h e = (l c e, h)
run-on p c cs false l h e = tt

pub ascii-run : (p : ℕ → Bool) (cs : List ℕ) → ((d : ℕ) → p d ≡ true → d < 128) → AsciiFront (run p cs) cs
ascii-run p [] l = tt
ascii-run p (c ∷ cs) l = run-on p c cs (p c) l (ascii-run p cs l) refl

-- how many characters of the front pass, as far as they were counted
pub record IsCountedSoFar (p : ℕ → Bool) (text : List ℕ) (count : ℕ) (rest : List ℕ) : Type 0 where
  pub steps : run p (chars text) ≡ count + run p (chars rest)
  pub fits : count + length rest ≤ length text
  pub utf8 : IsUtf8 rest

pub counted-next : (p : ℕ → Bool) (text rest after : List ℕ) (count c : ℕ) → IsCountedSoFar p text count rest → chars rest ≡ c ∷ chars after →
    IsUtf8 after → length after < length rest → p c ≡ true → IsCountedSoFar p text (count + 1) after
counted-next p text rest after count c s k u l h =
    let r : run p (chars rest) ≡ suc (run p (chars after)) = ap (run p) k ∙ run-pass p c (chars after) h in
    let a = s.steps in
    let f = s.fits in
    record { steps = omega (arith, a, r); fits = omega (arith, f, l); utf8 = u }

suc-add : (n m : ℕ) → suc n + m ≡ suc (n + m)
suc-add n m = omega arith

drop-nil : (n : ℕ) → drop {A = ℕ} n [] ≡ []
drop-nil zero = refl
drop-nil (suc n) = refl

pub drop-drop : (n m : ℕ) (cs : List ℕ) → drop m (drop n cs) ≡ drop (n + m) cs
drop-drop zero m cs = ap (λ i. drop i cs) (sym (zero-add m))
drop-drop (suc n) m [] = drop-nil m ∙ sym (drop-nil (suc n + m))
drop-drop (suc n) m (c ∷ cs) = drop-drop n m cs ∙ ap (λ i. drop i (c ∷ cs)) (sym (suc-add n m))

-- two fronts, one behind the other
pub front-add : (text rest : List ℕ) (a n b m : ℕ) → IsUtf8 text → IsFront text a n → rest ≡ drop a text → IsFront rest b m → IsFront text (a + b) (n + m)
front-add text rest a n b m u f e g =
    let P : List ℕ → Type 0 = λ l. IsFront l b m in
    let h : IsFront (drop a text) b m = subst P e g in
    let v : IsUtf8 (drop a text) = IsUtf8-drop text a u f.boundary in
    let d : drop (a + b) text ≡ drop b (drop a text) = drop-more a b text f.boundary.0 in
    let U : List ℕ → Type 0 = λ l. IsUtf8 l in
    let w : IsUtf8 (drop (a + b) text) = subst U (sym d) (IsUtf8-drop (drop a text) b v h.boundary) in
    let x = f.boundary.0 in
    let y = h.boundary.0 in
    let fits : a + b ≤ length text = omega (arith, x, y, length-drop a text) in
    record {
      boundary = IsCharBoundary-from_drop text (a + b) fits w;
      bytes_are =
          take-add a b text ∙ ap (λ l. l ++ take b (drop a text)) f.bytes_are ∙ ap (λ l. encode_utf8_all (take n (chars text)) ++ l) h.bytes_are ∙
          ap (λ l. encode_utf8_all (take n (chars text)) ++ encode_utf8_all (take m l)) f.rest_is ∙
          sym (encodes-append (take n (chars text)) (take m (drop n (chars text)))) ∙ ap encode_utf8_all (sym (take-add n m (chars text)));
      rest_is = ap chars d ∙ h.rest_is ∙ ap (drop m) f.rest_is ∙ drop-drop n m (chars text);
    }

-- what is left behind the second of them
pub behind-front : (text rest : List ℕ) (a n b m : ℕ) → IsFront text a n → rest ≡ drop a text → IsFront text (a + b) (n + m) →
    drop m (chars rest) ≡ chars (drop (a + b) text)
behind-front text rest a n b m f e g = ap (λ l. drop m (chars l)) e ∙ ap (drop m) f.rest_is ∙ drop-drop n m (chars text) ∙ sym g.rest_is

-- the first `at` bytes of a text, in which whole segments were passed over
pub record IsPassed (text : List ℕ) (at : ℕ) : Type 0 where
  pub utf8 : IsUtf8 text
  pub rest_utf8 : IsUtf8 (drop at text)
  pub count : ℕ
  pub front : IsFront text at count

abbrev pub passed-none : (text : List ℕ) → IsUtf8 text → IsPassed text 0
passed-none text u = record { utf8 = u; rest_utf8 = u; count = 0; front = front-none text u }

abbrev pub passed-more : (text rest : List ℕ) (at size n : ℕ) → IsPassed text at → rest ≡ drop at text → IsFront rest size n → IsPassed text (at + size)
passed-more text rest at size n s e g =
    let f : IsFront text (at + size) (s.count + n) = front-add text rest at s.count size n s.utf8 s.front e g in
    record { utf8 = s.utf8; rest_utf8 = IsUtf8-drop text (at + size) s.utf8 f.boundary; count = s.count + n; front = f }

pub more-more : (n m : ℕ) (o : Option ℕ) → more n (more m o) ≡ more (n + m) o
more-more n m None = refl
more-more n m (Some k) = ap (λ v. Some v) (omega arith)

pub more-zero : (o : Option ℕ) → more 0 o ≡ o
more-zero None = refl
more-zero (Some n) = ap (λ v. Some v) (omega arith)

pub one-more : (n : ℕ) (o : Option ℕ) → one_more (more n o) ≡ more (suc n) o
one-more n None = refl
one-more n (Some m) = ap (λ v. Some v) (omega arith)

-- the characters of a front
pub front-chars : (text : List ℕ) (at n : ℕ) → IsUtf8 text → IsFront text at n → take n (chars text) ≡ chars (take at text)
front-chars text at n u f = chars_from_encodes (take n (chars text)) (take at text) (IsUtf8-take text at u f.boundary) (sym f.bytes_are)

pub more-one : (n : ℕ) (o : Option ℕ) → more n (one_more o) ≡ more (suc n) o
more-one n None = refl
more-one n (Some m) = ap (λ v. Some v) (omega arith)

pub ascii-less : (n m : ℕ) (cs : List ℕ) → n ≤ m → AsciiFront m cs → AsciiFront n cs
ascii-less zero m cs l h = tt
ascii-less (suc n) zero cs l h = absurd (omega arith)
ascii-less (suc n) (suc m) [] l h = h
ascii-less (suc n) (suc m) (c ∷ cs) l h = (h.0, ascii-less n m cs (omega arith) h.1)
