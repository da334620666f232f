-- Raw strings, and lines.
use Rattle.std.specs.Prelude.{◌≡◌, ℕ, suc, ◌+◌, ◌<◌, ◌≤◌, Bool, true, false, List, ◌∷◌, ◌++◌, length, drop, encode_utf8, refl, cond, nat_eq, nat_lt, ◌&&◌, Option, Some}
use Rattle.std.proofs.Common.{ap, ◌∙◌, sym, subst, arith}
use Rattle.std.proofs.lemmas.Bool.{and_parts}
use Rattle.std.proofs.lemmas.Bool.Decides.{nat_tests}
use Rattle.std.proofs.lemmas.Str.{IsUtf8-past_char, drop_past_char}
use Rattle.std.specs.Char.{len_utf8}
use Rattle.std.specs.Str.{chars, IsUtf8}
use Rattle.dm_lexer.specs.TextFronts.{IsFront, run}
use Rattle.dm_lexer.specs.Quotes.{begins, is_hash, begins_hashes, closes_raw, one_more, more, raw_closing, keeps_line, whole_lines, opens_raw, IsSized}
use Rattle.dm_lexer.proofs.LexChars.{front-none, front-next}
use Rattle.dm_lexer.proofs.Segments.{AsciiFront, ascii-front, ascii-run, ascii-less, front-add, more-one, more-zero}

raw-as : (hashes c : ℕ) (cs : List ℕ) (b : Bool) → closes_raw hashes c cs ≡ b →
    raw_closing hashes (c ∷ cs) ≡ cond {A = Option ℕ} b (Some (suc hashes)) (one_more (raw_closing hashes cs))
raw-as hashes c cs b h = ap (λ v. cond {A = Option ℕ} v (Some (suc hashes)) (one_more (raw_closing hashes cs))) h

-- the first `at` bytes don't close the string
pub record IsRawSoFar (hashes : ℕ) (text : List ℕ) (at : ℕ) (rest : List ℕ) : Type 0 where
  pub text_utf8 : IsUtf8 text
  pub utf8 : IsUtf8 rest
  pub count : ℕ
  pub front : IsFront text at count
  pub rest_is : drop at text ≡ rest
  pub fits : at + length rest ≤ length text
  pub steps : raw_closing hashes (chars text) ≡ more count (raw_closing hashes (chars rest))

pub raw-start : (hashes : ℕ) (text : List ℕ) → IsUtf8 text → IsRawSoFar hashes text 0 text
raw-start hashes text u = record {
  text_utf8 = u;
  utf8 = u;
  count = 0;
  front = front-none text u;
  rest_is = refl;
  fits = omega arith;
  steps = sym (more-zero (raw_closing hashes (chars text)));
}

pub raw-next : (hashes : ℕ) (text rest after : List ℕ) (at c : ℕ) → IsRawSoFar hashes text at rest → closes_raw hashes c (chars after) ≡ false →
    rest ≡ encode_utf8 c ++ after → chars rest ≡ c ∷ chars after → at + len_utf8 c + length after ≤ length text → IsRawSoFar hashes text (at + len_utf8 c) after
raw-next hashes text rest after at c s h e k l =
    let U : List ℕ → Type 0 = λ t. IsUtf8 t in
    let a : raw_closing hashes (chars rest) ≡ one_more (raw_closing hashes (chars after)) = ap (raw_closing hashes) k ∙ raw-as hashes c (chars after) false h in
    record {
      text_utf8 = s.text_utf8;
      utf8 = IsUtf8-past_char rest after c s.utf8 e;
      count = suc s.count;
      front = front-next text after at s.count c s.front (subst U (sym s.rest_is) s.utf8) (s.rest_is ∙ e) (ap chars s.rest_is ∙ k);
      rest_is = drop_past_char text after at c (s.rest_is ∙ e);
      fits = l;
      steps = s.steps ∙ ap (more s.count) a ∙ more-one s.count (raw_closing hashes (chars after));
    }

hash-ascii : (c : ℕ) → is_hash c ≡ true → c < 128
hash-ascii c h = grind (arith, nat_tests)

quote-ascii : (c : ℕ) (b : Bool) → (nat_eq c 34 && b) ≡ true → c < 128
quote-ascii c b h = grind (arith, nat_tests)

enough : (hashes n : ℕ) → nat_lt hashes (suc n) ≡ true → hashes ≤ n
enough hashes n h = grind (arith, nat_tests)

hashes-front : (hashes c : ℕ) (cs l : List ℕ) → l ≡ c ∷ cs → closes_raw hashes c cs ≡ true → AsciiFront (suc hashes) l
hashes-front hashes c cs l e h =
    let P : List ℕ → Type 0 = λ t. AsciiFront (suc hashes) t in
    let few : hashes ≤ run is_hash cs = enough hashes (run is_hash cs) (and_parts (nat_eq c 34) (begins_hashes hashes cs) h).1 in
    subst P (sym e) (quote-ascii c (begins_hashes hashes cs) h, ascii-less hashes (run is_hash cs) cs few (ascii-run is_hash cs hash-ascii))

pub raw-end : (hashes : ℕ) (text rest after : List ℕ) (at c : ℕ) → IsRawSoFar hashes text at rest → closes_raw hashes c (chars after) ≡ true →
    chars rest ≡ c ∷ chars after → IsSized text (at + 1 + hashes) (raw_closing hashes (chars text))
raw-end hashes text rest after at c s h k =
    let f : IsFront rest (suc hashes) (suc hashes) = ascii-front rest (suc hashes) s.utf8 (hashes-front hashes c (chars after) (chars rest) k h) in
    let g : IsFront text (at + suc hashes) (s.count + suc hashes) =
    front-add text rest at s.count (suc hashes) (suc hashes) s.text_utf8 s.front (sym s.rest_is) f in
    let P : ℕ → Type 0 = λ i. IsFront text i (s.count + suc hashes) in
    let size : at + suc hashes ≡ at + 1 + hashes = omega arith in (
      s.count + suc hashes,
      s.steps ∙ ap (more s.count) (ap (raw_closing hashes) k ∙ raw-as hashes c (chars after) true h),
      subst P size g,
    )

-- lines

lines-as : (c : ℕ) (cs : List ℕ) (b : Bool) → keeps_line c cs ≡ b → whole_lines (c ∷ cs) ≡ (b && whole_lines cs)
lines-as c cs b h = ap (λ v. v && whole_lines cs) h

pub record AreLinesSoFar (text rest : List ℕ) : Type 0 where
  pub utf8 : IsUtf8 rest
  pub steps : whole_lines (chars text) ≡ whole_lines (chars rest)

pub lines-next : (text rest after : List ℕ) (c : ℕ) → AreLinesSoFar text rest → keeps_line c (chars after) ≡ true → rest ≡ encode_utf8 c ++ after →
    chars rest ≡ c ∷ chars after → AreLinesSoFar text after
lines-next text rest after c s h e k =
    record { utf8 = IsUtf8-past_char rest after c s.utf8 e; steps = s.steps ∙ ap whole_lines k ∙ lines-as c (chars after) true h }

pub lines-broken : (text rest after : List ℕ) (c : ℕ) → AreLinesSoFar text rest → keeps_line c (chars after) ≡ false → chars rest ≡ c ∷ chars after →
    whole_lines (chars text) ≡ false
lines-broken text rest after c s h k = s.steps ∙ ap whole_lines k ∙ lines-as c (chars after) false h

-- openings

pub hashes-at : (text : List ℕ) (n : ℕ) → IsUtf8 text → n ≡ run is_hash (chars text) → IsFront text n n
hashes-at text n u e =
    let P : ℕ → Type 0 = λ i. IsFront text i i in
    subst P (sym e) (ascii-front text (run is_hash (chars text)) u (ascii-run is_hash (chars text) hash-ascii))

pub raw-opens : (text rest : List ℕ) (n : ℕ) (b : Bool) → IsUtf8 text → n ≡ run is_hash (chars text) → n < 256 → rest ≡ drop n text →
    b ≡ begins 34 (chars rest) → b ≡ opens_raw (chars text)
raw-opens text rest n b u e l r h =
    let f : IsFront text n n = hashes-at text n u e in
    let few : nat_lt (run is_hash (chars text)) 256 ≡ true = grind (arith, nat_tests) in
    h ∙ ap (λ t. begins 34 (chars t)) r ∙ ap (begins 34) f.rest_is ∙ ap (λ i. begins 34 (drop i (chars text))) e ∙
    ap (λ v. v && begins 34 (drop (run is_hash (chars text)) (chars text))) (sym few)
