-- The values of strings, by bytes and by characters.
use Rattle.std.specs.Prelude.{◌≡◌, ℕ, zero, suc, ◌+◌, ◌-◌, ◌<◌, ◌≤◌, Bool, true, false, List, [], ◌∷◌, ◌++◌, length, take, drop, encode_utf8, refl, cond, nat_eq, nat_lt, Option, Some, None, option_map}
use Rattle.std.proofs.Common.{ap, ◌∙◌, sym, arith, length-drop, append-nil, append_assoc}
use Rattle.std.proofs.lemmas.Bool.Decides.{nat_tests}
use Rattle.std.proofs.lemmas.Str.{chars-nil, encodes-chars, IsUtf8-drop, length-encode}
use Rattle.std.proofs.Math.ListN.{drop_of_length-le}
use Rattle.std.proofs.Math.Seq.{take-add, take-append_seam}
use Rattle.std.specs.Char.{len_utf8}
use Rattle.std.specs.Str.{chars, encode_utf8_all, IsUtf8, IsCharBoundary}
use Rattle.dm_stream.specs.declared.tokens.LitKind.{LitKind}
use Rattle.dm_lexer.specs.declared.quotes.Segment.{Segment}
use Rattle.dm_lexer.specs.declared.quotes.Opening.{Opening}
use Rattle.dm_lexer.specs.declared.quotes.Inside.TheVariants.{Characters}
use Rattle.dm_lexer.specs.TextFronts.{IsFront, IsSized}
use Rattle.dm_lexer.specs.Quotes.{begins, segment, opening, quoted_length, closes_raw, meant_with, meant_by, meaning, IsSegment}
use Rattle.dm_lexer.specs.Values.{meant_bytes, raw_meaning, takes_all, whole_by, whole_opening, meant_behind, meant, str_value}
use Rattle.dm_lexer.proofs.Openings.{opening-front}
use Rattle.dm_lexer.proofs.Segments.{behind-front, IsPassed, passed-none, passed-more}
use Rattle.dm_lexer.proofs.RawStrings.{IsRawSoFar, raw-start, raw-next}

-- whether a literal takes all of a text

front-all : (text : List ℕ) (size n : ℕ) → IsFront text size n → size ≡ length text → nat_lt n (length (chars text)) ≡ false
front-all text size n f e =
    let none : drop n (chars text) ≡ [] = sym f.rest_is ∙ ap chars (drop_of_length-le text (omega arith)) ∙ chars-nil in
    let l : length (drop n (chars text)) ≡ 0 = ap length none in
    let most : length (chars text) ≤ n = omega (arith, l, length-drop n (chars text)) in
    grind (arith, nat_tests)

some-left : (text cs : List ℕ) → encode_utf8_all cs ≡ text → 0 < length text → 0 < length cs
some-left text [] e h = let l : 0 ≡ length text = ap length e in absurd (omega arith)
some-left text (c ∷ cs) e h = omega arith

front-part : (text : List ℕ) (size n : ℕ) → IsUtf8 text → IsFront text size n → (size ≡ length text → ⊥) → nat_lt n (length (chars text)) ≡ true
front-part text size n u f h =
    let b : size ≤ length text = f.boundary.0 in
    let more : 0 < length (drop size text) = omega (arith, length-drop size text, b, h) in
    let left : 0 < length (chars (drop size text)) =
    some-left (drop size text) (chars (drop size text)) (encodes-chars (drop size text) (IsUtf8-drop text size u f.boundary)) more in
    let l : length (chars (drop size text)) ≡ length (drop n (chars text)) = ap length f.rest_is in
    let fewer : n < length (chars text) = omega (arith, l, left, length-drop n (chars text)) in
    grind (arith, nat_tests)

whole-as : (o : Opening) (cs : List ℕ) (n : ℕ) (b : Bool) → opening cs ≡ Some o → quoted_length o cs ≡ Some n → nat_lt n (length cs) ≡ b →
    whole_opening cs ≡ cond {A = Option Opening} (cond b false true) (Some o) None
whole-as o cs n b h e l =
    ap (λ v. whole_by v cs) h ∙ ap (λ v. cond {A = Option Opening} (takes_all v cs) (Some o) None) e ∙
    ap (λ v. cond {A = Option Opening} (cond v false true) (Some o) None) l

pub whole-all : (text : List ℕ) (o : Opening) (size : ℕ) → Some o ≡ opening (chars text) → IsSized text size (quoted_length o (chars text)) →
    size ≡ length text → Some o ≡ whole_opening (chars text)
whole-all text o size h s e = sym (whole-as o (chars text) s.0 false (sym h) s.1 (front-all text size s.0 s.2 e))

pub whole-part : (text : List ℕ) (o : Opening) (size : ℕ) → IsUtf8 text → Some o ≡ opening (chars text) → IsSized text size (quoted_length o (chars text)) →
    (size ≡ length text → ⊥) → None ≡ whole_opening (chars text)
whole-part text o size u h s e = sym (whole-as o (chars text) s.0 true (sym h) s.1 (front-part text size s.0 u s.2 e))

taken : (b : Bool) (q o : Opening) → cond {A = Option Opening} b (Some q) None ≡ Some o → Some q ≡ Some o
taken true q o h = h
taken false q o h = absurd (cc)

whole-if : (p : Option Opening) (o : Opening) (cs : List ℕ) → whole_by p cs ≡ Some o → p ≡ Some o
whole-if None o cs h = h
whole-if (Some q) o cs h = taken (takes_all (quoted_length q cs) cs) q o h

whole-front : (text : List ℕ) (o : Opening) → IsUtf8 text → Some o ≡ whole_opening (chars text) → IsFront text o.size o.size
whole-front text o u h = opening-front text o u (whole-if (opening (chars text)) o (chars text) (sym h))

pub whole-boundary : (text : List ℕ) (o : Opening) → IsUtf8 text → Some o ≡ whole_opening (chars text) → IsCharBoundary text o.size
whole-boundary text o u h = (whole-front text o u h).boundary

pub value-is : (k : LitKind) (text own inside : List ℕ) (o : Opening) → IsUtf8 text → text ≡ own → Some o ≡ whole_opening (chars text) →
    inside ≡ drop o.size text → option_map encode_utf8_all (meant_behind k o.kind o.hashes (chars inside)) ≡ str_value k own
value-is k text own inside o u t h i =
    let behind : chars inside ≡ drop o.size (chars text) = ap chars i ∙ (whole-front text o u h).rest_is in
    ap (λ l. option_map encode_utf8_all (meant_behind k o.kind o.hashes l)) behind ∙
    ap (λ v. option_map encode_utf8_all (meant k v (chars text))) h ∙ ap (str_value k) t

-- what a string means

meaning-skip : (n : ℕ) (cs : List ℕ) → meaning n cs ≡ meaning 0 (drop n cs)
meaning-skip zero cs = refl
meaning-skip (suc n) [] = refl
meaning-skip (suc n) (c ∷ cs) = meaning-skip n cs

meaning-as : (c : ℕ) (cs : List ℕ) (b : Bool) (p : Option Segment) → nat_eq c 34 ≡ b → segment Characters (c ∷ cs) ≡ p →
    meaning 0 (c ∷ cs) ≡ cond {A = List ℕ} b [] (meant_by p (λ more. meaning more cs))
meaning-as c cs b p h e =
    ap (λ v. cond {A = List ℕ} v [] (meant_by (segment Characters (c ∷ cs)) (λ more. meaning more cs))) h ∙
    ap (λ v. cond {A = List ℕ} b [] (meant_by v (λ more. meaning more cs))) e

suc-less : (n : ℕ) → suc n - 1 ≡ n
suc-less n = omega arith

behind-segment : (c n : ℕ) (cs : List ℕ) → 0 < n → meaning (n - 1) cs ≡ meaning 0 (drop n (c ∷ cs))
behind-segment c zero cs z = absurd (omega arith)
behind-segment c (suc n) cs z = ap (λ i. meaning i cs) (suc-less n) ∙ meaning-skip n cs

meaning-segment : (cs : List ℕ) (n : ℕ) (m : Option ℕ) → begins 34 cs ≡ false → segment Characters cs ≡ Some record { size = n; means = m } → 0 < n →
    meaning 0 cs ≡ meant_with m (meaning 0 (drop n cs))
meaning-segment [] n m h e z = absurd (cc)
meaning-segment (c ∷ cs) n m h e z =
    meaning-as c cs false (Some record { size = n; means = m }) h e ∙ ap (meant_with m) (behind-segment c n cs z)

meaning-stuck : (cs : List ℕ) → begins 34 cs ≡ false → segment Characters cs ≡ None → meaning 0 cs ≡ []
meaning-stuck [] h e = refl
meaning-stuck (c ∷ cs) h e = meaning-as c cs false None h e

meaning-quote : (cs : List ℕ) → begins 34 cs ≡ true → meaning 0 cs ≡ []
meaning-quote [] h = absurd (cc)
meaning-quote (c ∷ cs) h = meaning-as c cs true (segment Characters (c ∷ cs)) h refl

meant-encodes : (m : Option ℕ) (cs : List ℕ) → encode_utf8_all (meant_with m cs) ≡ meant_bytes m ++ encode_utf8_all cs
meant-encodes None cs = refl
meant-encodes (Some c) cs = ap (λ l. l ++ encode_utf8_all cs) (sym (append-nil (encode_utf8 c)))

-- `out` is what the first `at` bytes mean
pub record IsMeantSoFar (text : List ℕ) (at : ℕ) (out : List ℕ) : Type 0 where
  pub passed : IsPassed text at
  pub steps : encode_utf8_all (meaning 0 (chars text)) ≡ out ++ encode_utf8_all (meaning 0 (chars (drop at text)))

pub meant-start : (text out : List ℕ) → IsUtf8 text → out ≡ [] → IsMeantSoFar text 0 out
meant-start text out u e = record { passed = passed-none text u; steps = ap (λ l. l ++ encode_utf8_all (meaning 0 (chars text))) (sym e) }

pub meant-next : (text rest out new : List ℕ) (at : ℕ) (p : Segment) → IsMeantSoFar text at out → rest ≡ drop at text → begins 34 (chars rest) ≡ false →
    IsSegment Characters rest p → new ≡ out ++ meant_bytes p.means → IsMeantSoFar text (at + p.size) new × (0 < p.size) × (at + p.size ≤ length text)
meant-next text rest out new at p s e h i n =
    let q : IsPassed text (at + p.size) = passed-more text rest at p.size i.count s.passed e i.front in
    let behind : drop i.count (chars rest) ≡ chars (drop (at + p.size) text) =
    behind-front text rest at s.passed.count p.size i.count s.passed.front e q.front in
    let m : meaning 0 (chars rest) ≡ meant_with p.means (meaning 0 (chars (drop (at + p.size) text))) =
    meaning-segment (chars rest) i.count p.means h i.found i.some ∙ ap (λ l. meant_with p.means (meaning 0 l)) behind in
    let left : List ℕ = encode_utf8_all (meaning 0 (chars (drop (at + p.size) text))) in (
      record {
        passed = q;
        steps =
            s.steps ∙ ap (λ l. out ++ encode_utf8_all (meaning 0 (chars l))) (sym e) ∙ ap (λ l. out ++ encode_utf8_all l) m ∙
            ap (λ l. out ++ l) (meant-encodes p.means (meaning 0 (chars (drop (at + p.size) text)))) ∙
            sym (append_assoc out (meant_bytes p.means) left) ∙ ap (λ l. l ++ left) (sym n);
      },
      i.positive,
      q.front.boundary.0,
    )

-- where nothing more is meant
meant-end : (text out : List ℕ) (at : ℕ) → IsMeantSoFar text at out → meaning 0 (chars (drop at text)) ≡ [] → out ≡ encode_utf8_all (meaning 0 (chars text))
meant-end text out at s h = sym (s.steps ∙ ap (λ l. out ++ encode_utf8_all l) h ∙ append-nil out)

pub meant-quote : (text rest out : List ℕ) (at : ℕ) → IsMeantSoFar text at out → rest ≡ drop at text → begins 34 (chars rest) ≡ true →
    out ≡ encode_utf8_all (meaning 0 (chars text))
meant-quote text rest out at s e h = meant-end text out at s (ap (λ l. meaning 0 (chars l)) (sym e) ∙ meaning-quote (chars rest) h)

pub meant-stuck : (text rest out : List ℕ) (at : ℕ) → IsMeantSoFar text at out → rest ≡ drop at text → begins 34 (chars rest) ≡ false →
    segment Characters (chars rest) ≡ None → out ≡ encode_utf8_all (meaning 0 (chars text))
meant-stuck text rest out at s e h i = meant-end text out at s (ap (λ l. meaning 0 (chars l)) (sym e) ∙ meaning-stuck (chars rest) h i)

pub meant-all : (text out : List ℕ) (at : ℕ) → IsMeantSoFar text at out → length text ≤ at → out ≡ encode_utf8_all (meaning 0 (chars text))
meant-all text out at s h = meant-end text out at s (ap (meaning 0) (ap chars (drop_of_length-le text h) ∙ chars-nil))

-- what a raw string means

raw-as : (hashes c : ℕ) (cs : List ℕ) (b : Bool) → closes_raw hashes c cs ≡ b →
    raw_meaning hashes (c ∷ cs) ≡ cond {A = List ℕ} b [] (c ∷ raw_meaning hashes cs)
raw-as hashes c cs b h = ap (λ v. cond {A = List ℕ} v [] (c ∷ raw_meaning hashes cs)) h

-- the first `at` bytes are the front of what the raw string means
pub record IsKeptSoFar (hashes : ℕ) (text : List ℕ) (at : ℕ) (rest : List ℕ) : Type 0 where
  pub so_far : IsRawSoFar hashes text at rest
  pub steps : encode_utf8_all (raw_meaning hashes (chars text)) ≡ take at text ++ encode_utf8_all (raw_meaning hashes (chars rest))

pub kept-start : (hashes : ℕ) (text : List ℕ) → IsUtf8 text → IsKeptSoFar hashes text 0 text
kept-start hashes text u = record { so_far = raw-start hashes text u; steps = refl }

take-char : (text after : List ℕ) (at c : ℕ) → drop at text ≡ encode_utf8 c ++ after → take (at + len_utf8 c) text ≡ take at text ++ encode_utf8 c
take-char text after at c e =
    take-add at (len_utf8 c) text ∙ ap (λ l. take at text ++ take (len_utf8 c) l) e ∙
    ap (λ i. take at text ++ take i (encode_utf8 c ++ after)) (sym (length-encode c)) ∙
    ap (λ l. take at text ++ l) (take-append_seam (encode_utf8 c) after)

pub kept-next : (hashes : ℕ) (text rest after : List ℕ) (at c : ℕ) → IsKeptSoFar hashes text at rest → closes_raw hashes c (chars after) ≡ false →
    rest ≡ encode_utf8 c ++ after → chars rest ≡ c ∷ chars after → at + len_utf8 c + length after ≤ length text → IsKeptSoFar hashes text (at + len_utf8 c) after
kept-next hashes text rest after at c s h e k l =
    let left : List ℕ = encode_utf8_all (raw_meaning hashes (chars after)) in
    let m : raw_meaning hashes (chars rest) ≡ c ∷ raw_meaning hashes (chars after) = ap (raw_meaning hashes) k ∙ raw-as hashes c (chars after) false h in
    record {
      so_far = raw-next hashes text rest after at c s.so_far h e k l;
      steps =
          s.steps ∙ ap (λ v. take at text ++ encode_utf8_all v) m ∙ sym (append_assoc (take at text) (encode_utf8 c) left) ∙
          ap (λ v. v ++ left) (sym (take-char text after at c (s.so_far.rest_is ∙ e)));
    }
