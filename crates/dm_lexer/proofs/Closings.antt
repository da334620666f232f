-- Where a string ends.
use Rattle.std.specs.Prelude.{◌≡◌, ℕ, zero, suc, ◌+◌, ◌-◌, ◌<◌, ◌≤◌, Bool, true, false, List, [], ◌∷◌, length, drop, refl, cond, nat_eq, Option, Some, None}
use Rattle.std.proofs.Common.{ap, ◌∙◌, sym, subst, arith}
use Rattle.std.proofs.lemmas.Bool.Decides.{nat_tests}
use Rattle.std.proofs.lemmas.Str.{chars-nil}
use Rattle.std.proofs.Math.ListN.{drop_of_length-le}
use Rattle.std.specs.Str.{chars, IsUtf8}
use Rattle.dm_lexer.specs.declared.quotes.Segment.{Segment}
use Rattle.dm_lexer.specs.declared.quotes.Inside.{Inside}
use Rattle.dm_lexer.specs.TextFronts.{IsFront}
use Rattle.dm_lexer.specs.Quotes.{begins, segment, one_more, more, after_segment, string_closing, IsSegment, IsSized}
use Rattle.dm_lexer.proofs.Segments.{AsciiFront, ascii-front, front-add, behind-front, IsPassed, passed-none, passed-more, more-more, more-zero, one-more}

string_closing-skip : (k : Inside) (n : ℕ) (cs : List ℕ) → string_closing k n cs ≡ more n (string_closing k 0 (drop n cs))
string_closing-skip k zero cs = sym (more-zero (string_closing k 0 cs))
string_closing-skip k (suc n) [] = refl
string_closing-skip k (suc n) (c ∷ cs) = ap one_more (string_closing-skip k n cs) ∙ one-more n (string_closing k 0 (drop n cs))

string_closing-as : (k : Inside) (c : ℕ) (cs : List ℕ) (b : Bool) (p : Option Segment) → nat_eq c 34 ≡ b → segment k (c ∷ cs) ≡ p →
    string_closing k 0 (c ∷ cs) ≡ cond {A = Option ℕ} b (Some 1) (after_segment p (λ n. one_more (string_closing k n cs)))
string_closing-as k c cs b p h e =
    ap (λ v. cond {A = Option ℕ} v (Some 1) (after_segment (segment k (c ∷ cs)) (λ n. one_more (string_closing k n cs)))) h ∙
    ap (λ v. cond {A = Option ℕ} b (Some 1) (after_segment v (λ n. one_more (string_closing k n cs)))) e

suc-less : (n : ℕ) → suc n - 1 ≡ n
suc-less n = omega arith

behind-segment : (k : Inside) (c n : ℕ) (cs : List ℕ) → 0 < n → one_more (string_closing k (n - 1) cs) ≡ more n (string_closing k 0 (drop n (c ∷ cs)))
behind-segment k c zero cs z = absurd (omega arith)
behind-segment k c (suc n) cs z =
    ap (λ i. one_more (string_closing k i cs)) (suc-less n) ∙ ap one_more (string_closing-skip k n cs) ∙ one-more n (string_closing k 0 (drop n cs))

string_closing-segment : (k : Inside) (cs : List ℕ) (n : ℕ) (m : Option ℕ) → begins 34 cs ≡ false → segment k cs ≡ Some record { size = n; means = m } → 0 < n →
    string_closing k 0 cs ≡ more n (string_closing k 0 (drop n cs))
string_closing-segment k [] n m h e z = absurd (cc)
string_closing-segment k (c ∷ cs) n m h e z = string_closing-as k c cs false (Some record { size = n; means = m }) h e ∙ behind-segment k c n cs z

string_closing-quote : (k : Inside) (cs : List ℕ) → begins 34 cs ≡ true → string_closing k 0 cs ≡ Some 1
string_closing-quote k [] h = absurd (cc)
string_closing-quote k (c ∷ cs) h = string_closing-as k c cs true (segment k (c ∷ cs)) h refl

-- the segments of the first `at` bytes were passed over
pub record IsClosingSoFar (k : Inside) (text : List ℕ) (at : ℕ) : Type 0 where
  pub passed : IsPassed text at
  pub steps : string_closing k 0 (chars text) ≡ more passed.count (string_closing k 0 (chars (drop at text)))

pub string_closing-start : (k : Inside) (text : List ℕ) → IsUtf8 text → IsClosingSoFar k text 0
string_closing-start k text u = record { passed = passed-none text u; steps = sym (more-zero (string_closing k 0 (chars text))) }

pub string_closing-next : (k : Inside) (text rest : List ℕ) (at : ℕ) (p : Segment) → IsClosingSoFar k text at → rest ≡ drop at text → begins 34 (chars rest) ≡ false →
    IsSegment k rest p → IsClosingSoFar k text (at + p.size) × (0 < p.size) × (at + p.size ≤ length text)
string_closing-next k text rest at p s e h i =
    let q : IsPassed text (at + p.size) = passed-more text rest at p.size i.count s.passed e i.front in
    let a : string_closing k 0 (chars rest) ≡ more i.count (string_closing k 0 (drop i.count (chars rest))) = string_closing-segment k (chars rest) i.count p.means h i.found i.some in
    let b : drop i.count (chars rest) ≡ chars (drop (at + p.size) text) = behind-front text rest at s.passed.count p.size i.count s.passed.front e q.front in (
      record {
        passed = q;
        steps =
            s.steps ∙ ap (λ l. more s.passed.count (string_closing k 0 (chars l))) (sym e) ∙
            ap (more s.passed.count) (a ∙ ap (λ l. more i.count (string_closing k 0 l)) b) ∙
            more-more s.passed.count i.count (string_closing k 0 (chars (drop (at + p.size) text)));
      },
      i.positive,
      q.front.boundary.0,
    )

pub string_closing-open : (k : Inside) (text : List ℕ) (at : ℕ) → IsClosingSoFar k text at → length text ≤ at → string_closing k 0 (chars text) ≡ None
string_closing-open k text at s h =
    s.steps ∙ ap (λ l. more s.passed.count (string_closing k 0 l)) (ap chars (drop_of_length-le text h) ∙ chars-nil)

quote-front : (cs : List ℕ) → begins 34 cs ≡ true → AsciiFront 1 cs
quote-front [] h = absurd (cc)
quote-front (c ∷ cs) h = (grind (arith, nat_tests), tt)

pub string_closing-end : (k : Inside) (text rest : List ℕ) (at : ℕ) → IsClosingSoFar k text at → rest ≡ drop at text → begins 34 (chars rest) ≡ true →
    IsSized text (at + 1) (string_closing k 0 (chars text))
string_closing-end k text rest at s e h =
    let U : List ℕ → Type 0 = λ l. IsUtf8 l in
    let one : IsFront rest 1 1 = ascii-front rest 1 (subst U (sym e) s.passed.rest_utf8) (quote-front (chars rest) h) in (
      s.passed.count + 1,
      s.steps ∙ ap (λ l. more s.passed.count (string_closing k 0 (chars l))) (sym e) ∙ ap (more s.passed.count) (string_closing-quote k (chars rest) h),
      front-add text rest at s.passed.count 1 1 s.passed.utf8 s.passed.front e one,
    )
