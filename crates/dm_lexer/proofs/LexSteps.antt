-- Steps over the lexemes of a text.
use Rattle.std.specs.Prelude.{◌≡◌, ℕ, zero, suc, ◌+◌, ◌-◌, ◌<◌, ◌≤◌, Bool, true, false, List, [], ◌∷◌, ◌++◌, length, take, drop, encode_utf8, refl, cond, nat_eq, ◌&&◌, Option, Some, None}
use Rattle.std.proofs.Common.{ap, ◌∙◌, sym, subst, arith, length-drop, length-append, add-zero}
use Rattle.std.proofs.lemmas.Str.{chars-nil, encodes-chars, chars_from_encodes, IsUtf8-drop, IsUtf8-past_char}
use Rattle.std.proofs.lemmas.Bool.Decides.{nat_tests}
use Rattle.std.proofs.Math.ListN.{drop_of_length-le}
use Rattle.std.specs.Str.{chars, encode_utf8_all, IsUtf8}
use Rattle.dm_stream.specs.declared.tokens.Span.{Span}
use Rattle.dm_stream.specs.declared.error.Error.{Error}
use Rattle.dm_stream.specs.declared.error.Error.TheVariants.{Refused}
use Rattle.dm_stream.specs.declared.error.Kind.TheVariants as kind
use Rattle.dm_lexer.specs.declared.lexing.Lexeme.{Lexeme}
use Rattle.dm_lexer.specs.declared.lexing.Progress.{Progress}
use Rattle.dm_lexer.specs.declared.lexing.Progress.TheVariants as progress
use Rattle.dm_lexer.specs.declared.nesting.Depth.{Depth}
use Rattle.dm_lexer.specs.declared.nesting.Nesting.{Nesting}
use Rattle.dm_lexer.specs.declared.blanks.Blank.{Blank}
use Rattle.dm_lexer.specs.declared.blanks.Blank.TheVariants.{Absent, Size, Unclosed}
use Rattle.dm_stream.specs.Trees.{Trees, no_trees, flatten, unflatten, unflatten-flatten}
use Rattle.dm_lexer.specs.TextFronts.{IsFront, run}
use Rattle.dm_lexer.specs.Words.{begins_pair}
use Rattle.dm_lexer.specs.Words as words
use Rattle.dm_lexer.specs.declared.words.Class.TheVariants.{Line}
use Rattle.dm_lexer.specs.Blanks.{blank_length, begins_blank_char, block, comment_closing}
use Rattle.dm_lexer.specs.Rows.{gives, refuses, row, range, Reading, reading, read_front, read_row, with_lexeme, faulty, IsGiven, IsRefusing}
use Rattle.dm_lexer.specs.Nesting.{nest_all, found, Level, Verdict, are_trees, has_fault, IsNesting, IsNestingOf, IsNested, IsInnermost, Takes, After, Advances, IsStep, IsTreesOf, IsRefusedWithin, IsRefusalWithin, IsWholeWithin, none_deep, at_end, fault_of, first_deep}
use Rattle.dm_stream.proofs.Cuts.{drop-more}
use Rattle.dm_lexer.proofs.LexChars.{front-length}
use Rattle.dm_lexer.proofs.TextFronts.{behind-two}
use Rattle.dm_lexer.proofs.Nestings.{nest_all-sound, faulty-none, fault_in, nest-fault, nest-deep, nesting-flat, innermost-from}

-- passing over characters
pub reading-skip : (at n : ℕ) (cs : List ℕ) → reading at n cs ≡ reading (at + length (encode_utf8_all (take n cs))) 0 (drop n cs)
reading-skip at zero [] = refl
reading-skip at zero (c ∷ cs) = ap (λ i. reading i 0 (c ∷ cs)) (sym (add-zero at))
reading-skip at (suc n) [] = refl
reading-skip at (suc n) (c ∷ cs) =
    let e : (at + length (encode_utf8 c)) + length (encode_utf8_all (take n cs)) ≡ at + length (encode_utf8 c ++ encode_utf8_all (take n cs)) =
    omega (arith, length-append (encode_utf8 c) (encode_utf8_all (take n cs))) in
    reading-skip (at + length (encode_utf8 c)) n cs ∙ ap (λ i. reading i 0 (drop n cs)) e

suc-less : (n : ℕ) → suc n - 1 ≡ n
suc-less n = omega arith

-- what is read of characters that begin with a blank of n characters
pub reading-blank : (at n : ℕ) (cs : List ℕ) → blank_length cs ≡ Size n → 0 < n → reading at 0 cs ≡ reading at n cs
reading-blank at zero cs h z = absurd (omega arith)
reading-blank at (suc n) [] h z = refl
reading-blank at (suc n) (c ∷ cs) h z =
    ap (λ b. read_front at (c ∷ cs) b (row at (c ∷ cs)) (λ more. reading (at + length (encode_utf8 c)) more cs)) h ∙
    ap (λ i. reading (at + length (encode_utf8 c)) i cs) (suc-less n)

reading-row : (at c : ℕ) (cs : List ℕ) → blank_length (c ∷ cs) ≡ Absent →
    reading at 0 (c ∷ cs) ≡ read_row at (c ∷ cs) (row at (c ∷ cs)) (λ more. reading (at + length (encode_utf8 c)) more cs)
reading-row at c cs h = ap (λ b. read_front at (c ∷ cs) b (row at (c ∷ cs)) (λ more. reading (at + length (encode_utf8 c)) more cs)) h

reading-refused : (at c n : ℕ) (cs : List ℕ) → blank_length (c ∷ cs) ≡ Absent → row at (c ∷ cs) ≡ refuses n →
    reading at 0 (c ∷ cs) ≡ faulty (range at (c ∷ cs) n)
reading-refused at c n cs h r =
    reading-row at c cs h ∙ ap (λ f. read_row at (c ∷ cs) f (λ more. reading (at + length (encode_utf8 c)) more cs)) r

pub reading-given : (at n c : ℕ) (cs : List ℕ) (x : Lexeme) → blank_length (c ∷ cs) ≡ Absent → row at (c ∷ cs) ≡ gives x n → 0 < n →
    reading at 0 (c ∷ cs) ≡ with_lexeme x (reading at n (c ∷ cs))
reading-given at zero c cs x h r z = absurd (omega arith)
reading-given at (suc n) c cs x h r z =
    reading-row at c cs h ∙ ap (λ f. read_row at (c ∷ cs) f (λ more. reading (at + length (encode_utf8 c)) more cs)) r ∙
    ap (λ i. with_lexeme x (reading (at + length (encode_utf8 c)) i cs)) (suc-less n)

-- passing over a front
reading-front : (at size n : ℕ) (text : List ℕ) → IsFront text size n →
    reading at n (chars text) ≡ reading (at + size) 0 (chars (drop size text))
reading-front at size n text f =
    reading-skip at n (chars text) ∙ ap (λ i. reading (at + i) 0 (drop n (chars text))) (sym (front-length text size n f)) ∙
    ap (reading (at + size) 0) (sym f.rest_is)

-- a front of some bytes has some characters, and one of none has none
front-some : (size n : ℕ) (text : List ℕ) → IsFront text size n → 0 < size → 0 < n
front-some size zero text f z = let e : size ≡ 0 = front-length text size 0 f in absurd (omega arith)
front-some size (suc n) text f z = omega arith

chars-some : (text : List ℕ) → IsUtf8 text → 0 < length text → chars text ≡ [] → ⊥
chars-some text u z h =
    let e : text ≡ [] = sym (encodes-chars text u) ∙ ap encode_utf8_all h in
    let l : length text ≡ 0 = ap length e in
    omega arith

data Some_chars (cs : List ℕ) : Type 0 where
  begins : (c : ℕ) (ds : List ℕ) → cs ≡ c ∷ ds → Some_chars cs

some_chars : (cs : List ℕ) → (cs ≡ [] → ⊥) → Some_chars cs
some_chars [] h = absurd (h refl)
some_chars (c ∷ cs) h = begins c cs refl

text-begins : (text : List ℕ) → IsUtf8 text → 0 < length text → Some_chars (chars text)
text-begins text u z = some_chars (chars text) (chars-some text u z)

range-front : (at size n : ℕ) (text : List ℕ) → IsFront text size n → range at (chars text) n ≡ record { start = at; «end» = at + size }
range-front at size n text f = ap (λ k. record { start = at; «end» = at + k }) (sym (front-length text size n f))

-- a blank was passed over
pub step-blank : (old : Nesting) (at size count : ℕ) (text : List ℕ) → 0 < size → blank_length (chars text) ≡ Size count → IsFront text size count →
    IsStep (progress.Reads size) old old at text
step-blank old at size count text z b f ls here n = record {
  positive = z;
  boundary = f.boundary;
  levels = ls;
  trees = here;
  nested = n;
  steps =
      ap (nest_all ls here old.deep)
      (reading-blank at count (chars text) b (front-some size count text f z) ∙ reading-front at size count text f);
}

fault-steps : (old : Nesting) (at n : ℕ) (text : List ℕ) (s : Span) → reading at 0 (chars text) ≡ faulty (range at (chars text) n) →
    range at (chars text) n ≡ s → IsStep (progress.Fault s) old old at text
fault-steps old at n text s r q ls here k = ap (nest_all ls here old.deep) r ∙ ap has_fault q

-- what reads by its characters reads so from a text
from-chars : (at n : ℕ) (text : List ℕ) → IsUtf8 text → 0 < length text →
    ((c : ℕ) (cs : List ℕ) → chars text ≡ c ∷ cs → reading at 0 (c ∷ cs) ≡ faulty (range at (c ∷ cs) n)) →
    reading at 0 (chars text) ≡ faulty (range at (chars text) n)
from-chars at n text u z h =
    elim (text-begins text u z) [
      | begins c ds e ↦
          let P : List ℕ → Type 0 = λ l. reading at 0 l ≡ faulty (range at l n) in
          subst P (sym e) (h c ds e)
    ]

pair-small : (a b c d : ℕ) → a < 128 → b < 128 → (nat_eq c a && nat_eq d b) ≡ true → (c < 128) × (d < 128)
pair-small a b c d p q h = (grind (arith, nat_tests), grind (arith, nat_tests))

pair_front_chars : (text cs : List ℕ) (a b : ℕ) → IsUtf8 text → a < 128 → b < 128 → chars text ≡ cs → begins_pair a b cs ≡ true → IsFront text 2 2
pair_front_chars text [] a b u p q k h = absurd (cc)
pair_front_chars text (c ∷ []) a b u p q k h = absurd (cc)
pair_front_chars text (c ∷ d ∷ cs) a b u p q k h =
    let after : List ℕ = encode_utf8_all (d ∷ cs) in
    let beyond : List ℕ = encode_utf8_all cs in
    let e : text ≡ encode_utf8 c ++ after = sym (encodes-chars text u) ∙ ap encode_utf8_all k in
    let ua : IsUtf8 after = IsUtf8-past_char text after c u e in
    let ka : d ∷ cs ≡ chars after = chars_from_encodes (d ∷ cs) after ua refl in
    let ub : IsUtf8 beyond = IsUtf8-past_char after beyond d ua refl in
    let kb : cs ≡ chars beyond = chars_from_encodes cs beyond ub refl in
    let small : (c < 128) × (d < 128) = pair-small a b c d p q h in
    (behind-two text after beyond c d u small.0 small.1 e (k ∙ ap (λ l. c ∷ l) ka) refl (sym ka ∙ ap (λ l. d ∷ l) kb)).front

unclosed-pair : (a b c : Bool) (s t : ℕ) (x : Blank) → cond a (Size s) (cond b (Size t) (cond c x Absent)) ≡ Unclosed → c ≡ true
unclosed-pair true b c s t x h = absurd (cc)
unclosed-pair false true c s t x h = absurd (cc)
unclosed-pair false false true s t x h = refl
unclosed-pair false false false s t x h = absurd (cc)

pub unclosed-front : (text : List ℕ) → IsUtf8 text → blank_length (chars text) ≡ Unclosed → IsFront text 2 2
unclosed-front text u h =
    pair_front_chars text (chars text) 47 42 u (omega arith) (omega arith) refl (unclosed-pair (begins_blank_char (chars text)) (begins_pair 47 47 (chars text)) (begins_pair 47 42 (chars text)) 1
    (2 + run (words.passes Line) (drop 2 (chars text))) (block (comment_closing 0 (drop 2 (chars text)))) h)

pub step-refused : (old : Nesting) (at size : ℕ) (text : List ℕ) (s : Span) → IsUtf8 text → 0 < length text → blank_length (chars text) ≡ Absent →
    IsRefusing (row at (chars text)) size text → s ≡ record { start = at; «end» = at + size } → IsStep (progress.Fault s) old old at text
step-refused old at size text s u z b r q =
    fault-steps old at r.count text s
    (from-chars at r.count text u z (λ c cs e. reading-refused at c r.count cs (ap blank_length (sym e) ∙ b) (ap (row at) (sym e) ∙ r.row_is)))
    (range-front at size r.count text r.front ∙ sym q)

given-goes_on : (at size : ℕ) (text : List ℕ) (x : Lexeme) → IsUtf8 text → 0 < length text → blank_length (chars text) ≡ Absent →
    IsGiven (row at (chars text)) x size text → reading at 0 (chars text) ≡ with_lexeme x (reading (at + size) 0 (chars (drop size text)))
given-goes_on at size text x u z b g =
    (elim (text-begins text u z) [
      | begins c ds e ↦
          let P : List ℕ → Type 0 = λ l. reading at 0 l ≡ with_lexeme x (reading at g.count l) in
          subst P (sym e)
          (reading-given at g.count c ds x (ap blank_length (sym e) ∙ b) (ap (row at) (sym e) ∙ g.row_is) (front-some size g.count text g.front g.positive))
    ]) ∙
    ap (with_lexeme x) (reading-front at size g.count text g.front)

-- a lexeme was taken
pub step-given : (old new : Nesting) (at size : ℕ) (text : List ℕ) (x : Lexeme) (takes : Option Span) → IsUtf8 text → 0 < length text →
    blank_length (chars text) ≡ Absent → IsGiven (row at (chars text)) x size text → Takes takes old new x → takes ≡ None →
    IsStep (progress.Reads size) old new at text
step-given old new at size text x takes u z b g k e ls here n =
    let P : Option Span → Type 0 = λ v. Takes v old new x in
    let a : After old new x ls here = subst P e k ls here n in
    let rest : Reading = reading (at + size) 0 (chars (drop size text)) in
    record {
      positive = g.positive;
      boundary = g.front.boundary;
      levels = a.levels;
      trees = a.trees;
      nested = a.nested;
      steps = ap (nest_all ls here old.deep) (given-goes_on at size text x u z b g) ∙ a.steps rest.lexemes rest.fault;
    }

-- the whole text

-- the first `at` bytes of the text were read
pub record IsLexedSoFar (deepest : ℕ) (text : List ℕ) (at : ℕ) (n : Nesting) : Type 0 where
  pub fits : at ≤ length text
  pub utf8 : IsUtf8 (drop at text)
  pub levels : List Level
  pub here : Trees
  pub nested : IsNesting n levels here
  pub steps : found 0 text [] no_trees (none_deep deepest) ≡ found at (drop at text) levels here n.deep

pub lex-start : (deepest : ℕ) (text : List ℕ) (n : Nesting) → IsUtf8 text → IsNesting n [] no_trees → n.deep ≡ none_deep deepest →
    IsLexedSoFar deepest text 0 n
lex-start deepest text n u h d = record {
  fits = omega arith;
  utf8 = u;
  levels = [];
  here = no_trees;
  nested = h;
  steps = ap (found 0 text [] no_trees) (sym d);
}

pub lex-nested : (deepest : ℕ) (text : List ℕ) (at : ℕ) (n : Nesting) → IsLexedSoFar deepest text at n → IsNested n
lex-nested deepest text at n s = (s.levels, s.here, s.nested)

pub lex-step : (deepest : ℕ) (text rest : List ℕ) (at size : ℕ) (old new : Nesting) (p : Progress) → IsLexedSoFar deepest text at old → rest ≡ drop at text →
    IsStep p old new at rest → p ≡ progress.Reads size → IsLexedSoFar deepest text (at + size) new × (0 < size) × (at + size ≤ length text)
lex-step deepest text rest at size old new p s r t h =
    let S : Progress → Type 0 = λ v. IsStep v old new at rest in
    let Q : List ℕ → Type 0 = λ l. Advances old new at l size s.levels s.here in
    let a : Advances old new at (drop at text) size s.levels s.here = subst Q r (subst S h t s.levels s.here s.nested) in
    let d : drop (at + size) text ≡ drop size (drop at text) = drop-more at size text s.fits in
    let b : size ≤ length (drop at text) = a.boundary.0 in
    let fits : at + size ≤ length text = omega (arith, s.fits, b, length-drop at text) in (
      record {
        fits = fits;
        utf8 = let P : List ℕ → Type 0 = λ l. IsUtf8 l in subst P (sym d) (IsUtf8-drop (drop at text) size s.utf8 a.boundary);
        levels = a.levels;
        here = a.trees;
        nested = a.nested;
        steps = s.steps ∙ a.steps ∙ ap (λ l. found (at + size) l a.levels a.trees new.deep) (sym d);
      },
      a.positive,
      fits,
    )

-- what becomes of the whole text, by the definitions

whole-fault : (deepest : ℕ) (text : List ℕ) (v : Verdict) → found 0 text [] no_trees (none_deep deepest) ≡ v → fault_of (reading 0 0 (chars text)) ≡ fault_in v
whole-fault deepest text v h =
    let r : Reading = reading 0 0 (chars text) in
    nest-fault r.lexemes [] no_trees (none_deep deepest) r.fault ∙ ap fault_in h

whole-deep : (deepest : ℕ) (text : List ℕ) (ts : Trees) (more : Depth) → found 0 text [] no_trees (none_deep deepest) ≡ are_trees ts more →
    first_deep deepest 0 (reading 0 0 (chars text)).lexemes ≡ more.first
whole-deep deepest text ts more h =
    let r : Reading = reading 0 0 (chars text) in
    nest-deep r.lexemes [] no_trees (none_deep deepest) r.fault ts more h

refused-lex : (deepest : ℕ) (text : List ℕ) (s : Span) → found 0 text [] no_trees (none_deep deepest) ≡ has_fault s → IsRefusedWithin deepest text kind.Lex s
refused-lex deepest text s h = (whole-fault deepest text (has_fault s) h, faulty-none (none_deep deepest) (reading 0 0 (chars text)) s h)

as-lex : (deepest : ℕ) (text : List ℕ) (e : Error) (s : Span) → e ≡ Refused record { kind = kind.Lex; span = s } → found 0 text [] no_trees (none_deep deepest) ≡ has_fault s →
    IsRefusalWithin deepest text e
as-lex deepest text e s h k = let P : Error → Type 0 = λ v. IsRefusalWithin deepest text v in subst P (sym h) (refused-lex deepest text s k)

pub lex-fault : (deepest : ℕ) (text rest : List ℕ) (at : ℕ) (old new : Nesting) (p : Progress) (s : Span) (e : Error) → IsLexedSoFar deepest text at old →
    rest ≡ drop at text → IsStep p old new at rest → p ≡ progress.Fault s → e ≡ Refused record { kind = kind.Lex; span = s } → IsRefusalWithin deepest text e
lex-fault deepest text rest at old new p s e l r t k h =
    let S : Progress → Type 0 = λ v. IsStep v old new at rest in
    let Q : List ℕ → Type 0 = λ m. found at m l.levels l.here old.deep ≡ has_fault s in
    as-lex deepest text e s h (l.steps ∙ subst Q r (subst S k t l.levels l.here l.nested))

-- at the end of the text
pub lex-ended : (deepest : ℕ) (text : List ℕ) (at : ℕ) (n : Nesting) → IsLexedSoFar deepest text at n → length text ≤ at → IsNestingOf deepest text n
lex-ended deepest text at n s h =
    let e : drop at text ≡ [] = drop_of_length-le text h in
    record {
      levels = s.levels;
      here = s.here;
      nested = s.nested;
      ends = s.steps ∙ ap (λ l. nest_all s.levels s.here n.deep (reading at 0 l)) (ap chars e ∙ chars-nil);
    }

pub nesting-nested : (deepest : ℕ) (text : List ℕ) (n : Nesting) → IsNestingOf deepest text n → IsNested n
nesting-nested deepest text n s = (s.levels, s.here, s.nested)

levels-open : (n : Nesting) (ls : List Level) (here : Trees) (deep : Depth) (s : Span) → IsNesting n ls here → IsInnermost n.opened.items s →
    at_end None ls here deep ≡ has_fault s
levels-open n [] here deep s h i =
    let l : length n.opened.items ≡ 0 = ap length h.opened_are in
    let k : length n.opened.items ≡ length i.rest + 1 = ap length i.items ∙ length-append i.rest (i.last ∷ []) in
    absurd (omega (arith, l, k))
levels-open n (l ∷ ls) here deep s h i = ap has_fault (innermost-from n ls l here i.rest i.last h i.items ∙ sym i.from)

pub lex-unclosed : (deepest : ℕ) (text : List ℕ) (n : Nesting) (e : Error) (s : Span) → IsNestingOf deepest text n → IsInnermost n.opened.items s →
    e ≡ Refused record { kind = kind.Lex; span = s } → IsRefusalWithin deepest text e
lex-unclosed deepest text n e s l i q = as-lex deepest text e s q (l.ends ∙ levels-open n l.levels l.here n.deep s l.nested i)

-- where no group is open
closed-end : (deepest : ℕ) (text : List ℕ) (n : Nesting) (s : IsNestingOf deepest text n) → n.opened.items ≡ [] →
    found 0 text [] no_trees (none_deep deepest) ≡ are_trees s.here n.deep
closed-end deepest text n s k =
    let f = nesting-flat n s.levels s.here s.nested (ap length k) in
    s.ends ∙ ap (λ l. at_end None l s.here n.deep) f.1

pub lex-deep : (deepest : ℕ) (text : List ℕ) (n : Nesting) (e : Error) (s : Span) → IsNestingOf deepest text n → n.opened.items ≡ [] → n.deep.first ≡ Some s →
    e ≡ Refused record { kind = kind.TooDeep; span = s } → IsRefusalWithin deepest text e
lex-deep deepest text n e s l k d q =
    let a : found 0 text [] no_trees (none_deep deepest) ≡ are_trees l.here n.deep = closed-end deepest text n l k in
    let P : Error → Type 0 = λ v. IsRefusalWithin deepest text v in
    subst P (sym q) (whole-fault deepest text _ a, whole-deep deepest text l.here n.deep a ∙ d)

pub lex-whole : (deepest : ℕ) (text : List ℕ) (n : Nesting) → IsNestingOf deepest text n → n.opened.items ≡ [] → n.deep.first ≡ None →
    IsWholeWithin deepest text
lex-whole deepest text n l k d =
    let a : found 0 text [] no_trees (none_deep deepest) ≡ are_trees l.here n.deep = closed-end deepest text n l k in
    record { no_fault = whole-fault deepest text _ a; shallow = whole-deep deepest text l.here n.deep a ∙ d }

pub lex-flat : (n : Nesting) → IsNested n → n.opened.items ≡ [] → flatten (unflatten n.entries.items) ≡ n.entries.items
lex-flat n (ls, here, h) k =
    let f : n.entries.items ≡ flatten here = (nesting-flat n ls here h (ap length k)).0 in
    rw f (ap flatten (unflatten-flatten here))

pub lex-trees : (deepest : ℕ) (text : List ℕ) (n : Nesting) (ts : Trees) → IsNestingOf deepest text n → n.opened.items ≡ [] → ts ≡ unflatten n.entries.items →
    IsTreesOf text ts
lex-trees deepest text n ts s k e =
    let f : (n.entries.items ≡ flatten s.here) × (s.levels ≡ []) = nesting-flat n s.levels s.here s.nested (ap length k) in
    let same : ts ≡ s.here = e ∙ ap unflatten f.0 ∙ unflatten-flatten s.here in
    let P : Trees → Type 0 = λ t. IsTreesOf text t in
    subst P (sym same) (nest_all-sound (none_deep deepest) (reading 0 0 (chars text)) s.here n.deep (closed-end deepest text n s k))

pub ruleset lex_steps = (lex-nested)
