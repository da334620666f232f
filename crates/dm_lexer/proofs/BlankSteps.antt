-- Blanks.
use Rattle.std.specs.Prelude.{◌≡◌, ℕ, zero, suc, ◌+◌, ◌-◌, ◌<◌, ◌≤◌, true, false, ◌&&◌, nat_eq, Option, Some, None, List, [], ◌∷◌, ◌++◌, encode_utf8, refl}
use Rattle.std.proofs.Common.{ap, ◌∙◌, sym, subst, arith}
use Rattle.std.specs.Char.{len_utf8}
use Rattle.std.proofs.lemmas.Str.{len_utf8_bounds, IsUtf8-past_char}
use Rattle.std.specs.Str.{chars, IsUtf8}
use Rattle.dm_lexer.specs.declared.blanks.Blank.TheVariants.{Absent, Size, Unclosed}
use Rattle.dm_lexer.specs.declared.blanks.Mark.{Mark}
use Rattle.dm_lexer.specs.declared.blanks.Mark.TheVariants.{Opens, Closes, Other}
use Rattle.dm_lexer.specs.declared.words.Class.TheVariants.{Line}
use Rattle.dm_lexer.specs.TextFronts.{IsFront, IsBehind, IsSized, run}
use Rattle.dm_lexer.specs.Words.{begins_pair, passes}
use Rattle.dm_lexer.specs.Quotes.{begins}
use Rattle.dm_lexer.specs.Blanks.{begins_blank_char, is_blank_char, IsBlankChar, mark, more, after_mark, comment_closing, block, blank_length, IsBlank}
use Rattle.dm_lexer.proofs.LexChars.{front-one}
use Rattle.dm_lexer.proofs.TextFronts.{behind-none, behind-next, behind-chars, front-behind, cond_true, cond_false}

pub blank_char : (text after : List ℕ) (c : ℕ) → IsUtf8 text → text ≡ encode_utf8 c ++ after → chars text ≡ c ∷ chars after → is_blank_char c ≡ true →
    IsBlankChar text (len_utf8 c)
blank_char text after c u e k h = record {
  begins = ap begins_blank_char k ∙ h;
  positive = omega (arith, len_utf8_bounds c);
  front = front-one text after c u e k;
}

-- the inside of a comment that was read, of which `rest` is left, with `deep` more comments open
pub record IsClosingSoFar (text : List ℕ) (at deep : ℕ) (rest : List ℕ) : Type 0 where
  pub count : ℕ
  pub behind : IsBehind text at count rest
  pub utf8 : IsUtf8 rest
  pub within : deep ≤ at
  pub steps : comment_closing 0 (chars text) ≡ more count (comment_closing deep (chars rest))

more-none : (found : Option ℕ) → more 0 found ≡ found
more-none None = refl
more-none (Some n) = let e : 0 + n ≡ n = omega arith in ap Some e

more-more : (k m : ℕ) (found : Option ℕ) → more k (more m found) ≡ more (k + m) found
more-more k m None = refl
more-more k m (Some n) = let e : k + (m + n) ≡ k + m + n = omega arith in ap Some e

pub comment_closing-start : (text : List ℕ) → IsUtf8 text → IsClosingSoFar text 0 0 text
comment_closing-start text u = record {
  count = 0;
  behind = behind-none text u;
  utf8 = u;
  within = omega arith;
  steps = sym (more-none (comment_closing 0 (chars text)));
}

-- what stands at the front of `rest`
pub record IsTwo (rest after beyond : List ℕ) (c d : ℕ) : Type 0 where
  pub rest_is : rest ≡ encode_utf8 c ++ after
  pub chars_are : chars rest ≡ c ∷ chars after
  pub after_is : after ≡ encode_utf8 d ++ beyond
  pub chars_after_are : chars after ≡ d ∷ chars beyond

pub two : (rest after beyond : List ℕ) (c d : ℕ) → rest ≡ encode_utf8 c ++ after → chars rest ≡ c ∷ chars after → after ≡ encode_utf8 d ++ beyond →
    chars after ≡ d ∷ chars beyond → IsTwo rest after beyond c d
two rest after beyond c d e f g h = record { rest_is = e; chars_are = f; after_is = g; chars_after_are = h }

two-chars : (rest after beyond : List ℕ) (c d : ℕ) → IsTwo rest after beyond c d → chars rest ≡ c ∷ d ∷ chars beyond
two-chars rest after beyond c d t = t.chars_are ∙ ap (λ l. c ∷ l) t.chars_after_are

behind-both : (text rest after beyond : List ℕ) (at n c d : ℕ) → IsBehind text at n rest → IsUtf8 rest → IsTwo rest after beyond c d →
    IsBehind text (at + (len_utf8 c + len_utf8 d)) (n + 2) beyond
behind-both text rest after beyond at n c d b u t =
    let one : IsBehind text (at + len_utf8 c) (suc n) after = behind-next text rest after at n c b u t.rest_is t.chars_are in
    let two : IsBehind text (at + len_utf8 c + len_utf8 d) (suc (suc n)) beyond =
    behind-next text after beyond (at + len_utf8 c) (suc n) d one (IsUtf8-past_char rest after c u t.rest_is) t.after_is t.chars_after_are in
    let P : ℕ → Type 0 = λ i. IsBehind text i (suc (suc n)) beyond in
    let Q : ℕ → Type 0 = λ i. IsBehind text (at + (len_utf8 c + len_utf8 d)) i beyond in
    let e : at + len_utf8 c + len_utf8 d ≡ at + (len_utf8 c + len_utf8 d) = omega arith in
    let k : suc (suc n) ≡ n + 2 = omega arith in
    subst Q k (subst P e two)

both-utf8 : (rest after beyond : List ℕ) (c d : ℕ) → IsUtf8 rest → IsTwo rest after beyond c d → IsUtf8 beyond
both-utf8 rest after beyond c d u t = IsUtf8-past_char after beyond d (IsUtf8-past_char rest after c u t.rest_is) t.after_is

-- what is left to read behind two characters of a known mark
closing-marked : (rest after beyond : List ℕ) (deep c d : ℕ) (m : Mark) → IsTwo rest after beyond c d → mark c d ≡ m →
    comment_closing deep (chars rest) ≡ after_mark m deep (comment_closing (suc deep) (chars beyond)) (comment_closing (deep - 1) (chars beyond)) (comment_closing deep (d ∷ chars beyond))
closing-marked rest after beyond deep c d m t h =
    ap (comment_closing deep) (two-chars rest after beyond c d t) ∙
    ap (λ v. after_mark v deep (comment_closing (suc deep) (chars beyond)) (comment_closing (deep - 1) (chars beyond)) (comment_closing deep (d ∷ chars beyond))) h

-- two characters are read at once, behind which `next` more comments are open
closing-both : (text rest after beyond : List ℕ) (at deep next c d : ℕ) → IsClosingSoFar text at deep rest → IsTwo rest after beyond c d → next ≤ suc deep →
    comment_closing deep (chars rest) ≡ more 2 (comment_closing next (chars beyond)) → IsClosingSoFar text (at + (len_utf8 c + len_utf8 d)) next beyond
closing-both text rest after beyond at deep next c d s t l e = record {
  count = s.count + 2;
  behind = behind-both text rest after beyond at s.count c d s.behind s.utf8 t;
  utf8 = both-utf8 rest after beyond c d s.utf8 t;
  within = omega (arith, l, s.within, len_utf8_bounds c);
  steps = s.steps ∙ ap (more s.count) e ∙ more-more s.count 2 (comment_closing next (chars beyond));
}

pub comment_closing-opens : (text rest after beyond : List ℕ) (at deep c d : ℕ) → IsClosingSoFar text at deep rest → IsTwo rest after beyond c d → mark c d ≡ Opens →
    IsClosingSoFar text (at + (len_utf8 c + len_utf8 d)) (deep + 1) beyond
comment_closing-opens text rest after beyond at deep c d s t h =
    let e : suc deep ≡ deep + 1 = omega arith in
    closing-both text rest after beyond at deep (deep + 1) c d s t (omega arith)
    (closing-marked rest after beyond deep c d Opens t h ∙ ap (λ i. more 2 (comment_closing i (chars beyond))) e)

marked-closes : (deep : ℕ) (inside outside on : Option ℕ) → 0 < deep → after_mark Closes deep inside outside on ≡ more 2 outside
marked-closes zero inside outside on h = absurd (omega arith)
marked-closes (suc deep) inside outside on h = refl

pub comment_closing-closes : (text rest after beyond : List ℕ) (at deep c d : ℕ) → IsClosingSoFar text at deep rest → IsTwo rest after beyond c d → mark c d ≡ Closes →
    0 < deep → IsClosingSoFar text (at + (len_utf8 c + len_utf8 d)) (deep - 1) beyond
comment_closing-closes text rest after beyond at deep c d s t h z =
    closing-both text rest after beyond at deep (deep - 1) c d s t (omega arith)
    (closing-marked rest after beyond deep c d Closes t h ∙
    marked-closes deep (comment_closing (suc deep) (chars beyond)) (comment_closing (deep - 1) (chars beyond)) (comment_closing deep (d ∷ chars beyond)) z)

marked-last : (deep : ℕ) (inside outside on : Option ℕ) → deep ≡ 0 → after_mark Closes deep inside outside on ≡ Some 2
marked-last zero inside outside on h = refl
marked-last (suc deep) inside outside on h = absurd (omega arith)

pub comment_closing-last : (text rest after beyond : List ℕ) (at deep c d : ℕ) → IsClosingSoFar text at deep rest → IsTwo rest after beyond c d → mark c d ≡ Closes →
    deep ≡ 0 → IsSized text (at + (len_utf8 c + len_utf8 d)) (comment_closing 0 (chars text))
comment_closing-last text rest after beyond at deep c d s t h z =
    let b : IsBehind text (at + (len_utf8 c + len_utf8 d)) (s.count + 2) beyond = behind-both text rest after beyond at s.count c d s.behind s.utf8 t in (
      s.count + 2,
      s.steps ∙ ap (more s.count) (closing-marked rest after beyond deep c d Closes t h) ∙
          ap (more s.count) (marked-last deep (comment_closing (suc deep) (chars beyond)) (comment_closing (deep - 1) (chars beyond)) (comment_closing deep (d ∷ chars beyond)) z),
      b.front,
    )

pub comment_closing-other : (text rest after beyond : List ℕ) (at deep c d : ℕ) → IsClosingSoFar text at deep rest → IsTwo rest after beyond c d → mark c d ≡ Other →
    IsClosingSoFar text (at + len_utf8 c) deep after
comment_closing-other text rest after beyond at deep c d s t h =
    let e : s.count + 1 ≡ suc s.count = omega arith in
    record {
      count = suc s.count;
      behind = behind-next text rest after at s.count c s.behind s.utf8 t.rest_is t.chars_are;
      utf8 = IsUtf8-past_char rest after c s.utf8 t.rest_is;
      within = omega (arith, s.within);
      steps =
          s.steps ∙ ap (more s.count) (closing-marked rest after beyond deep c d Other t h) ∙
          more-more s.count 1 (comment_closing deep (d ∷ chars beyond)) ∙ ap (λ i. more i (comment_closing deep (d ∷ chars beyond))) e ∙
          ap (λ l. more (suc s.count) (comment_closing deep l)) (sym t.chars_after_are);
    }

pub blank-one : (text : List ℕ) (size : ℕ) → IsBlankChar text size → IsBlank text (Size size) (blank_length (chars text))
blank-one text size b = (b.positive, (1, cond_true _ _ _ b.begins, b.front))

pub blank-line : (text rest : List ℕ) (size : ℕ) → begins_blank_char (chars text) ≡ false → begins_pair 47 47 (chars text) ≡ true → IsBehind text 2 2 rest →
    IsFront rest size (run (passes Line) (chars rest)) → IsBlank text (Size (2 + size)) (blank_length (chars text))
blank-line text rest size h p b f = (
  omega arith,
  (
    2 + run (passes Line) (chars rest),
    cond_false _ _ _ h ∙ cond_true _ _ _ p ∙ ap (λ l. Size (2 + run (passes Line) l)) (sym (behind-chars text rest 2 2 b)),
    front-behind text rest 2 size 2 (run (passes Line) (chars rest)) b f,
  ),
)

blank-block_is : (text rest : List ℕ) → begins_blank_char (chars text) ≡ false → begins_pair 47 47 (chars text) ≡ false →
    begins_pair 47 42 (chars text) ≡ true → IsBehind text 2 2 rest → blank_length (chars text) ≡ block (comment_closing 0 (chars rest))
blank-block_is text rest h l p b =
    cond_false _ _ _ h ∙ cond_false _ _ _ l ∙ cond_true _ _ _ p ∙ ap (λ cs. block (comment_closing 0 cs)) (sym (behind-chars text rest 2 2 b))

pub blank-unclosed : (text rest : List ℕ) → begins_blank_char (chars text) ≡ false → begins_pair 47 47 (chars text) ≡ false →
    begins_pair 47 42 (chars text) ≡ true → IsBehind text 2 2 rest → comment_closing 0 (chars rest) ≡ None → IsBlank text Unclosed (blank_length (chars text))
blank-unclosed text rest h l p b n = blank-block_is text rest h l p b ∙ ap block n

pub blank-block : (text rest : List ℕ) (size : ℕ) → begins_blank_char (chars text) ≡ false → begins_pair 47 47 (chars text) ≡ false →
    begins_pair 47 42 (chars text) ≡ true → IsBehind text 2 2 rest → IsSized rest size (comment_closing 0 (chars rest)) →
    IsBlank text (Size (2 + size)) (blank_length (chars text))
blank-block text rest size h l p b s = (
  omega arith,
  (2 + s.0, blank-block_is text rest h l p b ∙ ap block s.1, front-behind text rest 2 size 2 s.0 b s.2),
)

-- what doesn't begin with a character doesn't begin with a pair that has it first
pair-unbegun : (a b : ℕ) (cs : List ℕ) → begins a cs ≡ false → begins_pair a b cs ≡ false
pair-unbegun a b [] h = refl
pair-unbegun a b (c ∷ []) h = refl
pair-unbegun a b (c ∷ d ∷ cs) h = ap (λ x. x && nat_eq d b) h

pub blank-none : (text : List ℕ) → begins_blank_char (chars text) ≡ false → begins 47 (chars text) ≡ false → IsBlank text Absent (blank_length (chars text))
blank-none text h b =
    cond_false _ _ _ h ∙ cond_false _ _ _ (pair-unbegun 47 47 (chars text) b) ∙ cond_false _ _ _ (pair-unbegun 47 42 (chars text) b)

pub ruleset blanks = (blank_char, blank-none, blank-one, blank-line, blank-block, blank-unclosed)
