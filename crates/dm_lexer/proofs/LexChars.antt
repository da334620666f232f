-- Fronts of a text, by bytes and by characters.
use Rattle.std.specs.Prelude.{◌≡◌, ℕ, zero, suc, ◌+◌, Bool, true, ◌&&◌, List, [], ◌∷◌, ◌++◌, length, take, drop, encode_utf8, refl, cond}
use Rattle.std.proofs.Common.{ap, ◌∙◌, sym, subst, arith, length-take, zero-add, append-nil}
use Rattle.std.proofs.Math.Seq.{take-add, take-append_seam}
use Rattle.std.proofs.Math.Utf8.{scalar, scalars}
use Rattle.std.proofs.lemmas.Bool.{and_parts}
use Rattle.std.proofs.lemmas.Str.{drop_past_char, IsUtf8-past_char, IsCharBoundary-past_char, IsCharBoundary-start, length-encode, chars-nil, encodes-append}
use Rattle.std.specs.Char.{len_utf8}
use Rattle.std.specs.Str.{chars, encode_utf8_all, IsUtf8}
use Rattle.dm_lexer.specs.TextFronts.{IsFront, run}

-- the characters of a front are characters
pub scalars-take : (n : ℕ) (cs : List ℕ) → scalars cs ≡ true → scalars (take n cs) ≡ true
scalars-take zero cs h = refl
scalars-take (suc n) [] h = refl
scalars-take (suc n) (c ∷ cs) h =
    ap (λ v. v && scalars (take n cs)) (and_parts (scalar c) (scalars cs) h).0 ∙ scalars-take n cs (and_parts (scalar c) (scalars cs) h).1

take-next : (n c : ℕ) (cs ds : List ℕ) → drop n cs ≡ c ∷ ds → take (suc n) cs ≡ take n cs ++ c ∷ []
take-next zero c [] ds h = absurd (cc)
take-next zero c (d ∷ cs) ds h = let e : d ≡ c = cc in ap (λ x. x ∷ []) e
take-next (suc n) c [] ds h = absurd (cc)
take-next (suc n) c (d ∷ cs) ds h = ap (λ l. d ∷ l) (take-next n c cs ds h)

drop-next : (n c : ℕ) (cs ds : List ℕ) → drop n cs ≡ c ∷ ds → drop (suc n) cs ≡ ds
drop-next zero c [] ds h = absurd (cc)
drop-next zero c (d ∷ cs) ds h = cc
drop-next (suc n) c [] ds h = absurd (cc)
drop-next (suc n) c (d ∷ cs) ds h = drop-next n c cs ds h

pub front-none : (text : List ℕ) → IsUtf8 text → IsFront text 0 0
front-none text u = record { boundary = IsCharBoundary-start text u; bytes_are = refl; rest_is = refl }

-- a front of one character more
pub front-next : (text after : List ℕ) (at n c : ℕ) → IsFront text at n → IsUtf8 (drop at text) → drop at text ≡ encode_utf8 c ++ after →
    chars (drop at text) ≡ c ∷ chars after → IsFront text (at + len_utf8 c) (suc n)
front-next text after at n c f u d k =
    let cs : List ℕ = chars text in
    let m : drop n cs ≡ c ∷ chars after = sym f.rest_is ∙ k in
    let t : take (at + len_utf8 c) text ≡ take at text ++ encode_utf8 c =
    take-add at (len_utf8 c) text ∙ ap (λ l. take at text ++ take (len_utf8 c) l) d ∙
    ap (λ i. take at text ++ take i (encode_utf8 c ++ after)) (sym (length-encode c)) ∙
    ap (λ l. take at text ++ l) (take-append_seam (encode_utf8 c) after) in
    record {
      boundary = IsCharBoundary-past_char text after at c f.boundary.0 u d;
      bytes_are =
          t ∙ ap (λ l. l ++ encode_utf8 c) f.bytes_are ∙ ap (λ l. encode_utf8_all (take n cs) ++ l) (sym (append-nil (encode_utf8 c))) ∙
          sym (encodes-append (take n cs) (c ∷ [])) ∙ ap encode_utf8_all (sym (take-next n c cs (chars after) m));
      rest_is = ap chars (drop_past_char text after at c d) ∙ sym (drop-next n c cs (chars after) m);
    }

-- the first character
pub front-one : (text after : List ℕ) (c : ℕ) → IsUtf8 text → text ≡ encode_utf8 c ++ after → chars text ≡ c ∷ chars after →
    IsFront text (len_utf8 c) 1
front-one text after c u d k =
    let P : ℕ → Type 0 = λ i. IsFront text i 1 in
    subst P (zero-add (len_utf8 c)) (front-next text after 0 0 c (front-none text u) u d k)

-- a run of characters that pass, up to the byte `at`
pub record IsRunSoFar (p : ℕ → Bool) (text : List ℕ) (at : ℕ) (rest : List ℕ) : Type 0 where
  pub count : ℕ
  pub front : IsFront text at count
  pub rest_is : drop at text ≡ rest
  pub utf8 : IsUtf8 rest
  pub steps : run p (chars text) ≡ count + run p (chars rest)

pub run-start : (p : ℕ → Bool) (text : List ℕ) → IsUtf8 text → IsRunSoFar p text 0 text
run-start p text u = record { count = 0; front = front-none text u; rest_is = refl; utf8 = u; steps = sym (zero-add (run p (chars text))) }

pub run-pass : (p : ℕ → Bool) (c : ℕ) (cs : List ℕ) → p c ≡ true → run p (c ∷ cs) ≡ suc (run p cs)
run-pass p c cs h = ap (λ b. cond b (suc (run p cs)) 0) h

pub run-next : (p : ℕ → Bool) (text rest after : List ℕ) (at c : ℕ) → IsRunSoFar p text at rest → p c ≡ true →
    rest ≡ encode_utf8 c ++ after → chars rest ≡ c ∷ chars after → IsRunSoFar p text (at + len_utf8 c) after
run-next p text rest after at c r h e k =
    let U : List ℕ → Type 0 = λ l. IsUtf8 l in
    let m : run p (chars rest) ≡ suc (run p (chars after)) = ap (run p) k ∙ run-pass p c (chars after) h in
    let s = r.steps in
    record {
      count = suc r.count;
      front = front-next text after at r.count c r.front (subst U (sym r.rest_is) r.utf8) (r.rest_is ∙ e) (ap chars r.rest_is ∙ k);
      rest_is = drop_past_char text after at c (r.rest_is ∙ e);
      utf8 = IsUtf8-past_char rest after c r.utf8 e;
      steps = omega (arith, m, s);
    }

-- the run ends where no more characters pass
pub run-end : (p : ℕ → Bool) (text rest : List ℕ) (at : ℕ) → IsRunSoFar p text at rest → run p (chars rest) ≡ 0 → IsFront text at (run p (chars text))
run-end p text rest at r h =
    let P : ℕ → Type 0 = λ n. IsFront text at n in
    let s = r.steps in
    let e : r.count ≡ run p (chars text) = omega (arith, h, s) in
    subst P e r.front

-- the bytes of a front
pub front-length : (text : List ℕ) (at n : ℕ) → IsFront text at n → at ≡ length (encode_utf8_all (take n (chars text)))
front-length text at n f =
    let t : length (take at text) ≡ at = let b = f.boundary.0 in simp length-take (omega arith) in
    sym t ∙ ap length f.bytes_are

pub chars-none : (text rest : List ℕ) → rest ≡ text → length rest ≡ 0 → chars text ≡ []
chars-none [] rest e h = chars-nil
chars-none (b ∷ bs) rest e h = let l : length rest ≡ length (b ∷ bs) = ap length e in absurd (omega (arith, h, l))
