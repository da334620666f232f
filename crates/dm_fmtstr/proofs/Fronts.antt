-- Fronts of a text behind its first character.
use Rattle.std.specs.Prelude.{◌≡◌, ℕ, zero, suc, ◌+◌, List, [], ◌∷◌, ◌++◌, drop, encode_utf8}
use Rattle.std.proofs.Common.{ap, ◌∙◌, sym, subst, arith, zero-add}
use Rattle.std.proofs.lemmas.Str.{drop_past_char}
use Rattle.std.specs.Char.{len_utf8}
use Rattle.std.specs.Str.{chars, IsUtf8}
use Rattle.dm_lexer.specs.TextFronts.{IsFront}
use Rattle.dm_lexer.proofs.LexChars.{front-one}
use Rattle.dm_lexer.proofs.TextFronts.{front-then}

pub drop-next : (n c : ℕ) (cs ds : List ℕ) → drop n cs ≡ c ∷ ds → drop (suc n) cs ≡ ds
drop-next zero c [] ds h = absurd (cc)
drop-next zero c (d ∷ cs) ds h = cc
drop-next (suc n) c [] ds h = absurd (cc)
drop-next (suc n) c (d ∷ cs) ds h = drop-next n c cs ds h

-- a character, and a front of what is behind it
pub front-behind_char : (text after : List ℕ) (c size n : ℕ) → IsUtf8 text → text ≡ encode_utf8 c ++ after → chars text ≡ c ∷ chars after →
    IsFront after size n → IsFront text (len_utf8 c + size) (suc n)
front-behind_char text after c size n u e k f =
    let d : drop (len_utf8 c) text ≡ after = ap (λ i. drop i text) (sym (zero-add (len_utf8 c))) ∙ drop_past_char text after 0 c e in
    let P : List ℕ → Type 0 = λ l. IsFront l size n in
    let Q : ℕ → Type 0 = λ i. IsFront text (len_utf8 c + size) i in
    let i : 1 + n ≡ suc n = omega arith in
    subst Q i (front-then text (len_utf8 c) size 1 n (front-one text after c u e k) (subst P (sym d) f))
