-- Signs and keywords are told apart by their numbers.
use Rattle.std.proofs.Common.{◌≡◌, ℕ, ◌==◌, true, false, cond, refl, sym, ap, ◌∙◌}
use Rattle.std.proofs.lemmas.Bool.{eqb-true}
use Rattle.std.proofs.lemmas.Grind.{common_steps}
use Rattle.dm_read_places.specs.declared.front.Sign.{Sign}
use Rattle.dm_read_places.specs.declared.front.Sign.TheVariants as sign
use Rattle.dm_read_places.specs.declared.front.Keyword.{Keyword}
use Rattle.dm_read_places.specs.declared.front.Keyword.TheVariants as keyword
use Rattle.dm_read_places.specs.Fronts.{number, keyword_number, same_keyword, keyword_word}

abbrev sign_of : ℕ → Sign
sign_of n =
    cond (n == 0) sign.OrOr (cond (n == 1) sign.AndAnd (cond (n == 2) sign.Equals (cond (n == 3) sign.Differs (cond (n == 4) sign.Star
    (cond (n == 5) sign.Amp (cond (n == 6) sign.Dot (cond (n == 7) sign.Asks (cond (n == 8) sign.Bangs (cond (n == 9) sign.Plus
    (cond (n == 10) sign.Less (cond (n == 11) sign.Hash (cond (n == 12) sign.Bar (cond (n == 13) sign.Comma (cond (n == 14) sign.Colon
    (cond (n == 15) sign.Semicolon (cond (n == 16) sign.Assigns (cond (n == 17) sign.Leads (cond (n == 18) sign.Arrow
    (cond (n == 19) sign.Colons sign.Dots)))))))))))))))))))

sign_back : (s : Sign) → sign_of (number s) ≡ s
sign_back sign.OrOr = refl
sign_back _ = refl

pub one_sign : (s t : Sign) → (number s == number t) ≡ true → s ≡ t
one_sign s t e = sym (sign_back s) ∙ ap sign_of (eqb-true (number s) (number t) e) ∙ sign_back t

abbrev keyword_of_number : ℕ → Keyword
keyword_of_number n =
    cond (n == 0) keyword.Match (cond (n == 1) keyword.Unsafe (cond (n == 2) keyword.True (cond (n == 3) keyword.False (cond (n == 4) keyword.Let
    (cond (n == 5) keyword.If (cond (n == 6) keyword.Ref (cond (n == 7) keyword.Mut (cond (n == 8) keyword.Wild (cond (n == 9) keyword.Return
    (cond (n == 10) keyword.Use (cond (n == 11) keyword.As (cond (n == 12) keyword.Const (cond (n == 13) keyword.Type
    (cond (n == 14) keyword.Fn keyword.Impl))))))))))))))

keyword_back : (k : Keyword) → keyword_of_number (keyword_number k) ≡ k
keyword_back keyword.Match = refl
keyword_back _ = refl

pub one_keyword : (k l : Keyword) → (keyword_number k == keyword_number l) ≡ true → k ≡ l
one_keyword k l e =
    sym (keyword_back k) ∙ ap keyword_of_number (eqb-true (keyword_number k) (keyword_number l) e) ∙ keyword_back l

-- a keyword is told from another by its word
pub other_keyword : (f k : Keyword) → (keyword_number f == keyword_number k) ≡ false → same_keyword k (keyword_word f) ≡ false
other_keyword keyword.Match k e = e
other_keyword _ k e = e

pub ruleset sign_steps = (common_steps, one_sign)

pub ruleset keyword_steps = (common_steps, one_keyword, other_keyword)
