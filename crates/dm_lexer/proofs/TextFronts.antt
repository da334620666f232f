-- Fronts of fronts.
use Rattle.std.specs.Prelude.{◌≡◌, ℕ, suc, ◌+◌, ◌<◌, Bool, true, false, List, ◌∷◌, ◌++◌, take, drop, encode_utf8, refl, cond}
use Rattle.std.proofs.Common.{ap, ◌∙◌, sym, subst, arith}
use Rattle.std.proofs.lemmas.List.{drop-drop}
use Rattle.std.proofs.lemmas.Str.{IsCharBoundary-from_rest, IsUtf8-take, IsUtf8-past_char, drop_past_char, encodes-append, chars_from_encodes, len_utf8_ascii}
use Rattle.std.proofs.Math.Seq.{take-add}
use Rattle.std.specs.Char.{len_utf8}
use Rattle.std.specs.Str.{chars, encode_utf8_all, IsUtf8}
use Rattle.dm_lexer.specs.TextFronts.{IsFront, IsBehind}
use Rattle.dm_lexer.proofs.LexChars.{front-none, front-next}

-- a front, and a front of what is behind it
pub front-then : (text : List ℕ) (a b n m : ℕ) → IsFront text a n → IsFront (drop a text) b m → IsFront text (a + b) (n + m)
front-then text a b n m f g =
    let cs : List ℕ = chars text in
    record {
      boundary = IsCharBoundary-from_rest text a b f.boundary.0 g.boundary;
      bytes_are =
          take-add a b text ∙ ap (λ l. l ++ take b (drop a text)) f.bytes_are ∙ ap (λ l. encode_utf8_all (take n cs) ++ l) g.bytes_are ∙
          ap (λ l. encode_utf8_all (take n cs) ++ encode_utf8_all (take m l)) f.rest_is ∙ sym (encodes-append (take n cs) (take m (drop n cs))) ∙
          ap encode_utf8_all (sym (take-add n m cs));
      rest_is = ap chars (sym (drop-drop b a text)) ∙ g.rest_is ∙ ap (drop m) f.rest_is ∙ drop-drop m n cs;
    }

pub front-behind : (text rest : List ℕ) (a b n m : ℕ) → IsBehind text a n rest → IsFront rest b m → IsFront text (a + b) (n + m)
front-behind text rest a b n m f g =
    let P : List ℕ → Type 0 = λ l. IsFront l b m in
    front-then text a b n m f.front (subst P (sym f.rest_is) g)

-- the characters of a front
pub front-chars : (text : List ℕ) (size n : ℕ) → IsUtf8 text → IsFront text size n → take n (chars text) ≡ chars (take size text)
front-chars text size n u f = chars_from_encodes (take n (chars text)) (take size text) (IsUtf8-take text size u f.boundary) (sym f.bytes_are)

pub behind-chars : (text rest : List ℕ) (size n : ℕ) → IsBehind text size n rest → chars rest ≡ drop n (chars text)
behind-chars text rest size n b = ap chars (sym b.rest_is) ∙ b.front.rest_is

-- behind one character more
pub behind-next : (text rest after : List ℕ) (at n c : ℕ) → IsBehind text at n rest → IsUtf8 rest → rest ≡ encode_utf8 c ++ after →
    chars rest ≡ c ∷ chars after → IsBehind text (at + len_utf8 c) (suc n) after
behind-next text rest after at n c b u e k =
    let U : List ℕ → Type 0 = λ l. IsUtf8 l in
    record {
      front = front-next text after at n c b.front (subst U (sym b.rest_is) u) (b.rest_is ∙ e) (ap chars b.rest_is ∙ k);
      rest_is = drop_past_char text after at c (b.rest_is ∙ e);
    }

pub behind-none : (text : List ℕ) → IsUtf8 text → IsBehind text 0 0 text
behind-none text u = record { front = front-none text u; rest_is = refl }

-- behind two ASCII characters
pub behind-two : (text after beyond : List ℕ) (c d : ℕ) → IsUtf8 text → c < 128 → d < 128 → text ≡ encode_utf8 c ++ after → chars text ≡ c ∷ chars after →
    after ≡ encode_utf8 d ++ beyond → chars after ≡ d ∷ chars beyond → IsBehind text 2 2 beyond
behind-two text after beyond c d u c_small d_small text_is chars_are after_is chars_after_are =
    let one : IsBehind text (0 + len_utf8 c) 1 after = behind-next text text after 0 0 c (behind-none text u) u text_is chars_are in
    let two : IsBehind text (0 + len_utf8 c + len_utf8 d) 2 beyond =
    behind-next text after beyond (0 + len_utf8 c) 1 d one (IsUtf8-past_char text after c u text_is) after_is chars_after_are in
    let P : ℕ → Type 0 = λ i. IsBehind text i 2 beyond in
    let c_is : len_utf8 c ≡ 1 = len_utf8_ascii c c_small in
    let d_is : len_utf8 d ≡ 1 = len_utf8_ascii d d_small in
    let e : 0 + len_utf8 c + len_utf8 d ≡ 2 = omega (arith, c_is, d_is) in
    subst P e two

-- tests
pub cond_true : {A : Type 0} (b : Bool) (x y : A) → b ≡ true → cond b x y ≡ x
cond_true b x y h = ap (λ v. cond v x y) h

pub cond_false : {A : Type 0} (b : Bool) (x y : A) → b ≡ false → cond b x y ≡ y
cond_false b x y h = ap (λ v. cond v x y) h
