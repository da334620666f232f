-- Identifiers and integers.
use Rattle.std.specs.Prelude.{◌≡◌, ℕ, suc, ◌+◌, ◌*◌, ◌<◌, ◌≤◌, ◌^◌, Bool, true, false, ◌&&◌, nat_lt, cond, None, Some, List, [], ◌∷◌, ◌++◌, take, drop, encode_utf8, refl}
use Rattle.std.proofs.Common.{ap, ◌∙◌, sym, subst, arith}
use Rattle.std.proofs.lemmas.Bool.Decides.{nat_tests}
use Rattle.std.specs.Char.{digit_value, len_utf8}
use Rattle.std.specs.Str.{chars, encode_utf8_all, IsUtf8}
use Rattle.std.specs.Str.Parse.{digits_value, digits_value_after}
use Rattle.unicode_ident.specs.Ident.{is_xid_continue}
use Rattle.dm_lexer.specs.TextFronts.{IsFront, run}
use Rattle.dm_fmtstr.specs.Grammar.{begins_identifier, identifier_at, text_of, is_decimal, digit_at, is_a, integer_at}
use Rattle.dm_lexer.proofs.LexChars.{run-pass}
use Rattle.dm_lexer.proofs.TextFronts.{cond_true, cond_false}
use Rattle.dm_fmtstr.proofs.Fronts.{front-behind_char, drop-next}

pub identifier-read : (text after name rest : List ℕ) (c at size : ℕ) → IsUtf8 text → text ≡ encode_utf8 c ++ after → chars text ≡ c ∷ chars after →
    begins_identifier c (chars after) ≡ true → at ≡ len_utf8 c → IsFront after size (run is_xid_continue (chars after)) → rest ≡ drop (at + size) text →
    name ≡ take (at + size) text → identifier_at (chars text) ≡ Some (chars rest, name)
identifier-read text after name rest c at size u e k h l f rest_is name_is =
    let n : ℕ = suc (run is_xid_continue (chars after)) in
    let P : ℕ → Type 0 = λ i. IsFront text (i + size) n in
    let g : IsFront text (at + size) n = subst P (sym l) (front-behind_char text after c size (run is_xid_continue (chars after)) u e k f) in
    let r : chars rest ≡ drop n (chars text) = ap chars rest_is ∙ g.rest_is in
    let t : name ≡ encode_utf8_all (take n (chars text)) = name_is ∙ g.bytes_are in
    let i : identifier_at (chars text) ≡ text_of n (c ∷ chars after) = ap identifier_at k ∙ cond_true _ _ _ h in
    i ∙ ap (text_of n) (sym k) ∙ ap (λ l. Some (l, encode_utf8_all (take n (chars text)))) (sym r) ∙ ap (λ l. Some (chars rest, l)) (sym t)

-- the digits that were read of a text, of which `rest` is left
pub record IsReadSoFar (text rest : List ℕ) (value : ℕ) (seen : Bool) : Type 0 where
  pub fits : value < 2 ^ 64
  pub count : ℕ
  pub seen_is : seen ≡ nat_lt 0 count
  pub run_is : run is_decimal (chars text) ≡ count + run is_decimal (chars rest)
  pub rest_is : drop count (chars text) ≡ chars rest
  pub value_is : (m : ℕ) → digits_value 10 (take (count + m) (chars text)) ≡ digits_value_after 10 value (take m (chars rest))

pub read-start : (text : List ℕ) → IsReadSoFar text text 0 false
read-start text = record {
  fits = omega arith;
  count = 0;
  seen_is = refl;
  run_is = omega arith;
  rest_is = refl;
  value_is = λ m. ap (λ i. digits_value 10 (take i (chars text))) (omega arith);
}

-- the digit at the front
data Digit (cs ds : List ℕ) (digit : ℕ) : Type 0 where
  digit_is : (c : ℕ) → cs ≡ c ∷ ds → is_decimal c ≡ true → digit ≡ digit_value c → Digit cs ds digit

digit-if : (c digit : ℕ) (b : Bool) (cs ds : List ℕ) → is_decimal c ≡ b → is_a cs (cond b (Some (digit_value c)) None) ≡ Some (ds, digit) →
    Digit (c ∷ cs) ds digit
digit-if c digit true cs ds b h =
    let e : ◌≡◌ {A = List ℕ × ℕ} (cs, digit_value c) (ds, digit) = cc in
    digit_is c (ap (λ r. c ∷ r.0) e) b (sym (ap (λ r. r.1) e))
digit-if c digit false cs ds b h = absurd (cc)

digit-from : (cs ds : List ℕ) (digit : ℕ) → digit_at cs ≡ Some (ds, digit) → Digit cs ds digit
digit-from [] ds digit h = absurd (cc)
digit-from (c ∷ cs) ds digit h = digit-if c digit (is_decimal c) cs ds refl h

run-digit : (c : ℕ) (cs ds : List ℕ) → cs ≡ c ∷ ds → is_decimal c ≡ true → run is_decimal cs ≡ suc (run is_decimal ds)
run-digit c cs ds k h = ap (run is_decimal) k ∙ run-pass is_decimal c ds h

digits-on : (n c m : ℕ) (cs ds : List ℕ) → cs ≡ c ∷ ds → digits_value_after 10 n (take (suc m) cs) ≡ digits_value_after 10 (n * 10 + digit_value c) (take m ds)
digits-on n c m cs ds k = ap (λ l. digits_value_after 10 n (take (suc m) l)) k

read-digit : (text rest after : List ℕ) (value next digit c : ℕ) (seen : Bool) → IsReadSoFar text rest value seen → chars rest ≡ c ∷ chars after →
    is_decimal c ≡ true → digit ≡ digit_value c → value * 10 + digit < 2 ^ 64 → next ≡ value * 10 + digit → IsReadSoFar text after next true
read-digit text rest after value next digit c seen r k h d small n =
    let e : value * 10 + digit_value c ≡ next = omega arith in
    let ran : run is_decimal (chars rest) ≡ suc (run is_decimal (chars after)) = run-digit c (chars rest) (chars after) k h in
    let total = r.run_is in
    record {
      fits = omega arith;
      count = suc r.count;
      seen_is = grind (arith, nat_tests);
      run_is = omega (arith, ran, total);
      rest_is = drop-next r.count c (chars text) (chars after) (r.rest_is ∙ k);
      value_is = λ m.
          let i : suc r.count + m ≡ r.count + suc m = omega arith in
          ap (λ j. digits_value 10 (take j (chars text))) i ∙ r.value_is (suc m) ∙ digits-on value c m (chars rest) (chars after) k ∙
          ap (λ v. digits_value_after 10 v (take m (chars after))) e;
    }

pub read-next : (text rest after : List ℕ) (value next digit : ℕ) (seen : Bool) → IsReadSoFar text rest value seen →
    digit_at (chars rest) ≡ Some (chars after, digit) → value * 10 + digit < 2 ^ 64 → next ≡ value * 10 + digit → IsReadSoFar text after next true
read-next text rest after value next digit seen r h small n =
    elim (digit-from (chars rest) (chars after) digit h) [ digit_is c k d v ↦ read-digit text rest after value next digit c seen r k d v small n ]

grows : (n : ℕ) (ds : List ℕ) → n ≤ digits_value_after 10 n ds
grows n [] = omega arith
grows n (d ∷ ds) = let i = grows (n * 10 + digit_value d) ds in omega (arith, i)

too-big : (n value : ℕ) → 2 ^ 64 ≤ value → (nat_lt 0 n && nat_lt value (2 ^ 64)) ≡ false
too-big n value h = grind (arith, nat_tests)

pub read-too_big : (text rest after : List ℕ) (value digit : ℕ) (seen : Bool) → IsReadSoFar text rest value seen →
    digit_at (chars rest) ≡ Some (chars after, digit) → (value * 10 + digit < 2 ^ 64 → ⊥) → integer_at (chars text) ≡ None
read-too_big text rest after value digit seen r h big =
    let n : ℕ = run is_decimal (chars text) in
    elim (digit-from (chars rest) (chars after) digit h) [
      | digit_is c k d v ↦
          let m : ℕ = run is_decimal (chars after) in
          let more = r.run_is in
          let i : n ≡ r.count + suc m = omega (arith, run-digit c (chars rest) (chars after) k d, more) in
          let e : digits_value 10 (take n (chars text)) ≡ digits_value_after 10 (value * 10 + digit_value c) (take m (chars after)) =
          ap (λ j. digits_value 10 (take j (chars text))) i ∙ r.value_is (suc m) ∙ digits-on value c m (chars rest) (chars after) k in
          let least : 2 ^ 64 ≤ digits_value 10 (take n (chars text)) = omega (arith, grows (value * 10 + digit_value c) (take m (chars after)), e, big, v) in
          cond_false _ _ _ (too-big n _ least)
    ]
