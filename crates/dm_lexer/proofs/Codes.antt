-- The code of a `\u{..}` escape.
use Rattle.std.specs.Prelude.{◌≡◌, ℕ, zero, suc, ◌+◌, ◌*◌, ◌<◌, ◌≤◌, ◌^◌, Bool, true, false, List, ◌∷◌, length, take, drop, refl, cond, nat_lt, nat_eq, ◌&&◌, Option, Some, None}
use Rattle.std.proofs.Common.{ap, ◌∙◌, sym, subst, arith, ◌⊎◌, inl, inr}
use Rattle.std.proofs.lemmas.Bool.Decides.{nat_tests}
use Rattle.std.proofs.Math.Utf8.{scalar_cases}
use Rattle.std.specs.Char.{digit_value, IsScalar}
use Rattle.std.specs.List.{filter}
use Rattle.std.specs.Str.{chars, IsUtf8}
use Rattle.std.specs.Str.Parse.{digits_value, digits_value_after}
use Rattle.dm_lexer.specs.declared.quotes.Code.{Code}
use Rattle.dm_lexer.specs.TextFronts.{run, IsFront}
use Rattle.dm_lexer.proofs.Segments.{ascii-front, ascii-run}
use Rattle.dm_lexer.specs.declared.quotes.Segment.{Segment}
use Rattle.dm_lexer.specs.Quotes.{begins, begins_hex, is_scalar, is_code_point, unicode_segment, is_code, is_hex, code_digits, with_code, with_digit, IsCode}

pub code-small : (d v x : ℕ) → d < 6 → v < 16 ^ d → x < 16 → v * 16 + x < 16 ^ (d + 1)
code-small zero v x h k l = omega arith
code-small (suc zero) v x h k l = omega arith
code-small (suc (suc zero)) v x h k l = omega arith
code-small (suc (suc (suc zero))) v x h k l = omega arith
code-small (suc (suc (suc (suc zero)))) v x h k l = omega arith
code-small (suc (suc (suc (suc (suc zero))))) v x h k l = omega arith
code-small (suc (suc (suc (suc (suc (suc d)))))) v x h k l = absurd (omega arith)

pub code-fits : (d v : ℕ) → d < 6 → v < 16 ^ d → v < 2 ^ 20
code-fits zero v h k = omega arith
code-fits (suc zero) v h k = omega arith
code-fits (suc (suc zero)) v h k = omega arith
code-fits (suc (suc (suc zero))) v h k = omega arith
code-fits (suc (suc (suc (suc zero)))) v h k = omega arith
code-fits (suc (suc (suc (suc (suc zero))))) v h k = omega arith
code-fits (suc (suc (suc (suc (suc (suc d)))))) v h k = absurd (omega arith)

-- the digits of a code that starts with one more character
pub digits-next : (c : ℕ) (cs : List ℕ) → is_code c ≡ true →
    code_digits (c ∷ cs) ≡ cond (is_hex c) (c ∷ code_digits cs) (code_digits cs)
digits-next c cs h = ap (λ b. filter is_hex (take (cond b (suc (run is_code cs)) 0) (c ∷ cs))) h

-- what was read of a code
pub record IsCodeSoFar (text : List ℕ) (code : Code) (rest : List ℕ) : Type 0 where
  pub size_is : run is_code (chars text) ≡ code.size + run is_code (chars rest)
  pub value_is : digits_value 16 (code_digits (chars text)) ≡ digits_value_after 16 code.value (code_digits (chars rest))
  pub digits_are : length (code_digits (chars text)) ≡ code.digits + length (code_digits (chars rest))
  pub few : code.digits ≤ 6
  pub small : code.value < 16 ^ code.digits
  pub fits : code.size + length rest ≤ length text
  pub utf8 : IsUtf8 rest

-- a step with the character's kind known
pub data Stepped (code new : Code) (c : ℕ) : Type 0 where
  digit : is_hex c ≡ true → code.digits < 6 → new.digits ≡ code.digits + 1 → new.value ≡ code.value * 16 + digit_value c → new.size ≡ code.size + 1 → Stepped code new c
  blank : is_hex c ≡ false → new.digits ≡ code.digits → new.value ≡ code.value → new.size ≡ code.size + 1 → Stepped code new c

some_code : {new code : Code} → Some code ≡ Some new → code ≡ new
some_code h = cc

stepped-digit : (code new : Code) (c : ℕ) (b : Bool) → nat_lt code.digits 6 ≡ b → is_hex c ≡ true →
    cond {A = Option Code} b (Some record { size = code.size + 1; digits = code.digits + 1; value = code.value * 16 + digit_value c }) None ≡ Some new → Stepped code new c
stepped-digit code new c true l k h =
    let d : code.digits < 6 = grind (arith, nat_tests) in
    digit k d (sym (ap (λ (v : Code). v.digits) (some_code h))) (sym (ap (λ (v : Code). v.value) (some_code h))) (sym (ap (λ (v : Code). v.size) (some_code h)))
stepped-digit code new c false l k h = absurd (cc)

stepped-on : (code new : Code) (c : ℕ) (b : Bool) → is_hex c ≡ b →
    cond {A = Option Code} b (with_digit code (digit_value c)) (Some record { size = code.size + 1; digits = code.digits; value = code.value }) ≡ Some new → Stepped code new c
stepped-on code new c true k h = stepped-digit code new c (nat_lt code.digits 6) refl k h
stepped-on code new c false k h = blank k (sym (ap (λ (v : Code). v.digits) (some_code h))) (sym (ap (λ (v : Code). v.value) (some_code h))) (sym (ap (λ (v : Code). v.size) (some_code h)))

pub stepped : (code new : Code) (c : ℕ) → with_code code c ≡ Some new → Stepped code new c
stepped code new c h = stepped-on code new c (is_hex c) refl h

hex-less : (c : ℕ) → is_hex c ≡ true → digit_value c < 16
hex-less c h = grind (arith, nat_tests)

run-code : (c : ℕ) (cs : List ℕ) → is_code c ≡ true → run is_code (c ∷ cs) ≡ suc (run is_code cs)
run-code c cs h = ap (λ b. cond b (suc (run is_code cs)) 0) h

-- one character more, of which it is known what it adds
code-on : (text rest after : List ℕ) (code new : Code) (c : ℕ) → IsCodeSoFar text code rest → chars rest ≡ c ∷ chars after →
    IsUtf8 after → length after < length rest → is_code c ≡ true → new.size ≡ code.size + 1 →
    digits_value_after 16 code.value (code_digits (chars rest)) ≡ digits_value_after 16 new.value (code_digits (chars after)) →
    code.digits + length (code_digits (chars rest)) ≡ new.digits + length (code_digits (chars after)) → new.digits ≤ 6 → new.value < 16 ^ new.digits →
    IsCodeSoFar text new after
code-on text rest after code new c s k u l h z v d few small =
    let r : run is_code (chars rest) ≡ suc (run is_code (chars after)) = ap (run is_code) k ∙ run-code c (chars after) h in
    let a = s.size_is in
    let g = s.digits_are in
    let f = s.fits in
    record {
      size_is = omega (arith, a, r, z);
      value_is = s.value_is ∙ v;
      digits_are = omega (arith, g, d);
      few = few;
      small = small;
      fits = omega (arith, f, l, z);
      utf8 = u;
    }

pub code-next : (text rest after : List ℕ) (code new : Code) (c : ℕ) → IsCodeSoFar text code rest → chars rest ≡ c ∷ chars after →
    IsUtf8 after → length after < length rest → is_code c ≡ true → Stepped code new c → IsCodeSoFar text new after
code-next text rest after code new c s k u l h p =
    let digits : List ℕ = code_digits (chars after) in
    let value : ℕ → ℕ = λ n. digits_value_after 16 n digits in
    let one : code_digits (chars rest) ≡ cond (is_hex c) (c ∷ digits) digits = ap code_digits k ∙ digits-next c (chars after) h in
    elim p [
      | digit x few d v z ↦
          let ds : code_digits (chars rest) ≡ c ∷ digits = one ∙ ap (λ b. cond b (c ∷ digits) digits) x in
          code-on text rest after code new c s k u l h z (ap (digits_value_after 16 code.value) ds ∙ ap value (sym v)) (omega (arith, d, ap length ds))
          (omega (arith, d, few)) (rw (d, v) (code-small code.digits code.value (digit_value c) few s.small (hex-less c x)))
      | blank x d v z ↦
          let ds : code_digits (chars rest) ≡ digits = one ∙ ap (λ b. cond b (c ∷ digits) digits) x in
          let w = s.few in
          code-on text rest after code new c s k u l h z (ap (digits_value_after 16 code.value) ds ∙ ap value (sym v)) (omega (arith, d, ap length ds))
          (omega (arith, d, w)) (rw (d, v) s.small)
    ]

data Full (code : Code) (c : ℕ) : Type 0 where
  full : is_hex c ≡ true → 6 ≤ code.digits → Full code c

code-ascii : (c : ℕ) → is_code c ≡ true → c < 128
code-ascii c h = grind (arith, nat_tests)

pub code-front : (text : List ℕ) (code : Code) → IsUtf8 text → IsCode text code → IsFront text code.size code.size
code-front text code u k =
    let P : ℕ → Type 0 = λ n. IsFront text n n in
    subst P (sym k.size_is) (ascii-front text (run is_code (chars text)) u (ascii-run is_code (chars text) code-ascii))

and-true : (a b : Bool) → a ≡ true → b ≡ true → (a && b) ≡ true
and-true a b h k = ap (λ v. v && b) h ∙ k

and-false : (a b : Bool) → b ≡ false → (a && b) ≡ false
and-false true b h = h
and-false false b h = refl

unicode-as : (text after : List ℕ) (c : ℕ) (b : Bool) → chars text ≡ c ∷ chars after → (nat_eq c 123 && is_code_point (chars after)) ≡ b →
    unicode_segment (chars text) ≡ cond {A = Option Segment} b (Some record { size = run is_code (chars after) + 4; means = Some (digits_value 16 (code_digits (chars after))) }) None
unicode-as text after c b k h =
    ap unicode_segment k ∙
    ap (λ v. cond {A = Option Segment} v (Some record { size = run is_code (chars after) + 4; means = Some (digits_value 16 (code_digits (chars after))) }) None) h

begins-behind : (after rest : List ℕ) (code : Code) (b : Bool) → IsUtf8 after → IsCode after code → rest ≡ drop code.size after →
    begins 125 (chars rest) ≡ b → begins 125 (drop (run is_code (chars after)) (chars after)) ≡ b
begins-behind after rest code b u k e h =
    ap (λ n. begins 125 (drop n (chars after))) (sym k.size_is) ∙ ap (begins 125) (sym (code-front after code u k).rest_is) ∙
    ap (λ l. begins 125 (chars l)) (sym e) ∙ h

pub unicode-unclosed : (text after rest : List ℕ) (c : ℕ) (code : Code) → chars text ≡ c ∷ chars after → IsUtf8 after → IsCode after code →
    rest ≡ drop code.size after → begins 125 (chars rest) ≡ false → None ≡ unicode_segment (chars text)
unicode-unclosed text after rest c code k u d e h =
    let b = begins-behind after rest code false u d e h in
    let cs : List ℕ = chars after in
    let inner : (begins_hex cs && begins 125 (drop (run is_code cs) cs)) ≡ false = and-false _ _ b in
    let outer : is_code_point cs ≡ false =
    ap (λ v. v && nat_lt (length (code_digits cs)) 7 && is_scalar (digits_value 16 (code_digits cs))) inner in
    sym (unicode-as text after c false k (and-false _ _ outer))

pub unicode-closed : (text after rest : List ℕ) (c v : ℕ) (code : Code) → chars text ≡ c ∷ chars after → IsUtf8 after → c ≡ 123 →
    begins_hex (chars after) ≡ true → IsCode after code →
    rest ≡ drop code.size after → begins 125 (chars rest) ≡ true → v ≡ code.value → is_scalar code.value ≡ true →
    Some record { size = code.size + 4; means = Some v } ≡ unicode_segment (chars text)
unicode-closed text after rest c v code k u z x d e h w s =
    let cs : List ℕ = chars after in
    let b = begins-behind after rest code true u d e h in
    let few : nat_lt (length (code_digits cs)) 7 ≡ true = let f = d.few in grind (arith, nat_tests, f) in
    let scalar : is_scalar (digits_value 16 (code_digits cs)) ≡ true = ap is_scalar (sym d.value_is) ∙ s in
    let inner : is_code_point cs ≡ true = and-true _ _ (and-true _ _ (and-true _ _ x b) few) scalar in
    let brace : nat_eq c 123 ≡ true = ap (λ n. nat_eq n 123) z in
    sym (unicode-as text after c true k (and-true _ _ brace inner) ∙
    ap (λ n. Some record { size = n + 4; means = Some (digits_value 16 (code_digits cs)) }) (sym d.size_is) ∙
    ap (λ n. Some record { size = code.size + 4; means = Some n }) (sym d.value_is ∙ sym w))

scalar-on : (c : ℕ) → (c < 55296) ⊎ ((57344 ≤ c) × (c < 1114112)) → is_scalar c ≡ true
scalar-on c (inl h) = grind (arith, nat_tests)
scalar-on c (inr h) = let a = h.0 in let b = h.1 in grind (arith, nat_tests)

pub scalar-is : (c : ℕ) → IsScalar c → is_scalar c ≡ true
scalar-is c h = scalar-on c (scalar_cases c h)
