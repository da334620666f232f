-- Integers.
use Rattle.std.specs.Prelude.{◌≡◌, ℕ, suc, ◌+◌, ◌*◌, ◌<◌, ◌≤◌, ◌^◌, Bool, true, false, ◌&&◌, nat_lt, Some, None, List, [], ◌∷◌, length, take, drop, refl}
use Rattle.std.proofs.Common.{ap, ◌∙◌, sym, subst, arith, length-drop}
use Rattle.std.proofs.Math.Nat.{mul-le-mul_left}
use Rattle.std.proofs.lemmas.Bool.Decides.{nat_tests}
use Rattle.std.specs.Char.{digit_value, is_digit}
use Rattle.std.specs.Str.{chars, encode_utf8_all, IsUtf8}
use Rattle.std.proofs.lemmas.Str.{IsUtf8-drop, encodes-chars, chars-nil}
use Rattle.std.proofs.Math.ListN.{drop_of_length-le}
use Rattle.std.specs.Str.Parse.{digits_value, digits_value_after}
use Rattle.dm_lexer.specs.declared.numbers.Base.{Base}
use Rattle.dm_lexer.specs.declared.numbers.Base.TheVariants.{Binary, Octal, Decimal, Hexadecimal}
use Rattle.dm_lexer.specs.TextFronts.{IsFront, IsSized, IsBehind}
use Rattle.dm_lexer.specs.Words.{begins_pair, begins_word, radix}
use Rattle.dm_lexer.specs.Numbers.{IsNumber, IsBasePrefix, begins_digit, base_of, prefix_length, digits_length, digits_among, is_value, suffix_length, spoils, number_behind, behind_prefix, number, length_of, number_length, value_of_all, whole_value}
use Rattle.dm_lexer.proofs.LexChars.{front-none}
use Rattle.dm_lexer.proofs.TextFronts.{front-then, front-behind, front-chars, behind-none, behind-chars, cond_true, cond_false}

pub sized_number : (text : List ℕ) (size value : ℕ) → IsNumber text size value (number (chars text)) → IsSized text size (number_length (chars text))
sized_number text size value n = (n.count, ap length_of n.found_is, n.front)

pub suffix_none : (text : List ℕ) → IsUtf8 text → begins_word (chars text) ≡ false → IsFront text 0 (suffix_length (chars text))
suffix_none text u h =
    let P : ℕ → Type 0 = λ n. IsFront text 0 n in
    let e : suffix_length (chars text) ≡ 0 = cond_false _ _ _ h in
    subst P (sym e) (front-none text u)

pub ruleset numbers = (sized_number, suffix_none)

pub prefix-decimal : (text : List ℕ) → IsUtf8 text → begins_pair 48 98 (chars text) ≡ false → begins_pair 48 111 (chars text) ≡ false →
    begins_pair 48 120 (chars text) ≡ false → IsBasePrefix text Decimal 0 text
prefix-decimal text u b o x =
    let e : base_of (chars text) ≡ Decimal = cond_false _ _ _ b ∙ cond_false _ _ _ o ∙ cond_false _ _ _ x in
    let P : Base → Type 0 = λ base. IsBehind text 0 (prefix_length base) text in
    record { base_is = sym e; behind = subst P (sym e) (behind-none text u) }

-- the digits that were read of a text, of which `rest` is left
pub record IsReadSoFar (base : Base) (text rest : List ℕ) (value : ℕ) (seen : Bool) : Type 0 where
  pub utf8 : IsUtf8 rest
  pub fits : value < 2 ^ 128
  pub count : ℕ
  pub seen_is : seen ≡ nat_lt 0 count
  pub counted : length (digits_among base (chars text)) ≡ count + length (digits_among base (chars rest))
  pub value_is : digits_value (radix base) (digits_among base (chars text)) ≡ digits_value_after (radix base) value (digits_among base (chars rest))

pub read-start : (base : Base) (text : List ℕ) → IsUtf8 text → IsReadSoFar base text text 0 false
read-start base text u = record {
  utf8 = u;
  fits = omega arith;
  count = 0;
  seen_is = refl;
  counted = omega arith;
  value_is = refl;
}

among-digit : (base : Base) (c : ℕ) (cs ds : List ℕ) → ds ≡ c ∷ cs → is_digit c (radix base) ≡ true → digits_among base ds ≡ c ∷ digits_among base cs
among-digit base c cs ds k h = ap (digits_among base) k ∙ cond_true _ _ _ h

pub read-digit : (base : Base) (text rest after : List ℕ) (value next c : ℕ) (seen : Bool) → IsReadSoFar base text rest value seen → IsUtf8 after →
    chars rest ≡ c ∷ chars after → is_digit c (radix base) ≡ true → next ≡ value * radix base + digit_value c → next < 2 ^ 128 →
    IsReadSoFar base text after next true
read-digit base text rest after value next c seen r u k h n f =
    let e : digits_among base (chars rest) ≡ c ∷ digits_among base (chars after) = among-digit base c (chars after) (chars rest) k h in
    let l : length (digits_among base (chars rest)) ≡ suc (length (digits_among base (chars after))) = ap length e in
    let total = r.counted in record {
      utf8 = u;
      fits = f;
      count = suc r.count;
      seen_is = grind (arith, nat_tests);
      counted = omega (arith, l, total);
      value_is = r.value_is ∙ ap (digits_value_after (radix base) value) e ∙ ap (λ v. digits_value_after (radix base) v (digits_among base (chars after))) (sym n);
    }

grows : (base n : ℕ) (ds : List ℕ) → 1 ≤ base → n ≤ digits_value_after base n ds
grows base n [] h = omega arith
grows base n (d ∷ ds) h =
    let m : n * 1 ≤ n * base = mul-le-mul_left n h in
    let i : n * base + digit_value d ≤ digits_value_after base (n * base + digit_value d) ds = grows base (n * base + digit_value d) ds h in
    omega arith

radix-some : (base : Base) → 1 ≤ radix base
radix-some Binary = omega arith
radix-some Octal = omega arith
radix-some Decimal = omega arith
radix-some Hexadecimal = omega arith

too-big : (n value : ℕ) → 2 ^ 128 ≤ value → (nat_lt 0 n && nat_lt value (2 ^ 128)) ≡ false
too-big n value h = grind (arith, nat_tests)

pub read-too_big : (base : Base) (text rest after : List ℕ) (value c : ℕ) (seen : Bool) → IsReadSoFar base text rest value seen →
    chars rest ≡ c ∷ chars after → is_digit c (radix base) ≡ true → 2 ^ 128 ≤ value * radix base + digit_value c →
    is_value base (digits_among base (chars text)) ≡ false
read-too_big base text rest after value c seen r k h big =
    let R : ℕ = radix base in
    let e : digits_among base (chars rest) ≡ c ∷ digits_among base (chars after) = among-digit base c (chars after) (chars rest) k h in
    let v : digits_value R (digits_among base (chars text)) ≡ digits_value_after R (value * R + digit_value c) (digits_among base (chars after)) =
    r.value_is ∙ ap (digits_value_after R value) e in
    let g : value * R + digit_value c ≤ digits_value_after R (value * R + digit_value c) (digits_among base (chars after)) =
    grows R (value * R + digit_value c) (digits_among base (chars after)) (radix-some base) in
    too-big (length (digits_among base (chars text))) (digits_value R (digits_among base (chars text))) (omega (arith, v, g, big))

read-length : (base : Base) (text rest : List ℕ) (value : ℕ) (seen : Bool) (r : IsReadSoFar base text rest value seen) → chars rest ≡ [] →
    length (digits_among base (chars text)) ≡ r.count
read-length base text rest value seen r k =
    let l : length (digits_among base (chars rest)) ≡ 0 = ap (λ cs. length (digits_among base cs)) k in
    let total = r.counted in
    omega (arith, l, total)

pub read-none : (base : Base) (text rest : List ℕ) (value : ℕ) (seen : Bool) → IsReadSoFar base text rest value seen → chars rest ≡ [] → seen ≡ false →
    is_value base (digits_among base (chars text)) ≡ false
read-none base text rest value seen r k h =
    let n : nat_lt 0 (length (digits_among base (chars text))) ≡ false =
    ap (nat_lt 0) (read-length base text rest value seen r k) ∙ sym r.seen_is ∙ h in
    ap (λ b. b && nat_lt (digits_value (radix base) (digits_among base (chars text))) (2 ^ 128)) n

below : (value : ℕ) → value < 2 ^ 128 → nat_lt value (2 ^ 128) ≡ true
below value h = grind (arith, nat_tests)

after-digits : (base : Base) (text after : List ℕ) (size : ℕ) → IsFront text size (digits_length base (chars text)) → after ≡ drop size text →
    chars after ≡ drop (digits_length base (chars text)) (chars text)
after-digits base text after size f e = ap chars e ∙ f.rest_is

of-front : (base : Base) (text front : List ℕ) (size : ℕ) → IsUtf8 text → IsFront text size (digits_length base (chars text)) → front ≡ take size text →
    take (digits_length base (chars text)) (chars text) ≡ chars front
of-front base text front size u f e = front-chars text size (digits_length base (chars text)) u f ∙ ap chars (sym e)

pub number-valueless : (base : Base) (text after front : List ℕ) (size : ℕ) → IsUtf8 text → IsFront text size (digits_length base (chars text)) →
    after ≡ drop size text → front ≡ take size text → spoils base (chars after) ≡ false → is_value base (digits_among base (chars front)) ≡ false →
    number_behind base (chars text) ≡ None
number-valueless base text after front size u f after_is front_is h v =
    cond_false _ _ _ (ap (spoils base) (sym (after-digits base text after size f after_is)) ∙ h) ∙
    cond_false _ _ _ (ap (λ l. is_value base (digits_among base l)) (of-front base text front size u f front_is) ∙ v)

pub number-read : (base : Base) (text after front : List ℕ) (size more value : ℕ) → IsUtf8 text → IsFront text size (digits_length base (chars text)) →
    after ≡ drop size text → front ≡ take size text → spoils base (chars after) ≡ false → is_value base (digits_among base (chars front)) ≡ true →
    value ≡ digits_value (radix base) (digits_among base (chars front)) → IsFront after more (suffix_length (chars after)) →
    IsNumber text (size + more) value (number_behind base (chars text))
number-read base text after front size more value u f after_is front_is h v value_is s =
    let n : ℕ = digits_length base (chars text) in
    let k : chars after ≡ drop n (chars text) = after-digits base text after size f after_is in
    let q : take n (chars text) ≡ chars front = of-front base text front size u f front_is in
    let P : List ℕ → Type 0 = λ l. IsFront l more (suffix_length (chars after)) in
    record {
      count = n + suffix_length (chars after);
      found_is =
          cond_false _ _ _ (ap (spoils base) (sym k) ∙ h) ∙ cond_true _ _ _ (ap (λ l. is_value base (digits_among base l)) q ∙ v) ∙
          ap (λ l. Some (n + suffix_length l, digits_value (radix base) (digits_among base (take n (chars text))))) (sym k) ∙
          ap (λ l. Some (n + suffix_length (chars after), digits_value (radix base) (digits_among base l))) q ∙
          ap (λ i. Some (n + suffix_length (chars after), i)) (sym value_is);
      front = front-then text size more n (suffix_length (chars after)) f (subst P after_is s);
    }

prefix-rest : (text rest : List ℕ) (base : Base) (size : ℕ) → IsBasePrefix text base size rest →
    number_behind base (chars rest) ≡ number_behind (base_of (chars text)) (drop (prefix_length (base_of (chars text))) (chars text))
prefix-rest text rest base size o =
    ap (λ b. number_behind b (chars rest)) o.base_is ∙
    ap (number_behind (base_of (chars text))) (behind-chars text rest size (prefix_length (base_of (chars text))) o.behind)

pub number-prefixed : (text rest : List ℕ) (base : Base) (size more value : ℕ) → begins_digit (chars text) ≡ true → IsBasePrefix text base size rest →
    IsNumber rest more value (number_behind base (chars rest)) → IsNumber text (size + more) value (number (chars text))
number-prefixed text rest base size more value d o n =
    record {
      count = prefix_length (base_of (chars text)) + n.count;
      found_is =
          cond_true _ _ _ d ∙
          ap (behind_prefix (prefix_length (base_of (chars text)))) (sym (prefix-rest text rest base size o) ∙ n.found_is);
      front = front-behind text rest size more (prefix_length (base_of (chars text))) n.count o.behind n.front;
    }

less : (a b : ℕ) → a < b → nat_lt a b ≡ true
less a b h = grind (arith, nat_tests)

not-less : (a b : ℕ) → b ≤ a → nat_lt a b ≡ false
not-less a b h = grind (arith, nat_tests)

is-digit : (base : Base) (c r : ℕ) → r ≡ radix base → digit_value c < r → is_digit c (radix base) ≡ true
is-digit base c r e h = ap (nat_lt (digit_value c)) (sym e) ∙ less (digit_value c) r h

next-value : (base : Base) (value r c digit : ℕ) → r ≡ radix base → digit ≡ digit_value c → value * r + digit ≡ value * radix base + digit_value c
next-value base value r c digit e d = ap (λ i. value * i + digit) e ∙ ap (λ i. value * radix base + i) d

not-below : (a b : ℕ) → (a < b → ⊥) → b ≤ a
not-below a b h = omega (arith, h)

-- the same as the program tells them, with the radix and the digit that it was given
pub told-too_big : (base : Base) (text rest after : List ℕ) (value c r digit : ℕ) (seen : Bool) → IsReadSoFar base text rest value seen →
    chars rest ≡ c ∷ chars after → r ≡ radix base → digit_value c < r → digit ≡ digit_value c → (value * r + digit < 2 ^ 128 → ⊥) →
    is_value base (digits_among base (chars text)) ≡ false
told-too_big base text rest after value c r digit seen s k e l d big =
    let n : value * r + digit ≡ value * radix base + digit_value c = next-value base value r c digit e d in
    let P : ℕ → Type 0 = λ i. 2 ^ 128 ≤ i in
    read-too_big base text rest after value c seen s k (is-digit base c r e l) (subst P n (not-below (value * r + digit) (2 ^ 128) big))

pub told-digit : (base : Base) (text rest after : List ℕ) (value next c r digit : ℕ) (seen : Bool) → IsReadSoFar base text rest value seen → IsUtf8 after →
    chars rest ≡ c ∷ chars after → r ≡ radix base → digit_value c < r → digit ≡ digit_value c → value * r + digit < 2 ^ 128 → next ≡ value * r + digit →
    IsReadSoFar base text after next true
told-digit base text rest after value next c r digit seen s u k e l d f n =
    let P : ℕ → Type 0 = λ i. i < 2 ^ 128 in
    read-digit base text rest after value next c seen s u k (is-digit base c r e l) (n ∙ next-value base value r c digit e d) (subst P (sym n) f)

-- whether something is behind the integer, by bytes and by characters
pub whole-all : (text : List ℕ) (size value : ℕ) → IsNumber text size value (number (chars text)) → size ≡ length text →
    whole_value (chars text) ≡ Some value
whole-all text size value n e =
    let none : drop n.count (chars text) ≡ [] =
    sym n.front.rest_is ∙ ap chars (drop_of_length-le text (omega arith)) ∙ chars-nil in
    let l : length (drop n.count (chars text)) ≡ 0 = ap length none in
    let most : length (chars text) ≤ n.count = omega (arith, l, length-drop n.count (chars text)) in
    ap (value_of_all (length (chars text))) n.found_is ∙ cond_false _ _ _ (not-less n.count (length (chars text)) most)

some-left : (text cs : List ℕ) → encode_utf8_all cs ≡ text → 0 < length text → 0 < length cs
some-left text [] e h = let l : 0 ≡ length text = ap length e in absurd (omega arith)
some-left text (c ∷ cs) e h = omega arith

pub whole-front : (text : List ℕ) (size value : ℕ) → IsUtf8 text → IsNumber text size value (number (chars text)) → (size ≡ length text → ⊥) →
    whole_value (chars text) ≡ None
whole-front text size value u n h =
    let b : size ≤ length text = n.front.boundary.0 in
    let more : 0 < length (drop size text) = omega (arith, length-drop size text, b, h) in
    let left : 0 < length (chars (drop size text)) =
    some-left (drop size text) (chars (drop size text)) (encodes-chars (drop size text) (IsUtf8-drop text size u n.front.boundary)) more in
    let l : length (chars (drop size text)) ≡ length (drop n.count (chars text)) = ap length n.front.rest_is in
    let fewer : n.count < length (chars text) = omega (arith, l, left, length-drop n.count (chars text)) in
    ap (value_of_all (length (chars text))) n.found_is ∙ cond_true _ _ _ (less n.count (length (chars text)) fewer)
