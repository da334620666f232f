-- An integer is found again where other characters stand behind it.
use Rattle.std.specs.Prelude.{◌≡◌, ℕ, zero, suc, ◌+◌, ◌<◌, Bool, true, false, ◌||◌, ◌&&◌, nat_eq, cond, Option, Some, None, List, [], ◌∷◌, take, drop, refl}
use Rattle.std.proofs.Common.{ap, ◌∙◌, sym, arith}
use Rattle.std.proofs.lemmas.Bool.Decides.{nat_tests}
use Rattle.std.specs.Str.{encode_utf8_all}
use Rattle.std.specs.Str.Parse.{digits_value}
use Rattle.dm_lexer.specs.declared.numbers.Base.{Base}
use Rattle.dm_lexer.specs.declared.numbers.Base.TheVariants.{Binary, Octal, Decimal, Hexadecimal}
use Rattle.dm_lexer.specs.declared.words.Class.TheVariants.{Digits}
use Rattle.dm_lexer.specs.TextFronts.{run}
use Rattle.dm_lexer.specs.Words.{begins_pair, begins_word, goes_on, starts_word, passes, radix}
use Rattle.dm_lexer.specs.Numbers.{begins_digit, base_of, prefix_length, digits_length, digits_among, is_value, suffix_length, begins_exponent, is_float_name, goes_on_as_float, spoils, number_with, number_behind, behind_prefix, number_length, length_of}
use Rattle.dm_lexer.proofs.RowSteps.{starts-goes_on, with-positive}
use Rattle.dm_lexer.proofs.Kept.{cut, take-cut, drop-cut, run-cut, run-end}
use Rattle.dm_lexer.proofs.Stops.{is_stopped, stop-each, goes-no_ascii, stopped-run, stopped-word, stopped-digits, stopped-digit, stopped-exponent, stopped-float, or-false}

drop-if : (p : ℕ → Bool) (c : ℕ) (cs zs : List ℕ) (b : Bool) → drop (run p cs) (cut (run p cs) cs zs) ≡ zs →
    drop (cond b (suc (run p cs)) 0) (cut (cond b (suc (run p cs)) 0) (c ∷ cs) zs) ≡ zs
drop-if p c cs zs true h = h
drop-if p c cs zs false h = refl

-- what stands behind a run
pub drop-run : (p : ℕ → Bool) (cs zs : List ℕ) → drop (run p cs) (cut (run p cs) cs zs) ≡ zs
drop-run p [] zs = refl
drop-run p (c ∷ cs) zs = drop-if p c cs zs (p c) (drop-run p cs zs)

same-add : (n : ℕ) → n + 0 ≡ n
same-add n = omega arith

-- digits, of which `more` other characters follow
digits-kept : (p : ℕ → Bool) (more : ℕ) (cs zs : List ℕ) → run p zs ≡ 0 → run p (cut (run p cs + more) cs zs) ≡ run p cs
digits-kept p zero cs zs z = ap (λ n. run p (cut n cs zs)) (same-add (run p cs)) ∙ run-end p cs zs z
digits-kept p (suc more) cs zs z = run-cut p (run p cs + suc more) cs zs (omega arith)

behind-kept : (p : ℕ → Bool) (more : ℕ) (cs zs : List ℕ) → drop (run p cs) (cut (run p cs + more) cs zs) ≡ cut more (drop (run p cs) cs) zs
behind-kept p zero cs zs = ap (λ n. drop (run p cs) (cut n cs zs)) (same-add (run p cs)) ∙ drop-run p cs zs
behind-kept p (suc more) cs zs = drop-cut (run p cs) (suc more) (run p cs + suc more) cs zs refl (omega arith)

-- the suffix

or-left : (a b c : Bool) → (a || b || c) ≡ false → a ≡ false
or-left true b c h = absurd (cc)
or-left false b c h = refl

or-middle : (a b c : Bool) → (a || b || c) ≡ false → b ≡ false
or-middle true b c h = absurd (cc)
or-middle false true c h = absurd (cc)
or-middle false false c h = refl

either-false : (a b : Bool) → a ≡ false → b ≡ false → (a || b) ≡ false
either-false true b h k = absurd (cc)
either-false false b h k = k

suffix-none : (cs : List ℕ) → begins_word cs ≡ false → suffix_length cs ≡ 0
suffix-none cs h = ap (λ v. cond v (run goes_on cs) 0) h

suffix-some : (cs : List ℕ) → begins_word cs ≡ true → suffix_length cs ≡ run goes_on cs
suffix-some cs h = ap (λ v. cond v (run goes_on cs) 0) h

nameless : (zs : List ℕ) → suffix_length zs ≡ 0 → is_float_name (encode_utf8_all (take (suffix_length zs) zs)) ≡ false
nameless zs h = ap (λ n. is_float_name (encode_utf8_all (take n zs))) h

stopped-spoils : (base : Base) (zs : List ℕ) → is_stopped zs ≡ true → spoils base zs ≡ false
stopped-spoils base zs h =
    or-false (begins_digit zs) (begins_exponent zs || is_float_name (encode_utf8_all (take (suffix_length zs) zs))) (goes_on_as_float base zs)
    (stopped-digit zs h) (either-false (begins_exponent zs) _ (stopped-exponent zs h) (nameless zs (suffix-none zs (stopped-word zs h))))
    (stopped-float base zs h)

first-false : (a b : Bool) → a ≡ false → (a && b) ≡ false
first-false true b h = absurd (cc)
first-false false b h = refl

no-point : (base : Base) (c : ℕ) (cs : List ℕ) → starts_word c ≡ true → goes_on_as_float base (c ∷ cs) ≡ false
no-point Binary c cs h = refl
no-point Octal c cs h = refl
no-point Decimal c cs h = first-false (nat_eq c 46) _ (goes-no_ascii c 46 (omega arith) refl (starts-goes_on c h))
no-point Hexadecimal c cs h = refl

-- a suffix, as characters of a word
record IsSuffix (base : Base) (cs zs : List ℕ) (n : ℕ) : Type 0 where
  length_is : suffix_length (cut n cs zs) ≡ n
  unspoilt : spoils base (cut n cs zs) ≡ false

begun-if : (c : ℕ) (cs zs : List ℕ) (b : Bool) → goes_on c ≡ b → b ≡ true → cut (run goes_on (c ∷ cs)) (c ∷ cs) zs ≡ c ∷ cut (run goes_on cs) cs zs
begun-if c cs zs true e h = ap (λ v. cut (cond v (suc (run goes_on cs)) 0) (c ∷ cs) zs) e
begun-if c cs zs false e h = absurd (cc)

-- a word begins with its first character
pub word-begun : (c : ℕ) (cs zs : List ℕ) → goes_on c ≡ true → cut (run goes_on (c ∷ cs)) (c ∷ cs) zs ≡ c ∷ cut (run goes_on cs) cs zs
word-begun c cs zs h = begun-if c cs zs (goes_on c) refl h

some-suffix : (base : Base) (cs zs : List ℕ) → is_stopped zs ≡ true → begins_word cs ≡ true → spoils base cs ≡ false → IsSuffix base cs zs (run goes_on cs)
some-suffix base [] zs h b s = absurd (cc)
some-suffix base (c ∷ cs) zs h b s =
    let n : ℕ = run goes_on (c ∷ cs) in
    let all : List ℕ = c ∷ cut (run goes_on cs) cs zs in
    let begun : cut n (c ∷ cs) zs ≡ all = word-begun c cs zs (starts-goes_on c b) in
    let ends : run goes_on all ≡ n = ap (run goes_on) (sym begun) ∙ run-end goes_on (c ∷ cs) zs (stopped-run zs h) in
    let length_is : suffix_length all ≡ n = suffix-some all b ∙ ends in
    let name : take n all ≡ take n (c ∷ cs) = ap (take n) (sym begun) ∙ take-cut n n (c ∷ cs) zs (omega arith) in
    let spelling : take (suffix_length all) all ≡ take (suffix_length (c ∷ cs)) (c ∷ cs) =
    ap (λ i. take i all) length_is ∙ name ∙ ap (λ i. take i (c ∷ cs)) (sym (suffix-some (c ∷ cs) b)) in
    let float : Bool = begins_exponent (c ∷ cs) || is_float_name (encode_utf8_all (take (suffix_length (c ∷ cs)) (c ∷ cs))) in
    let unspoilt : spoils base all ≡ false =
    or-false (begins_digit (c ∷ cs)) (begins_exponent (c ∷ cs) || is_float_name (encode_utf8_all (take (suffix_length all) all))) (goes_on_as_float base all)
    (or-left (begins_digit (c ∷ cs)) float (goes_on_as_float base (c ∷ cs)) s)
    (ap (λ l. begins_exponent (c ∷ cs) || is_float_name (encode_utf8_all l)) spelling ∙
    or-middle (begins_digit (c ∷ cs)) float (goes_on_as_float base (c ∷ cs)) s)
    (no-point base c (cut (run goes_on cs) cs zs) b) in
    record {
      length_is = ap suffix_length begun ∙ length_is;
      unspoilt = ap (spoils base) begun ∙ unspoilt;
    }

suffix-if : (base : Base) (cs zs : List ℕ) (b : Bool) → begins_word cs ≡ b → is_stopped zs ≡ true → spoils base cs ≡ false → IsSuffix base cs zs (cond b (run goes_on cs) 0)
suffix-if base cs zs true e h s = some-suffix base cs zs h e s
suffix-if base cs zs false e h s = record { length_is = suffix-none zs (stopped-word zs h); unspoilt = stopped-spoils base zs h }

suffix-kept : (base : Base) (cs zs : List ℕ) → is_stopped zs ≡ true → spoils base cs ≡ false → IsSuffix base cs zs (suffix_length cs)
suffix-kept base cs zs h s = suffix-if base cs zs (begins_word cs) refl h s

-- the digits and the suffix

abbrev pub number-by : Bool → Bool → ℕ × ℕ → Option (ℕ × ℕ)
number-by a b x = cond a None (cond b (Some x) None)

pub record IsNumberBy (a b : Bool) (x r : ℕ × ℕ) : Type 0 where
  pub unspoilt : a ≡ false
  pub valued : b ≡ true
  pub found : x ≡ r

pub number-parts : (a b : Bool) (x r : ℕ × ℕ) → number-by a b x ≡ Some r → IsNumberBy a b x r
number-parts true b x r h = absurd (cc)
number-parts false true x r h = record { unspoilt = refl; valued = refl; found = cc }
number-parts false false x r h = absurd (cc)

behind-cut : (base : Base) (cs zs : List ℕ) (r : ℕ × ℕ) → is_stopped zs ≡ true → number_behind base cs ≡ Some r → number_behind base (cut r.0 cs zs) ≡ Some r
behind-cut base cs zs r h e =
    let p : ℕ → Bool = passes (Digits base) in
    let digits : ℕ = run p cs in
    let more : ℕ = suffix_length (drop digits cs) in
    let value : ℕ = digits_value (radix base) (digits_among base (take digits cs)) in
    let parts : IsNumberBy (spoils base (drop digits cs)) (is_value base (digits_among base (take digits cs))) (digits + more, value) r =
    number-parts (spoils base (drop digits cs)) (is_value base (digits_among base (take digits cs))) (digits + more, value) r e in
    let size : digits + more ≡ r.0 = ap (λ v. v.0) parts.found in
    let all : List ℕ = cut (digits + more) cs zs in
    let kept : run p all ≡ digits = digits-kept p more cs zs (stopped-digits base zs h) in
    let behind : drop digits all ≡ cut more (drop digits cs) zs = behind-kept p more cs zs in
    let front : take digits all ≡ take digits cs = take-cut digits (digits + more) cs zs (omega arith) in
    let suffix : IsSuffix base (drop digits cs) zs more = suffix-kept base (drop digits cs) zs h parts.unspoilt in
    let spoilt : spoils base (drop digits all) ≡ false = ap (spoils base) behind ∙ suffix.unspoilt in
    let valued : is_value base (digits_among base (take digits all)) ≡ true = ap (λ l. is_value base (digits_among base l)) front ∙ parts.valued in
    let found : ◌≡◌ {A = ℕ × ℕ} (digits + suffix_length (drop digits all), digits_value (radix base) (digits_among base (take digits all))) r =
    ap (λ n. (digits + n, digits_value (radix base) (digits_among base (take digits all)))) (ap suffix_length behind ∙ suffix.length_is) ∙
    ap (λ l. (digits + more, digits_value (radix base) (digits_among base l))) front ∙ parts.found in
    ap (λ n. number_behind base (cut n cs zs)) (sym size) ∙ ap (λ n. number_with base n all) kept ∙
    ap (λ v. number-by v (is_value base (digits_among base (take digits all))) (digits + suffix_length (drop digits all), digits_value (radix base) (digits_among base (take digits all)))) spoilt ∙
    ap (λ v. number-by false v (digits + suffix_length (drop digits all), digits_value (radix base) (digits_among base (take digits all)))) valued ∙
    ap (λ v. Some v) found

-- the opening that tells the base

pair-cut : (a b n : ℕ) (cs zs : List ℕ) → begins_pair a b (cut (suc (suc n)) cs zs) ≡ begins_pair a b cs
pair-cut a b n [] zs = refl
pair-cut a b n (c ∷ []) zs = refl
pair-cut a b n (c ∷ d ∷ cs) zs = refl

right-false : (a b : Bool) → b ≡ false → (a && b) ≡ false
right-false true b h = h
right-false false b h = refl

pair-none : (a b c : ℕ) (zs : List ℕ) → is_stopped zs ≡ true → nat_eq b 32 ≡ false → nat_eq b 10 ≡ false → nat_eq b 41 ≡ false → nat_eq b 93 ≡ false →
    begins_pair a b (c ∷ zs) ≡ false
pair-none a b c [] h w x y z = refl
pair-none a b c (d ∷ zs) h w x y z =
    right-false (nat_eq c a) (nat_eq d b)
    (stop-each (λ v. nat_eq v b ≡ false) d h (grind (arith, nat_tests)) (grind (arith, nat_tests)) (grind (arith, nat_tests)) (grind (arith, nat_tests)))

abbrev base-by : Bool → Bool → Bool → Base
base-by x y z = cond x Binary (cond y Octal (cond z Hexadecimal Decimal))

long-base : (n : ℕ) (cs zs : List ℕ) → base_of (cut (suc (suc n)) cs zs) ≡ base_of cs
long-base n cs zs =
    let all : List ℕ = cut (suc (suc n)) cs zs in
    ap (λ v. base-by v (begins_pair 48 111 all) (begins_pair 48 120 all)) (pair-cut 48 98 n cs zs) ∙
    ap (λ v. base-by (begins_pair 48 98 cs) v (begins_pair 48 120 all)) (pair-cut 48 111 n cs zs) ∙
    ap (λ v. base-by (begins_pair 48 98 cs) (begins_pair 48 111 cs) v) (pair-cut 48 120 n cs zs)

short-base : (c : ℕ) (zs : List ℕ) → is_stopped zs ≡ true → base_of (c ∷ zs) ≡ Decimal
short-base c zs h =
    let all : List ℕ = c ∷ zs in
    ap (λ v. base-by v (begins_pair 48 111 all) (begins_pair 48 120 all)) (pair-none 48 98 c zs h refl refl refl refl) ∙
    ap (λ v. base-by false v (begins_pair 48 120 all)) (pair-none 48 111 c zs h refl refl refl refl) ∙
    ap (λ v. base-by false false v) (pair-none 48 120 c zs h refl refl refl refl)

no-opening : (base : Base) → prefix_length base ≡ 0 → base ≡ Decimal
no-opening Binary h = absurd (omega arith)
no-opening Octal h = absurd (omega arith)
no-opening Decimal h = refl
no-opening Hexadecimal h = absurd (omega arith)

base-kept : (n k : ℕ) (cs zs : List ℕ) → is_stopped zs ≡ true → begins_digit cs ≡ true → prefix_length (base_of cs) + k ≡ n → 0 < k →
    base_of (cut n cs zs) ≡ base_of cs
base-kept zero k cs zs h b e z = absurd (omega arith)
base-kept (suc zero) k [] zs h b e z = absurd (cc)
base-kept (suc zero) k (c ∷ cs) zs h b e z = short-base c zs h ∙ sym (no-opening (base_of (c ∷ cs)) (omega (arith, e, z)))
base-kept (suc (suc n)) k cs zs h b e z = long-base n cs zs

digit-cut : (n : ℕ) (cs zs : List ℕ) → 0 < n → begins_digit (cut n cs zs) ≡ begins_digit cs
digit-cut zero cs zs z = absurd (omega arith)
digit-cut (suc n) [] zs z = refl
digit-cut (suc n) (c ∷ cs) zs z = refl

prefixed-by : (n m : ℕ) (o : Option (ℕ × ℕ)) → length_of (behind_prefix n o) ≡ Some m → (r : ℕ × ℕ) × (o ≡ Some r) × (n + r.0 ≡ m)
prefixed-by n m None h = absurd (cc)
prefixed-by n m (Some r) h = (r, refl, cc)

abbrev pub number-if : List ℕ → Bool → Option (ℕ × ℕ)
number-if cs b = cond b (behind_prefix (prefix_length (base_of cs)) (number_behind (base_of cs) (drop (prefix_length (base_of cs)) cs))) None

-- a number that was read: what stands behind its prefix
pub record IsNumberRead (n : ℕ) (cs : List ℕ) : Type 0 where
  pub found : ℕ × ℕ
  pub behind : number_behind (base_of cs) (drop (prefix_length (base_of cs)) cs) ≡ Some found
  pub size : prefix_length (base_of cs) + found.0 ≡ n
  pub positive : 0 < found.0

pub number-read : (n : ℕ) (cs : List ℕ) → begins_digit cs ≡ true → number_length cs ≡ Some n → IsNumberRead n cs
number-read n cs b e =
    let base : Base = base_of cs in
    let rest : List ℕ = drop (prefix_length base) cs in
    let r = prefixed-by (prefix_length base) n (number_behind base rest) (ap (λ v. length_of (number-if cs v)) (sym b) ∙ e) in
    record { found = r.0; behind = r.1; size = r.2; positive = with-positive base (digits_length base rest) rest r.0 r.1 }

pub number-cut : (n : ℕ) (cs zs : List ℕ) → is_stopped zs ≡ true → begins_digit cs ≡ true → number_length cs ≡ Some n → number_length (cut n cs zs) ≡ Some n
number-cut n cs zs h b e =
    let base : Base = base_of cs in
    let skip : ℕ = prefix_length base in
    let r : IsNumberRead n cs = number-read n cs b e in
    let all : List ℕ = cut n cs zs in
    let same : base_of all ≡ base = base-kept n r.found.0 cs zs h b r.size r.positive in
    let begun : begins_digit all ≡ true = digit-cut n cs zs (omega (arith, r.size, r.positive)) ∙ b in
    let behind : drop skip all ≡ cut r.found.0 (drop skip cs) zs = drop-cut skip r.found.0 n cs zs r.size r.positive in
    ap (λ v. length_of (number-if all v)) begun ∙
    ap (λ v. length_of (behind_prefix (prefix_length v) (number_behind v (drop (prefix_length v) all)))) same ∙
    ap (λ l. length_of (behind_prefix skip (number_behind base l))) behind ∙
    ap (λ v. length_of (behind_prefix skip v)) (behind-cut base (drop skip cs) zs r.found h r.behind) ∙ ap (λ v. Some v) r.size
