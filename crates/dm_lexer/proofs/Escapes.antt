-- Escapes are ASCII: their characters are their bytes.
use Rattle.std.specs.Prelude.{◌≡◌, ℕ, zero, suc, ◌+◌, ◌*◌, ◌<◌, Bool, true, false, List, [], ◌∷◌, ◌++◌, length, drop, encode_utf8, refl, cond, nat_lt, nat_eq, ◌&&◌, Option, Some, None, MatchOption}
use Rattle.std.proofs.Common.{ap, ◌∙◌, sym, subst, arith}
use Rattle.std.proofs.lemmas.Bool.{and_parts}
use Rattle.std.proofs.lemmas.Bool.Decides.{nat_tests}
use Rattle.std.proofs.lemmas.Str.{len_utf8_ascii, len_utf8_bounds}
use Rattle.std.specs.Char.{digit_value, len_utf8}
use Rattle.std.specs.Str.{chars, IsUtf8}
use Rattle.std.specs.Str.Parse.{digits_value}
use Rattle.dm_lexer.specs.declared.quotes.Segment.{Segment}
use Rattle.dm_lexer.specs.declared.quotes.Inside.{Inside}
use Rattle.dm_lexer.specs.declared.quotes.Inside.TheVariants.{Anything}
use Rattle.dm_lexer.specs.TextFronts.{run, IsFront}
use Rattle.dm_lexer.specs.Quotes.{begins, is_hex, is_code, is_gap, code_digits, is_code_point, begins_hex, is_scalar, short_meaning, short_segment, hex_segment, unicode_segment, escape, line_end, quoted_escape, any_escape, behind_backslash, inside_of, is_plain, segment, IsSegment}
use Rattle.dm_lexer.proofs.LexChars.{front-one}
use Rattle.dm_lexer.proofs.Segments.{AsciiFront, ascii-front, ascii-run, front-char}

some_segment : {p q : Segment} → Some p ≡ Some q → p ≡ q
some_segment h = cc

-- n ASCII characters, and at least one
abbrev pub Small : ℕ → List ℕ → Type 0
Small n cs = (0 < n) × AsciiFront n cs

small-as : (p q : Segment) (cs : List ℕ) → Some p ≡ Some q → Small p.size cs → Small q.size cs
small-as p q cs e h = let P : ℕ → Type 0 = λ n. Small n cs in subst P (ap (λ (v : Segment). v.size) (some_segment e)) h

ascii-then : (n d : ℕ) (cs : List ℕ) → AsciiFront n cs → begins d (drop n cs) ≡ true → d < 128 → AsciiFront (suc n) cs
ascii-then zero d [] h b l = absurd (cc)
ascii-then zero d (c ∷ cs) h b l = (grind (arith, nat_tests), tt)
ascii-then (suc n) d [] h b l = absurd h
ascii-then (suc n) d (c ∷ cs) h b l = (h.0, ascii-then n d cs h.1 b l)

hex-ascii : (c : ℕ) → is_hex c ≡ true → c < 128
hex-ascii c h = grind (arith, nat_tests)

code-ascii : (c : ℕ) → is_code c ≡ true → c < 128
code-ascii c h = grind (arith, nat_tests)

gap-ascii : (c : ℕ) → is_gap c ≡ true → c < 128
gap-ascii c h = grind (arith, nat_tests)

short-ascii : (c m : ℕ) → short_meaning c ≡ Some m → c < 128
short-ascii c m h = grind (arith, nat_tests)

equal-ascii : (c d : ℕ) (b : Bool) → nat_eq c d ≡ true → d < 128 → c < 128
equal-ascii c d b h l = grind (arith, nat_tests)

-- behind `\x`
hex-on : (c d e : ℕ) (cs : List ℕ) (x y : Bool) (z : Bool) (p q : Segment) → c < 128 → ((x && y) && z) ≡ true → (x ≡ true → d < 128) → (y ≡ true → e < 128) →
    p.size ≡ 4 → Some p ≡ Some q → Small q.size (92 ∷ c ∷ d ∷ e ∷ cs)
hex-on c d e cs x y z p q l h f g s k =
    let xy : (x && y) ≡ true = (and_parts (x && y) z h).0 in
    let four : Small 4 (92 ∷ c ∷ d ∷ e ∷ cs) = (omega arith, (omega arith, (l, (f (and_parts x y xy).0, (g (and_parts x y xy).1, tt))))) in
    let P : ℕ → Type 0 = λ n. Small n (92 ∷ c ∷ d ∷ e ∷ cs) in
    small-as p q (92 ∷ c ∷ d ∷ e ∷ cs) k (subst P (sym s) four)

hex-if : (c d e limit : ℕ) (cs : List ℕ) (b : Bool) (q : Segment) → c < 128 → (is_hex d && is_hex e && nat_lt (digit_value d * 16 + digit_value e) limit) ≡ b →
    cond {A = Option Segment} b (Some record { size = 4; means = Some (digit_value d * 16 + digit_value e) }) None ≡ Some q → Small q.size (92 ∷ c ∷ d ∷ e ∷ cs)
hex-if c d e limit cs true q l h k =
    hex-on c d e cs (is_hex d) (is_hex e) (nat_lt (digit_value d * 16 + digit_value e) limit) record { size = 4; means = Some (digit_value d * 16 + digit_value e) } q l h (hex-ascii d)
    (hex-ascii e) refl k
hex-if c d e limit cs false q l h k = absurd (cc)

hex-small : (c limit : ℕ) (cs : List ℕ) (q : Segment) → c < 128 → hex_segment limit cs ≡ Some q → Small q.size (92 ∷ c ∷ cs)
hex-small c limit [] q l h = absurd (cc)
hex-small c limit (d ∷ []) q l h = absurd (cc)
hex-small c limit (d ∷ e ∷ cs) q l h = hex-if c d e limit cs (is_hex d && is_hex e && nat_lt (digit_value d * 16 + digit_value e) limit) q l refl h

-- behind `\u`
point-ascii : (cs : List ℕ) → is_code_point cs ≡ true → AsciiFront (suc (run is_code cs)) cs
point-ascii cs h =
    let a = (and_parts (begins_hex cs && begins 125 (drop (run is_code cs) cs) && nat_lt (length (code_digits cs)) 7) (is_scalar (digits_value 16 (code_digits cs))) h).0 in
    let b = (and_parts (begins_hex cs && begins 125 (drop (run is_code cs) cs)) (nat_lt (length (code_digits cs)) 7) a).0 in
    let d = (and_parts (begins_hex cs) (begins 125 (drop (run is_code cs) cs)) b).1 in
    ascii-then (run is_code cs) 125 cs (ascii-run is_code cs code-ascii) d (omega arith)

four-more : (n : ℕ) → suc (suc (suc (suc n))) ≡ n + 4
four-more n = omega arith

unicode-if : (c d : ℕ) (cs : List ℕ) (b : Bool) (q : Segment) → c < 128 → (nat_eq d 123 && is_code_point cs) ≡ b →
    cond {A = Option Segment} b (Some record { size = run is_code cs + 4; means = Some (digits_value 16 (code_digits cs)) }) None ≡ Some q → Small q.size (92 ∷ c ∷ d ∷ cs)
unicode-if c d cs true q l h k =
    let e = (and_parts (nat_eq d 123) (is_code_point cs) h).0 in
    let i = (and_parts (nat_eq d 123) (is_code_point cs) h).1 in
    let P : ℕ → Type 0 = λ n. Small n (92 ∷ c ∷ d ∷ cs) in
    let s : Small (suc (suc (suc (suc (run is_code cs))))) (92 ∷ c ∷ d ∷ cs) = (omega arith, (omega arith, (l, (equal-ascii d 123 true e (omega arith), point-ascii cs i)))) in
    small-as record { size = run is_code cs + 4; means = Some (digits_value 16 (code_digits cs)) } q (92 ∷ c ∷ d ∷ cs) k (subst P (four-more (run is_code cs)) s)
unicode-if c d cs false q l h k = absurd (cc)

unicode-small : (c : ℕ) (cs : List ℕ) (q : Segment) → c < 128 → unicode_segment cs ≡ Some q → Small q.size (92 ∷ c ∷ cs)
unicode-small c [] q l h = absurd (cc)
unicode-small c (d ∷ cs) q l h = unicode-if c d cs (nat_eq d 123 && is_code_point cs) q l refl h

short-small : (c : ℕ) (cs : List ℕ) (m : Option ℕ) (q : Segment) → short_meaning c ≡ m → short_segment m ≡ Some q → Small q.size (92 ∷ c ∷ cs)
short-small c cs None q h k = absurd (cc)
short-small c cs (Some m) q h k =
    small-as record { size = 2; means = Some m } q (92 ∷ c ∷ cs) k (omega arith, (omega arith, (short-ascii c m h, tt)))

u-small : (c : ℕ) (cs : List ℕ) (b : Bool) (q : Segment) → c < 128 → cond b None (unicode_segment cs) ≡ Some q → Small q.size (92 ∷ c ∷ cs)
u-small c cs true q l h = absurd (cc)
u-small c cs false q l h = unicode-small c cs q l h

escape-if : (c : ℕ) (cs : List ℕ) (b x u : Bool) (q : Segment) → nat_eq c 120 ≡ x → nat_eq c 117 ≡ u →
    cond x (hex_segment (cond b 256 128) cs) (cond u (cond b None (unicode_segment cs)) (short_segment (short_meaning c))) ≡ Some q → Small q.size (92 ∷ c ∷ cs)
escape-if c cs b true u q h i k = hex-small c (cond b 256 128) cs q (equal-ascii c 120 true h (omega arith)) k
escape-if c cs b false true q h i k = u-small c cs b q (equal-ascii c 117 true i (omega arith)) k
escape-if c cs b false false q h i k = short-small c cs (short_meaning c) q refl k

pub escape-small : (b : Bool) (cs : List ℕ) (q : Segment) → escape b cs ≡ Some q → Small q.size (92 ∷ cs)
escape-small b [] q h = absurd (cc)
escape-small b (c ∷ cs) q h = escape-if c cs b (nat_eq c 120) (nat_eq c 117) q refl refl h

quoted-if : (cs : List ℕ) (b x : Bool) (q : Segment) → cond x (Some record { size = run is_gap cs + 1; means = None }) (escape b cs) ≡ Some q → Small q.size (92 ∷ cs)
quoted-if cs b true q h =
    let P : ℕ → Type 0 = λ n. Small n (92 ∷ cs) in
    let one : suc (run is_gap cs) ≡ run is_gap cs + 1 = omega arith in
    let s : Small (suc (run is_gap cs)) (92 ∷ cs) = (omega arith, (omega arith, ascii-run is_gap cs gap-ascii)) in
    small-as record { size = run is_gap cs + 1; means = None } q (92 ∷ cs) h (subst P one s)
quoted-if cs b false q h = escape-small b cs q h

pub quoted-small : (b : Bool) (cs : List ℕ) (q : Segment) → quoted_escape b cs ≡ Some q → Small q.size (92 ∷ cs)
quoted-small b cs q h = quoted-if cs b (nat_lt 0 (line_end cs)) q h

-- segments of a string

begins-char : (c d : ℕ) (cs l : List ℕ) → l ≡ c ∷ cs → begins d l ≡ true → nat_eq c d ≡ true
begins-char c d cs l e h = ap (begins d) (sym e) ∙ h

begins-not : (c d : ℕ) (cs l : List ℕ) (b : Bool) → l ≡ c ∷ cs → begins d l ≡ b → nat_eq c d ≡ b
begins-not c d cs l b e h = ap (begins d) (sym e) ∙ h

pub segment-escape : (k : Inside) (c : ℕ) (cs : List ℕ) → nat_eq c 92 ≡ true → segment k (c ∷ cs) ≡ behind_backslash k cs
segment-escape k c cs h = ap (λ v. cond {A = Option Segment} v (behind_backslash k cs) (cond (is_plain k c) (Some record { size = 1; means = Some c }) None)) h

pub segment-plain : (k : Inside) (c : ℕ) (cs : List ℕ) (b : Bool) → nat_eq c 92 ≡ false → is_plain k c ≡ b →
    segment k (c ∷ cs) ≡ cond {A = Option Segment} b (Some record { size = 1; means = Some c }) None
segment-plain k c cs b h i =
    ap (λ v. cond {A = Option Segment} v (behind_backslash k cs) (cond (is_plain k c) (Some record { size = 1; means = Some c }) None)) h ∙
    ap (λ v. cond {A = Option Segment} v (Some record { size = 1; means = Some c }) None) i

behind_backslash-is : (b : Bool) (cs : List ℕ) → behind_backslash (inside_of b) cs ≡ quoted_escape b cs
behind_backslash-is true cs = refl
behind_backslash-is false cs = refl

equal-is : (c d : ℕ) → nat_eq c d ≡ true → c ≡ d
equal-is c d h = grind (arith, nat_tests)

pub escaped-segment : (b : Bool) (text after : List ℕ) (c : ℕ) (r : Option Segment) → IsUtf8 text → chars text ≡ c ∷ chars after → begins 92 (chars text) ≡ true →
    r ≡ quoted_escape b (chars after) → MatchOption r (segment (inside_of b) (chars text) ≡ None) (λ p. IsSegment (inside_of b) text p)
escaped-segment b text after c None u k h e =
    ap (segment (inside_of b)) k ∙ segment-escape (inside_of b) c (chars after) (begins-char c 92 (chars after) (chars text) k h) ∙ behind_backslash-is b (chars after) ∙ sym e
escaped-segment b text after c (Some p) u k h e =
    let is : nat_eq c 92 ≡ true = begins-char c 92 (chars after) (chars text) k h in
    let whole : 92 ∷ chars after ≡ chars text = ap (λ d. d ∷ chars after) (sym (equal-is c 92 is)) ∙ sym k in
    let P : List ℕ → Type 0 = λ l. Small p.size l in
    let s : Small p.size (chars text) = subst P whole (quoted-small b (chars after) p (sym e)) in
    record {
      count = p.size;
      found = ap (segment (inside_of b)) k ∙ segment-escape (inside_of b) c (chars after) is ∙ behind_backslash-is b (chars after) ∙ sym e;
      front = ascii-front text p.size u s.1;
      some = s.0;
      positive = s.0;
    }

pub any-segment : (text after : List ℕ) (c d : ℕ) (ds : List ℕ) → IsUtf8 text → text ≡ encode_utf8 c ++ after → chars text ≡ c ∷ chars after →
    begins 92 (chars text) ≡ true → chars after ≡ d ∷ ds → IsSegment Anything text record { size = 1 + len_utf8 d; means = None }
any-segment text after c d ds u t k h e =
    let is : nat_eq c 92 ≡ true = begins-char c 92 (chars after) (chars text) k h in
    let P : ℕ → Type 0 = λ i. IsFront text i 1 in
    let one : IsFront text 1 1 = subst P (len_utf8_ascii c (equal-ascii c 92 true is (omega arith))) (front-one text after c u t k) in
    record {
      count = 2;
      found = ap (segment Anything) k ∙ segment-escape Anything c (chars after) is ∙ ap any_escape e;
      front = front-char text ds 1 1 d u one (ap (drop 1) k ∙ e);
      some = omega arith;
      positive = omega arith;
    }

pub plain-segment : (k : Inside) (text after : List ℕ) (c : ℕ) → IsUtf8 text → text ≡ encode_utf8 c ++ after → chars text ≡ c ∷ chars after →
    begins 92 (chars text) ≡ false → is_plain k c ≡ true → IsSegment k text record { size = len_utf8 c; means = Some c }
plain-segment k text after c u t e h i =
    let not : nat_eq c 92 ≡ false = begins-not c 92 (chars after) (chars text) false e h in
    record {
      count = 1;
      found = ap (segment k) e ∙ segment-plain k c (chars after) true not i;
      front = front-one text after c u t e;
      some = omega arith;
      positive = omega (arith, len_utf8_bounds c);
    }
