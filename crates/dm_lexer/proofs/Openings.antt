-- Literals with quotes, by their openings.
use Rattle.std.specs.Prelude.{◌≡◌, ℕ, zero, suc, ◌+◌, ◌<◌, Bool, true, false, List, [], ◌∷◌, ◌++◌, take, drop, encode_utf8, refl, cond, nat_eq, nat_lt, Option, Some, None, MatchOption}
use Rattle.std.proofs.Common.{ap, ◌∙◌, sym, subst, arith}
use Rattle.std.proofs.lemmas.Bool.{and_parts}
use Rattle.std.proofs.lemmas.Bool.Decides.{nat_tests}
use Rattle.std.proofs.lemmas.Str.{len_utf8_ascii, IsUtf8-drop, drop_past_char}
use Rattle.std.specs.Char.{len_utf8}
use Rattle.std.specs.Str.{chars, IsUtf8}
use Rattle.dm_stream.specs.declared.tokens.LitKind.{LitKind}
use Rattle.dm_stream.specs.declared.tokens.LitKind.TheVariants as kind
use Rattle.dm_lexer.specs.declared.quotes.Segment.{Segment}
use Rattle.dm_lexer.specs.declared.quotes.Opening.{Opening}
use Rattle.dm_lexer.specs.TextFronts.{IsFront, run}
use Rattle.dm_lexer.specs.Words.{goes_on}
use Rattle.dm_lexer.specs.Quotes.{begins, begins_raw, is_hash, opens_raw, more, escape, is_lone, lone_segment, closed_by_tick, lone_closing, plain_opening, raw_opening, second_raw, byte_opening, c_opening, opening, body, whole_lines, in_whole_lines, quoted_length, char_length, begins_word, is_lifetime, lifetime_length, IsLoneSegment, IsSized}
use Rattle.dm_lexer.proofs.LexChars.{front-one}
use Rattle.dm_lexer.proofs.Segments.{AsciiFront, ascii-front, ascii-run, front-add, front-chars}
use Rattle.dm_lexer.proofs.Escapes.{Small, escape-small}

equal-is : (c d : ℕ) → nat_eq c d ≡ true → c ≡ d
equal-is c d h = grind (arith, nat_tests)

equal-ascii : (c d : ℕ) → nat_eq c d ≡ true → d < 128 → c < 128
equal-ascii c d h l = grind (arith, nat_tests)

-- what stands between `'`

lone-as : (in_bytes : Bool) (c : ℕ) (cs : List ℕ) (b : Bool) → nat_eq c 92 ≡ b →
    lone_segment in_bytes (c ∷ cs) ≡ cond {A = Option Segment} b (escape in_bytes cs) (cond {A = Option Segment} (is_lone in_bytes c) (Some record { size = 1; means = Some c }) None)
lone-as in_bytes c cs b h =
    ap (λ v. cond {A = Option Segment} v (escape in_bytes cs) (cond {A = Option Segment} (is_lone in_bytes c) (Some record { size = 1; means = Some c }) None)) h

pub lone-escape : (b : Bool) (text after : List ℕ) (c : ℕ) (r : Option Segment) → IsUtf8 text → chars text ≡ c ∷ chars after → c ≡ 92 →
    r ≡ escape b (chars after) → MatchOption r (lone_segment b (chars text) ≡ None) (λ p. IsLoneSegment b text p)
lone-escape b text after c None u k h e =
    ap (lone_segment b) k ∙ lone-as b c (chars after) true (ap (λ n. nat_eq n 92) h) ∙ sym e
lone-escape b text after c (Some p) u k h e =
    let whole : 92 ∷ chars after ≡ chars text = ap (λ d. d ∷ chars after) (sym h) ∙ sym k in
    let P : List ℕ → Type 0 = λ l. Small p.size l in
    let s : Small p.size (chars text) = subst P whole (escape-small b (chars after) p (sym e)) in
    record {
      count = p.size;
      found = ap (lone_segment b) k ∙ lone-as b c (chars after) true (ap (λ n. nat_eq n 92) h) ∙ sym e;
      front = ascii-front text p.size u s.1;
    }

pub lone-plain : (b : Bool) (text after : List ℕ) (c : ℕ) → IsUtf8 text → text ≡ encode_utf8 c ++ after → chars text ≡ c ∷ chars after →
    nat_eq c 92 ≡ false → is_lone b c ≡ true → IsLoneSegment b text record { size = len_utf8 c; means = Some c }
lone-plain b text after c u t k h i = record {
  count = 1;
  found =
      ap (lone_segment b) k ∙ lone-as b c (chars after) false h ∙
      ap (λ v. cond {A = Option Segment} v (Some record { size = 1; means = Some c }) None) i;
  front = front-one text after c u t k;
}

tick-as : (n : ℕ) (m : Option ℕ) (cs : List ℕ) (b : Bool) → begins 39 (drop n cs) ≡ b →
    closed_by_tick (Some record { size = n; means = m }) cs ≡ cond {A = Option ℕ} b (Some (n + 1)) None
tick-as n m cs b h = ap (λ v. cond {A = Option ℕ} v (Some (n + 1)) None) h

behind-lone : (text rest : List ℕ) (p : Segment) (b : Bool) (n : ℕ) → IsFront text p.size n → rest ≡ drop p.size text → begins 39 (chars rest) ≡ b →
    begins 39 (drop n (chars text)) ≡ b
behind-lone text rest p b n f e h = ap (begins 39) (sym f.rest_is) ∙ ap (λ l. begins 39 (chars l)) (sym e) ∙ h

pub lone-open : (b : Bool) (text rest : List ℕ) (p : Segment) → IsLoneSegment b text p → rest ≡ drop p.size text → begins 39 (chars rest) ≡ false →
    lone_closing b (chars text) ≡ None
lone-open b text rest p i e h =
    ap (λ v. closed_by_tick v (chars text)) i.found ∙ tick-as i.count p.means (chars text) false (behind-lone text rest p false i.count i.front e h)

tick-front : (d : ℕ) (cs : List ℕ) → begins d cs ≡ true → d < 128 → AsciiFront 1 cs
tick-front d [] h l = absurd (cc)
tick-front d (c ∷ cs) h l = (equal-ascii c d h l, tt)

pub lone-closed : (b : Bool) (text rest : List ℕ) (p : Segment) → IsUtf8 text → IsLoneSegment b text p → rest ≡ drop p.size text →
    begins 39 (chars rest) ≡ true → IsSized text (p.size + 1) (lone_closing b (chars text))
lone-closed b text rest p u i e h =
    let U : List ℕ → Type 0 = λ l. IsUtf8 l in
    let v : IsUtf8 rest = subst U (sym e) (IsUtf8-drop text p.size u i.front.boundary) in (
      i.count + 1,
      ap (λ w. closed_by_tick w (chars text)) i.found ∙ tick-as i.count p.means (chars text) true (behind-lone text rest p true i.count i.front e h),
      front-add text rest p.size i.count 1 1 u i.front e (ascii-front rest 1 v (tick-front 39 (chars rest) h (omega arith))),
    )

-- openings

some_opening : {o q : Opening} → Some o ≡ Some q → o ≡ q
some_opening h = cc

small-as : (o q : Opening) (cs : List ℕ) → Some o ≡ Some q → AsciiFront o.size cs → AsciiFront q.size cs
small-as o q cs e h = let P : ℕ → Type 0 = λ n. AsciiFront n cs in subst P (ap (λ (v : Opening). v.size) (some_opening e)) h

ascii-then : (n d : ℕ) (cs : List ℕ) → AsciiFront n cs → begins d (drop n cs) ≡ true → d < 128 → AsciiFront (suc n) cs
ascii-then zero d cs h b l = tick-front d cs b l
ascii-then (suc n) d [] h b l = absurd h
ascii-then (suc n) d (c ∷ cs) h b l = (h.0, ascii-then n d cs h.1 b l)

hash-ascii : (c : ℕ) → is_hash c ≡ true → c < 128
hash-ascii c h = grind (arith, nat_tests)

opens-front : (cs : List ℕ) → opens_raw cs ≡ true → AsciiFront (suc (run is_hash cs)) cs
opens-front cs h =
    ascii-then (run is_hash cs) 34 cs (ascii-run is_hash cs hash-ascii)
    (and_parts (nat_lt (run is_hash cs) 256) (begins 34 (drop (run is_hash cs) cs)) h).1 (omega arith)

raw1-if : (k : LitKind) (c : ℕ) (cs : List ℕ) (b : Bool) (q : Opening) → c < 128 → opens_raw cs ≡ b →
    cond {A = Option Opening} b (Some record { kind = k; hashes = run is_hash cs; size = run is_hash cs + 1 + 1 }) None ≡ Some q → AsciiFront q.size (c ∷ cs)
raw1-if k c cs true q l h e =
    let P : ℕ → Type 0 = λ n. AsciiFront n (c ∷ cs) in
    let size : suc (suc (run is_hash cs)) ≡ run is_hash cs + 1 + 1 = omega arith in
    small-as record { kind = k; hashes = run is_hash cs; size = run is_hash cs + 1 + 1 } q (c ∷ cs) e (subst P size (l, opens-front cs h))
raw1-if k c cs false q l h e = absurd (cc)

raw2-if : (k : LitKind) (c d : ℕ) (cs : List ℕ) (b : Bool) (q : Opening) → c < 128 → d < 128 → opens_raw cs ≡ b →
    cond {A = Option Opening} b (Some record { kind = k; hashes = run is_hash cs; size = run is_hash cs + 2 + 1 }) None ≡ Some q → AsciiFront q.size (c ∷ d ∷ cs)
raw2-if k c d cs true q l m h e =
    let P : ℕ → Type 0 = λ n. AsciiFront n (c ∷ d ∷ cs) in
    let size : suc (suc (suc (run is_hash cs))) ≡ run is_hash cs + 2 + 1 = omega arith in
    small-as record { kind = k; hashes = run is_hash cs; size = run is_hash cs + 2 + 1 } q (c ∷ d ∷ cs) e (subst P size (l, (m, opens-front cs h)))
raw2-if k c d cs false q l m h e = absurd (cc)

second-if : (k : LitKind) (c d : ℕ) (cs : List ℕ) (b : Bool) (q : Opening) → c < 128 → nat_eq d 114 ≡ b →
    cond {A = Option Opening} b (raw_opening k 2 cs) None ≡ Some q → AsciiFront q.size (c ∷ d ∷ cs)
second-if k c d cs true q l h e = raw2-if k c d cs (opens_raw cs) q l (equal-ascii d 114 h (omega arith)) refl e
second-if k c d cs false q l h e = absurd (cc)

second-front : (k : LitKind) (c : ℕ) (cs : List ℕ) (q : Opening) → c < 128 → second_raw k cs ≡ Some q → AsciiFront q.size (c ∷ cs)
second-front k c [] q l e = absurd (cc)
second-front k c (d ∷ cs) q l e = second-if k c d cs (nat_eq d 114) q l refl e

two-front : (k : LitKind) (c d : ℕ) (cs : List ℕ) (q : Opening) → c < 128 → begins d cs ≡ true → d < 128 → Some (plain_opening k 2) ≡ Some q →
    AsciiFront q.size (c ∷ cs)
two-front k c d cs q l h m e = small-as (plain_opening k 2) q (c ∷ cs) e (l, tick-front d cs h m)

byte-if : (c : ℕ) (cs : List ℕ) (x y : Bool) (q : Opening) → c < 128 → begins 34 cs ≡ x → begins 39 cs ≡ y →
    cond {A = Option Opening} x (Some (plain_opening kind.ByteStr 2)) (cond {A = Option Opening} y (Some (plain_opening kind.Byte 2)) (second_raw kind.RawByteStr cs)) ≡ Some q →
    AsciiFront q.size (c ∷ cs)
byte-if c cs true y q l h i e = two-front kind.ByteStr c 34 cs q l h (omega arith) e
byte-if c cs false true q l h i e = two-front kind.Byte c 39 cs q l i (omega arith) e
byte-if c cs false false q l h i e = second-front kind.RawByteStr c cs q l e

c-if : (c : ℕ) (cs : List ℕ) (x : Bool) (q : Opening) → c < 128 → begins 34 cs ≡ x →
    cond {A = Option Opening} x (Some (plain_opening kind.CStr 2)) (second_raw kind.RawCStr cs) ≡ Some q → AsciiFront q.size (c ∷ cs)
c-if c cs true q l h e = two-front kind.CStr c 34 cs q l h (omega arith) e
c-if c cs false q l h e = second-front kind.RawCStr c cs q l e

opening-if : (c : ℕ) (cs : List ℕ) (x y z w : Bool) (q : Opening) → nat_eq c 34 ≡ x → nat_eq c 98 ≡ y → nat_eq c 99 ≡ z → nat_eq c 114 ≡ w →
    cond {A = Option Opening} x (Some (plain_opening kind.Str 1))
    (cond {A = Option Opening} y (byte_opening cs) (cond {A = Option Opening} z (c_opening cs) (cond {A = Option Opening} w (raw_opening kind.RawStr 1 cs) None))) ≡ Some q →
    AsciiFront q.size (c ∷ cs)
opening-if c cs true y z w q h i j k e = small-as (plain_opening kind.Str 1) q (c ∷ cs) e (equal-ascii c 34 h (omega arith), tt)
opening-if c cs false true z w q h i j k e = byte-if c cs (begins 34 cs) (begins 39 cs) q (equal-ascii c 98 i (omega arith)) refl refl e
opening-if c cs false false true w q h i j k e = c-if c cs (begins 34 cs) q (equal-ascii c 99 j (omega arith)) refl e
opening-if c cs false false false true q h i j k e = raw1-if kind.RawStr c cs (opens_raw cs) q (equal-ascii c 114 k (omega arith)) refl e
opening-if c cs false false false false q h i j k e = absurd (cc)

opening-ascii : (cs : List ℕ) (q : Opening) → opening cs ≡ Some q → AsciiFront q.size cs
opening-ascii [] q h = absurd (cc)
opening-ascii (c ∷ cs) q h = opening-if c cs (nat_eq c 34) (nat_eq c 98) (nat_eq c 99) (nat_eq c 114) q refl refl refl refl h

pub opening-front : (text : List ℕ) (q : Opening) → IsUtf8 text → opening (chars text) ≡ Some q → IsFront text q.size q.size
opening-front text q u h = ascii-front text q.size u (opening-ascii (chars text) q h)

-- the whole literal

body-behind : (text rest : List ℕ) (o : Opening) → IsFront text o.size o.size → rest ≡ drop o.size text →
    body o.kind o.hashes (drop o.size (chars text)) ≡ body o.kind o.hashes (chars rest)
body-behind text rest o f e = ap (body o.kind o.hashes) (sym f.rest_is) ∙ ap (λ l. body o.kind o.hashes (chars l)) (sym e)

pub quoted-none : (text rest : List ℕ) (o : Opening) → IsUtf8 text → opening (chars text) ≡ Some o → rest ≡ drop o.size text →
    body o.kind o.hashes (chars rest) ≡ None → quoted_length o (chars text) ≡ None
quoted-none text rest o u h e i =
    ap (λ v. in_whole_lines (chars text) (more o.size v)) (body-behind text rest o (opening-front text o u h) e ∙ i)

pub quoted-front : (text rest : List ℕ) (o : Opening) (size : ℕ) → IsUtf8 text → (h : opening (chars text) ≡ Some o) → rest ≡ drop o.size text →
    (s : IsSized rest size (body o.kind o.hashes (chars rest))) → IsFront text (o.size + size) (o.size + s.0)
quoted-front text rest o size u h e s = front-add text rest o.size o.size size s.0 u (opening-front text o u h) e s.2

lines-as : (cs : List ℕ) (n : ℕ) (b : Bool) → whole_lines (take n cs) ≡ b → in_whole_lines cs (Some n) ≡ cond {A = Option ℕ} b (Some n) None
lines-as cs n b h = ap (λ v. cond {A = Option ℕ} v (Some n) None) h

quoted-as : (text rest front : List ℕ) (o : Opening) (size : ℕ) (b : Bool) → IsUtf8 text → (h : opening (chars text) ≡ Some o) → rest ≡ drop o.size text →
    (s : IsSized rest size (body o.kind o.hashes (chars rest))) → front ≡ take (o.size + size) text → whole_lines (chars front) ≡ b →
    quoted_length o (chars text) ≡ cond {A = Option ℕ} b (Some (o.size + s.0)) None
quoted-as text rest front o size b u h e s t w =
    let f : IsFront text (o.size + size) (o.size + s.0) = quoted-front text rest o size u h e s in
    let l : whole_lines (take (o.size + s.0) (chars text)) ≡ b =
    ap whole_lines (front-chars text (o.size + size) (o.size + s.0) u f) ∙ ap (λ v. whole_lines (chars v)) (sym t) ∙ w in
    ap (λ v. in_whole_lines (chars text) (more o.size v)) (body-behind text rest o (opening-front text o u h) e ∙ s.1) ∙
    lines-as (chars text) (o.size + s.0) b l

pub quoted-broken : (text rest front : List ℕ) (o : Opening) (size : ℕ) → IsUtf8 text → (h : opening (chars text) ≡ Some o) → rest ≡ drop o.size text →
    (s : IsSized rest size (body o.kind o.hashes (chars rest))) → front ≡ take (o.size + size) text → whole_lines (chars front) ≡ false →
    quoted_length o (chars text) ≡ None
quoted-broken text rest front o size u h e s t w = quoted-as text rest front o size false u h e s t w

pub quoted-whole : (text rest front : List ℕ) (o : Opening) (size : ℕ) → IsUtf8 text → (h : opening (chars text) ≡ Some o) → rest ≡ drop o.size text →
    (s : IsSized rest size (body o.kind o.hashes (chars rest))) → front ≡ take (o.size + size) text → whole_lines (chars front) ≡ true →
    IsSized text (o.size + size) (quoted_length o (chars text))
quoted-whole text rest front o size u h e s t w =
    (o.size + s.0, quoted-as text rest front o size true u h e s t w, quoted-front text rest o size u h e s)

-- a character

-- behind a `'`
pub behind-tick : (text after : List ℕ) (c : ℕ) → text ≡ encode_utf8 c ++ after → chars text ≡ c ∷ chars after → begins 39 (chars text) ≡ true →
    after ≡ drop 1 text
behind-tick text after c t k h =
    let P : List ℕ → Type 0 = λ l. AsciiFront 1 l in
    let a : AsciiFront 1 (c ∷ chars after) = subst P k (tick-front 39 (chars text) h (omega arith)) in
    let z : 0 + len_utf8 c ≡ 1 = omega (arith, len_utf8_ascii c a.0) in
    sym (drop_past_char text after 0 c t) ∙ ap (λ i. drop i text) z

pub tick-one : (text : List ℕ) → IsUtf8 text → begins 39 (chars text) ≡ true → IsFront text 1 1
tick-one text u h = ascii-front text 1 u (tick-front 39 (chars text) h (omega arith))

pub char-some : (text after : List ℕ) (c size : ℕ) → IsUtf8 text → text ≡ encode_utf8 c ++ after → chars text ≡ c ∷ chars after → begins 39 (chars text) ≡ true →
    IsSized after size (lone_closing false (chars after)) → IsSized text (1 + size) (char_length (chars text))
char-some text after c size u t k h s =
    (1 + s.0, ap char_length k ∙ ap (more 1) s.1, front-add text after 1 1 size s.0 u (tick-one text u h) (behind-tick text after c t k h) s.2)

-- a lifetime

lifetime-as : (c : ℕ) (cs : List ℕ) (b : Bool) → is_lifetime cs ≡ b → lifetime_length (c ∷ cs) ≡ cond {A = Option ℕ} b (Some (suc (run goes_on cs))) None
lifetime-as c cs b h = ap (λ v. cond {A = Option ℕ} v (Some (suc (run goes_on cs))) None) h

pub lifetime-none : (text after : List ℕ) (c : ℕ) → chars text ≡ c ∷ chars after → is_lifetime (chars after) ≡ false → lifetime_length (chars text) ≡ None
lifetime-none text after c k h = ap lifetime_length k ∙ lifetime-as c (chars after) false h

lifetime-if : (x y z v : Bool) → x ≡ v → cond x (cond y false (cond z false true)) false ≡ cond v (cond y false (cond z false true)) false
lifetime-if x y z v h = ap (λ b. cond b (cond y false (cond z false true)) false) h

pub no-word : (cs : List ℕ) → begins_word cs ≡ false → is_lifetime cs ≡ false
no-word cs h = lifetime-if (begins_word cs) (begins_raw cs) (begins 39 (drop (run goes_on cs) cs)) false h

pub raw-word : (cs : List ℕ) → begins_word cs ≡ true → begins_raw cs ≡ true → is_lifetime cs ≡ false
raw-word cs h i =
    lifetime-if (begins_word cs) (begins_raw cs) (begins 39 (drop (run goes_on cs) cs)) true h ∙
    ap (λ b. cond b false (cond (begins 39 (drop (run goes_on cs) cs)) false true)) i

ticked-as : (cs : List ℕ) (b : Bool) → begins_word cs ≡ true → begins_raw cs ≡ false → begins 39 (drop (run goes_on cs) cs) ≡ b → is_lifetime cs ≡ cond b false true
ticked-as cs b h i j =
    lifetime-if (begins_word cs) (begins_raw cs) (begins 39 (drop (run goes_on cs) cs)) true h ∙
    ap (λ v. cond v false (cond (begins 39 (drop (run goes_on cs) cs)) false true)) i ∙ ap (λ v. cond v false true) j

behind-word : (after rest : List ℕ) (size : ℕ) (b : Bool) → IsFront after size (run goes_on (chars after)) → rest ≡ drop size after → begins 39 (chars rest) ≡ b →
    begins 39 (drop (run goes_on (chars after)) (chars after)) ≡ b
behind-word after rest size b f e h = ap (begins 39) (sym f.rest_is) ∙ ap (λ l. begins 39 (chars l)) (sym e) ∙ h

pub lifetime-ticked : (text after rest : List ℕ) (c size : ℕ) → chars text ≡ c ∷ chars after → begins_word (chars after) ≡ true → begins_raw (chars after) ≡ false →
    IsFront after size (run goes_on (chars after)) → rest ≡ drop size after → begins 39 (chars rest) ≡ true → lifetime_length (chars text) ≡ None
lifetime-ticked text after rest c size k h i f e t =
    lifetime-none text after c k (ticked-as (chars after) true h i (behind-word after rest size true f e t))

pub lifetime-some : (text after rest : List ℕ) (c size : ℕ) → IsUtf8 text → text ≡ encode_utf8 c ++ after → chars text ≡ c ∷ chars after →
    begins 39 (chars text) ≡ true → begins_word (chars after) ≡ true → begins_raw (chars after) ≡ false →
    IsFront after size (run goes_on (chars after)) → rest ≡ drop size after → begins 39 (chars rest) ≡ false → IsSized text (1 + size) (lifetime_length (chars text))
lifetime-some text after rest c size u t k q h i f e n =
    let count : ℕ = run goes_on (chars after) in
    let one : 1 + count ≡ suc count = omega arith in
    let P : ℕ → Type 0 = λ v. IsFront text (1 + size) v in (
      suc count,
      ap lifetime_length k ∙ lifetime-as c (chars after) true (ticked-as (chars after) false h i (behind-word after rest size false f e n)),
      subst P one (front-add text after 1 1 size count u (tick-one text u q) (behind-tick text after c t k q) f),
    )
