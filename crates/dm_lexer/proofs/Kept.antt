-- What stands behind a literal does not change how it is read: where other characters follow the first ones, these are found again.
use Rattle.std.specs.Prelude.{◌≡◌, ℕ, zero, suc, ◌+◌, ◌-◌, ◌*◌, ◌<◌, ◌≤◌, Bool, true, false, List, [], ◌∷◌, ◌++◌, length, take, drop, refl, cond, nat_eq, nat_lt, ◌&&◌, Option, Some, None}
use Rattle.std.proofs.Common.{ap, ◌∙◌, sym, subst, arith}
use Rattle.std.proofs.lemmas.Bool.Decides.{nat_tests}
use Rattle.std.specs.Char.{digit_value}
use Rattle.std.specs.List.{filter}
use Rattle.std.specs.Str.Parse.{digits_value}
use Rattle.dm_lexer.specs.declared.quotes.Segment.{Segment}
use Rattle.dm_lexer.specs.declared.quotes.Inside.{Inside}
use Rattle.dm_lexer.specs.declared.quotes.Inside.TheVariants.{Characters, Bytes, Anything}
use Rattle.dm_lexer.specs.TextFronts.{run}
use Rattle.dm_lexer.specs.Quotes.{begins, is_hex, is_code, is_gap, is_hash, code_digits, is_code_point, begins_hex, is_scalar, short_meaning, short_segment, hex_segment, unicode_segment, escape, line_end, quoted_escape, any_escape, behind_backslash, is_plain, segment, one_more, after_segment, string_closing, closes_raw, raw_closing, is_lone, lone_segment, closed_by_tick, lone_closing}

-- the first m characters, and then others; where there are fewer than m, nothing behind them
abbrev pub cut : ℕ → List ℕ → List ℕ → List ℕ
cut zero cs zs = zs
cut (suc m) [] zs = []
cut (suc m) (c ∷ cs) zs = c ∷ cut m cs zs

pub cut-nothing : (m : ℕ) (cs : List ℕ) → cut m cs [] ≡ take m cs
cut-nothing zero cs = refl
cut-nothing (suc m) [] = refl
cut-nothing (suc m) (c ∷ cs) = ap (λ l. c ∷ l) (cut-nothing m cs)

pub cut-all : (m : ℕ) (cs zs : List ℕ) → m ≡ length cs → cut m cs zs ≡ cs ++ zs
cut-all zero [] zs h = refl
cut-all zero (c ∷ cs) zs h = absurd (omega arith)
cut-all (suc m) [] zs h = absurd (omega arith)
cut-all (suc m) (c ∷ cs) zs h = ap (λ l. c ∷ l) (cut-all m cs zs (omega arith))

pub take-cut : (n m : ℕ) (cs zs : List ℕ) → n ≤ m → take n (cut m cs zs) ≡ take n cs
take-cut zero m cs zs l = refl
take-cut (suc n) zero cs zs l = absurd (omega arith)
take-cut (suc n) (suc m) [] zs l = refl
take-cut (suc n) (suc m) (c ∷ cs) zs l = ap (λ r. c ∷ r) (take-cut n m cs zs (omega arith))

pub drop-cut : (n k m : ℕ) (cs zs : List ℕ) → n + k ≡ m → 0 < k → drop n (cut m cs zs) ≡ cut k (drop n cs) zs
drop-cut zero k m cs zs e z = ap (λ i. cut i cs zs) (let same : m ≡ k = omega arith in same)
drop-cut (suc n) k zero cs zs e z = absurd (omega arith)
drop-cut (suc n) zero (suc m) cs zs e z = absurd (omega arith)
drop-cut (suc n) (suc k) (suc m) [] zs e z = refl
drop-cut (suc n) (suc k) (suc m) (c ∷ cs) zs e z = drop-cut n (suc k) m cs zs (omega arith) z

-- runs

run-cond : (p : ℕ → Bool) (c m : ℕ) (cs zs : List ℕ) (b : Bool) → (run p cs < m → run p (cut m cs zs) ≡ run p cs) → cond b (suc (run p cs)) 0 < suc m →
    cond b (suc (run p (cut m cs zs))) 0 ≡ cond b (suc (run p cs)) 0
run-cond p c m cs zs true h l = ap (λ n. suc n) (h (omega arith))
run-cond p c m cs zs false h l = refl

-- a run that ends among the first characters
pub run-cut : (p : ℕ → Bool) (m : ℕ) (cs zs : List ℕ) → run p cs < m → run p (cut m cs zs) ≡ run p cs
run-cut p zero cs zs l = absurd (omega arith)
run-cut p (suc m) [] zs l = refl
run-cut p (suc m) (c ∷ cs) zs l = run-cond p c m cs zs (p c) (run-cut p m cs zs) l

full-cond : (p : ℕ → Bool) (m : ℕ) (cs zs : List ℕ) (b : Bool) → (m ≤ run p cs → m ≤ run p (cut m cs zs)) → suc m ≤ cond b (suc (run p cs)) 0 →
    suc m ≤ cond b (suc (run p (cut m cs zs))) 0
full-cond p m cs zs true h l = let k : m ≤ run p (cut m cs zs) = h (omega arith) in omega (arith, k)
full-cond p m cs zs false h l = absurd (omega arith)

-- a run of all the first characters
pub run-full : (p : ℕ → Bool) (m : ℕ) (cs zs : List ℕ) → m ≤ run p cs → m ≤ run p (cut m cs zs)
run-full p zero cs zs l = omega arith
run-full p (suc m) [] zs l = absurd (omega arith)
run-full p (suc m) (c ∷ cs) zs l = full-cond p m cs zs (p c) (run-full p m cs zs) l

end-if : (p : ℕ → Bool) (c : ℕ) (cs zs : List ℕ) (b : Bool) → p c ≡ b → run p zs ≡ 0 → run p (cut (run p cs) cs zs) ≡ run p cs →
    run p (cut (cond b (suc (run p cs)) 0) (c ∷ cs) zs) ≡ cond b (suc (run p cs)) 0
end-if p c cs zs true e z h = ap (λ v. cond v (suc (run p (cut (run p cs) cs zs))) 0) e ∙ ap (λ n. suc n) h
end-if p c cs zs false e z h = z

-- a run of all the first characters, behind which no such character stands
pub run-end : (p : ℕ → Bool) (cs zs : List ℕ) → run p zs ≡ 0 → run p (cut (run p cs) cs zs) ≡ run p cs
run-end p [] zs z = z
run-end p (c ∷ cs) zs z = end-if p c cs zs (p c) refl z (run-end p cs zs z)

-- what stands behind a run
pub begins-cut : (d n m : ℕ) (cs zs : List ℕ) → n < m → begins d (drop n (cut m cs zs)) ≡ begins d (drop n cs)
begins-cut d n zero cs zs l = absurd (omega arith)
begins-cut d zero (suc m) [] zs l = refl
begins-cut d (suc n) (suc m) [] zs l = refl
begins-cut d zero (suc m) (c ∷ cs) zs l = refl
begins-cut d (suc n) (suc m) (c ∷ cs) zs l = begins-cut d n m cs zs (omega arith)

-- escapes

hex-cut : (limit m : ℕ) (cs zs : List ℕ) → 2 ≤ m → hex_segment limit (cut m cs zs) ≡ hex_segment limit cs
hex-cut limit zero cs zs l = absurd (omega arith)
hex-cut limit (suc zero) cs zs l = absurd (omega arith)
hex-cut limit (suc (suc m)) [] zs l = refl
hex-cut limit (suc (suc m)) (c ∷ []) zs l = refl
hex-cut limit (suc (suc m)) (c ∷ d ∷ cs) zs l = refl

hex-begins-cut : (m : ℕ) (cs zs : List ℕ) → 0 < m → begins_hex (cut m cs zs) ≡ begins_hex cs
hex-begins-cut zero cs zs l = absurd (omega arith)
hex-begins-cut (suc m) [] zs l = refl
hex-begins-cut (suc m) (c ∷ cs) zs l = refl

digits-cut : (m : ℕ) (cs zs : List ℕ) → run is_code cs < m → code_digits (cut m cs zs) ≡ code_digits cs
digits-cut m cs zs l =
    ap (λ n. filter is_hex (take n (cut m cs zs))) (run-cut is_code m cs zs l) ∙ ap (filter is_hex) (take-cut (run is_code cs) m cs zs (omega arith))

point-cut : (m : ℕ) (cs zs : List ℕ) → run is_code cs < m → is_code_point (cut m cs zs) ≡ is_code_point cs
point-cut m cs zs l =
    let few : List ℕ → Bool = λ ds. nat_lt (length ds) 7 in
    let scalar : List ℕ → Bool = λ ds. is_scalar (digits_value 16 ds) in
    let all : List ℕ = cut m cs zs in
    let r = run-cut is_code m cs zs l in
    let d = digits-cut m cs zs l in
    ap (λ v. v && begins 125 (drop (run is_code all) all) && few (code_digits all) && scalar (code_digits all)) (hex-begins-cut m cs zs (omega arith)) ∙
    ap (λ n. begins_hex cs && begins 125 (drop n all) && few (code_digits all) && scalar (code_digits all)) r ∙
    ap (λ v. begins_hex cs && v && few (code_digits all) && scalar (code_digits all)) (begins-cut 125 (run is_code cs) m cs zs l) ∙
    ap (λ ds. begins_hex cs && begins 125 (drop (run is_code cs) cs) && few ds && scalar ds) d

abbrev unicode-with : Bool → ℕ → ℕ → Option Segment
unicode-with b n v = cond b (Some record { size = n + 4; means = Some v }) None

unicode-if : (b : Bool) (n v : ℕ) (p : Segment) → unicode-with b n v ≡ Some p → p.size ≡ n + 4
unicode-if true n v p h = let e : record { size = n + 4; means = Some v } ≡ p = cc in ap (λ (q : Segment). q.size) (sym e)
unicode-if false n v p h = absurd (cc)

unicode-size : (c : ℕ) (cs : List ℕ) (p : Segment) → unicode_segment (c ∷ cs) ≡ Some p → p.size ≡ run is_code cs + 4
unicode-size c cs p h = unicode-if (nat_eq c 123 && is_code_point cs) (run is_code cs) (digits_value 16 (code_digits cs)) p h

unicode-cut : (m : ℕ) (cs zs : List ℕ) (p : Segment) → unicode_segment cs ≡ Some p → p.size ≤ suc (suc m) → unicode_segment (cut m cs zs) ≡ Some p
unicode-cut m [] zs p h l = absurd (cc)
unicode-cut zero (c ∷ cs) zs p h l = let s : p.size ≡ run is_code cs + 4 = unicode-size c cs p h in absurd (omega (arith, s, l))
unicode-cut (suc m) (c ∷ cs) zs p h l =
    let s : p.size ≡ run is_code cs + 4 = unicode-size c cs p h in
    let i : run is_code cs < m = omega (arith, s, l) in
    let all : List ℕ = cut m cs zs in
    ap (λ v. unicode-with (nat_eq c 123 && v) (run is_code all) (digits_value 16 (code_digits all))) (point-cut m cs zs i) ∙
    ap (λ n. unicode-with (nat_eq c 123 && is_code_point cs) n (digits_value 16 (code_digits all))) (run-cut is_code m cs zs i) ∙
    ap (λ ds. unicode-with (nat_eq c 123 && is_code_point cs) (run is_code cs) (digits_value 16 ds)) (digits-cut m cs zs i) ∙ h

unicode-two : (cs : List ℕ) (p : Segment) → unicode_segment cs ≡ Some p → 2 ≤ p.size
unicode-two [] p h = absurd (cc)
unicode-two (c ∷ cs) p h = let s : p.size ≡ run is_code cs + 4 = unicode-size c cs p h in omega (arith, s)

abbrev hex-with : Bool → ℕ → Option Segment
hex-with b v = cond b (Some record { size = 4; means = Some v }) None

hex-if : (b : Bool) (v : ℕ) (p : Segment) → hex-with b v ≡ Some p → p.size ≡ 4
hex-if true v p h = let e : record { size = 4; means = Some v } ≡ p = cc in ap (λ (q : Segment). q.size) (sym e)
hex-if false v p h = absurd (cc)

hex-size : (limit : ℕ) (cs : List ℕ) (p : Segment) → hex_segment limit cs ≡ Some p → p.size ≡ 4
hex-size limit [] p h = absurd (cc)
hex-size limit (c ∷ []) p h = absurd (cc)
hex-size limit (c ∷ d ∷ cs) p h =
    hex-if (is_hex c && is_hex d && nat_lt (digit_value c * 16 + digit_value d) limit) (digit_value c * 16 + digit_value d) p h

short-size : (m : Option ℕ) (p : Segment) → short_segment m ≡ Some p → p.size ≡ 2
short-size None p h = absurd (cc)
short-size (Some v) p h = let e : record { size = 2; means = Some v } ≡ p = cc in ap (λ (q : Segment). q.size) (sym e)

abbrev escape-with : Bool → ℕ → List ℕ → Bool → Bool → Option Segment
escape-with b c cs x u = cond x (hex_segment (cond b 256 128) cs) (cond u (cond b None (unicode_segment cs)) (short_segment (short_meaning c)))

with-two : (b : Bool) (c : ℕ) (cs : List ℕ) (x u : Bool) (p : Segment) → escape-with b c cs x u ≡ Some p → 2 ≤ p.size
with-two b c cs true u p h = omega (arith, hex-size (cond b 256 128) cs p h)
with-two true c cs false true p h = absurd (cc)
with-two false c cs false true p h = unicode-two cs p h
with-two b c cs false false p h = omega (arith, short-size (short_meaning c) p h)

escape-two : (b : Bool) (cs : List ℕ) (p : Segment) → escape b cs ≡ Some p → 2 ≤ p.size
escape-two b [] p h = absurd (cc)
escape-two b (c ∷ cs) p h = with-two b c cs (nat_eq c 120) (nat_eq c 117) p h

with-cut : (b : Bool) (c m : ℕ) (cs zs : List ℕ) (x u : Bool) (p : Segment) → escape-with b c cs x u ≡ Some p → p.size ≤ suc (suc m) →
    escape-with b c (cut m cs zs) x u ≡ Some p
with-cut b c m cs zs true u p h l = hex-cut (cond b 256 128) m cs zs (omega (arith, l, hex-size (cond b 256 128) cs p h)) ∙ h
with-cut true c m cs zs false true p h l = absurd (cc)
with-cut false c m cs zs false true p h l = unicode-cut m cs zs p h (omega arith)
with-cut b c m cs zs false false p h l = h

escape-cut : (b : Bool) (m : ℕ) (cs zs : List ℕ) (p : Segment) → escape b cs ≡ Some p → p.size ≤ suc m → escape b (cut m cs zs) ≡ Some p
escape-cut b m [] zs p h l = absurd (cc)
escape-cut b zero (c ∷ cs) zs p h l = absurd (omega (arith, l, escape-two b (c ∷ cs) p h))
escape-cut b (suc m) (c ∷ cs) zs p h l = with-cut b c m cs zs (nat_eq c 120) (nat_eq c 117) p h l

line-cut : (m : ℕ) (cs zs : List ℕ) → 2 ≤ m → line_end (cut m cs zs) ≡ line_end cs
line-cut zero cs zs l = absurd (omega arith)
line-cut (suc zero) cs zs l = absurd (omega arith)
line-cut (suc (suc m)) [] zs l = refl
line-cut (suc (suc m)) (c ∷ []) zs l = refl
line-cut (suc (suc m)) (c ∷ d ∷ cs) zs l = refl

end-gap : (c : ℕ) (b : Bool) → nat_lt 0 (cond (nat_eq c 10) 1 (cond (nat_eq c 13 && b) 2 0)) ≡ true → is_gap c ≡ true
end-gap c b h = grind (arith, nat_tests)

run-some : (p : ℕ → Bool) (c : ℕ) (cs : List ℕ) (b : Bool) → p c ≡ b → b ≡ true → 0 < run p (c ∷ cs)
run-some p c cs b h e = let r : run p (c ∷ cs) ≡ suc (run p cs) = ap (λ v. cond v (suc (run p cs)) 0) (h ∙ e) in omega (arith, r)

gap-some : (cs : List ℕ) → nat_lt 0 (line_end cs) ≡ true → 0 < run is_gap cs
gap-some [] h = absurd (cc)
gap-some (c ∷ cs) h = run-some is_gap c cs (is_gap c) refl (end-gap c (begins 10 cs) h)

abbrev quoted-with : Bool → List ℕ → Bool → Option Segment
quoted-with b cs v = cond v (Some record { size = run is_gap cs + 1; means = None }) (escape b cs)

quoted-as : (b : Bool) (cs : List ℕ) (v : Bool) → nat_lt 0 (line_end cs) ≡ v → quoted_escape b cs ≡ quoted-with b cs v
quoted-as b cs v h = ap (quoted-with b cs) h

-- one character more stands behind the segment, or its escape needs none
quoted-if : (b : Bool) (m : ℕ) (cs zs : List ℕ) (v : Bool) (p : Segment) → nat_lt 0 (line_end cs) ≡ v → quoted-with b cs v ≡ Some p → p.size ≤ m →
    quoted_escape b (cut m cs zs) ≡ Some p
quoted-if b m cs zs true p h e l =
    let q : record { size = run is_gap cs + 1; means = None } ≡ p = cc in
    let s : p.size ≡ run is_gap cs + 1 = ap (λ (v : Segment). v.size) (sym q) in
    let g : 0 < run is_gap cs = gap-some cs h in
    quoted-as b (cut m cs zs) true (ap (nat_lt 0) (line-cut m cs zs (omega (arith, s, g, l))) ∙ h) ∙
    ap (λ n. Some record { size = n + 1; means = None }) (run-cut is_gap m cs zs (omega (arith, s, l))) ∙ e
quoted-if b m cs zs false p h e l =
    quoted-as b (cut m cs zs) false (ap (nat_lt 0) (line-cut m cs zs (omega (arith, l, escape-two b cs p e))) ∙ h) ∙
    escape-cut b m cs zs p e (omega arith)

-- segments

any-cut : (m : ℕ) (cs zs : List ℕ) (p : Segment) → any_escape cs ≡ Some p → p.size ≤ m → any_escape (cut m cs zs) ≡ Some p
any-cut m [] zs p h l = absurd (cc)
any-cut zero (c ∷ cs) zs p h l =
    let e : record { size = 2; means = None } ≡ p = cc in
    let s : 2 ≡ p.size = ap (λ (v : Segment). v.size) e in
    absurd (omega (arith, s, l))
any-cut (suc m) (c ∷ cs) zs p h l = h

behind_backslash-cut : (k : Inside) (m : ℕ) (cs zs : List ℕ) (p : Segment) → behind_backslash k cs ≡ Some p → p.size ≤ m → behind_backslash k (cut m cs zs) ≡ Some p
behind_backslash-cut Characters m cs zs p h l = quoted-if false m cs zs (nat_lt 0 (line_end cs)) p refl h l
behind_backslash-cut Bytes m cs zs p h l = quoted-if true m cs zs (nat_lt 0 (line_end cs)) p refl h l
behind_backslash-cut Anything m cs zs p h l = any-cut m cs zs p h l

abbrev segment-with : Inside → ℕ → List ℕ → Bool → Option Segment
segment-with k c cs b = cond b (behind_backslash k cs) (cond (is_plain k c) (Some record { size = 1; means = Some c }) None)

segment-if : (k : Inside) (c m : ℕ) (cs zs : List ℕ) (b : Bool) (p : Segment) → segment-with k c cs b ≡ Some p → p.size ≤ m →
    segment-with k c (cut m cs zs) b ≡ Some p
segment-if k c m cs zs true p h l = behind_backslash-cut k m cs zs p h l
segment-if k c m cs zs false p h l = h

segment-cut : (k : Inside) (c m : ℕ) (cs zs : List ℕ) (p : Segment) → segment k (c ∷ cs) ≡ Some p → p.size ≤ m → segment k (c ∷ cut m cs zs) ≡ Some p
segment-cut k c m cs zs p h l = segment-if k c m cs zs (nat_eq c 92) p h l

-- the closing quote

one-more-some : (o : Option ℕ) (m : ℕ) → one_more o ≡ Some m → (n : ℕ) × (o ≡ Some n) × (m ≡ suc n)
one-more-some None m h = absurd (cc)
one-more-some (Some n) m h = let e : suc n ≡ m = cc in (n, refl, sym e)

abbrev string_closing-with : Inside → List ℕ → Bool → Option Segment → Option ℕ
string_closing-with k cs b p = cond b (Some 1) (after_segment p (λ n. one_more (string_closing k n cs)))

with-skip : (k : Inside) (m : ℕ) (cs : List ℕ) (b : Bool) (p : Option Segment) → string_closing-with k cs b p ≡ Some m → 0 < m
with-skip k m cs true p h = let e : 1 ≡ m = cc in omega (arith, e)
with-skip k m cs false None h = absurd (cc)
with-skip k m cs false (Some p) h = let r = one-more-some (string_closing k (p.size - 1) cs) m h in omega (arith, r.2)

pub string_closing-skip : (k : Inside) (n m : ℕ) (cs : List ℕ) → string_closing k n cs ≡ Some m → n < m
string_closing-skip k zero m [] h = absurd (cc)
string_closing-skip k (suc n) m [] h = absurd (cc)
string_closing-skip k zero m (c ∷ cs) h = with-skip k m cs (nat_eq c 34) (segment k (c ∷ cs)) h
string_closing-skip k (suc n) m (c ∷ cs) h =
    let r = one-more-some (string_closing k n cs) m h in
    let l : n < r.0 = string_closing-skip k n r.0 cs r.1 in
    omega (arith, l, r.2)

string_closing-if : (k : Inside) (c m : ℕ) (cs zs : List ℕ) (b : Bool) (p : Option Segment) → nat_eq c 34 ≡ b → segment k (c ∷ cs) ≡ p →
    ((n i : ℕ) → string_closing k n cs ≡ Some i → string_closing k n (cut i cs zs) ≡ Some i) → string_closing-with k cs b p ≡ Some m →
    string_closing k 0 (cut m (c ∷ cs) zs) ≡ Some m
string_closing-if k c m cs zs true p q h f e =
    let P : ℕ → Type 0 = λ i. string_closing k 0 (cut i (c ∷ cs) zs) ≡ Some i in
    let one : 1 ≡ m = cc in
    subst P one (ap (λ v. string_closing-with k zs v (segment k (c ∷ zs))) q)
string_closing-if k c m cs zs false None q h f e = absurd (cc)
string_closing-if k c m cs zs false (Some p) q h f e =
    let P : ℕ → Type 0 = λ i. string_closing k 0 (cut i (c ∷ cs) zs) ≡ Some i in
    let r = one-more-some (string_closing k (p.size - 1) cs) m e in
    let l : p.size - 1 < r.0 = string_closing-skip k (p.size - 1) r.0 cs r.1 in
    let all : List ℕ = cut r.0 cs zs in
    let same : segment k (c ∷ all) ≡ Some p = segment-cut k c r.0 cs zs p h (omega (arith, l)) in
    let step : string_closing-with k all false (Some p) ≡ Some (suc r.0) = ap one_more (f (p.size - 1) r.0 r.1) in
    subst P (sym r.2) (ap (λ v. string_closing-with k all v (segment k (c ∷ all))) q ∙ ap (string_closing-with k all false) same ∙ step)

pub string_closing-cut : (k : Inside) (n m : ℕ) (cs zs : List ℕ) → string_closing k n cs ≡ Some m → string_closing k n (cut m cs zs) ≡ Some m
string_closing-cut k zero m [] zs h = absurd (cc)
string_closing-cut k (suc n) m [] zs h = absurd (cc)
string_closing-cut k zero m (c ∷ cs) zs h = string_closing-if k c m cs zs (nat_eq c 34) (segment k (c ∷ cs)) refl refl (λ n i. string_closing-cut k n i cs zs) h
string_closing-cut k (suc n) m (c ∷ cs) zs h =
    let P : ℕ → Type 0 = λ i. string_closing k (suc n) (cut i (c ∷ cs) zs) ≡ Some i in
    let r = one-more-some (string_closing k n cs) m h in
    subst P (sym r.2) (ap one_more (string_closing-cut k n r.0 cs zs r.1))

-- the end of a raw string

abbrev raw-with : ℕ → List ℕ → Bool → Option ℕ
raw-with hashes cs b = cond b (Some (suc hashes)) (one_more (raw_closing hashes cs))

pub raw-positive : (hashes m : ℕ) (cs : List ℕ) (b : Bool) → raw-with hashes cs b ≡ Some m → 0 < m
raw-positive hashes m cs true h = let e : suc hashes ≡ m = cc in omega (arith, e)
raw-positive hashes m cs false h = let r = one-more-some (raw_closing hashes cs) m h in omega (arith, r.2)

no-hash : (hashes c : ℕ) (cs : List ℕ) → closes_raw hashes c cs ≡ true → is_hash c ≡ false
no-hash hashes c cs h = grind (arith, nat_tests)

short-if : (hashes c m : ℕ) (cs : List ℕ) (b a : Bool) → closes_raw hashes c cs ≡ b → is_hash c ≡ a →
    ((k : ℕ) → raw_closing hashes cs ≡ Some k → run is_hash cs < k) → raw-with hashes cs b ≡ Some m → cond a (suc (run is_hash cs)) 0 < m
short-if hashes c m cs true true h a f e = absurd (let n : is_hash c ≡ false = no-hash hashes c cs h in cc)
short-if hashes c m cs true false h a f e = let q : suc hashes ≡ m = cc in omega (arith, q)
short-if hashes c m cs false true h a f e =
    let r = one-more-some (raw_closing hashes cs) m e in
    let l : run is_hash cs < r.0 = f r.0 r.1 in
    omega (arith, r.2, l)
short-if hashes c m cs false false h a f e = let r = one-more-some (raw_closing hashes cs) m e in omega (arith, r.2)

-- the quote that closes ends each run of `#`
hashes-short : (hashes m : ℕ) (cs : List ℕ) → raw_closing hashes cs ≡ Some m → run is_hash cs < m
hashes-short hashes m [] h = absurd (cc)
hashes-short hashes m (c ∷ cs) h = short-if hashes c m cs (closes_raw hashes c cs) (is_hash c) refl refl (λ k. hashes-short hashes k cs) h

hashes-kept : (hashes c : ℕ) (cs zs : List ℕ) → closes_raw hashes c cs ≡ true → closes_raw hashes c (cut hashes cs zs) ≡ true
hashes-kept hashes c cs zs h =
    let most : hashes ≤ run is_hash cs = grind (arith, nat_tests) in
    let e = run-full is_hash hashes cs zs most in
    grind (arith, nat_tests)

hashes-lost : (hashes c m : ℕ) (cs zs : List ℕ) → run is_hash cs < m → closes_raw hashes c cs ≡ false → closes_raw hashes c (cut m cs zs) ≡ false
hashes-lost hashes c m cs zs l h = ap (λ n. nat_eq c 34 && nat_lt hashes (suc n)) (run-cut is_hash m cs zs l) ∙ h

raw-if : (hashes c m : ℕ) (cs zs : List ℕ) (b : Bool) → closes_raw hashes c cs ≡ b →
    ((k : ℕ) → raw_closing hashes cs ≡ Some k → raw_closing hashes (cut k cs zs) ≡ Some k) → raw-with hashes cs b ≡ Some m →
    raw_closing hashes (cut m (c ∷ cs) zs) ≡ Some m
raw-if hashes c m cs zs true h f e =
    let P : ℕ → Type 0 = λ i. raw_closing hashes (cut i (c ∷ cs) zs) ≡ Some i in
    let n : suc hashes ≡ m = cc in
    subst P n (ap (raw-with hashes (cut hashes cs zs)) (hashes-kept hashes c cs zs h))
raw-if hashes c m cs zs false h f e =
    let P : ℕ → Type 0 = λ i. raw_closing hashes (cut i (c ∷ cs) zs) ≡ Some i in
    let r = one-more-some (raw_closing hashes cs) m e in
    let l : run is_hash cs < r.0 = hashes-short hashes r.0 cs r.1 in
    subst P (sym r.2) (ap (raw-with hashes (cut r.0 cs zs)) (hashes-lost hashes c r.0 cs zs l h) ∙ ap one_more (f r.0 r.1))

pub raw-cut : (hashes m : ℕ) (cs zs : List ℕ) → raw_closing hashes cs ≡ Some m → raw_closing hashes (cut m cs zs) ≡ Some m
raw-cut hashes m [] zs h = absurd (cc)
raw-cut hashes m (c ∷ cs) zs h = raw-if hashes c m cs zs (closes_raw hashes c cs) refl (λ k. raw-cut hashes k cs zs) h

pub raw-some : (hashes m : ℕ) (cs : List ℕ) → raw_closing hashes cs ≡ Some m → 0 < m
raw-some hashes m [] h = absurd (cc)
raw-some hashes m (c ∷ cs) h = raw-positive hashes m cs (closes_raw hashes c cs) h

-- one character between `'`

abbrev lone-with : Bool → ℕ → List ℕ → Bool → Option Segment
lone-with b c cs v = cond v (escape b cs) (cond (is_lone b c) (Some record { size = 1; means = Some c }) None)

lone-if : (b : Bool) (c m : ℕ) (cs zs : List ℕ) (v : Bool) (p : Segment) → lone-with b c cs v ≡ Some p → p.size ≤ suc m → lone-with b c (cut m cs zs) v ≡ Some p
lone-if b c m cs zs true p h l = escape-cut b m cs zs p h l
lone-if b c m cs zs false p h l = h

lone_segment-cut : (b : Bool) (m : ℕ) (cs zs : List ℕ) (p : Segment) → lone_segment b cs ≡ Some p → p.size < m → lone_segment b (cut m cs zs) ≡ Some p
lone_segment-cut b m [] zs p h l = absurd (cc)
lone_segment-cut b zero (c ∷ cs) zs p h l = absurd (omega arith)
lone_segment-cut b (suc m) (c ∷ cs) zs p h l = lone-if b c m cs zs (nat_eq c 92) p h (omega arith)

abbrev tick-with : ℕ → Bool → Option ℕ
tick-with n v = cond v (Some (n + 1)) None

tick-some : (n m : ℕ) (v : Bool) → tick-with n v ≡ Some m → n + 1 ≡ m
tick-some n m true h = cc
tick-some n m false h = absurd (cc)

lone-by : (b : Bool) (m : ℕ) (cs zs : List ℕ) (o : Option Segment) → lone_segment b cs ≡ o → closed_by_tick o cs ≡ Some m → lone_closing b (cut m cs zs) ≡ Some m
lone-by b m cs zs None q h = absurd (cc)
lone-by b m cs zs (Some p) q h =
    let s : p.size + 1 ≡ m = tick-some p.size m (begins 39 (drop p.size cs)) h in
    let l : p.size < m = omega (arith, s) in
    ap (λ o. closed_by_tick o (cut m cs zs)) (lone_segment-cut b m cs zs p q l) ∙ ap (tick-with p.size) (begins-cut 39 p.size m cs zs l) ∙ h

pub lone-cut : (b : Bool) (m : ℕ) (cs zs : List ℕ) → lone_closing b cs ≡ Some m → lone_closing b (cut m cs zs) ≡ Some m
lone-cut b m cs zs h = lone-by b m cs zs (lone_segment b cs) refl h

lone_some-by : (m : ℕ) (cs : List ℕ) (o : Option Segment) → closed_by_tick o cs ≡ Some m → 0 < m
lone_some-by m cs None h = absurd (cc)
lone_some-by m cs (Some p) h = let s : p.size + 1 ≡ m = tick-some p.size m (begins 39 (drop p.size cs)) h in omega (arith, s)

pub lone-some : (b : Bool) (m : ℕ) (cs : List ℕ) → lone_closing b cs ≡ Some m → 0 < m
lone-some b m cs h = lone_some-by m cs (lone_segment b cs) h
