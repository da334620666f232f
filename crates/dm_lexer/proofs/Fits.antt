-- What a row finds has no more characters than there are.
use Rattle.std.specs.Prelude.{◌≡◌, ℕ, zero, suc, ◌+◌, ◌-◌, ◌<◌, ◌≤◌, Bool, true, false, nat_eq, cond, Option, Some, None, List, [], ◌∷◌, length, take, drop, refl}
use Rattle.std.proofs.Common.{ap, sym, arith, length-drop}
use Rattle.std.proofs.lemmas.Bool.Decides.{nat_tests}
use Rattle.std.specs.Str.Parse.{digits_value}
use Rattle.dm_stream.specs.declared.tokens.LitKind.{LitKind}
use Rattle.dm_stream.specs.declared.tokens.LitKind.TheVariants as kind
use Rattle.dm_lexer.specs.declared.numbers.Base.{Base}
use Rattle.dm_lexer.specs.declared.words.Class.TheVariants.{Digits}
use Rattle.dm_lexer.specs.declared.quotes.Opening.{Opening}
use Rattle.dm_lexer.specs.declared.quotes.Segment.{Segment}
use Rattle.dm_lexer.specs.declared.quotes.Inside.{Inside}
use Rattle.dm_lexer.specs.declared.quotes.Inside.TheVariants.{Characters, Bytes, Anything}
use Rattle.dm_lexer.specs.TextFronts.{run}
use Rattle.dm_lexer.specs.Words.{begins_word, word_length, begins_raw_word, raw_word_length, is_never_raw, word_bytes, goes_on, passes, radix}
use Rattle.dm_lexer.specs.Numbers.{begins_digit, number_length, number_behind, base_of, prefix_length, digits_length, suffix_length, spoils, is_value, digits_among}
use Rattle.dm_lexer.specs.Quotes.{begins, is_hash, more, body, quoted_length, segment, one_more, after_segment, string_closing, closes_raw, raw_closing, lone_segment, closed_by_tick, lone_closing, char_length, is_lifetime, lifetime_length}
use Rattle.dm_lexer.proofs.RowSteps.{some-only, raw_count}
use Rattle.dm_lexer.proofs.Kept.{string_closing-skip, raw-some, lone-some}
use Rattle.dm_lexer.proofs.KeptRows.{more-some, lines-some}
use Rattle.dm_lexer.proofs.KeptNumbers.{number-parts, IsNumberBy, IsNumberRead, number-read}

run-cond : (p : ℕ → Bool) (cs : List ℕ) (b : Bool) → run p cs ≤ length cs → cond b (suc (run p cs)) 0 ≤ suc (length cs)
run-cond p cs true h = omega arith
run-cond p cs false h = omega arith

pub run-fits : (p : ℕ → Bool) (cs : List ℕ) → run p cs ≤ length cs
run-fits p [] = omega arith
run-fits p (c ∷ cs) = run-cond p cs (p c) (run-fits p cs)

begins-fits : (d n : ℕ) (cs : List ℕ) → begins d (drop n cs) ≡ true → n < length cs
begins-fits d zero [] h = absurd (cc)
begins-fits d (suc n) [] h = absurd (cc)
begins-fits d zero (c ∷ cs) h = omega arith
begins-fits d (suc n) (c ∷ cs) h = let l : n < length cs = begins-fits d n cs h in omega (arith, l)

one-more-some : (o : Option ℕ) (m : ℕ) → one_more o ≡ Some m → (n : ℕ) × (o ≡ Some n) × (m ≡ suc n)
one-more-some None m h = absurd (cc)
one-more-some (Some n) m h = let e : suc n ≡ m = cc in (n, refl, sym e)

abbrev string_closing-with : Inside → List ℕ → Bool → Option Segment → Option ℕ
string_closing-with k cs b p = cond b (Some 1) (after_segment p (λ n. one_more (string_closing k n cs)))

string_closing-if : (k : Inside) (m : ℕ) (cs : List ℕ) (b : Bool) (p : Option Segment) → ((n i : ℕ) → string_closing k n cs ≡ Some i → i ≤ length cs) →
    string_closing-with k cs b p ≡ Some m → m ≤ suc (length cs)
string_closing-if k m cs true p f h = let e : 1 ≡ m = cc in omega (arith, e)
string_closing-if k m cs false None f h = absurd (cc)
string_closing-if k m cs false (Some p) f h =
    let r = one-more-some (string_closing k (p.size - 1) cs) m h in
    let l : r.0 ≤ length cs = f (p.size - 1) r.0 r.1 in
    omega (arith, l, r.2)

string_closing-fits : (k : Inside) (n m : ℕ) (cs : List ℕ) → string_closing k n cs ≡ Some m → m ≤ length cs
string_closing-fits k zero m [] h = absurd (cc)
string_closing-fits k (suc n) m [] h = absurd (cc)
string_closing-fits k zero m (c ∷ cs) h = string_closing-if k m cs (nat_eq c 34) (segment k (c ∷ cs)) (λ n i. string_closing-fits k n i cs) h
string_closing-fits k (suc n) m (c ∷ cs) h =
    let r = one-more-some (string_closing k n cs) m h in
    let l : r.0 ≤ length cs = string_closing-fits k n r.0 cs r.1 in
    omega (arith, l, r.2)

abbrev raw-with : ℕ → List ℕ → Bool → Option ℕ
raw-with hashes cs b = cond b (Some (suc hashes)) (one_more (raw_closing hashes cs))

enough : (hashes c : ℕ) (cs : List ℕ) → closes_raw hashes c cs ≡ true → hashes ≤ run is_hash cs
enough hashes c cs h = grind (arith, nat_tests)

raw-if : (hashes c m : ℕ) (cs : List ℕ) (b : Bool) → closes_raw hashes c cs ≡ b → ((k : ℕ) → raw_closing hashes cs ≡ Some k → k ≤ length cs) →
    raw-with hashes cs b ≡ Some m → m ≤ suc (length cs)
raw-if hashes c m cs true e f h = let q : suc hashes ≡ m = cc in omega (arith, q, enough hashes c cs e, run-fits is_hash cs)
raw-if hashes c m cs false e f h =
    let r = one-more-some (raw_closing hashes cs) m h in
    let l : r.0 ≤ length cs = f r.0 r.1 in
    omega (arith, l, r.2)

raw-fits : (hashes m : ℕ) (cs : List ℕ) → raw_closing hashes cs ≡ Some m → m ≤ length cs
raw-fits hashes m [] h = absurd (cc)
raw-fits hashes m (c ∷ cs) h = raw-if hashes c m cs (closes_raw hashes c cs) refl (λ k. raw-fits hashes k cs) h

tick-if : (n m : ℕ) (v : Bool) → cond v (Some (n + 1)) None ≡ Some m → (v ≡ true) × (n + 1 ≡ m)
tick-if n m true h = (refl, cc)
tick-if n m false h = absurd (cc)

lone-by : (m : ℕ) (cs : List ℕ) (o : Option Segment) → closed_by_tick o cs ≡ Some m → m ≤ length cs
lone-by m cs None h = absurd (cc)
lone-by m cs (Some p) h =
    let r = tick-if p.size m (begins 39 (drop p.size cs)) h in
    omega (arith, r.1, begins-fits 39 p.size cs r.0)

lone-fits : (b : Bool) (m : ℕ) (cs : List ℕ) → lone_closing b cs ≡ Some m → m ≤ length cs
lone-fits b m cs h = lone-by m cs (lone_segment b cs) h

body-fits : (k : LitKind) (hashes m : ℕ) (cs : List ℕ) → body k hashes cs ≡ Some m → (0 < m) × (m ≤ length cs)
body-fits kind.Str hashes m cs h = (string_closing-skip Characters 0 m cs h, string_closing-fits Characters 0 m cs h)
body-fits kind.RawStr hashes m cs h = (raw-some hashes m cs h, raw-fits hashes m cs h)
body-fits kind.ByteStr hashes m cs h = (string_closing-skip Bytes 0 m cs h, string_closing-fits Bytes 0 m cs h)
body-fits kind.RawByteStr hashes m cs h = (raw-some hashes m cs h, raw-fits hashes m cs h)
body-fits kind.CStr hashes m cs h = (string_closing-skip Anything 0 m cs h, string_closing-fits Anything 0 m cs h)
body-fits kind.RawCStr hashes m cs h = (raw-some hashes m cs h, raw-fits hashes m cs h)
body-fits kind.Char hashes m cs h = absurd (cc)
body-fits kind.Byte hashes m cs h = (lone-some true m cs h, lone-fits true m cs h)
body-fits kind.Int hashes m cs h = absurd (cc)

pub quoted-fits : (o : Opening) (n : ℕ) (cs : List ℕ) → quoted_length o cs ≡ Some n → n ≤ length cs
quoted-fits o n cs h =
    let lines = lines-some cs (more o.size (body o.kind o.hashes (drop o.size cs))) n h in
    let size = more-some o.size n (body o.kind o.hashes (drop o.size cs)) lines.0 in
    let inside = body-fits o.kind o.hashes size.0 (drop o.size cs) size.1 in
    omega (arith, size.2, inside.0, inside.1, length-drop o.size cs)

pub char-fits : (n : ℕ) (cs : List ℕ) → char_length cs ≡ Some n → n ≤ length cs
char-fits n [] h = absurd (cc)
char-fits n (c ∷ cs) h =
    let r = more-some 1 n (lone_closing false cs) h in
    omega (arith, r.2, lone-fits false r.0 cs r.1)

pub lifetime-fits : (n : ℕ) (cs : List ℕ) → lifetime_length cs ≡ Some n → n ≤ length cs
lifetime-fits n [] h = absurd (cc)
lifetime-fits n (c ∷ cs) h =
    let r = some-only (is_lifetime cs) (suc (run goes_on cs)) n h in
    omega (arith, r.1, run-fits goes_on cs)

pub word-fits : (n : ℕ) (cs : List ℕ) → word_length cs ≡ Some n → n ≤ length cs
word-fits n cs h = let r = some-only (begins_word cs) (run goes_on cs) n h in omega (arith, r.1, run-fits goes_on cs)

pub raw_word-fits : (n : ℕ) (cs : List ℕ) → begins_raw_word cs ≡ true → raw_word_length cs ≡ Some n → n ≤ length cs
raw_word-fits n [] b h = absurd (cc)
raw_word-fits n (c ∷ []) b h = absurd (cc)
raw_word-fits n (c ∷ d ∷ cs) b h =
    let size : 2 + run goes_on cs ≡ n = raw_count (begins_raw_word (c ∷ d ∷ cs)) (is_never_raw (word_bytes cs)) (2 + run goes_on cs) n h in
    omega (arith, size, run-fits goes_on cs)

suffix-if : (cs : List ℕ) (b : Bool) → cond b (run goes_on cs) 0 ≤ length cs
suffix-if cs true = run-fits goes_on cs
suffix-if cs false = omega arith

behind-fits : (base : Base) (cs : List ℕ) (r : ℕ × ℕ) → number_behind base cs ≡ Some r → r.0 ≤ length cs
behind-fits base cs r e =
    let digits : ℕ = digits_length base cs in
    let value : ℕ = digits_value (radix base) (digits_among base (take digits cs)) in
    let rest : ℕ = suffix_length (drop digits cs) in
    let parts : IsNumberBy (spoils base (drop digits cs)) (is_value base (digits_among base (take digits cs))) (digits + rest, value) r =
    number-parts (spoils base (drop digits cs)) (is_value base (digits_among base (take digits cs))) (digits + rest, value) r e in
    let size : digits + rest ≡ r.0 = ap (λ v. v.0) parts.found in
    let most : rest ≤ length (drop digits cs) = suffix-if (drop digits cs) (begins_word (drop digits cs)) in
    let front : digits ≤ length cs = run-fits (passes (Digits base)) cs in
    omega (arith, size, most, front, length-drop digits cs)

pub number-fits : (n : ℕ) (cs : List ℕ) → begins_digit cs ≡ true → number_length cs ≡ Some n → n ≤ length cs
number-fits n cs b e =
    let base : Base = base_of cs in
    let rest : List ℕ = drop (prefix_length base) cs in
    let r : IsNumberRead n cs = number-read n cs b e in
    let l : r.found.0 ≤ length rest = behind-fits base rest r.found r.behind in
    omega (arith, r.positive, l, r.size, length-drop (prefix_length base) cs)
