-- The characters that may stand right behind a token of a layout.
use Rattle.std.specs.Prelude.{◌≡◌, ℕ, suc, ◌<◌, Bool, true, false, not, ◌||◌, ◌&&◌, nat_eq, cond, List, [], ◌∷◌, drop, refl}
use Rattle.std.proofs.Common.{ap, ◌∙◌, sym, subst, arith}
use Rattle.std.proofs.lemmas.Bool.{and_right}
use Rattle.std.proofs.lemmas.Bool.Decides.{nat_tests}
use Rattle.std.specs.Char.{is_ascii_alphanumeric}
use Rattle.unicode_ident.proofs.IdentLemmas.{is_xid_continue-ascii}
use Rattle.dm_lexer.specs.declared.numbers.Base.{Base}
use Rattle.dm_lexer.specs.declared.numbers.Base.TheVariants.{Binary, Octal, Decimal, Hexadecimal}
use Rattle.dm_lexer.specs.declared.words.Class.TheVariants.{Digits}
use Rattle.dm_stream.specs.declared.tokens.Spacing.TheVariants.{Joint, Alone}
use Rattle.dm_lexer.specs.TextFronts.{run}
use Rattle.dm_lexer.specs.Words.{begins_pair, begins_word, goes_on, starts_word, passes}
use Rattle.dm_lexer.specs.Numbers.{begins_digit, begins_exponent, begins_fraction, goes_on_as_float}
use Rattle.dm_lexer.specs.Quotes.{begins, is_hash, opens_raw}
use Rattle.dm_lexer.specs.Lexemes.{is_punct}
use Rattle.dm_lexer.specs.Rows.{begins_comment, begins_punct, spacing_before}
use Rattle.dm_lexer.proofs.RowSteps.{is-code, starts-goes_on}
use Rattle.dm_lexer.proofs.Kept.{cut}

-- a space, LF, `)` or `]`
abbrev pub is_stop : ℕ → Bool
is_stop c = nat_eq c 32 || nat_eq c 10 || nat_eq c 41 || nat_eq c 93

-- nothing, or one of these characters and any others
abbrev pub is_stopped : List ℕ → Bool
is_stopped [] = true
is_stopped (c ∷ cs) = is_stop c

stop-if : (P : ℕ → Type 0) (c : ℕ) (w x y z : Bool) → nat_eq c 32 ≡ w → nat_eq c 10 ≡ x → nat_eq c 41 ≡ y → nat_eq c 93 ≡ z →
    (w || x || y || z) ≡ true → P 32 → P 10 → P 41 → P 93 → P c
stop-if P c true x y z e f g h k p q r s = subst P (sym (is-code c 32 e)) p
stop-if P c false true y z e f g h k p q r s = subst P (sym (is-code c 10 f)) q
stop-if P c false false true z e f g h k p q r s = subst P (sym (is-code c 41 g)) r
stop-if P c false false false true e f g h k p q r s = subst P (sym (is-code c 93 h)) s
stop-if P c false false false false e f g h k p q r s = absurd (cc)

-- what holds of each of them
pub stop-each : (P : ℕ → Type 0) (c : ℕ) → is_stop c ≡ true → P 32 → P 10 → P 41 → P 93 → P c
stop-each P c h p q r s = stop-if P c (nat_eq c 32) (nat_eq c 10) (nat_eq c 41) (nat_eq c 93) refl refl refl refl h p q r s

pub stop-goes_on : (c : ℕ) → is_stop c ≡ true → goes_on c ≡ false
stop-goes_on c h =
    stop-each (λ v. goes_on v ≡ false) c h (is_xid_continue-ascii 32 (omega arith)) (is_xid_continue-ascii 10 (omega arith))
    (is_xid_continue-ascii 41 (omega arith)) (is_xid_continue-ascii 93 (omega arith))

pub not-starts : (c : ℕ) (b : Bool) → starts_word c ≡ b → goes_on c ≡ false → starts_word c ≡ false
not-starts c true e h = absurd (let k : goes_on c ≡ true = starts-goes_on c e in cc)
not-starts c false e h = e

pub stop-starts : (c : ℕ) → is_stop c ≡ true → starts_word c ≡ false
stop-starts c h = not-starts c (starts_word c) refl (stop-goes_on c h)

-- what goes on with a word is none of the other characters
pub goes-other : (c d : ℕ) (b : Bool) → nat_eq c d ≡ b → goes_on d ≡ false → goes_on c ≡ true → nat_eq c d ≡ false
goes-other c d true e h k = absurd (let P : ℕ → Type 0 = λ v. goes_on v ≡ true in let q : goes_on d ≡ true = subst P (is-code c d e) k in cc)
goes-other c d false e h k = e

pub goes-not : (c d : ℕ) → goes_on d ≡ false → goes_on c ≡ true → nat_eq c d ≡ false
goes-not c d h k = goes-other c d (nat_eq c d) refl h k

-- nor is it ASCII that is no letter, no digit and no `_`
pub goes-no_ascii : (c d : ℕ) → d < 128 → (is_ascii_alphanumeric d || nat_eq d 95) ≡ false → goes_on c ≡ true → nat_eq c d ≡ false
goes-no_ascii c d l h k = goes-not c d (is_xid_continue-ascii d l ∙ h) k

-- what begins with none of `"`, `#` and `'`
abbrev pub is_tame : List ℕ → Bool
is_tame [] = true
is_tame (c ∷ cs) = not (nat_eq c 34 || nat_eq c 35 || nat_eq c 39)

tame-by : (c : ℕ) → nat_eq c 34 ≡ false → nat_eq c 35 ≡ false → nat_eq c 39 ≡ false → not (nat_eq c 34 || nat_eq c 35 || nat_eq c 39) ≡ true
tame-by c h k l = grind (arith, nat_tests)

pub tame-stopped : (zs : List ℕ) → is_stopped zs ≡ true → is_tame zs ≡ true
tame-stopped [] h = refl
tame-stopped (c ∷ zs) h = stop-each (λ v. is_tame (v ∷ zs) ≡ true) c h refl refl refl refl

pub tame-goes : (c : ℕ) (cs : List ℕ) → goes_on c ≡ true → is_tame (c ∷ cs) ≡ true
tame-goes c cs h = tame-by c (goes-no_ascii c 34 (omega arith) refl h) (goes-no_ascii c 35 (omega arith) refl h) (goes-no_ascii c 39 (omega arith) refl h)

tame-if : (c : ℕ) (cs zs : List ℕ) (b : Bool) → goes_on c ≡ b → is_stopped zs ≡ true → is_tame (cut (cond b (suc (run goes_on cs)) 0) (c ∷ cs) zs) ≡ true
tame-if c cs zs true e h = tame-goes c (cut (run goes_on cs) cs zs) e
tame-if c cs zs false e h = tame-stopped zs h

-- the characters that go on with a word, and then what may stand behind it
pub tame-word : (cs zs : List ℕ) → is_stopped zs ≡ true → is_tame (cut (run goes_on cs) cs zs) ≡ true
tame-word [] zs h = tame-stopped zs h
tame-word (c ∷ cs) zs h = tame-if c cs zs (goes_on c) refl h

pub tame-quote : (cs : List ℕ) → is_tame cs ≡ true → begins 34 cs ≡ false
tame-quote [] h = refl
tame-quote (c ∷ cs) h = grind (arith, nat_tests)

pub tame-tick : (cs : List ℕ) → is_tame cs ≡ true → begins 39 cs ≡ false
tame-tick [] h = refl
tame-tick (c ∷ cs) h = grind (arith, nat_tests)

no-hash : (c : ℕ) (cs : List ℕ) → is_tame (c ∷ cs) ≡ true → is_hash c ≡ false
no-hash c cs h = grind (arith, nat_tests)

pub tame-hash : (cs : List ℕ) → is_tame cs ≡ true → run is_hash cs ≡ 0
tame-hash [] h = refl
tame-hash (c ∷ cs) h = ap (λ v. cond v (suc (run is_hash cs)) 0) (no-hash c cs h)

pub first-false : (a b : Bool) → a ≡ false → (a && b) ≡ false
first-false true b h = absurd (cc)
first-false false b h = refl

pub tame-raw : (cs : List ℕ) → is_tame cs ≡ true → opens_raw cs ≡ false
tame-raw cs h =
    and_right _ (begins 34 (drop (run is_hash cs) cs)) (ap (λ n. begins 34 (drop n cs)) (tame-hash cs h) ∙ tame-quote cs h)

-- `r` before them is no raw word
pub tame-pair : (a c : ℕ) (cs : List ℕ) → is_tame cs ≡ true → begins_pair a 35 (c ∷ cs) ≡ false
tame-pair a c [] h = refl
tame-pair a c (d ∷ cs) h = and_right (nat_eq c a) (nat_eq d 35) (no-hash d cs h)

-- two characters of which the first is another
pub other-pair : (a b c : ℕ) (cs : List ℕ) → nat_eq c a ≡ false → begins_pair a b (c ∷ cs) ≡ false
other-pair a b c [] h = refl
other-pair a b c (d ∷ cs) h = first-false (nat_eq c a) (nat_eq d b) h

-- what may stand behind a token goes on with none

pub stopped-run : (zs : List ℕ) → is_stopped zs ≡ true → run goes_on zs ≡ 0
stopped-run [] h = refl
stopped-run (c ∷ zs) h = ap (λ v. cond v (suc (run goes_on zs)) 0) (stop-goes_on c h)

pub stopped-word : (zs : List ℕ) → is_stopped zs ≡ true → begins_word zs ≡ false
stopped-word [] h = refl
stopped-word (c ∷ zs) h = stop-starts c h

no-digit : (base : Base) (c : ℕ) → is_stop c ≡ true → passes (Digits base) c ≡ false
no-digit Binary c h = stop-each (λ v. passes (Digits Binary) v ≡ false) c h refl refl refl refl
no-digit Octal c h = stop-each (λ v. passes (Digits Octal) v ≡ false) c h refl refl refl refl
no-digit Decimal c h = stop-each (λ v. passes (Digits Decimal) v ≡ false) c h refl refl refl refl
no-digit Hexadecimal c h = stop-each (λ v. passes (Digits Hexadecimal) v ≡ false) c h refl refl refl refl

pub stopped-digits : (base : Base) (zs : List ℕ) → is_stopped zs ≡ true → run (passes (Digits base)) zs ≡ 0
stopped-digits base [] h = refl
stopped-digits base (c ∷ zs) h = ap (λ v. cond v (suc (run (passes (Digits base)) zs)) 0) (no-digit base c h)

pub stopped-digit : (zs : List ℕ) → is_stopped zs ≡ true → begins_digit zs ≡ false
stopped-digit [] h = refl
stopped-digit (c ∷ zs) h = stop-each (λ v. begins_digit (v ∷ zs) ≡ false) c h refl refl refl refl

pub stopped-exponent : (zs : List ℕ) → is_stopped zs ≡ true → begins_exponent zs ≡ false
stopped-exponent [] h = refl
stopped-exponent (c ∷ zs) h = stop-each (λ v. begins_exponent (v ∷ zs) ≡ false) c h refl refl refl refl

stopped-fraction : (zs : List ℕ) → is_stopped zs ≡ true → begins_fraction zs ≡ false
stopped-fraction [] h = refl
stopped-fraction (c ∷ zs) h = stop-each (λ v. begins_fraction (v ∷ zs) ≡ false) c h refl refl refl refl

pub stopped-float : (base : Base) (zs : List ℕ) → is_stopped zs ≡ true → goes_on_as_float base zs ≡ false
stopped-float Binary zs h = refl
stopped-float Octal zs h = refl
stopped-float Decimal zs h = stopped-fraction zs h
stopped-float Hexadecimal zs h = refl

pub or-false : (a b c : Bool) → a ≡ false → b ≡ false → c ≡ false → (a || b || c) ≡ false
or-false true b c h k l = absurd (cc)
or-false false true c h k l = absurd (cc)
or-false false false c h k l = l

pub stopped-comment : (zs : List ℕ) → is_stopped zs ≡ true → begins_comment zs ≡ false
stopped-comment [] h = refl
stopped-comment (c ∷ zs) h =
    let n : nat_eq c 47 ≡ false = stop-each (λ v. nat_eq v 47 ≡ false) c h refl refl refl refl in
    ap (λ v. v || begins_pair 47 42 (c ∷ zs)) (other-pair 47 47 c zs n) ∙ other-pair 47 42 c zs n

stopped-punct : (zs : List ℕ) → is_stopped zs ≡ true → begins_punct zs ≡ false
stopped-punct [] h = refl
stopped-punct (c ∷ zs) h = stop-each (λ v. is_punct v ≡ false) c h refl refl refl refl

-- a punct before them is Alone
pub stopped-alone : (zs : List ℕ) → is_stopped zs ≡ true → spacing_before zs ≡ Alone
stopped-alone zs h =
    ap (λ v. cond v Alone (cond (begins_punct zs) Joint Alone)) (stopped-comment zs h) ∙ ap (λ v. cond v Joint Alone) (stopped-punct zs h)

none-of : (a b c : Bool) → b ≡ false → c ≡ false → (a && b || a && c) ≡ false
none-of true true c h k = absurd (cc)
none-of true false c h k = k
none-of false b c h k = refl

-- a slash before them begins no comment
pub slash-stopped : (c : ℕ) (zs : List ℕ) → is_stopped zs ≡ true → begins_comment (c ∷ zs) ≡ false
slash-stopped c [] h = refl
slash-stopped c (z ∷ zs) h =
    none-of (nat_eq c 47) (nat_eq z 47) (nat_eq z 42) (stop-each (λ v. nat_eq v 47 ≡ false) z h refl refl refl refl)
    (stop-each (λ v. nat_eq v 42 ≡ false) z h refl refl refl refl)
