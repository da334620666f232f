use Rattle.std.proofs.Common.{◌≡◌, ℕ, ◌+◌, ◌*◌, ◌<◌, ◌≤◌, Bool, true, false, nat_lt, ◌&&◌, cond, List, ◌∷◌, Option, Some, None, refl, ap, ◌∙◌, sym, arith, le-ltb}
use Rattle.std.specs.Char.{digit_value}
use Rattle.std.specs.Str.{chars}
use Rattle.dm_lexer.specs.declared.quotes.Segment.{Segment}
use Rattle.dm_lexer.specs.Quotes.{is_hex, hex_segment}
use Rattle.dm_lexer.proofs.quotes.hex_escape.Goals as goal

-- the tests of the two digits and of what they spell
abbrev tests : ℕ → ℕ → ℕ → Bool
tests limit c d = is_hex c && is_hex d && nat_lt (digit_value c * 16 + digit_value d) limit

not-less : (x n : ℕ) → (x < n → ⊥) → nat_lt x n ≡ false
not-less x n h = le-ltb x n (omega arith)

no-first : (a b c : Bool) → a ≡ false → (a && b && c) ≡ false
no-first true b c h = absurd (cc)
no-first false b c h = refl

no-second : (a b c : Bool) → b ≡ false → (a && b && c) ≡ false
no-second true true c h = absurd (cc)
no-second true false c h = refl
no-second false b c h = refl

no-third : (a b c : Bool) → c ≡ false → (a && b && c) ≡ false
no-third true true c h = h
no-third true false c h = refl
no-third false b c h = refl

-- what two characters spell, by the tests
segment-as : (text after beyond : List ℕ) (limit c d : ℕ) (b : Bool) → chars text ≡ c ∷ chars after → chars after ≡ d ∷ chars beyond → tests limit c d ≡ b →
    hex_segment limit (chars text) ≡ cond {A = Option Segment} b (Some record { size = 4; means = Some (digit_value c * 16 + digit_value d) }) None
segment-as text after beyond limit c d b k e h =
    ap (hex_segment limit) (k ∙ ap (λ l. c ∷ l) e) ∙
    ap (λ v. cond {A = Option Segment} v (Some record { size = 4; means = Some (digit_value c * 16 + digit_value d) }) None) h

first-no_digit : (text after beyond : List ℕ) (limit c d : ℕ) → chars text ≡ c ∷ chars after → chars after ≡ d ∷ chars beyond → (digit_value c < 16 → ⊥) →
    hex_segment limit (chars text) ≡ None
first-no_digit text after beyond limit c d k e h =
    segment-as text after beyond limit c d false k e (no-first (is_hex c) (is_hex d) (nat_lt (digit_value c * 16 + digit_value d) limit) (not-less (digit_value c) 16 h))

second-no_digit : (text after beyond : List ℕ) (limit c d : ℕ) → chars text ≡ c ∷ chars after → chars after ≡ d ∷ chars beyond → (digit_value d < 16 → ⊥) →
    hex_segment limit (chars text) ≡ None
second-no_digit text after beyond limit c d k e h =
    segment-as text after beyond limit c d false k e (no-second (is_hex c) (is_hex d) (nat_lt (digit_value c * 16 + digit_value d) limit) (not-less (digit_value d) 16 h))

spelled : (v x y c d : ℕ) → x ≡ c → y ≡ d → v ≡ x * 16 + y → v ≡ c * 16 + d
spelled v x y c d e f h = h ∙ ap (λ n. n * 16 + y) e ∙ ap (λ n. c * 16 + n) f

beyond-limit : (text after beyond : List ℕ) (limit c d x y : ℕ) → chars text ≡ c ∷ chars after → chars after ≡ d ∷ chars beyond →
    x ≡ digit_value c → y ≡ digit_value d → limit ≤ x * 16 + y → hex_segment limit (chars text) ≡ None
beyond-limit text after beyond limit c d x y k e f g h =
    let s : x * 16 + y ≡ digit_value c * 16 + digit_value d = spelled (x * 16 + y) x y (digit_value c) (digit_value d) f g refl in
    segment-as text after beyond limit c d false k e
    (no-third (is_hex c) (is_hex d) (nat_lt (digit_value c * 16 + digit_value d) limit)
    (ap (λ n. nat_lt n limit) (sym s) ∙ le-ltb (x * 16 + y) limit h))

pub returns-in_err-first : goal.returns-in_err-first
returns-in_err-first c = c.from_residual.ensures ∙ sym (ap (hex_segment c.args.limit) c.in_err-first.ensures.chars)

pub returns-in_err-second : goal.returns-in_err-second
returns-in_err-second c =
    c.from_residual-in_err-second.ensures ∙
    sym (ap (hex_segment c.args.limit) (c.in_ok-first.ensures.chars ∙ ap (λ l. c.in_ok-first.first ∷ l) c.in_err-second.ensures.chars))

pub returns-in_err-to_digit : goal.returns-in_err-to_digit
returns-in_err-to_digit c =
    c.from_residual-in_err-to_digit.ensures ∙
    sym (first-no_digit _ _ _ c.args.limit _ _ c.in_ok-first.ensures.chars c.in_ok-second.ensures.chars c.in_err-to_digit.ensures.value)

pub returns-in_err-value : goal.returns-in_err-value
returns-in_err-value c =
    c.from_residual-in_err-value.ensures ∙
    sym (second-no_digit _ _ _ c.args.limit _ _ c.in_ok-first.ensures.chars c.in_ok-second.ensures.chars c.in_err-value.ensures.value)

pub returns-then-value-limit : goal.returns-then-value-limit
returns-then-value-limit c =
    sym
    (beyond-limit _ _ _ c.args.limit _ _ _ _ c.in_ok-first.ensures.chars c.in_ok-second.ensures.chars c.in_ok-to_digit.ensures.value.1 c.in_ok-value.ensures.value.1
    c.if-value-limit.true)
