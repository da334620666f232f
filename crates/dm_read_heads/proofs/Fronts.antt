-- Trees that aren't at their end begin with something, and what stands behind `#` or brackets is less.
use Rattle.std.proofs.Common.{◌≡◌, ℕ, zero, suc, ◌≤◌, ◌<◌, ◌==◌, ◌&&◌, cond, Bool, true, false, refl, ap, arith}
use Rattle.dm_stream.specs.declared.tokens.Delim.TheVariants.{Paren, Bracket, Brace}
use Rattle.dm_stream.specs.declared.tokens.Ident.{Ident}
use Rattle.dm_stream.specs.declared.tokens.Spacing.{Spacing}
use Rattle.dm_stream.specs.declared.tokens.Spacing.TheVariants.{Joint, Alone}
use Rattle.dm_stream.specs.declared.tokens.Token.{Token}
use Rattle.dm_stream.specs.declared.tokens.Token.TheVariants as t
use Rattle.dm_stream.specs.Trees.{Trees, no_trees, token, group}
use Rattle.dm_ast.specs.Spelling.{at_end}
use Rattle.dm_reread.specs.Next.{Word, of_path, kind, Next, ended, star, amp, dot, asks, bangs, plus, less, comma, colon, semicolon, assigns, bar, hash, colons, leads, equals, differs, andand, oror, dots, arrow, in_brackets, other, next, word_next, alone_next, pair_next, last_next, second_next, joint_next, punct_next}
use Rattle.dm_reread.specs.Whole.{size}

-- `#` or brackets, and the trees behind them
abbrev with_front : Next → ℕ
with_front (hash ts) = suc (size ts)
with_front (in_brackets inside ts) = suc (size ts)
with_front _ = zero

-- something, and of so many trees at most where it is `#` or brackets
abbrev Begins : ℕ → Next → Type 0
Begins n x = (x ≡ ended → ⊥) × (with_front x ≤ n)

either : (n : ℕ) (b : Bool) (x y : Next) → Begins n x → Begins n y → Begins n (cond b x y)
either n true x y p q = p
either n false x y p q = q

alone_begins : (ch : ℕ) (ts : Trees) → Begins (suc (size ts)) (alone_next ch ts)
alone_begins ch ts =
    let n : ℕ = suc (size ts) in
    let z : zero ≤ n = omega arith in
    either n (ch == 42) (star ts) _ (λ e. absurd (cc), z)
    (either n (ch == 38) (amp ts) _ (λ e. absurd (cc), z)
    (either n (ch == 46) (dot ts) _ (λ e. absurd (cc), z)
    (either n (ch == 63) (asks ts) _ (λ e. absurd (cc), z)
    (either n (ch == 33) (bangs ts) _ (λ e. absurd (cc), z)
    (either n (ch == 43) (plus ts) _ (λ e. absurd (cc), z)
    (either n (ch == 60) (less ts) _ (λ e. absurd (cc), z)
    (either n (ch == 44) (comma ts) _ (λ e. absurd (cc), z)
    (either n (ch == 58) (colon ts) _ (λ e. absurd (cc), z)
    (either n (ch == 59) (semicolon ts) _ (λ e. absurd (cc), z)
    (either n (ch == 61) (assigns ts) _ (λ e. absurd (cc), z)
    (either n (ch == 124) (bar ts) _ (λ e. absurd (cc), z)
    (either n (ch == 35) (hash ts) other (λ e. absurd (cc), omega arith) (λ e. absurd (cc), z)))))))))))))

pair_begins : (n a b : ℕ) (ts : Trees) → Begins n (pair_next a b ts)
pair_begins n a b ts =
    let z : zero ≤ n = omega arith in
    either n ((a == 58) && (b == 58)) (colons ts) _ (λ e. absurd (cc), z)
    (either n ((a == 61) && (b == 62)) (leads ts) _ (λ e. absurd (cc), z)
    (either n ((a == 61) && (b == 61)) (equals ts) _ (λ e. absurd (cc), z)
    (either n ((a == 33) && (b == 61)) (differs ts) _ (λ e. absurd (cc), z)
    (either n ((a == 38) && (b == 38)) (andand ts) _ (λ e. absurd (cc), z)
    (either n ((a == 124) && (b == 124)) (oror ts) _ (λ e. absurd (cc), z)
    (either n ((a == 46) && (b == 46)) (dots ts) _ (λ e. absurd (cc), z)
    (either n ((a == 45) && (b == 62)) (arrow ts) other (λ e. absurd (cc), z) (λ e. absurd (cc), z))))))))

last_begins : (n : ℕ) (s : Spacing) (a b : ℕ) (ts : Trees) → Begins n (last_next s a b ts)
last_begins n Alone a b ts = pair_begins n a b ts
last_begins n Joint a b ts = (λ e. absurd (cc), omega arith)

second_begins : (n a : ℕ) (k : Token) (ts : Trees) → Begins n (second_next a k ts)
second_begins n a (t.Punct p) ts = last_begins n p.spacing a p.ch ts
second_begins n a (t.Ident i) ts = (λ e. absurd (cc), omega arith)
second_begins n a (t.Literal l) ts = (λ e. absurd (cc), omega arith)
second_begins n a (t.Lifetime l) ts = (λ e. absurd (cc), omega arith)

joint_begins : (n a : ℕ) (ts : Trees) → Begins n (joint_next a ts)
joint_begins n a no_trees = (λ e. absurd (cc), omega arith)
joint_begins n a (token k ts) = second_begins n a k ts
joint_begins n a (group d from inside upto ts) = (λ e. absurd (cc), omega arith)

punct_begins : (s : Spacing) (ch : ℕ) (ts : Trees) → Begins (suc (size ts)) (punct_next s ch ts)
punct_begins Alone ch ts = alone_begins ch ts
punct_begins Joint ch ts = joint_begins (suc (size ts)) ch ts

word_begins : (n : ℕ) (w : Word) (i : Ident) (ts : Trees) → Begins n (word_next w i ts)
word_begins n of_path i ts = (λ e. absurd (cc), omega arith)
word_begins n _ i ts = (λ e. absurd (cc), omega arith)

begins : (ts : Trees) → at_end ts ≡ false → Begins (size ts) (next ts)
begins no_trees h = absurd (cc)
begins (token (t.Ident i) ts) h = word_begins (suc (size ts)) (kind i) i ts
begins (token (t.Punct p) ts) h = punct_begins p.spacing p.ch ts
begins (token (t.Literal l) ts) h = (λ e. absurd (cc), omega arith)
begins (token (t.Lifetime l) ts) h = (λ e. absurd (cc), omega arith)
begins (group Paren from inside upto ts) h = (λ e. absurd (cc), omega arith)
begins (group Brace from inside upto ts) h = (λ e. absurd (cc), omega arith)
begins (group Bracket from inside upto ts) h = (λ e. absurd (cc), omega arith)

pub begun : (ts : Trees) → at_end ts ≡ false → next ts ≡ ended → ⊥
begun ts h = (begins ts h).0

next_fits : (ts : Trees) → with_front (next ts) ≤ size ts
next_fits no_trees = omega arith
next_fits (token k us) = (begins (token k us) refl).1
next_fits (group d from inside upto us) = (begins (group d from inside upto us) refl).1

pub hash_less : (ts us : Trees) → next ts ≡ hash us → size us < size ts
hash_less ts us e = omega (arith, next_fits ts, ap with_front e)

pub brackets_less : (ts inside us : Trees) → next ts ≡ in_brackets inside us → size us < size ts
brackets_less ts inside us e = omega (arith, next_fits ts, ap with_front e)
