-- Groups, by what the calls of a cursor say.
use Rattle.std.proofs.Common.{◌≡◌, ℕ, Bool, true, false, nat_lt, if◌then◌else◌, Some, None, Result, Ok, Err, refl, ap, ◌∙◌}
use Rattle.std.proofs.lemmas.Grind.{common_steps}
use Rattle.dm_stream.specs.declared.tokens.Span.{Span}
use Rattle.dm_stream.specs.declared.tokens.Delim.{Delim}
use Rattle.dm_stream.specs.declared.tokens.Delim.TheVariants.{Paren, Bracket, Brace}
use Rattle.dm_stream.specs.declared.error.Refusal.{Refusal}
use Rattle.dm_stream.specs.declared.error.Kind.TheVariants.{TooDeep, Syntax}
use Rattle.dm_stream.specs.Trees.{Trees, no_trees, token, group}
use Rattle.dm_stream.specs.Cursors.{first_group, front_span, group_if, same_delim}
use Rattle.dm_ast.specs.Spelling.{Where, deepest, sees_group}
use Rattle.dm_ast.specs.Readers.{open_group}
use Rattle.dm_ast.specs.PlainReaders.{delim_of}
use Rattle.dm_read.proofs.Groups.{delim_is}

abbrev triple : Trees → ℕ → Trees → Trees × ℕ × Trees
triple a n b = (a, n, b)

-- ---- the inside of a group

opened_if : (b : Bool) (d : Delim) (w : Where) (inside rest us vs : Trees) (from upto : Span) (n : ℕ) → group_if b inside upto rest ≡ Some (us, n, vs) → nat_lt deepest w.level ≡ false →
    ◌≡◌ {A = Result (Trees × ℕ × Trees) Refusal}
    (if b then (if nat_lt deepest w.level then Err (record { kind = TooDeep; span = from }) else Ok (inside, upto.start, rest)) else Err (record { kind = Syntax; span = from }))
    (Ok (us, n, vs))
opened_if true d w inside rest us vs from upto n e l =
    let f : triple inside upto.start rest ≡ triple us n vs = cc in
    ap (λ x. if x then Err (record { kind = TooDeep; span = from }) else Ok (triple inside upto.start rest)) l ∙ ap (λ v. Ok v) f
opened_if false d w inside rest us vs from upto n e l = absurd (cc)

-- a group that is found, at a level that is not too deep
pub opens_group : (d : Delim) (w : Where) (ts us vs : Trees) (n : ℕ) → first_group d ts ≡ Some (us, n, vs) → nat_lt deepest w.level ≡ false → open_group d w ts ≡ Ok (us, n, vs)
opens_group d w (group e from inside upto rest) us vs n h l = opened_if (same_delim e d) d w inside rest us vs from upto n h l
opens_group d w _ us vs n h l = absurd (cc)

deep_if : (b : Bool) (w : Where) (inside rest us vs : Trees) (from upto : Span) (n : ℕ) → group_if b inside upto rest ≡ Some (us, n, vs) → nat_lt deepest w.level ≡ true →
    ◌≡◌ {A = Result (Trees × ℕ × Trees) Refusal}
    (if b then (if nat_lt deepest w.level then Err (record { kind = TooDeep; span = from }) else Ok (inside, upto.start, rest)) else Err (record { kind = Syntax; span = from }))
    (Err (record { kind = TooDeep; span = from }))
deep_if true w inside rest us vs from upto n e l = ap (λ x. if x then Err (record { kind = TooDeep; span = from }) else Ok (triple inside upto.start rest)) l
deep_if false w inside rest us vs from upto n e l = absurd (cc)

pub opens_deep : (d : Delim) (w : Where) (ts us vs : Trees) (n : ℕ) → first_group d ts ≡ Some (us, n, vs) → nat_lt deepest w.level ≡ true →
    open_group d w ts ≡ Err (record { kind = TooDeep; span = front_span ts w.limit })
opens_deep d w (group e from inside upto rest) us vs n h l = deep_if (same_delim e d) w inside rest us vs from upto n h l
opens_deep d w _ us vs n h l = absurd (cc)

missed_if : (b : Bool) (w : Where) (inside rest : Trees) (from upto : Span) → group_if b inside upto rest ≡ None →
    ◌≡◌ {A = Result (Trees × ℕ × Trees) Refusal}
    (if b then (if nat_lt deepest w.level then Err (record { kind = TooDeep; span = from }) else Ok (inside, upto.start, rest)) else Err (record { kind = Syntax; span = from }))
    (Err (record { kind = Syntax; span = from }))
missed_if true w inside rest from upto e = absurd (cc)
missed_if false w inside rest from upto e = refl

pub opens_none : (d : Delim) (w : Where) (ts : Trees) → first_group d ts ≡ None → open_group d w ts ≡ Err (record { kind = Syntax; span = front_span ts w.limit })
opens_none d w (group e from inside upto rest) h = missed_if (same_delim e d) w inside rest from upto h
opens_none d w no_trees h = refl
opens_none d w (token k rest) h = refl

pub ruleset opening_steps = (common_steps, opens_group, opens_deep, opens_none)

pub delim_found : (d : Delim) (ts : Trees) → sees_group d ts ≡ true → delim_of ts ≡ Some d
delim_found d (group e from inside upto rest) h = ap (λ x. Some x) (delim_is d e h)
delim_found d no_trees h = absurd (cc)
delim_found d (token k rest) h = absurd (cc)

pub delim_none : (ts : Trees) → sees_group Paren ts ≡ false → sees_group Bracket ts ≡ false → sees_group Brace ts ≡ false → delim_of ts ≡ None
delim_none (group Paren from inside upto rest) a b c = absurd (cc)
delim_none (group Bracket from inside upto rest) a b c = absurd (cc)
delim_none (group Brace from inside upto rest) a b c = absurd (cc)
delim_none _ a b c = refl

pub ruleset delim_steps = (common_steps, delim_found, delim_none)
