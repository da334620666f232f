-- Where no tree further on closes a pair `<..>`, no unit with such a pair begins.
use Rattle.std.specs.Prelude.{◌≡◌, ℕ, zero, suc, ◌≤◌, ◌+◌, ◌-◌, Bool, true, false, if◌then◌else◌, nat_lt, None, Some, refl}
use Rattle.std.proofs.Common.{ap, ◌∙◌, sym, arith}
use Rattle.std.specs.Bool.{OnFalse}
use Rattle.std.proofs.lemmas.Bool.{ltb-false}
use Rattle.dm_stream.specs.Trees.{Trees, no_trees, token, group}
use Rattle.dm_stream.specs.Sizes.{size}
use Rattle.dm_expr.specs.Cuts.{Front, after, and_then, one_if, is_char, path_sep_at, closed_at, pair_at, sep_args_at, args_sep_at}
use Rattle.dm_expr.specs.Reach.{is_there, closes, one_further, reach, further}
use Rattle.dm_expr.proofs.Running.{skip, IsBehind, Behind, path_sep-behind}

less-further : (b : Bool) (n : ℕ) → n ≤ one_further b n - 1
less-further b (suc n) = omega arith
less-further true zero = omega arith
less-further false zero = omega arith

further-size : (b : Bool) (n m : ℕ) → n ≤ m → one_further b n ≤ m + 1
further-size b (suc n) m h = omega arith
further-size true zero m h = omega arith
further-size false zero m h = omega arith

pub reach-size : (sep : Bool) (ts : Trees) → reach sep ts ≤ size ts
reach-size sep no_trees = omega arith
reach-size sep (token k rest) = further-size (closes sep (token k rest)) (reach sep rest) (size rest) (reach-size sep rest)
reach-size sep (group d from i upto rest) = further-size false (reach sep rest) (size rest) (reach-size sep rest)

pub reach-skip : (sep : Bool) (n : ℕ) (ts : Trees) → reach sep (skip n ts) ≤ reach sep ts - n
reach-skip sep zero ts = omega arith
reach-skip sep (suc n) no_trees = omega arith
reach-skip sep (suc n) (token k rest) =
    omega (arith, reach-skip sep n rest, less-further (closes sep (token k rest)) (reach sep rest))
reach-skip sep (suc n) (group d from i upto rest) =
    omega (arith, reach-skip sep n rest, less-further false (reach sep rest))

none-further : (b : Bool) (n : ℕ) → one_further b n ≡ 0 → n ≡ 0
none-further b (suc n) h = absurd (omega arith)
none-further true zero h = refl
none-further false zero h = refl

not-here : (b : Bool) (n : ℕ) → one_further b n ≡ 0 → b ≡ false
not-here b (suc n) h = absurd (omega arith)
not-here true zero h = absurd (omega arith)
not-here false zero h = refl

pub after-none : (n : ℕ) (f : Front) → f ≡ None → after n f ≡ None
after-none n None h = refl
after-none n (Some r) h = absurd (cc)

then-after : (n : ℕ) (f : Front) (next : Trees → Front) → and_then f next ≡ None → and_then (after n f) next ≡ None
then-after n None next h = refl
then-after n (Some r) next h = after-none-back n r.0 (next r.1) h
  where
    after-none-back : (n m : ℕ) (f : Front) → after m f ≡ None → after (n + m) f ≡ None
    after-none-back n m None h = refl
    after-none-back n m (Some r) h = absurd (cc)

-- a `>` that is none
not-closer : (b : Bool) (rest : Trees) → is_there (one_if b rest) ≡ false → b ≡ false
not-closer true rest h = absurd (cc)
not-closer false rest h = refl

-- no pair is closed where nothing closes
closed-none-step : (n : ℕ) (b o : Bool) (rest : Trees) → ((m : ℕ) → closed_at 60 62 (suc m) rest ≡ None) → b ≡ false →
    after 1 (closed_at 60 62 (if b then suc n - 1 else if o then suc n + 1 else suc n) rest) ≡ None
closed-none-step n true o rest ih h = absurd (cc)
closed-none-step n false true rest ih h =
    let e : suc n + 1 ≡ suc (suc n) = omega arith in
    ap (λ m. after 1 (closed_at 60 62 m rest)) e ∙ after-none 1 (closed_at 60 62 (suc (suc n)) rest) (ih (suc n))
closed-none-step n false false rest ih h = after-none 1 (closed_at 60 62 (suc n) rest) (ih n)

pub closed-nowhere : (ts : Trees) → reach false ts ≡ 0 → (n : ℕ) → closed_at 60 62 (suc n) ts ≡ None
closed-nowhere no_trees h n = refl
closed-nowhere (token k rest) h n =
    closed-none-step n (is_char 62 k) (is_char 60 k) rest
    (closed-nowhere rest (none-further (closes false (token k rest)) (reach false rest) h))
    (not-closer (is_char 62 k) rest (not-here (closes false (token k rest)) (reach false rest) h))
closed-nowhere (group d from i upto rest) h n =
    after-none 1 (closed_at 60 62 (suc n) rest) (closed-nowhere rest (none-further false (reach false rest) h) n)

pub pair-nowhere : (ts : Trees) → reach false ts ≡ 0 → pair_at 60 62 ts ≡ None
pair-nowhere no_trees h = refl
pair-nowhere (token k rest) h =
    opened (is_char 60 k) rest (closed-nowhere rest (none-further (closes false (token k rest)) (reach false rest) h) 0)
  where
    opened : (b : Bool) (rest : Trees) → closed_at 60 62 1 rest ≡ None → and_then (one_if b rest) (closed_at 60 62 1) ≡ None
    opened true rest h = ap (after 1) h
    opened false rest h = refl
pair-nowhere (group d from i upto rest) h = refl

pub reach-behind : (sep : Bool) (n : ℕ) (ts rest : Trees) → IsBehind n ts rest → reach sep rest ≤ reach sep ts - n
reach-behind sep n ts rest b = omega (arith, reach-skip sep n ts, ap (reach sep) b.rest_is)

then-nowhere : (ts : Trees) (f : Front) → Behind ts f → reach false ts ≡ 0 → and_then f (pair_at 60 62) ≡ None
then-nowhere ts None b h = refl
then-nowhere ts (Some r) b h =
    let l : reach false r.1 ≤ reach false ts - r.0 = reach-behind false r.0 ts r.1 b in
    after-none r.0 (pair_at 60 62 r.1) (pair-nowhere r.1 (omega arith))

pub no_sep_args : (ts : Trees) → reach false ts ≡ 0 → sep_args_at ts ≡ None
no_sep_args ts h = then-nowhere ts (path_sep_at ts) (path_sep-behind ts) h

none-there : (n : ℕ) (f : Front) → is_there (after n f) ≡ false → f ≡ None
none-there n None h = refl
none-there n (Some r) h = absurd (cc)

closes-not : (rest : Trees) → is_there (and_then (one_if true rest) path_sep_at) ≡ false → path_sep_at rest ≡ None
closes-not rest h = none-there 1 (path_sep_at rest) h

then-step : (n : ℕ) (b o : Bool) (rest : Trees) → ((m : ℕ) → and_then (closed_at 60 62 (suc m) rest) path_sep_at ≡ None) →
    is_there (and_then (one_if b rest) path_sep_at) ≡ false →
    and_then (after 1 (closed_at 60 62 (if b then suc n - 1 else if o then suc n + 1 else suc n) rest)) path_sep_at ≡ None
then-step zero true o rest ih h = after-none 1 (path_sep_at rest) (closes-not rest h)
then-step (suc n) true o rest ih h =
    let e : suc (suc n) - 1 ≡ suc n = omega arith in
    ap (λ m. and_then (after 1 (closed_at 60 62 m rest)) path_sep_at) e ∙ then-after 1 (closed_at 60 62 (suc n) rest) path_sep_at (ih n)
then-step n false true rest ih h =
    let e : suc n + 1 ≡ suc (suc n) = omega arith in
    ap (λ m. and_then (after 1 (closed_at 60 62 m rest)) path_sep_at) e ∙ then-after 1 (closed_at 60 62 (suc (suc n)) rest) path_sep_at (ih (suc n))
then-step n false false rest ih h = then-after 1 (closed_at 60 62 (suc n) rest) path_sep_at (ih n)

closed-then : (ts : Trees) → reach true ts ≡ 0 → (n : ℕ) → and_then (closed_at 60 62 (suc n) ts) path_sep_at ≡ None
closed-then no_trees h n = refl
closed-then (token k rest) h n =
    then-step n (is_char 62 k) (is_char 60 k) rest
    (closed-then rest (none-further (closes true (token k rest)) (reach true rest) h))
    (not-here (closes true (token k rest)) (reach true rest) h)
closed-then (group d from i upto rest) h n =
    then-after 1 (closed_at 60 62 (suc n) rest) path_sep_at (closed-then rest (none-further false (reach true rest) h) n)

pub no_args_sep : (ts : Trees) → reach true ts ≡ 0 → args_sep_at ts ≡ None
no_args_sep no_trees h = refl
no_args_sep (token k rest) h =
    opened-then (is_char 60 k) rest (closed-then rest (none-further (closes true (token k rest)) (reach true rest) h) 0)
  where
    opened-then : (b : Bool) (rest : Trees) → and_then (closed_at 60 62 1 rest) path_sep_at ≡ None →
        and_then (and_then (one_if b rest) (closed_at 60 62 1)) path_sep_at ≡ None
    opened-then true rest h = then-after 1 (closed_at 60 62 1 rest) path_sep_at h
    opened-then false rest h = refl
no_args_sep (group d from i upto rest) h = refl

same : (p q : Trees × Trees) → p ≡ q → p ≡ q
same p q e = e

-- behind a unit a list reaches no further
pub passes : (sep : Bool) (ts rest : Trees) (n count last : ℕ) → IsBehind n ts rest → reach sep ts ≤ last - count →
    reach sep rest ≤ last - (count + n)
passes sep ts rest n count last b h = omega (arith, reach-behind sep n ts rest b)

pub further_zero : (n : ℕ) → n ≡ further 0 0 n
further_zero zero = refl
further_zero (suc n) = omega arith

pub reach_fits : (sep : Bool) (ts : Trees) (most : ℕ) → size ts ≤ most → reach sep ts ≤ most - 0
reach_fits sep ts most h = omega (arith, reach-size sep ts)

-- behind the last that closes, none does
pub none_behind : (b : Bool) (count last r : ℕ) → b ≡ nat_lt count last → r ≤ last - count → OnFalse b (r ≡ 0)
none_behind true count last r e h = tt
none_behind false count last r e h = let l : last ≤ count = ltb-false count last (sym e) in omega arith
