-- How runs follow from the units that they are made of.
use Rattle.std.specs.Prelude.{◌≡◌, ℕ, zero, suc, ◌<◌, ◌≤◌, ◌+◌, ◌-◌, Bool, true, false, None, Some, refl}
use Rattle.std.proofs.Common.{ap, ◌∙◌, sym, subst, arith}
use Rattle.dm_stream.specs.declared.tokens.Spacing.{Spacing}
use Rattle.dm_stream.specs.declared.tokens.Spacing.TheVariants.{Joint}
use Rattle.dm_stream.specs.Trees.{Trees, no_trees, token, group}
use Rattle.dm_expr.specs.declared.units.Unit.TheVariants as unit
use Rattle.dm_stream.specs.Sizes.{size}
use Rattle.dm_expr.specs.Cuts.{Front, Found, Run, after, and_then, one_if, is_char, is_spaced, waiting, punct_at, spaced_at, path_sep_at, tree_at, closed_at, pair_at, sep_args_at, args_sep_at, bars_at, or_else, unless, unit_at, unit_size, one_more, goes_on, run_from, some_run, run_at}

-- the trees behind the first n
abbrev pub skip : ℕ → Trees → Trees
skip zero ts = ts
skip (suc n) no_trees = no_trees
skip (suc n) (token k rest) = skip n rest
skip (suc n) (group d from i upto rest) = skip n rest

-- a list has n trees, and then the rest
pub record IsBehind (n : ℕ) (ts rest : Trees) : Type 0 where
  pub fits : n ≤ size ts
  pub rest_is : skip n ts ≡ rest

pub behind-none : (ts : Trees) → IsBehind 0 ts ts
behind-none ts = record { fits = omega arith; rest_is = refl }

suc-plus : (m n : ℕ) → suc m + n ≡ suc (m + n)
suc-plus m n = omega arith

skip-more : (m n : ℕ) (ts : Trees) → m ≤ size ts → skip (m + n) ts ≡ skip n (skip m ts)
skip-more zero n ts h = let e : 0 + n ≡ n = omega arith in ap (λ k. skip k ts) e
skip-more (suc m) n no_trees h = absurd (omega arith)
skip-more (suc m) n (token k rest) h = ap (λ j. skip j (token k rest)) (suc-plus m n) ∙ skip-more m n rest (omega arith)
skip-more (suc m) n (group d from i upto rest) h = ap (λ j. skip j (group d from i upto rest)) (suc-plus m n) ∙ skip-more m n rest (omega arith)

size-skip : (m : ℕ) (ts : Trees) → m ≤ size ts → m + size (skip m ts) ≡ size ts
size-skip zero ts h = omega arith
size-skip (suc m) no_trees h = absurd (omega arith)
size-skip (suc m) (token k rest) h = omega (arith, size-skip m rest (omega arith))
size-skip (suc m) (group d from i upto rest) h = omega (arith, size-skip m rest (omega arith))

pub behind-more : (m n : ℕ) (ts mid rest : Trees) → IsBehind m ts mid → IsBehind n mid rest → IsBehind (m + n) ts rest
behind-more m n ts mid rest a b = record {
  fits = omega (arith, size-skip m ts a.fits, ap size a.rest_is, a.fits, b.fits);
  rest_is = skip-more m n ts a.fits ∙ ap (skip n) a.rest_is ∙ b.rest_is;
}

-- what an answer says of the list
abbrev pub Behind : Trees → Front → Type 0
Behind ts None = Unit {0}
Behind ts (Some r) = IsBehind r.0 ts r.1

pub behind-after : (m : ℕ) (ts mid : Trees) (f : Front) → IsBehind m ts mid → Behind mid f → Behind ts (after m f)
behind-after m ts mid None a b = tt
behind-after m ts mid (Some r) a b = behind-more m r.0 ts mid r.1 a b

pub behind-then : (ts : Trees) (f : Front) (next : Trees → Front) → Behind ts f → ((us : Trees) → Behind us (next us)) → Behind ts (and_then f next)
behind-then ts None next a b = tt
behind-then ts (Some r) next a b = behind-after r.0 ts r.1 (next r.1) a (b r.1)

behind-one : (b : Bool) (k : _) (rest : Trees) → Behind (token k rest) (one_if b rest)
behind-one true k rest = record { fits = omega arith; rest_is = refl }
behind-one false k rest = tt

punct-behind : (p : ℕ) (ts : Trees) → Behind ts (punct_at p ts)
punct-behind p no_trees = tt
punct-behind p (token k rest) = behind-one (is_char p k) k rest
punct-behind p (group d from i upto rest) = tt

spaced-behind : (p : ℕ) (s : Spacing) (ts : Trees) → Behind ts (spaced_at p s ts)
spaced-behind p s no_trees = tt
spaced-behind p s (token k rest) = behind-one (is_spaced p s k) k rest
spaced-behind p s (group d from i upto rest) = tt

pub path_sep-behind : (ts : Trees) → Behind ts (path_sep_at ts)
path_sep-behind ts = behind-then ts (spaced_at 58 Joint ts) (punct_at 58) (spaced-behind 58 Joint ts) (punct-behind 58)

closed-behind : (opener closer n : ℕ) (ts : Trees) → Behind ts (closed_at opener closer n ts)
closed-behind opener closer zero ts = behind-none ts
closed-behind opener closer (suc n) no_trees = tt
closed-behind opener closer (suc n) (token k rest) =
    behind-after 1 (token k rest) rest (closed_at opener closer (waiting opener closer (suc n) k) rest) record { fits = omega arith; rest_is = refl }
    (closed-behind opener closer (waiting opener closer (suc n) k) rest)
closed-behind opener closer (suc n) (group d from i upto rest) =
    behind-after 1 (group d from i upto rest) rest (closed_at opener closer (suc n) rest) record { fits = omega arith; rest_is = refl }
    (closed-behind opener closer (suc n) rest)

pair-behind : (opener closer : ℕ) (ts : Trees) → Behind ts (pair_at opener closer ts)
pair-behind opener closer ts =
    behind-then ts (punct_at opener ts) (closed_at opener closer 1) (punct-behind opener ts) (closed-behind opener closer 1)

sep_args-behind : (ts : Trees) → Behind ts (sep_args_at ts)
sep_args-behind ts = behind-then ts (path_sep_at ts) (pair_at 60 62) (path_sep-behind ts) (pair-behind 60 62)

args_sep-behind : (ts : Trees) → Behind ts (args_sep_at ts)
args_sep-behind ts = behind-then ts (pair_at 60 62 ts) path_sep_at (pair-behind 60 62 ts) path_sep-behind

bars-behind : (b : Bool) (ts : Trees) → Behind ts (bars_at b ts)
bars-behind true ts = pair-behind 124 124 ts
bars-behind false ts = tt

tree-behind : (ts : Trees) → Behind ts (tree_at ts)
tree-behind no_trees = tt
tree-behind (token k rest) = record { fits = omega arith; rest_is = refl }
tree-behind (group d from i upto rest) = record { fits = omega arith; rest_is = refl }

abbrev pub BehindUnit : Trees → Found → Type 0
BehindUnit ts None = Unit {0}
BehindUnit ts (Some r) = IsBehind r.1 ts r.2

behind-or : (u : unit.the_data) (ts : Trees) (f : Front) (other : Found) → Behind ts f → BehindUnit ts other → BehindUnit ts (or_else u f other)
behind-or u ts None other a b = b
behind-or u ts (Some r) other a b = a

behind-unless : (ts : Trees) (f : Front) (found : Found) → BehindUnit ts found → BehindUnit ts (unless f found)
behind-unless ts None found b = b
behind-unless ts (Some r) found b = tt

pub unit-behind : (b : Bool) (ts : Trees) → BehindUnit ts (unit_at b ts)
unit-behind b ts =
    behind-unless ts (punct_at 44 ts) _
    (behind-or unit.SepArgs ts (sep_args_at ts) _ (sep_args-behind ts)
    (behind-or unit.ArgsSep ts (args_sep_at ts) _ (args_sep-behind ts)
    (behind-or unit.Bars ts (bars_at b ts) _ (bars-behind b ts) (behind-or unit.Tree ts (tree_at ts) None (tree-behind ts) tt))))

-- a run after n trees more
abbrev pub passed : ℕ → Run → Run
passed n r = (n + r.0, r.1)

pub passed-zero : (r : Run) → r ≡ passed 0 r
passed-zero r = let e : r.0 ≡ 0 + r.0 = omega arith in ap (λ n. (n, r.1)) e

pub passed-passed : (m n : ℕ) (r : Run) → passed m (passed n r) ≡ passed (m + n) r
passed-passed m n r = let e : m + (n + r.0) ≡ m + n + r.0 = omega arith in ap (λ k. (k, r.1)) e

one_more-passed : (n : ℕ) (r : Run) → one_more (passed n r) ≡ passed (suc n) r
one_more-passed n r = let e : suc (n + r.0) ≡ suc n + r.0 = omega arith in ap (λ k. (k, r.1)) e

run-skip : (b : Bool) (n : ℕ) (ts : Trees) → n ≤ size ts → run_from b n ts ≡ passed n (run_from b 0 (skip n ts))
run-skip b zero ts h = passed-zero (run_from b 0 ts)
run-skip b (suc n) no_trees h = absurd (omega arith)
run-skip b (suc n) (token k rest) h =
    ap one_more (run-skip b n rest (omega arith)) ∙ one_more-passed n (run_from b 0 (skip n rest))
run-skip b (suc n) (group d from i upto rest) h =
    ap one_more (run-skip b n rest (omega arith)) ∙ one_more-passed n (run_from b 0 (skip n rest))

-- a front that is there has a tree
abbrev pub HasTree : Front → Type 0
HasTree None = Unit {0}
HasTree (Some r) = 0 < r.0

after-has : (m : ℕ) (f : Front) → 0 < m → HasTree (after m f)
after-has m None h = tt
after-has m (Some r) h = omega arith

then-has : (f : Front) (next : Trees → Front) → HasTree f → HasTree (and_then f next)
then-has None next h = tt
then-has (Some r) next h = after-has r.0 (next r.1) h

one-has : (b : Bool) (rest : Trees) → HasTree (one_if b rest)
one-has true rest = omega arith
one-has false rest = tt

punct-has : (p : ℕ) (ts : Trees) → HasTree (punct_at p ts)
punct-has p no_trees = tt
punct-has p (token k rest) = one-has (is_char p k) rest
punct-has p (group d from i upto rest) = tt

spaced-has : (p : ℕ) (s : Spacing) (ts : Trees) → HasTree (spaced_at p s ts)
spaced-has p s no_trees = tt
spaced-has p s (token k rest) = one-has (is_spaced p s k) rest
spaced-has p s (group d from i upto rest) = tt

pair-has : (opener closer : ℕ) (ts : Trees) → HasTree (pair_at opener closer ts)
pair-has opener closer ts = then-has (punct_at opener ts) (closed_at opener closer 1) (punct-has opener ts)

bars-has : (b : Bool) (ts : Trees) → HasTree (bars_at b ts)
bars-has true ts = pair-has 124 124 ts
bars-has false ts = tt

tree-has : (ts : Trees) → HasTree (tree_at ts)
tree-has no_trees = tt
tree-has (token k rest) = omega arith
tree-has (group d from i upto rest) = omega arith

abbrev pub UnitHasTree : Found → Type 0
UnitHasTree None = Unit {0}
UnitHasTree (Some r) = 0 < r.1

or-has : (u : unit.the_data) (f : Front) (other : Found) → HasTree f → UnitHasTree other → UnitHasTree (or_else u f other)
or-has u None other a b = b
or-has u (Some r) other a b = a

unless-has : (f : Front) (found : Found) → UnitHasTree found → UnitHasTree (unless f found)
unless-has None found b = b
unless-has (Some r) found b = tt

unit-has : (b : Bool) (ts : Trees) → UnitHasTree (unit_at b ts)
unit-has b ts =
    unless-has (punct_at 44 ts) _
    (or-has unit.SepArgs (sep_args_at ts) _ (then-has (path_sep_at ts) (pair_at 60 62) (then-has (spaced_at 58 Joint ts) (punct_at 58) (spaced-has 58 Joint ts)))
    (or-has unit.ArgsSep (args_sep_at ts) _ (then-has (pair_at 60 62 ts) path_sep_at (pair-has 60 62 ts))
    (or-has unit.Bars (bars_at b ts) _ (bars-has b ts) (or-has unit.Tree (tree_at ts) None (tree-has ts) tt))))

-- a unit that was found has a tree
pub unit_positive : (b : Bool) (ts rest : Trees) (u : unit.the_data) (n : ℕ) → unit_at b ts ≡ Some (u, n, rest) → 0 < n
unit_positive b ts rest u n e = subst UnitHasTree e (unit-has b ts)

pub behind_unit : (b : Bool) (ts rest : Trees) (u : unit.the_data) (n : ℕ) → unit_at b ts ≡ Some (u, n, rest) → IsBehind n ts rest
behind_unit b ts rest u n e = subst (BehindUnit ts) e (unit-behind b ts)

goes-on : (b : Bool) (n : ℕ) (k : _) (us rest : Trees) → 0 < n → IsBehind n (token k us) rest →
    goes_on n (token k us) (run_from b (n - 1) us) ≡ passed n (run_from b 0 rest)
goes-on b zero k us rest h g = absurd (omega arith)
goes-on b (suc m) k us rest h g =
    let e : suc m - 1 ≡ m = omega arith in
    ap (λ j. one_more (run_from b j us)) e ∙ ap one_more (run-skip b m us (omega (arith, g.fits))) ∙
    one_more-passed m (run_from b 0 (skip m us)) ∙ ap (λ t. passed (suc m) (run_from b 0 t)) g.rest_is

group-unit : (b : Bool) (d : _) (from : _) (i : Trees) (upto : _) (us : Trees) → unit_at b (group d from i upto us) ≡ Some (unit.Tree, 1, us)
group-unit true d from i upto us = refl
group-unit false d from i upto us = refl

no-unit : (b : Bool) → unit_at b no_trees ≡ None
no-unit true = refl
no-unit false = refl

abbrev unit_rest : Found → Trees
unit_rest None = no_trees
unit_rest (Some r) = r.2

one_more-one : (r : Run) → one_more r ≡ passed 1 r
one_more-one r = let e : suc r.0 ≡ 1 + r.0 = omega arith in ap (λ k. (k, r.1)) e

same-found : (b : Bool) (f g : Found) → f ≡ g → passed (unit_size f) (run_from b 0 (unit_rest f)) ≡ passed (unit_size g) (run_from b 0 (unit_rest g))
same-found b f g e = ap (λ (h : Found). passed (unit_size h) (run_from b 0 (unit_rest h))) e

-- a run goes on behind a unit
pub run-unit : (b : Bool) (ts rest : Trees) (u : unit.the_data) (n : ℕ) → unit_at b ts ≡ Some (u, n, rest) →
    run_from b 0 ts ≡ passed n (run_from b 0 rest)
run-unit b no_trees rest u n e = let f = no-unit b in absurd (cc)
run-unit b (token k us) rest u n e =
    ap (λ (f : Found). goes_on (unit_size f) (token k us) (run_from b (unit_size f - 1) us)) e ∙
    goes-on b n k us rest (unit_positive b (token k us) rest u n e) (behind_unit b (token k us) rest u n e)
run-unit b (group d from i upto us) rest u n e =
    one_more-one (run_from b 0 us) ∙ same-found b (Some (unit.Tree, 1, us)) (Some (u, n, rest)) (sym (group-unit b d from i upto us) ∙ e)

-- a run is over where no unit begins
pub run-none : (b : Bool) (ts : Trees) → unit_at b ts ≡ None → run_from b 0 ts ≡ (0, ts)
run-none b no_trees e = refl
run-none b (token k us) e = ap (λ (f : Found). goes_on (unit_size f) (token k us) (run_from b (unit_size f - 1) us)) e
run-none b (group d from i upto us) e = let f = group-unit b d from i upto us in absurd (cc)

-- a run of which so many trees are passed goes on behind a unit
pub run-step : (b : Bool) (c ts rest : Trees) (u : unit.the_data) (count n : ℕ) → run_from b 0 c ≡ passed count (run_from b 0 ts) →
    unit_at b ts ≡ Some (u, n, rest) → run_from b 0 c ≡ passed (count + n) (run_from b 0 rest)
run-step b c ts rest u count n h e =
    h ∙ ap (passed count) (run-unit b ts rest u n e) ∙ passed-passed count n (run_from b 0 rest)

-- the run is over
pub run-end : (b : Bool) (c ts : Trees) (count : ℕ) → run_from b 0 c ≡ passed count (run_from b 0 ts) → unit_at b ts ≡ None →
    run_from b 0 c ≡ (count, ts)
run-end b c ts count h e = let z : count + 0 ≡ count = omega arith in h ∙ ap (passed count) (run-none b ts e) ∙ ap (λ n. (n, ts)) z

pub run-found : (b : Bool) (c ts : Trees) (count : ℕ) → run_from b 0 c ≡ (count, ts) → 0 < count → run_at b c ≡ Some (count, ts)
run-found b c ts zero h p = absurd (omega arith)
run-found b c ts (suc n) h p = ap some_run h

pub run-empty : (b : Bool) (c ts : Trees) (count : ℕ) → run_from b 0 c ≡ (count, ts) → count ≡ 0 → run_at b c ≡ None
run-empty b c ts zero h p = ap some_run h
run-empty b c ts (suc n) h p = absurd (omega arith)
