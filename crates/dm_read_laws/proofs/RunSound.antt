-- The value of a format's argument, where it is read before others, is one run of its own trees, to their end.
use Rattle.std.proofs.Common.{◌≡◌, ℕ, zero, suc, ◌+◌, ◌≤◌, ◌<◌, Bool, true, false, Some, None, refl, sym, ap, ◌∙◌, subst, arith}
use Rattle.dm_stream.specs.declared.tokens.Spacing.{Spacing}
use Rattle.dm_stream.specs.declared.tokens.Spacing.TheVariants.{Joint}
use Rattle.dm_stream.specs.declared.tokens.Token.{Token}
use Rattle.dm_stream.specs.Trees.{Trees, no_trees, token, group, join, join-no_trees}
use Rattle.dm_stream.specs.Cursors.{split_trees}
use Rattle.dm_stream.specs.Sizes.{size}
use Rattle.dm_expr.specs.declared.units.Unit.TheVariants as unit
use Rattle.dm_expr.specs.Cuts.{Front, Found, Run, after, and_then, one_if, is_char, is_spaced, waiting, punct_at, spaced_at, path_sep_at, tree_at, closed_at, pair_at, sep_args_at, args_sep_at, or_else, unless, unit_at, run_from, some_run, run_at, split_at}
use Rattle.dm_expr.proofs.Joining.{split_joins}
use Rattle.dm_expr.proofs.Running.{passed, unit_positive, run-unit, run-none}
use Rattle.dm_reread.specs.RunLeaves.{read_run, is_closed, IsRun}
use Rattle.dm_reread.specs.ExactLeaves.{closed_run}
use Rattle.dm_reread.proofs.LeafFronts.{split_size, split_join}
use Rattle.dm_read_laws.specs.Sound.{Spells}
use Rattle.dm_read_laws.proofs.Answers.{tested_some}

-- ---- fronts of trees alone, and with others behind them

after_least : (n : ℕ) (f : Front) (r : ℕ × Trees) → after n f ≡ Some r → n ≤ r.0
after_least n None r e = absurd (cc)
after_least n (Some q) r e =
    let h : (n + q.0, q.1) ≡ r = cc in
    let k : n + q.0 ≡ r.0 = ap (λ (x : ℕ × Trees). x.0) h in
    omega (arith, k)

one_positive : (b : Bool) (ts : Trees) (r : ℕ × Trees) → one_if b ts ≡ Some r → 0 < r.0
one_positive true ts r e =
    let h : (1, ts) ≡ r = cc in
    let k : 1 ≡ r.0 = ap (λ (x : ℕ × Trees). x.0) h in
    omega (arith, k)
one_positive false ts r e = absurd (cc)

punct_positive : (c : ℕ) (ts : Trees) (r : ℕ × Trees) → punct_at c ts ≡ Some r → 0 < r.0
punct_positive c no_trees r e = absurd (cc)
punct_positive c (token k ts) r e = one_positive (is_char c k) ts r e
punct_positive c (group d f i g ts) r e = absurd (cc)

spaced_positive : (c : ℕ) (s : Spacing) (ts : Trees) (r : ℕ × Trees) → spaced_at c s ts ≡ Some r → 0 < r.0
spaced_positive c s no_trees r e = absurd (cc)
spaced_positive c s (token k ts) r e = one_positive (is_spaced c s k) ts r e
spaced_positive c s (group d f i g ts) r e = absurd (cc)

tree_positive : (ts : Trees) (r : ℕ × Trees) → tree_at ts ≡ Some r → 0 < r.0
tree_positive no_trees r e = absurd (cc)
tree_positive (token k ts) r e = one_positive true ts r e
tree_positive (group d f i g ts) r e = one_positive true ts r e

closed_positive : (opener closer n : ℕ) (ts : Trees) (r : ℕ × Trees) → closed_at opener closer (suc n) ts ≡ Some r → 0 < r.0
closed_positive opener closer n no_trees r e = absurd (cc)
closed_positive opener closer n (token k ts) r e =
    let h : 1 ≤ r.0 = after_least 1 (closed_at opener closer (waiting opener closer (suc n) k) ts) r e in
    omega (arith, h)
closed_positive opener closer n (group d f i g ts) r e =
    let h : 1 ≤ r.0 = after_least 1 (closed_at opener closer (suc n) ts) r e in
    omega (arith, h)

module _ (us : Trees) where
  -- what is in front of the trees alone is in front of all, and what is in front of all is longer or is in front of the trees alone
  abbrev pub IsLocal : Trees → Front → Front → Type 0
  IsLocal v None g = (r : ℕ × Trees) → g ≡ Some r → size v < r.0
  IsLocal v (Some r) g = (r.0 + size r.1 ≡ size v) × (g ≡ Some (r.0, join r.1 us))

  local_one : (b : Bool) (k : Token) (ts : Trees) → IsLocal (token k ts) (one_if b ts) (one_if b (join ts us))
  local_one true k ts = (omega arith, refl)
  local_one false k ts = λ r e. absurd (cc)

  local_punct : (c : ℕ) (v : Trees) → IsLocal v (punct_at c v) (punct_at c (join v us))
  local_punct c no_trees = punct_positive c us
  local_punct c (token k ts) = local_one (is_char c k) k ts
  local_punct c (group d f i g ts) = λ r e. absurd (cc)

  local_spaced : (c : ℕ) (s : Spacing) (v : Trees) → IsLocal v (spaced_at c s v) (spaced_at c s (join v us))
  local_spaced c s no_trees = spaced_positive c s us
  local_spaced c s (token k ts) = local_one (is_spaced c s k) k ts
  local_spaced c s (group d f i g ts) = λ r e. absurd (cc)

  local_tree : (v : Trees) → IsLocal v (tree_at v) (tree_at (join v us))
  local_tree no_trees = tree_positive us
  local_tree (token k ts) = (omega arith, refl)
  local_tree (group d f i g ts) = (omega arith, refl)

  longer_after : (n : ℕ) (v w : Trees) (g : Front) (r : ℕ × Trees) → n + size w ≡ size v → ((q : ℕ × Trees) → g ≡ Some q → size w < q.0) →
      after n g ≡ Some r → size v < r.0
  longer_after n v w None r s l e = absurd (cc)
  longer_after n v w (Some q) r s l e =
      let h : (n + q.0, q.1) ≡ r = cc in
      let k : n + q.0 ≡ r.0 = ap (λ (x : ℕ × Trees). x.0) h in
      omega (arith, s, k, l q refl)

  local_after : (n : ℕ) (v w : Trees) (f g : Front) → n + size w ≡ size v → IsLocal w f g → IsLocal v (after n f) (after n g)
  local_after n v w None g s l = λ r e. longer_after n v w g r s l e
  local_after n v w (Some q) g s l = (omega (arith, s, l.0), ap (after n) l.1)

  longer_then : (v : Trees) (g : Front) (next : Trees → Front) (r : ℕ × Trees) → ((q : ℕ × Trees) → g ≡ Some q → size v < q.0) →
      and_then g next ≡ Some r → size v < r.0
  longer_then v None next r l e = absurd (cc)
  longer_then v (Some q) next r l e =
      let h : q.0 ≤ r.0 = after_least q.0 (next q.1) r e in
      omega (arith, h, l q refl)

  local_then : (v : Trees) (f g : Front) (next : Trees → Front) → IsLocal v f g → ((w : Trees) → IsLocal w (next w) (next (join w us))) →
      IsLocal v (and_then f next) (and_then g next)
  local_then v None g next l k = λ r e. longer_then v g next r l e
  local_then v (Some q) g next l k =
      subst (λ x. IsLocal v (after q.0 (next q.1)) (and_then x next)) (sym l.1)
      (local_after q.0 v q.1 (next q.1) (next (join q.1 us)) l.0 (k q.1))

  local_closed : (opener closer n : ℕ) (v : Trees) → IsLocal v (closed_at opener closer n v) (closed_at opener closer n (join v us))
  local_closed opener closer zero v = (omega arith, refl)
  local_closed opener closer (suc n) no_trees = closed_positive opener closer n us
  local_closed opener closer (suc n) (token k ts) =
      let m : ℕ = waiting opener closer (suc n) k in
      local_after 1 (token k ts) ts (closed_at opener closer m ts) (closed_at opener closer m (join ts us)) (omega arith) (local_closed opener closer m ts)
  local_closed opener closer (suc n) (group d f i g ts) =
      local_after 1 (group d f i g ts) ts (closed_at opener closer (suc n) ts) (closed_at opener closer (suc n) (join ts us)) (omega arith)
      (local_closed opener closer (suc n) ts)

  pub local_pair : (opener closer : ℕ) (v : Trees) → IsLocal v (pair_at opener closer v) (pair_at opener closer (join v us))
  local_pair opener closer v =
      local_then v (punct_at opener v) (punct_at opener (join v us)) (closed_at opener closer 1) (local_punct opener v) (local_closed opener closer 1)

  local_colons : (v : Trees) → IsLocal v (path_sep_at v) (path_sep_at (join v us))
  local_colons v = local_then v (spaced_at 58 Joint v) (spaced_at 58 Joint (join v us)) (punct_at 58) (local_spaced 58 Joint v) (local_punct 58)

  local_sep_args : (v : Trees) → IsLocal v (sep_args_at v) (sep_args_at (join v us))
  local_sep_args v = local_then v (path_sep_at v) (path_sep_at (join v us)) (pair_at 60 62) (local_colons v) (local_pair 60 62)

  local_args_sep : (v : Trees) → IsLocal v (args_sep_at v) (args_sep_at (join v us))
  local_args_sep v = local_then v (pair_at 60 62 v) (pair_at 60 62 (join v us)) path_sep_at (local_pair 60 62 v) local_colons

  -- ---- units

  abbrev One : Type 0
  One = unit.the_data × ℕ × Trees

  -- the unit is one of the trees alone
  record IsCut (v : Trees) (x : Found) (y : One) : Type 0 where
    rest : Trees
    there : x ≡ Some (y.0, y.1, rest)
    joins : y.2 ≡ join rest us
    sum : y.1 + size rest ≡ size v

  -- a unit in front of all, where it is no longer than the trees
  abbrev Within : Trees → Found → Found → Type 0
  Within v x z = (y : One) → z ≡ Some y → y.1 ≤ size v → IsCut v x y

  front_cut : (v : Trees) (u : unit.the_data) (r : ℕ × Trees) (y : One) → r.0 + size r.1 ≡ size v →
      ◌≡◌ {A = Found} (Some (u, r.0, join r.1 us)) (Some y) → IsCut v (Some (u, r.0, r.1)) y
  front_cut v u r y s e =
      let h : ◌≡◌ {A = One} (u, r.0, join r.1 us) y = cc in
      subst (λ (z : One). IsCut v (Some (u, r.0, r.1)) z) h (record { rest = r.1; there = refl; joins = refl; sum = s })

  within_or : (v : Trees) (u : unit.the_data) (f g : Front) (x z : Found) → IsLocal v f g → Within v x z → Within v (or_else u f x) (or_else u g z)
  within_or v u None None x z l k = k
  within_or v u None (Some r) x z l k =
      λ y e m.
      let h : ◌≡◌ {A = One} (u, r.0, r.1) y = cc in
      let c : r.0 ≡ y.1 = ap (λ (w : One). w.1) h in
      absurd (omega (arith, c, m, l r refl))
  within_or v u (Some r) g x z l k = λ y e m. front_cut v u r y l.0 (sym (ap (λ w. or_else u w z) l.1) ∙ e)

  within_unless : (v : Trees) (f g : Front) (x z : Found) → IsLocal v f g → Within v x z → Within v (unless f x) (unless g z)
  within_unless v None None x z l k = k
  within_unless v None (Some r) x z l k = λ y e m. absurd (cc)
  within_unless v (Some r) g x z l k = λ y e m. let h : None ≡ Some y = sym (ap (λ w. unless w z) l.1) ∙ e in absurd (cc)

  within_none : (v : Trees) → Within v None None
  within_none v = λ y e m. absurd (cc)

  unit_within : (v : Trees) → Within v (unit_at true v) (unit_at true (join v us))
  unit_within v =
      within_unless v (punct_at 44 v) (punct_at 44 (join v us)) _ _ (local_punct 44 v)
      (within_or v unit.SepArgs (sep_args_at v) (sep_args_at (join v us)) _ _ (local_sep_args v)
      (within_or v unit.ArgsSep (args_sep_at v) (args_sep_at (join v us)) _ _ (local_args_sep v)
      (within_or v unit.Bars (pair_at 124 124 v) (pair_at 124 124 (join v us)) _ _ (local_pair 124 124 v)
      (within_or v unit.Tree (tree_at v) (tree_at (join v us)) None None (local_tree v) (within_none v)))))

  -- ---- runs

  -- a run of just the trees is a run of the trees alone
  abbrev IsAlone : Trees → Type 0
  IsAlone v = run_from true 0 v ≡ (size v, no_trees)

  module _ (n : ℕ) (shorter : (v : Trees) → size v ≤ n → (run_from true 0 (join v us)).0 ≡ size v → IsAlone v) where
    by_unit : (v : Trees) (f : Found) → unit_at true (join v us) ≡ f → 0 < size v → size v ≤ suc n → (run_from true 0 (join v us)).0 ≡ size v → IsAlone v
    by_unit v None e p m c = absurd (omega (arith, p, sym (ap (λ (x : Run). x.0) (run-none true (join v us) e)) ∙ c))
    by_unit v (Some (u, k, r)) e p m c =
        let q : k + (run_from true 0 r).0 ≡ size v = sym (ap (λ (x : Run). x.0) (run-unit true (join v us) r u k e)) ∙ c in
        let w : IsCut v (unit_at true v) (u, k, r) = unit_within v (u, k, r) e (omega (arith, q)) in
        let j : k + (run_from true 0 (join w.rest us)).0 ≡ size v = ap (λ x. k + (run_from true 0 x).0) (sym w.joins) ∙ q in
        let i : IsAlone w.rest =
        shorter w.rest (omega (arith, w.sum, m, unit_positive true (join v us) r u k e)) (omega (arith, j, w.sum)) in
        run-unit true v w.rest u k w.there ∙ (ap (passed k) i ∙ ap (λ x. (x, no_trees)) w.sum)

  run_alone : (n : ℕ) (v : Trees) → size v ≤ n → (run_from true 0 (join v us)).0 ≡ size v → IsAlone v
  run_alone n no_trees m c = refl
  run_alone zero (token k ts) m c = absurd (omega (arith, m))
  run_alone zero (group d f i g ts) m c = absurd (omega (arith, m))
  run_alone (suc n) (token k ts) m c =
      by_unit n (run_alone n) (token k ts) (unit_at true (join (token k ts) us)) refl (omega arith) m c
  run_alone (suc n) (group d f i g ts) m c =
      by_unit n (run_alone n) (group d f i g ts) (unit_at true (join (group d f i g ts) us)) refl (omega arith) m c

-- ---- as trees

counted : (r : Run) (ts v us : Trees) → split_at (some_run r) ts ≡ Some (v, us) → (r.0 ≡ size v) × (0 < size v)
counted (zero, o) ts v us e = absurd (cc)
counted (suc n, o) ts v us e = let h : suc n ≡ size v = split_size (suc n) ts v us e in (h, omega (arith, h))

some_front : (n : ℕ) (o : Trees) → 0 < n → some_run (n, o) ≡ Some (n, o)
some_front zero o h = absurd (omega arith)
some_front (suc n) o h = refl

split_all : (v : Trees) → split_trees (size v) v ≡ Some (v, no_trees)
split_all v = ap (split_trees (size v)) (sym (join-no_trees v)) ∙ split_join v no_trees

-- what is known of the run in front
record IsCutOff (ts us v : Trees) : Type 0 where
  joins : ts ≡ join v us
  alone : IsAlone us v
  some : 0 < size v

cut_off : (ts us v : Trees) → read_run ts ≡ Some (v, us) → IsCutOff ts us v
cut_off ts us v e =
    let j : ts ≡ join v us = split_joins (run_at true ts) ts v us e in
    let c = counted (run_from true 0 ts) ts v us e in
    record {
      joins = j;
      alone = run_alone us (size v) v (omega arith) (ap (λ x. (run_from true 0 x).0) (sym j) ∙ c.0);
      some = c.1;
    }

-- the value, and that nothing in it is left open
closed_answer : (ts us v : Trees) → closed_run ts ≡ Some (v, us) → (read_run ts ≡ Some (v, us)) × (is_closed v ≡ true)
closed_answer ts us v e = tested_some {A = Trees × Trees} (λ a. is_closed a.0) (read_run ts) (v, us) e

pub run_sound : (ts us v : Trees) → closed_run ts ≡ Some (v, us) → IsRun v × Spells v ts us
run_sound ts us v e =
    let a = closed_answer ts us v e in
    let c : IsCutOff ts us v = cut_off ts us v a.0 in
    let one : read_run v ≡ Some (v, no_trees) =
    ap (λ x. split_at (some_run x) v) c.alone ∙ (ap (λ x. split_at x v) (some_front (size v) no_trees c.some) ∙ split_all v) in
    (record { one = one; closed = a.1 }, c.joins)
