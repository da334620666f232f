-- Fronts of trees with others behind them, and fronts as trees.
use Rattle.std.proofs.Common.{◌≡◌, ℕ, zero, suc, ◌+◌, true, Option, Some, None, refl, sym, ap, ◌∙◌, arith}
use Rattle.dm_stream.specs.Trees.{Trees, no_trees, token, group, join}
use Rattle.dm_stream.specs.Cursors.{split_trees, before}
use Rattle.dm_stream.specs.Sizes.{size}
use Rattle.dm_expr.specs.Cuts.{Front, after, and_then, waiting, closed_at}
use Rattle.dm_expr.specs.Reach.{is_there}

module _ (rest : Trees) where
  abbrev pub longer : Front → Front
  longer None = None
  longer (Some r) = Some (r.0, join r.1 rest)

  -- the same front, with more behind it
  abbrev pub Stays : (Trees → Front) → Trees → Type 0
  Stays front ts = front (join ts rest) ≡ longer (front ts)

  pub longer_after : (n : ℕ) (f : Front) → longer (after n f) ≡ after n (longer f)
  longer_after n None = refl
  longer_after n (Some r) = refl

  pub stays_then : (f g : Front) (next : Trees → Front) → g ≡ longer f → ((r : ℕ × Trees) → f ≡ Some r → Stays next r.1) →
      and_then g next ≡ longer (and_then f next)
  stays_then None g next e k = ap (λ x. and_then x next) e
  stays_then (Some r) g next e k =
      ap (λ x. and_then x next) e ∙ (ap (after r.0) (k r refl) ∙ sym (longer_after r.0 (next r.1)))

  pub there_after : (n : ℕ) (f : Front) → is_there (after n f) ≡ true → is_there f ≡ true
  there_after n None h = h
  there_after n (Some r) h = refl

  pub stays_closed : (opener closer n : ℕ) (ts : Trees) → is_there (closed_at opener closer n ts) ≡ true →
      Stays (closed_at opener closer n) ts
  stays_closed opener closer zero ts h = refl
  stays_closed opener closer (suc n) no_trees h = absurd (cc)
  stays_closed opener closer (suc n) (token k ts) h =
      let m : ℕ = waiting opener closer (suc n) k in
      ap (after 1) (stays_closed opener closer m ts (there_after 1 (closed_at opener closer m ts) h)) ∙
      sym (longer_after 1 (closed_at opener closer m ts))
  stays_closed opener closer (suc n) (group d f us g ts) h =
      ap (after 1) (stays_closed opener closer (suc n) ts (there_after 1 (closed_at opener closer (suc n) ts) h)) ∙
      sym (longer_after 1 (closed_at opener closer (suc n) ts))

-- ---- as trees

split_more : (n : ℕ) (first : Trees) (o : Option (Trees × Trees)) (us vs : Trees) → ((a b : Trees) → o ≡ Some (a, b) → n ≡ size a) →
    ((a : Trees) → size (join first a) ≡ size a + 1) → before first o ≡ Some (us, vs) → suc n ≡ size us
split_more n first None us vs k q e = absurd (cc)
split_more n first (Some (a, b)) us vs k q e =
    let f : ◌≡◌ {A = Trees × Trees} (join first a, b) (us, vs) = cc in
    let c : size (join first a) ≡ size us = ap (λ (x : Trees × Trees). size x.0) f in
    let n_is : n ≡ size a = k a b refl in
    omega (arith, n_is, c, q a)

pub split_size : (n : ℕ) (ts us vs : Trees) → split_trees n ts ≡ Some (us, vs) → n ≡ size us
split_size zero ts us vs e = let f : (no_trees, ts) ≡ (us, vs) = cc in ap (λ (x : Trees × Trees). size x.0) f
split_size (suc n) no_trees us vs e = absurd (cc)
split_size (suc n) (token k ts) us vs e =
    split_more n (token k no_trees) (split_trees n ts) us vs (λ a b f. split_size n ts a b f) (λ a. refl) e
split_size (suc n) (group d f w g ts) us vs e =
    split_more n (group d f w g no_trees) (split_trees n ts) us vs (λ a b h. split_size n ts a b h) (λ a. refl) e

pub split_join : (v rest : Trees) → split_trees (size v) (join v rest) ≡ Some (v, rest)
split_join no_trees rest = refl
split_join (token k ts) rest =
    let e : size ts + 1 ≡ suc (size ts) = omega arith in
    ap (λ n. split_trees n (token k (join ts rest))) e ∙ ap (before (token k no_trees)) (split_join ts rest)
split_join (group d f us g ts) rest =
    let e : size ts + 1 ≡ suc (size ts) = omega arith in
    ap (λ n. split_trees n (group d f us g (join ts rest))) e ∙ ap (before (group d f us g no_trees)) (split_join ts rest)
