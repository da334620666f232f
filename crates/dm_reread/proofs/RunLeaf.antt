-- The value of a format's argument comes back from its tokens, where a comma or an end stands behind it.
use Rattle.std.proofs.Common.{◌≡◌, ℕ, zero, suc, ◌+◌, ◌≤◌, ◌<◌, Bool, true, false, ◌&&◌, ◌||◌, not, nat_eq, if◌then◌else◌, Some, None, T, refl, sym, ap, ◌∙◌, subst, arith}
use Rattle.dm_stream.specs.declared.tokens.Punct.{Punct}
use Rattle.dm_stream.specs.declared.tokens.Spacing.TheVariants.{Joint}
use Rattle.dm_stream.specs.declared.tokens.Token.{Token}
use Rattle.dm_stream.specs.declared.tokens.Token.TheVariants as t
use Rattle.dm_stream.specs.Trees.{Trees, no_trees, token, group, join}
use Rattle.dm_stream.specs.Cursors.{same_spacing}
use Rattle.dm_stream.specs.Sizes.{size}
use Rattle.dm_expr.specs.declared.units.Unit.TheVariants as unit
use Rattle.dm_expr.specs.Cuts.{Front, Found, Run, and_then, one_if, is_char, is_spaced, punct_at, spaced_at, path_sep_at, closed_at, pair_at, sep_args_at, args_sep_at, or_else, unless, unit_at, run_from, some_run, split_at}
use Rattle.dm_expr.specs.Reach.{is_there}
use Rattle.dm_expr.proofs.Running.{skip, IsBehind, Behind, path_sep-behind, behind_unit, unit_positive, run-unit, run-none, passed}
use Rattle.dm_reread.specs.Next.{kind, Next, ended, comma, next}
use Rattle.dm_reread.specs.Leaves.{ends_type, ends_run}
use Rattle.dm_reread.specs.RunLeaves.{read_run, is_closed, IsRun}
use Rattle.dm_reread.proofs.LeafFronts.{longer, Stays, stays_then, there_after, stays_closed, split_size, split_join}
use Rattle.dm_reread.proofs.TypeLeafEnds.{Stop, stop_end, stop_punct, stop_brace, stop_word, ends_word, ends_stop, stop_cases}

-- ---- an end, or a comma

pub data Comma : Trees → Type 0 where
  comma_end : Comma no_trees
  comma_first : (p : Punct) (ts : Trees) → p.ch ≡ 44 → Comma (token (t.Punct p) ts)

type_ends : (n : Next) → T (ends_run n) → T (ends_type n)
type_ends ended h = tt
type_ends (comma ts) h = tt
type_ends _ h = absurd h

comma_by : (rest : Trees) → Stop rest → T (ends_run (next rest)) → Comma rest
comma_by _ stop_end h = comma_end
comma_by _ (stop_punct p ts a o) h =
    comma_first p ts (stop_cases ends_run p ts a o h (λ e k. e) (λ k. absurd k) (λ k. absurd k) (λ k. absurd k))
comma_by _ (stop_brace f g us ts) h = absurd h
comma_by _ (stop_word i ts e) h = absurd (ends_word (kind i) i ts (type_ends (next (token (t.Ident i) ts)) h))

ends_comma : (rest : Trees) → T (ends_run (next rest)) → Comma rest
ends_comma rest h = comma_by rest (ends_stop rest (type_ends (next rest) h)) h

-- ---- fronts of trees with others behind

module _ (rest : Trees) (end : Comma rest) where
  stays_one : (b : Bool) (ts : Trees) → one_if b (join ts rest) ≡ longer rest (one_if b ts)
  stays_one true ts = refl
  stays_one false ts = refl

  stays_punct : (p : ℕ) → nat_eq 44 p ≡ false → (ts : Trees) → Stays rest (punct_at p) ts
  stays_punct p h (token k ts) = stays_one (is_char p k) ts
  stays_punct p h (group d f us g ts) = refl
  stays_punct p h no_trees = by rest end
    where
      by : (us : Trees) → Comma us → punct_at p us ≡ None
      by _ comma_end = refl
      by _ (comma_first q us e) = ap (λ x. one_if (nat_eq x p) us) e ∙ ap (λ b. one_if b us) h

  stays_colon : (ts : Trees) → Stays rest (spaced_at 58 Joint) ts
  stays_colon (token k ts) = stays_one (is_spaced 58 Joint k) ts
  stays_colon (group d f us g ts) = refl
  stays_colon no_trees = by rest end
    where
      by : (us : Trees) → Comma us → spaced_at 58 Joint us ≡ None
      by _ comma_end = refl
      by _ (comma_first q us e) = ap (λ x. one_if (if nat_eq x 58 then same_spacing q.spacing Joint else false) us) e

  stays_colons : (ts : Trees) → Stays rest path_sep_at ts
  stays_colons ts =
      stays_then rest (spaced_at 58 Joint ts) (spaced_at 58 Joint (join ts rest)) (punct_at 58) (stays_colon ts)
      (λ r e. stays_punct 58 refl r.1)

  both : (b c : Bool) → (b && c) ≡ true → (b ≡ true) × (c ≡ true)
  both true c h = (refl, h)
  both false c h = absurd (cc)

  -- what stands behind some of them leaves nothing open either
  closed_skip : (n : ℕ) (ts : Trees) → is_closed ts ≡ true → is_closed (skip n ts) ≡ true
  closed_skip zero ts h = h
  closed_skip (suc n) no_trees h = h
  closed_skip (suc n) (token k ts) h = closed_skip n ts (both _ (is_closed ts) h).1
  closed_skip (suc n) (group d f us g ts) h = closed_skip n ts h

  closed_by : (b : Bool) (ts : Trees) (r : ℕ × Trees) → one_if b ts ≡ Some r →
      (not b || is_there (and_then (one_if b ts) (closed_at 60 62 1))) ≡ true → is_there (closed_at 60 62 1 r.1) ≡ true
  closed_by true ts r e h =
      let f : (1, ts) ≡ r = cc in
      ap (λ (x : ℕ × Trees). is_there (closed_at 60 62 1 x.1)) (sym f) ∙ there_after rest 1 (closed_at 60 62 1 ts) h
  closed_by false ts r e h = absurd (cc)

  closed_pair : (ts : Trees) (r : ℕ × Trees) → is_closed ts ≡ true → punct_at 60 ts ≡ Some r → is_there (closed_at 60 62 1 r.1) ≡ true
  closed_pair no_trees r h e = absurd (cc)
  closed_pair (group d f us g ts) r h e = absurd (cc)
  closed_pair (token k ts) r h e = closed_by (is_char 60 k) ts r e (both _ _ (both _ (is_closed ts) h).0).0

  stays_pair : (ts : Trees) → is_closed ts ≡ true → Stays rest (pair_at 60 62) ts
  stays_pair ts h =
      stays_then rest (punct_at 60 ts) (punct_at 60 (join ts rest)) (closed_at 60 62 1) (stays_punct 60 refl ts)
      (λ r e. stays_closed rest 60 62 1 r.1 (closed_pair ts r h e))

  behind_colons : (ts : Trees) (r : ℕ × Trees) → is_closed ts ≡ true → path_sep_at ts ≡ Some r → is_closed r.1 ≡ true
  behind_colons ts r h e =
      let b : IsBehind r.0 ts r.1 = subst (Behind ts) e (path_sep-behind ts) in ap is_closed (sym b.rest_is) ∙ closed_skip r.0 ts h

  stays_sep_args : (ts : Trees) → is_closed ts ≡ true → Stays rest sep_args_at ts
  stays_sep_args ts h =
      stays_then rest (path_sep_at ts) (path_sep_at (join ts rest)) (pair_at 60 62) (stays_colons ts)
      (λ r e. stays_pair r.1 (behind_colons ts r h e))

  stays_args_sep : (ts : Trees) → is_closed ts ≡ true → Stays rest args_sep_at ts
  stays_args_sep ts h =
      stays_then rest (pair_at 60 62 ts) (pair_at 60 62 (join ts rest)) path_sep_at (stays_pair ts h) (λ r e. stays_colons r.1)

  no_bar : (b : Bool) (us vs : Trees) → not b ≡ true →
      and_then (one_if b us) (closed_at 124 124 1) ≡ longer rest (and_then (one_if b vs) (closed_at 124 124 1))
  no_bar true us vs h = absurd (cc)
  no_bar false us vs h = refl

  -- ---- units and runs

  abbrev longer_unit : Found → Found
  longer_unit None = None
  longer_unit (Some r) = Some (r.0, r.1, join r.2 rest)

  stays_or : (u : unit.the_data) (f g : Front) (x y : Found) → g ≡ longer rest f → y ≡ longer_unit x →
      or_else u g y ≡ longer_unit (or_else u f x)
  stays_or u None g x y e h = ap (λ z. or_else u z y) e ∙ h
  stays_or u (Some r) g x y e h = ap (λ z. or_else u z y) e

  stays_unless : (f g : Front) (x y : Found) → g ≡ longer rest f → y ≡ longer_unit x → unless g y ≡ longer_unit (unless f x)
  stays_unless None g x y e h = ap (λ z. unless z y) e ∙ h
  stays_unless (Some r) g x y e h = ap (λ z. unless z y) e

  abbrev Whole : Trees → Type 0
  Whole ts = unit_at true (join ts rest) ≡ longer_unit (unit_at true ts)

  stays_unit : (k : Token) (ts : Trees) → is_closed (token k ts) ≡ true → Whole (token k ts)
  stays_unit k ts h =
      let us : Trees = token k ts in
      let vs : Trees = join us rest in
      stays_unless (punct_at 44 us) (punct_at 44 vs) _ _ (stays_one (is_char 44 k) ts)
      (stays_or unit.SepArgs (sep_args_at us) (sep_args_at vs) _ _ (stays_sep_args us h)
      (stays_or unit.ArgsSep (args_sep_at us) (args_sep_at vs) _ _ (stays_args_sep us h)
      (stays_or unit.Bars (pair_at 124 124 us) (pair_at 124 124 vs) _ _
      (no_bar (is_char 124 k) (join ts rest) ts (both _ (not (is_char 124 k)) (both _ (is_closed ts) h).0).1) refl)))

  no_unless : (f : Front) (x : Found) (r : ℕ × Trees) → f ≡ Some r → unless f x ≡ None
  no_unless f x r e = ap (λ y. unless y x) e

  no_unit : unit_at true rest ≡ None
  no_unit = by rest end
    where
      by : (us : Trees) → Comma us → unit_at true us ≡ None
      by _ comma_end = refl
      by _ (comma_first p us e) = no_unless (one_if (nat_eq p.ch 44) us) _ (1, us) (ap (λ x. one_if (nat_eq x 44) us) e)

  size_behind : (n : ℕ) (ts : Trees) → n ≤ size ts → n + size (skip n ts) ≡ size ts
  size_behind zero ts h = omega arith
  size_behind (suc n) no_trees h = absurd (omega arith)
  size_behind (suc n) (token k ts) h = omega (arith, size_behind n ts (omega arith))
  size_behind (suc n) (group d f us g ts) h = omega (arith, size_behind n ts (omega arith))

  -- a run that goes to the end of the trees ends there too where more stands behind
  module _ (n : ℕ) (shorter : (ts : Trees) → size ts ≤ n → is_closed ts ≡ true → (run_from true 0 ts).0 ≡ size ts →
      run_from true 0 (join ts rest) ≡ (size ts, rest)) where
    by_unit : (ts : Trees) (f : Found) → unit_at true ts ≡ f → 0 < size ts → size ts ≤ suc n → is_closed ts ≡ true → Whole ts →
        (run_from true 0 ts).0 ≡ size ts →
        run_from true 0 (join ts rest) ≡ (size ts, rest)
    by_unit ts None e p m h w r = absurd (omega (arith, p, sym (ap (λ (x : Run). x.0) (run-none true ts e)) ∙ r))
    by_unit ts (Some (u, k, us)) e p m h w r =
        let b : IsBehind k ts us = behind_unit true ts us u k e in
        let c : k + size us ≡ size ts = ap (λ x. k + size x) (sym b.rest_is) ∙ size_behind k ts b.fits in
        let q : k + (run_from true 0 us).0 ≡ size ts = sym (ap (λ (x : Run). x.0) (run-unit true ts us u k e)) ∙ r in
        let i : run_from true 0 (join us rest) ≡ (size us, rest) =
        shorter us (omega (arith, c, m, unit_positive true ts us u k e)) (ap is_closed (sym b.rest_is) ∙ closed_skip k ts h)
        (omega (arith, c, q)) in
        run-unit true (join ts rest) (join us rest) u k (w ∙ ap longer_unit e) ∙ (ap (passed k) i ∙ ap (λ x. (x, rest)) c)

  run_stays : (n : ℕ) (ts : Trees) → size ts ≤ n → is_closed ts ≡ true → (run_from true 0 ts).0 ≡ size ts →
      run_from true 0 (join ts rest) ≡ (size ts, rest)
  run_stays n no_trees m h r = run-none true rest no_unit
  run_stays zero (token k ts) m h r = absurd (omega (arith, m))
  run_stays zero (group d f us g ts) m h r = absurd (omega (arith, m))
  run_stays (suc n) (token k ts) m h r =
      by_unit n (run_stays n) (token k ts) (unit_at true (token k ts)) refl (omega arith) m h (stays_unit k ts h) r
  run_stays (suc n) (group d f us g ts) m h r =
      by_unit n (run_stays n) (group d f us g ts) (unit_at true (group d f us g ts)) refl (omega arith) m h refl r

-- ---- as trees

whole_run : (r : Run) (v : Trees) → split_at (some_run r) v ≡ Some (v, no_trees) → r.0 ≡ size v
whole_run (zero, o) v e = absurd (cc)
whole_run (suc n, o) v e = split_size (suc n) v v no_trees e

some_front : (n : ℕ) (rest : Trees) → 0 < n → some_run (n, rest) ≡ Some (n, rest)
some_front zero rest h = absurd (omega arith)
some_front (suc n) rest h = refl

some_size : (v : Trees) → read_run v ≡ Some (v, no_trees) → 0 < size v
some_size no_trees e = absurd (cc)
some_size (token k ts) e = omega arith
some_size (group d f us g ts) e = omega arith

pub run_back : (v rest : Trees) → IsRun v → T (ends_run (next rest)) → read_run (join v rest) ≡ Some (v, rest)
run_back v rest h e =
    let r : run_from true 0 (join v rest) ≡ (size v, rest) =
    run_stays rest (ends_comma rest e) (size v) v (omega arith) h.closed (whole_run (run_from true 0 v) v h.one) in
    ap (λ x. split_at (some_run x) (join v rest)) r ∙
    (ap (λ x. split_at x (join v rest)) (some_front (size v) rest (some_size v h.one)) ∙ split_join v rest)
