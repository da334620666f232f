-- The bodies that are emitted for `eq` and `ne` give what `eq` and `ne` mean.
use Rattle.std.proofs.Common.{◌≡◌, ℕ, zero, suc, List, [], ◌∷◌, length, map, Bool, true, false, not, cond, ◌&&◌, ◌||◌, eqb, nat_lt, Option, Some, None, codes, slice_get, refl, sym, ap, ◌∙◌, subst, arith}
use Rattle.std.proofs.lemmas.Bool.{eqb-true}
use Rattle.dm_ast.specs.Declarations.{Declaration, FieldTree}
use Rattle.dm_output.specs.Output.{exprs_of, arms_of, MethodTree}
use Rattle.dm_output.specs.declared.item.Receiver.TheVariants.{Ref}
use Rattle.dm_output.specs.Values.{Text, Value, value_of, mine, theirs, truth, Case, cases, is_enum, field_list, fits_case, IsValue, value_input}
use Rattle.dm_output.specs.Fits.{plain}
use Rattle.dm_output.specs.Calls.{Setting, State, goes}
use Rattle.dm_output.specs.Run.{run, run_arms, run_block, setting_of, run_method}
use Rattle.dm_partial_eq.specs.declared.comparing.Comparing.{Comparing}
use Rattle.dm_partial_eq.specs.declared.comparing.Comparing.TheVariants.{Equal, Unequal}
use Rattle.dm_attr.specs.Skips.{is_skipped}
use Rattle.dm_partial_eq.specs.Direct.{all_kept, direct_in, direct_eq, direct_ne, Gives}
use Rattle.dm_operands.specs.Kept.{keeps_some, is_compared, some_compared, all_compared, some_case_left_out}
use Rattle.dm_partial_eq.specs.Heads.{IsComparison}
use Rattle.dm_partial_eq.specs.Emitted.{says, join_of, tests, chain, compared_arms, rest, matching, match_part, with_discriminants, discriminants, needs_discriminants, parts, body}
use Rattle.dm_operands.specs.Numbered.{self_name, other_name}
use Rattle.dm_operands.specs.Marked.{MarkedCase, mark_case, marked}
use Rattle.dm_operands.specs.Named.{AreNamed}
use Rattle.dm_operands.proofs.FromLaws.{from-start}
use Rattle.dm_operands.proofs.NameLaws.{self-other, self-self, other-other, only-case}
use Rattle.dm_operands.proofs.BindingLaws.{Names, eqb-same}
use Rattle.dm_operands.proofs.ArmLaws.{two_values, both_sides, both-known, IsOpen, pair-arms-run}
use Rattle.dm_partial_eq.proofs.ChainLaws.{Says, says-true, join-none, join-then, join-stops, join-one, run-chain, marks, run-tests}

-- self and the right side
abbrev pub operands : Value → Value → Names
operands x y = (codes "self", value_of mine x) ∷ (codes "__other", value_of theirs y) ∷ []

-- a case as `PartialEq` reads its attributes
abbrev pub marked_case : Case → MarkedCase
marked_case v = mark_case is_skipped v

abbrev pub marked_cases : Declaration → List MarkedCase
marked_cases d = marked is_skipped d

-- ---- cases with an arm and without

none-kept : (fs : List FieldTree) (os : List Bool) → keeps_some (marks fs) ≡ false → all_kept fs os ≡ true
none-kept [] os h = refl
none-kept (f ∷ fs) [] h = refl
none-kept (f ∷ fs) (o ∷ os) h =
    (elim (is_skipped f.attrs) as (λ b. (not b || keeps_some (marks fs)) ≡ false → ((b || o) && all_kept fs os) ≡ true)
    [ true ↦ λ k. none-kept fs os k | false ↦ λ k. cc ]) h

-- a case without an arm compares equal
no-arm : (u : Case) (os : List Bool) → is_compared (marked_case u) ≡ false → direct_in (Some u) os ≡ true
no-arm u os h =
    (elim (is_skipped u.attrs) as (λ b. (not b && keeps_some (cond b [] (marks (field_list u.fields)))) ≡ false → (b || all_kept (field_list u.fields) os) ≡ true)
    [ true ↦ λ k. refl | false ↦ λ k. none-kept (field_list u.fields) os k ]) h

with-arm : (u : Case) (os : List Bool) → is_compared (marked_case u) ≡ true → direct_in (Some u) os ≡ all_kept (field_list u.fields) os
with-arm u os h =
    (elim (is_skipped u.attrs) as (λ b. (not b && keeps_some (cond b [] (marks (field_list u.fields)))) ≡ true → (b || all_kept (field_list u.fields) os) ≡ all_kept (field_list u.fields) os)
    [ true ↦ λ k. cc | false ↦ λ k. refl ]) h

not-all : (vs : List Case) (j : ℕ) (u : Case) → slice_get vs j ≡ Some u → is_compared (marked_case u) ≡ false → all_compared (map marked_case vs) ≡ false
not-all [] j u at h = cc
not-all (v ∷ vs) zero u at h = let e : v ≡ u = cc in rw (e, h) refl
not-all (v ∷ vs) (suc j) u at h =
    elim (is_compared (marked_case v)) as (λ b. (b && all_compared (map marked_case vs)) ≡ false) [ true ↦ not-all vs j u at h | false ↦ refl ]

none-compared : (vs : List Case) (j : ℕ) (u : Case) → some_compared (map marked_case vs) ≡ false → slice_get vs j ≡ Some u → is_compared (marked_case u) ≡ false
none-compared [] j u h at = cc
none-compared (v ∷ vs) zero u h at =
    let e : v ≡ u = cc in
    rw (← e) ((elim (is_compared (marked_case v)) as (λ b. (b || some_compared (map marked_case vs)) ≡ false → b ≡ false) [ true ↦ λ k. cc | false ↦ λ k. refl ]) h)
none-compared (v ∷ vs) (suc j) u h at =
    none-compared vs j u
    ((elim (is_compared (marked_case v)) as (λ b. (b || some_compared (map marked_case vs)) ≡ false → some_compared (map marked_case vs) ≡ false) [ true ↦ λ k. cc | false ↦ λ k. k ]) h) at

-- ---- the match

compared-open : (v : Case) → is_compared (marked_case v) ≡ true → IsOpen (marked_case v)
compared-open v h =
    (elim (is_skipped v.attrs) as (λ b. (not b && keeps_some (cond b [] (marks (field_list v.fields)))) ≡ true → b ≡ false)
    [ true ↦ λ k. cc | false ↦ λ k. refl ]) h

module _ (c : Comparing) (s : Setting) (st : State) where
  -- the tests of fields, where these are bound
  tests-given : (fs : List FieldTree) (env : Names) → length s.outcomes ≡ length fs →
      Says s (chain c (tests c 0 (marks fs))) (plain (both_sides self_name other_name (marks fs) env)) st (says c (all_kept fs s.outcomes))
  tests-given fs env len =
      let inside : Names = both_sides self_name other_name (marks fs) env in
      let known = both-known self_name other_name (marks fs) env self-self other-other self-other in
      run-chain c s (tests c 0 (marks fs)) (plain inside) st (says c (all_kept fs s.outcomes))
      (run-tests c s inside st 0 fs s.outcomes (from-start s.outcomes) len known.0 known.1)

  -- the arm of a case
  arm-given : (u : Case) (env : Names) → is_compared (marked_case u) ≡ true → length s.outcomes ≡ length (field_list u.fields) →
      Says s (chain c (tests c 0 (marked_case u).fields)) (plain (both_sides self_name other_name (marked_case u).fields env)) st
      (says c (direct_in (Some u) s.outcomes))
  arm-given u env h len =
      let all = marks (field_list u.fields) in
      let answer_is : Bool → Type 0 =
      λ b. Says s (chain c (tests c 0 (cond b [] all))) (plain (both_sides self_name other_name (cond b [] all) env)) st (says c (direct_in (Some u) s.outcomes)) in
      subst answer_is (sym (compared-open u h)) (tests-given (field_list u.fields) env len ∙ ap (λ t. Some (goes (truth (says c t)) st)) (sym (with-arm u s.outcomes h)))

  match-run : (x y : Value) (u : Case) → AreNamed s.decl → slice_get (cases s.decl) x.variant ≡ Some u → x.variant ≡ y.variant →
      length s.outcomes ≡ length (field_list u.fields) →
      Says s (matching c s.decl (marked_cases s.decl)) (plain (operands x y)) st (says c (direct_in (Some u) s.outcomes))
  match-run x y u names at same len =
      let more = rest c (marked_cases s.decl) in
      pair-arms-run s (compared_arms c) is_skipped x y u (operands x y) st more names at same (compared-open u) ∙
      (elim (is_compared (marked_case u)) as (λ b. is_compared (marked_case u) ≡ b →
      cond b (run s (chain c (tests c 0 (marked_case u).fields)) (plain (both_sides self_name other_name (marked_case u).fields (operands x y))) st)
      (run_arms s (arms_of more) (two_values x y) (plain (operands x y)) st) ≡ Some (goes (truth (says c (direct_in (Some u) s.outcomes))) st)) [
        | true ↦ λ h. arm-given u (operands x y) h len
        | false ↦ λ h. rw (not-all (cases s.decl) x.variant u at h, no-arm u s.outcomes h, says-true c) refl
      ]) refl

  match-part-run : (x y : Value) (u : Case) → AreNamed s.decl → slice_get (cases s.decl) x.variant ≡ Some u → x.variant ≡ y.variant →
      length s.outcomes ≡ length (field_list u.fields) →
      Says s (join_of c (exprs_of (match_part c s.decl (marked_cases s.decl)))) (plain (operands x y)) st (says c (direct_in (Some u) s.outcomes))
  match-part-run x y u names at same len =
      (elim (some_compared (marked_cases s.decl)) as (λ b. some_compared (marked_cases s.decl) ≡ b →
      Says s (join_of c (exprs_of (cond b (matching c s.decl (marked_cases s.decl) ∷ []) []))) (plain (operands x y)) st (says c (direct_in (Some u) s.outcomes))) [
        | true ↦ λ h. join-one s (plain (operands x y)) st c (matching c s.decl (marked_cases s.decl)) (direct_in (Some u) s.outcomes) (match-run x y u names at same len)
        | false ↦ λ h. rw (no-arm u s.outcomes (none-compared (cases s.decl) x.variant u h at)) (join-none s (plain (operands x y)) st c)
      ]) refl

-- ---- the discriminants

run-discriminants : (c : Comparing) (s : Setting) (st : State) (x y : Value) → AreNamed s.decl →
    Says s (discriminants c) (plain (operands x y)) st (says c (eqb x.variant y.variant))
run-discriminants Equal s st x y names = rw names.foreign refl
run-discriminants Unequal s st x y names = rw names.foreign refl

only-one : (vs : List Case) (j : ℕ) (u : Case) → nat_lt 1 (length (map marked_case vs)) ≡ false → slice_get vs j ≡ Some u → j ≡ 0
only-one [] j u h at = cc
only-one (v ∷ vs) zero u h at = refl
only-one (v ∷ []) (suc j) u h at = cc
only-one (v ∷ w ∷ vs) (suc j) u h at = absurd (grind arith)

or-false : (a b : Bool) → (a || b) ≡ false → b ≡ false
or-false true b h = cc
or-false false b h = h

-- without discriminants there is one case
first-alone : (d : Declaration) (n : ℕ) (u : Case) → needs_discriminants d (marked_cases d) ≡ false → slice_get (cases d) n ≡ Some u → n ≡ 0
first-alone d n u h at =
    (elim (is_enum d) as (λ e. is_enum d ≡ e → (e && (some_case_left_out (marked_cases d) || nat_lt 1 (length (marked_cases d)))) ≡ false → n ≡ 0) [
      | true ↦ λ e k. only-one (cases d) n u (or-false (some_case_left_out (marked_cases d)) (nat_lt 1 (length (marked_cases d))) k) at
      | false ↦ λ e k. only-case d n u e at
    ]) refl h

-- ---- the whole body

value-case : (o : Option Case) (n : ℕ) → fits_case o n → (u : Case) × (o ≡ Some u) × (length (field_list u.fields) ≡ n)
value-case None n h = absurd h
value-case (Some u) n h = (u, refl, h)

parts-run : (c : Comparing) (s : Setting) (st : State) → AreNamed s.decl → (x y : Value) →
    IsValue s.decl x → IsValue s.decl y → length s.outcomes ≡ length x.fields →
    Says s (join_of c (exprs_of (parts c s.decl (marked_cases s.decl)))) (plain (operands x y)) st (says c (direct_eq s.decl x y s.outcomes))
parts-run c s st names x y vx vy len =
    let ux = value-case (slice_get (cases s.decl) x.variant) (length x.fields) vx in
    let uy = value-case (slice_get (cases s.decl) y.variant) (length y.fields) vy in
    let at : slice_get (cases s.decl) x.variant ≡ Some ux.0 = ux.1 in
    let env = plain (operands x y) in
    let shared = match_part c s.decl (marked_cases s.decl) in
    let inner = direct_in (slice_get (cases s.decl) x.variant) s.outcomes in
    let same : (e : x.variant ≡ y.variant) → Says s (join_of c (exprs_of shared)) env st (says c inner) =
    λ e. rw at (match-part-run c s st x y ux.0 names at e (len ∙ sym ux.2)) in
    (elim (needs_discriminants s.decl (marked_cases s.decl)) as (λ b. needs_discriminants s.decl (marked_cases s.decl) ≡ b →
    Says s (join_of c (exprs_of (with_discriminants c b shared))) env st (says c (direct_eq s.decl x y s.outcomes))) [
      | true ↦ λ h.
          (elim (eqb x.variant y.variant) as (λ b. eqb x.variant y.variant ≡ b → Says s (discriminants c) env st (says c b) →
          Says s (join_of c (exprs_of (discriminants c ∷ shared))) env st (says c (b && inner))) [
            | true ↦ λ e r. join-then s env st c (discriminants c) shared true inner r (same (eqb-true x.variant y.variant e))
            | false ↦ λ e r. join-stops s env st c (discriminants c) shared r
          ])
          refl (run-discriminants c s st x y names)
      | false ↦ λ h.
          let e : x.variant ≡ y.variant = first-alone s.decl x.variant ux.0 h at ∙ sym (first-alone s.decl y.variant uy.0 h uy.1) in
          rw (ap (eqb x.variant) (sym e) ∙ eqb-same x.variant) (same e)
    ]) refl

not-empty : (vs : List Case) (n : ℕ) (u : Case) → slice_get vs n ≡ Some u → eqb (length (map marked_case vs)) 0 ≡ false
not-empty [] n u at = cc
not-empty (v ∷ vs) n u at = grind arith

pub body-runs : (c : Comparing) (s : Setting) (st : State) → AreNamed s.decl → (x y : Value) →
    IsValue s.decl x → IsValue s.decl y → length s.outcomes ≡ length x.fields →
    run_block s (body c s.decl (marked_cases s.decl)) (plain (operands x y)) st ≡ Some (goes (truth (says c (direct_eq s.decl x y s.outcomes))) st)
body-runs c s st names x y vx vy len =
    let ux = value-case (slice_get (cases s.decl) x.variant) (length x.fields) vx in
    let whole = run-chain c s (parts c s.decl (marked_cases s.decl)) (plain (operands x y)) st (says c (direct_eq s.decl x y s.outcomes))
    (parts-run c s st names x y vx vy len) in
    rw (not-empty (cases s.decl) x.variant ux.0 ux.1) whole

-- ---- the methods

-- what a method of this head gives whose body gives a truth
method-gives : (c : Comparing) (d : Declaration) → AreNamed d → (name : Text) (m : MethodTree) → IsComparison name m → m.body ≡ body c d (marked_cases d) →
    (x y : Value) (os : List Bool) → IsValue d x → IsValue d y → length os ≡ length x.fields →
    run_method d os m x (value_input y) ≡ Some (truth (says c (direct_eq d x y os)))
method-gives c d names name m head is x y os vx vy len =
    let s : Setting = setting_of d os (Some Ref) (value_input y) in
    let st : State = record { fields = x.fields; numbers = [] } in
    rw (head.receiver, head.param, head.output, is, body-runs c s st names x y vx vy len) refl

pub eq-gives : (d : Declaration) → AreNamed d → (m : MethodTree) → IsComparison (codes "eq") m → m.body ≡ body Equal d (marked_cases d) → Gives d m direct_eq
eq-gives d names m head is = record { gives = method-gives Equal d names (codes "eq") m head is }

pub ne-gives : (d : Declaration) → AreNamed d → (m : MethodTree) → IsComparison (codes "ne") m → m.body ≡ body Unequal d (marked_cases d) → Gives d m direct_ne
ne-gives d names m head is = record { gives = method-gives Unequal d names (codes "ne") m head is }
