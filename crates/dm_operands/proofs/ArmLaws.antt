-- What arms for the cases of a declaration give at a value of one case, or at two values: whichever cases have an arm, however the operands'
-- fields are called, and whatever the arms give.
use Rattle.std.proofs.Common.{◌≡◌, ◌≢◌, ℕ, zero, suc, ◌+◌, List, [], ◌∷◌, map, Bool, true, false, cond, eqb, Option, Some, None, slice_get, refl, sym, ap, ◌∙◌, subst, arith}
use Rattle.std.specs.Prelude.{option_and_then}
use Rattle.std.proofs.lemmas.Bool.{eqb-true}
use Rattle.dm_ast.specs.declared.plain.Attribute.{Attribute}
use Rattle.dm_ast.specs.Declarations.{Declaration, FieldTree}
use Rattle.dm_output.specs.Output.{PatternTree, pair_pattern, patterns_of, ExprTree, no_expr, some_expr, ArmTree, arms_of, ArmBodyTree, block_body, last_expr}
use Rattle.dm_output.specs.Values.{Text, Value, value_of, Side, mine, theirs, Thing, tuple_of, no_things, thing_then, Case, cases}
use Rattle.dm_output.specs.Fits.{Env, plain, bound, fits}
use Rattle.dm_output.specs.Calls.{Setting, State, Flow, goes}
use Rattle.dm_output.specs.Run.{run, run_arms, run_body}
use Rattle.dm_operands.specs.Marked.{MarkedField, MarkedCase, form_of, mark_case, marked}
use Rattle.dm_operands.specs.Bodies.{name, otherwise}
use Rattle.dm_operands.specs.Sides.{case_path, side, PairArms, pair_arm, pair_arms}
use Rattle.dm_operands.specs.Named.{AreNamed}
use Rattle.dm_operands.proofs.FromLaws.{AreFrom, from-start, from-first, from-rest}
use Rattle.dm_operands.proofs.NameLaws.{Differ, Apart, path-found}
use Rattle.dm_operands.proofs.BindingLaws.{Names, bound_side, Knows, knows, knows-behind, looked_at, AreNamedIn, fits-side, misses-side, fields-kept, looked-in, named-in, eqb-same}

-- ---- one arm

-- an arm of one pattern without a guard
abbrev pub arm_for : PatternTree → ArmBodyTree → ArmTree
arm_for p b = record { patterns = patterns_of (p ∷ []); guard = no_expr; body = b }

-- in front of any others it gives this
abbrev pub Takes : Setting → Thing → Env → State → ArmTree → Option (Flow Thing) → Type 0
Takes s x env st a r = (more : List ArmTree) → run_arms s (arms_of (a ∷ more)) x env st ≡ r

-- in front of any others it changes nothing
abbrev pub Passes : Setting → Thing → Env → State → ArmTree → Type 0
Passes s x env st a = (more : List ArmTree) → run_arms s (arms_of (a ∷ more)) x env st ≡ run_arms s (arms_of more) x env st

pub arm-takes : (s : Setting) (p : PatternTree) (b : ArmBodyTree) (x : Thing) (env env' : Env) (st : State) →
    fits s.decl p x env ≡ Some env' → Takes s x env st (arm_for p b) (run_body s b env' st)
arm-takes s p b x env env' st fit more = rw fit refl

pub arm-passes : (s : Setting) (p : PatternTree) (b : ArmBodyTree) (x : Thing) (env : Env) (st : State) →
    fits s.decl p x env ≡ None → Passes s x env st (arm_for p b)
arm-passes s p b x env st fit more = rw fit refl

-- the arm of whatever the arms before it don't match
pub otherwise-takes : (s : Setting) (e : ExprTree) (x : Thing) (env : Env) (st : State) → Takes s x env st (otherwise e) (run s e env st)
otherwise-takes s e x env st more = refl

-- a bound name gives its thing
pub name-run : (s : Setting) (x : Text) (t : Thing) (env : Env) (st : State) → bound env x ≡ Some t → run s (name x) env st ≡ Some (goes t st)
name-run s x t env st at = rw at refl

-- ---- an arm for each case that has one, in front of others

abbrev pub arms_where : {A : Type 0} → (A → Bool) → (A → ArmTree) → List A → List ArmTree → List ArmTree
arms_where has arm [] more = more
arms_where has arm (c ∷ cs) more = cond (has c) (arm c ∷ arms_where has arm cs more) (arms_where has arm cs more)

pub arms-mapped : {A B : Type 0} (f : A → B) (has : B → Bool) (arm : B → ArmTree) (cs : List A) (more : List ArmTree) →
    arms_where has arm (map f cs) more ≡ arms_where (λ c. has (f c)) (λ c. arm (f c)) cs more
arms-mapped f has arm [] more = refl
arms-mapped f has arm (c ∷ cs) more = ap (λ rest. cond (has (f c)) (arm (f c) ∷ rest) rest) (arms-mapped f has arm cs more)

-- each of the cases but that of the number k has an arm that changes nothing
abbrev pub PassesOthers : Setting → Thing → Env → State → (Case → ArmTree) → ℕ → Type 0
PassesOthers s x env st arm k = (n : ℕ) (c : Case) → slice_get (cases s.decl) n ≡ Some c → n ≢ k → Passes s x env st (arm c)

-- arms that change nothing
pub arms-passed : (s : Setting) (x : Thing) (env : Env) (st : State) (has : Case → Bool) (arm : Case → ArmTree) (cs : List Case) (more : List ArmTree) →
    ((i : ℕ) (c : Case) → slice_get cs i ≡ Some c → Passes s x env st (arm c)) →
    run_arms s (arms_of (arms_where has arm cs more)) x env st ≡ run_arms s (arms_of more) x env st
arms-passed s x env st has arm [] more pass = refl
arms-passed s x env st has arm (c ∷ cs) more pass =
    let behind = arms-passed s x env st has arm cs more (λ i. pass (suc i)) in
    elim (has c) as (λ b.
    run_arms s (arms_of (cond b (arm c ∷ arms_where has arm cs more) (arms_where has arm cs more))) x env st ≡ run_arms s (arms_of more) x env st)
    [ true ↦ pass zero c refl (arms_where has arm cs more) ∙ behind | false ↦ behind ]

-- what arms give at a thing of the case u: its own arm's answer, where it has one, or what stands behind
from-run : (s : Setting) (x : Thing) (env : Env) (st : State) (has : Case → Bool) (arm : Case → ArmTree) (r : Option (Flow Thing)) (more : List ArmTree)
    (u : Case) (k : ℕ) (cs : List Case) (n j : ℕ) → AreFrom (cases s.decl) n cs → slice_get cs j ≡ Some u → k ≡ n + j →
    PassesOthers s x env st arm k → (has u ≡ true → Takes s x env st (arm u) r) →
    run_arms s (arms_of (arms_where has arm cs more)) x env st ≡ cond (has u) r (run_arms s (arms_of more) x env st)
from-run s x env st has arm r more u k [] n j from at is pass take = cc
from-run s x env st has arm r more u k (c ∷ cs) n zero from at is pass take =
    let e : c ≡ u = cc in
    let rest = from-rest (cases s.decl) n c cs from in
    let behind = arms-passed s x env st has arm cs more (λ i b b-at. pass (n + 1 + i) b (rest i ∙ b-at) (omega arith)) in
    rw e ((elim (has u) as (λ b. has u ≡ b →
    run_arms s (arms_of (cond b (arm u ∷ arms_where has arm cs more) (arms_where has arm cs more))) x env st ≡ cond b r (run_arms s (arms_of more) x env st))
    [ true ↦ λ h. take h (arms_where has arm cs more) | false ↦ λ h. behind ]) refl)
from-run s x env st has arm r more u k (c ∷ cs) n (suc j) from at is pass take =
    let further = from-run s x env st has arm r more u k cs (n + 1) j (from-rest (cases s.decl) n c cs from) at (omega arith) pass take in
    elim (has c) as (λ b.
    run_arms s (arms_of (cond b (arm c ∷ arms_where has arm cs more) (arms_where has arm cs more))) x env st ≡ cond (has u) r (run_arms s (arms_of more) x env st)) [
      | true ↦ pass n c (from-first (cases s.decl) n c cs from) (omega arith) (arms_where has arm cs more) ∙ further
      | false ↦ further
    ]

pub arms-run : (s : Setting) (x : Thing) (env : Env) (st : State) (has : Case → Bool) (arm : Case → ArmTree) (r : Option (Flow Thing)) (more : List ArmTree)
    (u : Case) (k : ℕ) → slice_get (cases s.decl) k ≡ Some u → PassesOthers s x env st arm k → (has u ≡ true → Takes s x env st (arm u) r) →
    run_arms s (arms_of (arms_where has arm (cases s.decl) more)) x env st ≡ cond (has u) r (run_arms s (arms_of more) x env st)
arms-run s x env st has arm r more u k at pass take =
    from-run s x env st has arm r more u k (cases s.decl) 0 k (from-start (cases s.decl)) at (omega arith) pass take

-- ---- one side at a value, and both at two

-- a case that isn't left out
abbrev pub IsOpen : MarkedCase → Type 0
IsOpen c = c.left_out ≡ false

abbrev pub two_values : Value → Value → Thing
two_values x y = tuple_of (thing_then (value_of mine x) (thing_then (value_of theirs y) no_things))

abbrev pub both_patterns : (ℕ → Text) → (ℕ → Text) → Declaration → MarkedCase → PatternTree
both_patterns left right d c = pair_pattern (side left d c) (side right d c)

-- what both sides bind
abbrev pub both_sides : (ℕ → Text) → (ℕ → Text) → List MarkedField → Names → Names
both_sides left right fs env = bound_side right theirs 0 fs (bound_side left mine 0 fs env)

-- names that differ within a side and between the sides are known of both
pub both-known : (left right : ℕ → Text) (fs : List MarkedField) (env : Names) → Differ left → Differ right → Apart left right →
    Knows left mine (both_sides left right fs env) 0 fs × Knows right theirs (both_sides left right fs env) 0 fs
both-known left right fs env of_left of_right apart = (
  knows-behind left right apart mine theirs 0 fs fs (bound_side left mine 0 fs env) (knows left of_left mine 0 fs env),
  knows right of_right theirs 0 fs (bound_side left mine 0 fs env),
)

module _ (s : Setting) (leaves_out : List Attribute → Bool) (names : AreNamed s.decl) where
  -- a side of a case at a value of the case
  pub side-fits : (naming : ℕ → Text) (of : Side) (c : Case) (x : Value) (env : Names) →
      slice_get (cases s.decl) x.variant ≡ Some c → IsOpen (mark_case leaves_out c) →
      fits s.decl (side naming s.decl (mark_case leaves_out c)) (value_of of x) (plain env) ≡ Some (plain (bound_side naming of 0 (mark_case leaves_out c).fields env))
  side-fits naming of c x env at is =
      let all = fields-kept leaves_out c is in
      let P : List FieldTree → Type 0 = AreNamedIn (form_of c.fields) in
      fits-side s.decl naming of (case_path s.decl c.ident) (form_of c.fields) (mark_case leaves_out c).fields x.variant _ env (path-found s.decl x.variant c names at)
      (ap (option_and_then (λ (b : Case). looked_at (form_of c.fields) b.fields)) at ∙ looked-in c.fields ∙ ap Some (sym all))
      (subst P (sym all) (named-in c.fields (λ gs e. names.fields x.variant c gs at e)))

  -- at a value of another case
  pub side-misses : (naming : ℕ → Text) (of : Side) (n : ℕ) (c : Case) (x : Value) (env : Env) → slice_get (cases s.decl) n ≡ Some c → n ≢ x.variant →
      fits s.decl (side naming s.decl (mark_case leaves_out c)) (value_of of x) env ≡ None
  side-misses naming of n c x env at ne =
      misses-side s.decl naming (case_path s.decl c.ident) (form_of c.fields) (mark_case leaves_out c).fields n _ x.variant _ env (path-found s.decl n c names at) ne

  -- both sides of a case at two values of the case
  pub both-fit : (left right : ℕ → Text) (c : Case) (x y : Value) (env : Names) →
      slice_get (cases s.decl) x.variant ≡ Some c → slice_get (cases s.decl) y.variant ≡ Some c → IsOpen (mark_case leaves_out c) →
      fits s.decl (both_patterns left right s.decl (mark_case leaves_out c)) (two_values x y) (plain env) ≡
      Some (plain (both_sides left right (mark_case leaves_out c).fields env))
  both-fit left right c x y env at at' is =
      rw (side-fits left mine c x env at is, side-fits right theirs c y (bound_side left mine 0 (mark_case leaves_out c).fields env) at' is) refl

  -- where self is of another case
  pub left-misses : (left right : ℕ → Text) (n : ℕ) (c : Case) (x y : Value) (env : Env) → slice_get (cases s.decl) n ≡ Some c → n ≢ x.variant →
      fits s.decl (both_patterns left right s.decl (mark_case leaves_out c)) (two_values x y) env ≡ None
  left-misses left right n c x y env at ne = rw (side-misses left mine n c x env at ne) refl

  -- where the right side is of another case
  pub right-misses : (left right : ℕ → Text) (n : ℕ) (c : Case) (x y : Value) (env : Env) → slice_get (cases s.decl) n ≡ Some c → n ≢ y.variant →
      fits s.decl (both_patterns left right s.decl (mark_case leaves_out c)) (two_values x y) env ≡ None
  right-misses left right n c x y env at ne =
      elim (fits s.decl (side left s.decl (mark_case leaves_out c)) (value_of mine x) env) as (λ o.
      option_and_then (fits s.decl (side right s.decl (mark_case leaves_out c)) (value_of theirs y)) o ≡ None)
      [ None ↦ refl | Some env' ↦ side-misses right theirs n c y env' at ne ]

-- ---- all arms, whatever they give

-- which cases have an arm, what each gives, and which fields the patterns leave out
pub record Arms : Type 0 where
  pub has : Case → Bool
  pub gives : Case → ArmBodyTree
  pub leaves_out : List Attribute → Bool

-- the patterns are those of one side
abbrev pub one_side : (ℕ → Text) → Arms → Declaration → List ArmTree → List ArmTree
one_side naming a d more = arms_where a.has (λ c. arm_for (side naming d (mark_case a.leaves_out c)) (a.gives c)) (cases d) more

-- the patterns are those of both sides
abbrev pub two_sides : (ℕ → Text) → (ℕ → Text) → Arms → Declaration → List ArmTree → List ArmTree
two_sides left right a d more = arms_where a.has (λ c. arm_for (both_patterns left right d (mark_case a.leaves_out c)) (a.gives c)) (cases d) more

module _ (s : Setting) (a : Arms) (names : AreNamed s.decl) where
  -- at a value: the arm of its case, or what stands behind
  pub one-side-run : (naming : ℕ → Text) (of : Side) (x : Value) (u : Case) (env : Names) (st : State) (more : List ArmTree) →
      slice_get (cases s.decl) x.variant ≡ Some u → (a.has u ≡ true → IsOpen (mark_case a.leaves_out u)) →
      run_arms s (arms_of (one_side naming a s.decl more)) (value_of of x) (plain env) st ≡
      cond (a.has u) (run_body s (a.gives u) (plain (bound_side naming of 0 (mark_case a.leaves_out u).fields env)) st)
      (run_arms s (arms_of more) (value_of of x) (plain env) st)
  one-side-run naming of x u env st more at is_open =
      arms-run s (value_of of x) (plain env) st _ _ _ more u x.variant at
      (λ n c c-at ne. arm-passes s (side naming s.decl (mark_case a.leaves_out c)) (a.gives c) (value_of of x) (plain env) st
      (side-misses s a.leaves_out names naming of n c x (plain env) c-at ne))
      (λ h. arm-takes s (side naming s.decl (mark_case a.leaves_out u)) (a.gives u) (value_of of x) (plain env) _ st
      (side-fits s a.leaves_out names naming of u x env at (is_open h)))

  -- at two values of one case: its arm, or what stands behind
  pub two-sides-run : (left right : ℕ → Text) (x y : Value) (u : Case) (env : Names) (st : State) (more : List ArmTree) →
      slice_get (cases s.decl) x.variant ≡ Some u → x.variant ≡ y.variant → (a.has u ≡ true → IsOpen (mark_case a.leaves_out u)) →
      run_arms s (arms_of (two_sides left right a s.decl more)) (two_values x y) (plain env) st ≡
      cond (a.has u) (run_body s (a.gives u) (plain (both_sides left right (mark_case a.leaves_out u).fields env)) st)
      (run_arms s (arms_of more) (two_values x y) (plain env) st)
  two-sides-run left right x y u env st more at same is_open =
      let at' : slice_get (cases s.decl) y.variant ≡ Some u = ap (slice_get (cases s.decl)) (sym same) ∙ at in
      arms-run s (two_values x y) (plain env) st _ _ _ more u x.variant at
      (λ n c c-at ne. arm-passes s (both_patterns left right s.decl (mark_case a.leaves_out c)) (a.gives c) (two_values x y) (plain env) st
      (left-misses s a.leaves_out names left right n c x y (plain env) c-at ne))
      (λ h. arm-takes s (both_patterns left right s.decl (mark_case a.leaves_out u)) (a.gives u) (two_values x y) (plain env) _ st
      (both-fit s a.leaves_out names left right u x y env at at' (is_open h)))

  -- at values of two cases: what stands behind
  pub two-cases-run : (left right : ℕ → Text) (x y : Value) (env : Env) (st : State) (more : List ArmTree) → x.variant ≢ y.variant →
      run_arms s (arms_of (two_sides left right a s.decl more)) (two_values x y) env st ≡ run_arms s (arms_of more) (two_values x y) env st
  two-cases-run left right x y env st more other =
      arms-passed s (two_values x y) env st _ _ (cases s.decl) more
      (λ n c c-at. arm-passes s (both_patterns left right s.decl (mark_case a.leaves_out c)) (a.gives c) (two_values x y) env st
      ((elim (eqb n x.variant) as (λ b. eqb n x.variant ≡ b → fits s.decl (both_patterns left right s.decl (mark_case a.leaves_out c)) (two_values x y) env ≡ None) [
        | true ↦ λ e. right-misses s a.leaves_out names left right n c x y env c-at (λ same. other (sym (eqb-true n x.variant e) ∙ same))
        | false ↦ λ e. left-misses s a.leaves_out names left right n c x y env c-at (λ same. let t : eqb n x.variant ≡ true = ap (eqb n) (sym same) ∙ eqb-same n in cc)
      ]) refl))

-- ---- arms for two operands whose bodies are blocks of one expression

abbrev pair_arms_of : PairArms → (List Attribute → Bool) → Arms
pair_arms_of a leaves_out =
    record {
      has = λ c. a.has (mark_case leaves_out c);
      gives = λ c. block_body (last_expr (some_expr (a.gives (mark_case leaves_out c))));
      leaves_out = leaves_out;
    }

pair-arms-where : (a : PairArms) (d : Declaration) (cs : List MarkedCase) (more : List ArmTree) → pair_arms a d cs more ≡ arms_where a.has (pair_arm a d) cs more
pair-arms-where a d [] more = refl
pair-arms-where a d (c ∷ cs) more = ap (λ rest. cond (a.has c) (pair_arm a d c ∷ rest) rest) (pair-arms-where a d cs more)

pair-arms-are : (a : PairArms) (d : Declaration) (leaves_out : List Attribute → Bool) (more : List ArmTree) →
    pair_arms a d (marked leaves_out d) more ≡ two_sides a.left a.right (pair_arms_of a leaves_out) d more
pair-arms-are a d leaves_out more =
    pair-arms-where a d (marked leaves_out d) more ∙ arms-mapped (mark_case leaves_out) a.has (pair_arm a d) (cases d) more

pub pair-arms-run : (s : Setting) (a : PairArms) (leaves_out : List Attribute → Bool) (x y : Value) (u : Case) (env : Names) (st : State) (more : List ArmTree) →
    AreNamed s.decl → slice_get (cases s.decl) x.variant ≡ Some u → x.variant ≡ y.variant →
    (a.has (mark_case leaves_out u) ≡ true → IsOpen (mark_case leaves_out u)) →
    run_arms s (arms_of (pair_arms a s.decl (marked leaves_out s.decl) more)) (two_values x y) (plain env) st ≡
    cond (a.has (mark_case leaves_out u)) (run s (a.gives (mark_case leaves_out u)) (plain (both_sides a.left a.right (mark_case leaves_out u).fields env)) st)
    (run_arms s (arms_of more) (two_values x y) (plain env) st)
pair-arms-run s a leaves_out x y u env st more names at same is_open =
    ap (λ as'. run_arms s (arms_of as') (two_values x y) (plain env) st) (pair-arms-are a s.decl leaves_out more) ∙
    two-sides-run s (pair_arms_of a leaves_out) names a.left a.right x y u env st more at same is_open

-- at values of two cases
pub pair-arms-pass : (s : Setting) (a : PairArms) (leaves_out : List Attribute → Bool) (x y : Value) (env : Env) (st : State) (more : List ArmTree) →
    AreNamed s.decl → x.variant ≢ y.variant →
    run_arms s (arms_of (pair_arms a s.decl (marked leaves_out s.decl) more)) (two_values x y) env st ≡ run_arms s (arms_of more) (two_values x y) env st
pair-arms-pass s a leaves_out x y env st more names other =
    ap (λ as'. run_arms s (arms_of as') (two_values x y) env st) (pair-arms-are a s.decl leaves_out more) ∙
    two-cases-run s (pair_arms_of a leaves_out) names a.left a.right x y env st more other
