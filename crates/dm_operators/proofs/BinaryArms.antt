-- The arms of a binary operator, as the laws of arms see them, and what the match of them gives.
use Rattle.std.proofs.Common.{◌≡◌, ◌≢◌, ℕ, zero, suc, List, [], ◌∷◌, ◌++◌, length, map, Bool, true, false, cond, nat_lt, Some, codes, slice_get, refl, sym, ap, ◌∙◌, arith}
use Rattle.dm_ast.specs.declared.plain.Attribute.{Attribute}
use Rattle.dm_ast.specs.Declarations.{Declaration, FieldTree}
use Rattle.dm_output.specs.Output.{PatternTree, pair_pattern, ArmTree, arms_of}
use Rattle.dm_output.specs.Values.{Text, Value, value_of, mine, theirs, Thing, Case, cases, field_list}
use Rattle.dm_output.specs.Fits.{plain}
use Rattle.dm_output.specs.Calls.{Setting, State}
use Rattle.dm_output.specs.Run.{run, run_arms, run_body}
use Rattle.dm_operands.specs.Marked.{MarkedField, form_of, mark_field, mark_case}
use Rattle.dm_operands.specs.Numbered.{self_name}
use Rattle.dm_operands.specs.Sides.{case_path, side_pattern, side}
use Rattle.dm_operands.specs.Named.{AreNamed}
use Rattle.dm_operands.proofs.BindingLaws.{Names, bound_side, fields-marked}
use Rattle.dm_operands.proofs.ArmLaws.{arms_where, Arms, one_side, two_sides, one-side-run, two-sides-run, two-cases-run, two_values, both_sides, IsOpen}
use Rattle.dm_operators.specs.Operators.{Form, structural, scalar, Operator}
use Rattle.dm_operators.specs.Attributes.{skips, cases_for}
use Rattle.dm_operators.specs.Bodies.{right_name, keep, whole, bound_in, arm, binary_arm, binary_given, binary_body, different, rest, subject, match_of}
use Rattle.dm_operators.proofs.OperandLaws.{keeps_all}

-- ---- patterns

-- which fields the patterns of an operator leave out
abbrev pub left_in : Operator → List Attribute → Bool
left_in o = cond o.assigning (skips o) keeps_all

keep-all : (l : List Attribute → Bool) (fs : List FieldTree) → map keep (map (mark_field l) fs) ≡ map (mark_field keeps_all) fs
keep-all l [] = refl
keep-all l (f ∷ fs) = ap (λ (gs : List MarkedField). mark_field keeps_all f ∷ gs) (keep-all l fs)

-- the side of a case that isn't skipped
side-same : (naming : ℕ → Text) (d : Declaration) (o : Operator) (c : Case) → skips o c.attrs ≡ false →
    side naming d (bound_in o (mark_case (skips o) c)) ≡ side naming d (mark_case (left_in o) c)
side-same naming d o c kept =
    elim o.assigning as (λ b.
    side naming d (cond b (mark_case (skips o) c) (whole (mark_case (skips o) c))) ≡
    side naming d (mark_case (cond b (skips o) keeps_all) c)) [
      | true ↦ refl
      | false ↦ ap (side_pattern naming (case_path d c.ident) (form_of c.fields))
          (ap (map keep) (fields-marked (skips o) c kept) ∙ keep-all (skips o) (field_list c.fields))
    ]

-- ---- arms

-- each of the cases has an arm
abbrev pub every_case : Case → Bool
every_case c = true

pub all-arms : {B : Type 0} (h : Case → B) (f : B → ArmTree) (g : Case → ArmTree) (cs : List Case) (more : List ArmTree) →
    ((i : ℕ) (c : Case) → slice_get cs i ≡ Some c → f (h c) ≡ g c) → map f (map h cs) ++ more ≡ arms_where every_case g cs more
all-arms h f g [] more same = refl
all-arms {B} h f g (c ∷ cs) more same =
    ap (λ (a : ArmTree). a ∷ (map f (map h cs) ++ more)) (same zero c refl) ∙
    ap (λ (as' : List ArmTree). g c ∷ as') (all-arms {B = B} h f g cs more (λ i. same (suc i)))

abbrev pub arms_by : Form → Operator → Declaration → Arms
arms_by form o d = record { has = every_case; gives = λ c. binary_given form o d (mark_case (skips o) c); leaves_out = left_in o }

-- no case is skipped itself
abbrev pub AreOpen : Operator → Declaration → Type 0
AreOpen o d = (n : ℕ) (c : Case) → slice_get (cases d) n ≡ Some c → skips o c.attrs ≡ false

structural-arms : (o : Operator) (d : Declaration) (more : List ArmTree) → AreOpen o d →
    map (binary_arm structural o d) (cases_for o d) ++ more ≡ two_sides self_name right_name (arms_by structural o d) d more
structural-arms o d more kept =
    all-arms (mark_case (skips o)) (binary_arm structural o d) _ (cases d) more (λ i c at.
    ap (λ (p : PatternTree). arm (pair_pattern p (side right_name d (bound_in o (mark_case (skips o) c))))
    (binary_given structural o d (mark_case (skips o) c)))
    (side-same self_name d o c (kept i c at)) ∙
    ap (λ (p : PatternTree). arm (pair_pattern (side self_name d (mark_case (left_in o) c)) p)
    (binary_given structural o d (mark_case (skips o) c)))
    (side-same right_name d o c (kept i c at)))

scalar-arms : (o : Operator) (d : Declaration) (more : List ArmTree) → AreOpen o d →
    map (binary_arm scalar o d) (cases_for o d) ++ more ≡ one_side self_name (arms_by scalar o d) d more
scalar-arms o d more kept =
    all-arms (mark_case (skips o)) (binary_arm scalar o d) _ (cases d) more (λ i c at.
    ap (λ (p : PatternTree). arm p (binary_given scalar o d (mark_case (skips o) c))) (side-same self_name d o c (kept i c at)))

-- ---- the patterns' cases are open too

left-open : (o : Operator) (c : Case) → skips o c.attrs ≡ false → IsOpen (mark_case (left_in o) c)
left-open o c kept = elim o.assigning as (λ b. cond b (skips o) keeps_all c.attrs ≡ false) [ true ↦ kept | false ↦ refl ]

-- ---- the match

-- a declaration with a value has a case
some-case : (form : Form) (o : Operator) (d : Declaration) (cs : List Case) (n : ℕ) (u : Case) → slice_get cs n ≡ Some u →
    binary_body form o d (map (mark_case (skips o)) cs) ≡
    match_of (subject form) (map (binary_arm form o d) (map (mark_case (skips o)) cs) ++ rest form o (map (mark_case (skips o)) cs))
some-case form o d [] n u at = cc
some-case form o d (c ∷ cs) n u at = refl

-- self and what stands right of it
abbrev pub operands : Value → Thing → Names
operands x y = (codes "self", value_of mine x) ∷ (codes "__rhs", y) ∷ []

one-item : {A : Type 0} (n : ℕ) (x y : A) → slice_get (x ∷ []) n ≡ Some y → n ≡ 0
one-item zero x y at = refl
one-item (suc n) x y at = cc

several : (vs : List Case) (i j : ℕ) (u w : Case) → slice_get vs i ≡ Some u → slice_get vs j ≡ Some w → i ≢ j →
    nat_lt 1 (length (map (mark_case keeps_all) vs)) ≡ true
several [] i j u w a b ne = cc
several (v ∷ []) i j u w a b ne = absurd (ne (one-item i v u a ∙ sym (one-item j v w b)))
several (v ∷ v' ∷ vs) i j u w a b ne = grind arith

same-length : (l k : List Attribute → Bool) (vs : List Case) → length (map (mark_case l) vs) ≡ length (map (mark_case k) vs)
same-length l k [] = refl
same-length l k (v ∷ vs) = ap suc (same-length l k vs)

module _ (s : Setting) (o : Operator) (names : AreNamed s.decl) (kept : AreOpen o s.decl) where
  -- two values of one case: what its arm gives
  pub same-case : (x y : Value) (u : Case) (st : State) → slice_get (cases s.decl) x.variant ≡ Some u → x.variant ≡ y.variant →
      run s (binary_body structural o s.decl (cases_for o s.decl)) (plain (operands x (value_of theirs y))) st ≡
      run_body s (binary_given structural o s.decl (mark_case (skips o) u))
      (plain (both_sides self_name right_name (mark_case (left_in o) u).fields (operands x (value_of theirs y)))) st
  same-case x y u st at same =
      let more = rest structural o (cases_for o s.decl) in
      ap (λ e. run s e (plain (operands x (value_of theirs y))) st) (some-case structural o s.decl (cases s.decl) x.variant u at) ∙
      ap (λ as'. run_arms s (arms_of as') (two_values x y) (plain (operands x (value_of theirs y))) st)
      (structural-arms o s.decl more kept) ∙
      two-sides-run s (arms_by structural o s.decl) names self_name right_name x y u (operands x (value_of theirs y)) st more at same
      (λ _. left-open o u (kept x.variant u at))

  -- two values of different cases: what the last arm gives
  pub other-case : (x y : Value) (u w : Case) (st : State) → slice_get (cases s.decl) x.variant ≡ Some u →
      slice_get (cases s.decl) y.variant ≡ Some w →
      x.variant ≢ y.variant →
      run s (binary_body structural o s.decl (cases_for o s.decl)) (plain (operands x (value_of theirs y))) st ≡
      run_arms s (arms_of (different o ∷ [])) (two_values x y) (plain (operands x (value_of theirs y))) st
  other-case x y u w st at there other =
      let more = rest structural o (cases_for o s.decl) in
      ap (λ e. run s e (plain (operands x (value_of theirs y))) st) (some-case structural o s.decl (cases s.decl) x.variant u at) ∙
      ap (λ as'. run_arms s (arms_of as') (two_values x y) (plain (operands x (value_of theirs y))) st)
      (structural-arms o s.decl more kept) ∙
      two-cases-run s (arms_by structural o s.decl) names self_name right_name x y (plain (operands x (value_of theirs y))) st more other ∙
      ap (λ (b : Bool). run_arms s (arms_of (cond b (different o ∷ []) [])) (two_values x y) (plain (operands x (value_of theirs y))) st)
      (ap (nat_lt 1) (same-length (skips o) keeps_all (cases s.decl)) ∙ several (cases s.decl) x.variant y.variant u w at there other)

  -- self beside any right side
  pub any-case : (x : Value) (t : Thing) (u : Case) (st : State) → slice_get (cases s.decl) x.variant ≡ Some u →
      run s (binary_body scalar o s.decl (cases_for o s.decl)) (plain (operands x t)) st ≡
      run_body s (binary_given scalar o s.decl (mark_case (skips o) u)) (plain
      (bound_side self_name mine 0 (mark_case (left_in o) u).fields (operands x t))) st
  any-case x t u st at =
      ap (λ e. run s e (plain (operands x t)) st) (some-case scalar o s.decl (cases s.decl) x.variant u at) ∙
      ap (λ as'. run_arms s (arms_of as') (value_of mine x) (plain (operands x t)) st) (scalar-arms o s.decl [] kept) ∙
      one-side-run s (arms_by scalar o s.decl) names self_name mine x u (operands x t) st [] at (λ _. left-open o u (kept x.variant u at))
