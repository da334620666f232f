-- The method of an assigning operator leaves self as the operator means.
use Rattle.std.proofs.Common.{◌≡◌, ◌≢◌, ℕ, ◌+◌, List, [], ◌∷◌, length, map, Bool, true, false, cond, eqb, Option, Some, codes, slice_get, refl, sym, ap, ◌∙◌, subst, arith}
use Rattle.std.proofs.lemmas.Bool.{eqb-true}
use Rattle.dm_ast.specs.Declarations.{Declaration, FieldTree}
use Rattle.dm_output.specs.Output.{wild, no_expr, arms_of, block_body, expr_body, no_stmts, stmts_of, block}
use Rattle.dm_output.specs.declared.item.Receiver.TheVariants as receiver
use Rattle.dm_output.specs.Values.{Value, value_of, mine, theirs, Thing, place, done, Case, cases, field_list, fits_case, IsValue, Input, value_input, term_input}
use Rattle.dm_output.specs.Fits.{plain, bound}
use Rattle.dm_output.specs.Calls.{Setting, State, goes, then}
use Rattle.dm_output.specs.Run.{run, run_arms, run_body, constants_of, setting_of, run_method}
use Rattle.dm_operands.specs.Marked.{MarkedField, MarkedCase, mark_field, mark_case}
use Rattle.dm_operands.specs.Numbered.{self_name}
use Rattle.dm_operands.specs.Named.{AreNamed}
use Rattle.dm_operands.proofs.FromLaws.{AreFrom, from-start, from-first, from-rest}
use Rattle.dm_operands.proofs.NameLaws.{self-self}
use Rattle.dm_operands.proofs.BindingLaws.{Names, bound_side, Knows, knows, bound-miss, eqb-same, fields-marked}
use Rattle.dm_operands.proofs.ArmLaws.{two_values, both_sides, both-known}
use Rattle.dm_operators.specs.Operators.{Form, structural, scalar, Operator, IsOperator}
use Rattle.dm_operators.specs.Attributes.{skips, cases_for}
use Rattle.dm_operators.specs.Meaning.{combined, with_fields, fields_in, changed, after_two, of_any, IsTerm}
use Rattle.dm_operators.specs.Bodies as bodies
use Rattle.dm_operators.specs.Bodies.{right_name, arm, binary_given, answer_given, assigning_calls, calls_block, different, binary_body}
use Rattle.dm_operators.specs.Implementations.{method_in}
use Rattle.dm_operators.proofs.TableLaws.{known-assigning}
use Rattle.dm_operators.proofs.OperandLaws.{self-right, right-right, keeps_all, place-term, term-kept}
use Rattle.dm_operators.proofs.BinaryArms.{left_in, AreOpen, operands, same-case, other-case, any-case}
use Rattle.dm_operators.proofs.BinaryLaws.{start, value-case}
use Rattle.dm_operators.proofs.MethodForms.{body_run, method-answers}
use Rattle.dm_operators.proofs.AssigningLaws.{Assigns, AreRight, calls-run}

-- ---- right operands

-- the right side's fields, where those that are kept are bound
right-fields : (s : Setting) (env : Names) (o : Operator) (n : ℕ) (fs : List FieldTree) (ys : List Thing) →
    Knows right_name theirs env n (map (mark_field (skips o)) fs) →
    AreFrom s.right n ys → length ys ≡ length fs → AreRight s (plain env) o structural n fs ys
right-fields s env o n [] ys known at len = tt
right-fields s env o n (f ∷ fs) [] known at len = absurd (omega arith)
right-fields s env o n (f ∷ fs) (y ∷ ys) known at len = (
  λ kept st. let here = known.0 kept in (place theirs n, rw here refl, place-term s st theirs n y (from-first s.right n y ys at)),
  right-fields s env o (n + 1) fs ys known.1 (from-rest s.right n y ys at) (omega arith),
)

-- the right side itself
right-itself : (s : Setting) (env : Names) (o : Operator) (t : Thing) (n : ℕ) (fs : List FieldTree) (xs : List Thing) → IsTerm t →
    bound (plain env) (codes "__rhs") ≡ Some t → length xs ≡ length fs → AreRight s (plain env) o scalar n fs (map (λ _. t) xs)
right-itself s env o t n [] xs is at len = tt
right-itself s env o t n (f ∷ fs) [] is at len = absurd (omega arith)
right-itself s env o t n (f ∷ fs) (x ∷ xs) is at len = (
  λ kept st. (t, rw at refl, term-kept s st t is),
  right-itself s env o t (n + 1) fs xs is at (omega arith),
)

-- ---- bodies

-- self's fields where a method ends
abbrev ended : List Thing → State
ended xs = record { fields = xs; numbers = [] }

-- what the laws know of an operator that assigns
pub record IsAssigning (s : Setting) (o : Operator) : Type 0 where
  pub named : AreNamed s.decl
  pub open_cases : AreOpen o s.decl
  pub operator : IsOperator o
  pub assigning : o.assigning ≡ true
  pub may : s.may_assign ≡ true

module _ (s : Setting) (o : Operator) (is : IsAssigning s o) where
  block-given : (form : Form) (c : MarkedCase) → binary_given form o s.decl c ≡ block_body (calls_block form o c)
  block-given form c = ap (λ (b : Bool). cond b (block_body (calls_block form o c)) (expr_body (answer_given form o s.decl c))) is.assigning

  nothing-given : different o ≡ arm wild (block_body (block no_stmts no_expr))
  nothing-given = ap (λ (b : Bool). arm wild (cond b (block_body (block no_stmts no_expr)) (expr_body (bodies.mismatch o)))) is.assigning

  -- the patterns leave out what is skipped
  kept-fields : (u : Case) → skips o u.attrs ≡ false → (mark_case (left_in o) u).fields ≡ map (mark_field (skips o)) (field_list u.fields)
  kept-fields u kept = ap (λ (b : Bool). (mark_case (cond b (skips o) keeps_all) u).fields) is.assigning ∙ fields-marked (skips o) u kept

  -- the calls of a case, where its kept fields are bound
  block-run : (form : Form) (x : Value) (u : Case) (env : Names) (ys : List Thing) → slice_get (cases s.decl) x.variant ≡ Some u →
      length x.fields ≡ length (field_list u.fields) → Knows self_name mine env 0 (map (mark_field (skips o)) (field_list u.fields)) →
      AreRight s (plain env) o form 0 (field_list u.fields) ys →
      run_body s (block_body (calls_block form o (mark_case (skips o) u))) (plain env) (start x) ≡
      Some (goes done (ended (combined o (field_list u.fields) x.fields ys)))
  block-run form x u env ys at len known right =
      let a : Assigns s o = record { foreign = is.named.foreign; listed = known-assigning o is.operator is.assigning; may = is.may } in
      ap (λ (fs : List MarkedField). run_body s (block_body (block (stmts_of (assigning_calls form o 0 fs)) no_expr)) (plain env) (start x))
      (fields-marked (skips o) u (is.open_cases x.variant u at)) ∙
      ap (λ r. then r (λ env' st. Some (goes done st)))
      (calls-run s env o form a 0 (field_list u.fields) x.fields ys [] x.fields [] refl refl len known right)

  -- two values of one case
  pub same-after : (x y : Value) (u : Case) → slice_get (cases s.decl) x.variant ≡ Some u → x.variant ≡ y.variant → s.right ≡ y.fields →
      length x.fields ≡ length (field_list u.fields) → length y.fields ≡ length (field_list u.fields) →
      run s (binary_body structural o s.decl (cases_for o s.decl)) (plain (operands x (value_of theirs y))) (start x) ≡
      Some (goes done (ended (combined o (field_list u.fields) x.fields y.fields)))
  same-after x y u at same right lx ly =
      let kept : List MarkedField = map (mark_field (skips o)) (field_list u.fields) in
      let all : List MarkedField → Names = λ fs. both_sides self_name right_name fs (operands x (value_of theirs y)) in
      let env : Names = all (mark_case (left_in o) u).fields in
      let fields_are = kept-fields u (is.open_cases x.variant u at) in
      let known = both-known self_name right_name kept (operands x (value_of theirs y)) self-self right-right self-right in
      let mine_known : Knows self_name mine env 0 kept = subst (λ fs. Knows self_name mine (all fs) 0 kept) (sym fields_are) known.0 in
      let right_known : Knows right_name theirs env 0 kept = subst (λ fs. Knows right_name theirs (all fs) 0 kept)
      (sym fields_are) known.1 in
      same-case s o is.named is.open_cases x y u (start x) at same ∙
      ap (λ b. run_body s b (plain env) (start x)) (block-given structural (mark_case (skips o) u)) ∙
      block-run structural x u env y.fields at lx mine_known
      (right-fields s env o 0 (field_list u.fields) y.fields right_known
      (λ k. ap (λ (zs : List Thing). slice_get zs (0 + k)) right ∙ from-start y.fields k) ly)

  -- two values of different cases
  pub other-after : (x y : Value) (u w : Case) → slice_get (cases s.decl) x.variant ≡ Some u →
      slice_get (cases s.decl) y.variant ≡ Some w → x.variant ≢ y.variant →
      run s (binary_body structural o s.decl (cases_for o s.decl)) (plain (operands x (value_of theirs y))) (start x) ≡
      Some (goes done (ended x.fields))
  other-after x y u w at there other =
      other-case s o is.named is.open_cases x y u w (start x) at there other ∙
      ap (λ a. run_arms s (arms_of (a ∷ [])) (two_values x y) (plain (operands x (value_of theirs y))) (start x)) nothing-given

  -- self beside any right side
  pub any-after : (x : Value) (t : Thing) (u : Case) → slice_get (cases s.decl) x.variant ≡ Some u → IsTerm t →
      length x.fields ≡ length (field_list u.fields) →
      run s (binary_body scalar o s.decl (cases_for o s.decl)) (plain (operands x t)) (start x) ≡
      Some (goes done (ended (combined o (field_list u.fields) x.fields (map (λ _. t) x.fields))))
  any-after x t u at term lx =
      let kept : List MarkedField = map (mark_field (skips o)) (field_list u.fields) in
      let all : List MarkedField → Names = λ fs. bound_side self_name mine 0 fs (operands x t) in
      let env : Names = all (mark_case (left_in o) u).fields in
      let mine_known : Knows self_name mine env 0 kept =
      subst (λ fs. Knows self_name mine (all fs) 0 kept) (sym (kept-fields u (is.open_cases x.variant u at)))
      (knows self_name self-self mine 0 kept (operands x t)) in
      let right : bound (plain env) (codes "__rhs") ≡ Some t =
      bound-miss self_name mine 0 (mark_case (left_in o) u).fields (operands x t) (codes "__rhs") (λ m a b. refl) in
      any-case s o is.named is.open_cases x t u (start x) at ∙
      ap (λ b. run_body s b (plain env) (start x)) (block-given scalar (mark_case (skips o) u)) ∙
      block-run scalar x u env (map (λ _. t) x.fields) at lx mine_known (right-itself s env o t 0
      (field_list u.fields) x.fields term right lx)

-- ---- methods

-- self afterwards has the fields that its body leaves
method-leaves : (form : Form) (o : Operator) (d : Declaration) (os : List Bool) (x : Value) (y : Input) (ts : List Thing) →
    o.assigning ≡ true → constants_of y ≡ [] →
    body_run true form o d os x y ≡ Some (goes done (ended ts)) →
    run_method d os (method_in form o d (cases_for o d)) x y ≡ Some (with_fields x ts)
method-leaves form o d os x y ts assigns none body = method-answers true form o d os x y (Some (goes done (ended ts))) assigns none body

module _ (o : Operator) (d : Declaration) (named : AreNamed d) (open_cases : AreOpen o d) (operator : IsOperator o)
    (assigns : o.assigning ≡ true) where
  known-in : (os : List Bool) (y : Input) → IsAssigning (setting_of d os (Some receiver.RefMut) y) o
  known-in os y = record { named = named; open_cases = open_cases; operator = operator; assigning = assigns; may = refl }

  -- two values
  pub two-leaves : (x y : Value) (os : List Bool) → IsValue d x → IsValue d y →
      run_method d os (method_in structural o d (cases_for o d)) x (value_input y) ≡ Some (after_two o d x y)
  two-leaves x y os vx vy =
      let s : Setting = setting_of d os (Some receiver.RefMut) (value_input y) in
      let is = known-in os (value_input y) in
      let ux = value-case (slice_get (cases d) x.variant) (length x.fields) vx in
      let uy = value-case (slice_get (cases d) y.variant) (length y.fields) vy in
      let at : slice_get (cases d) x.variant ≡ Some ux.0 = ux.1 in
      (elim (eqb x.variant y.variant) as (λ b. eqb x.variant y.variant ≡ b →
      run_method d os (method_in structural o d (cases_for o d)) x (value_input y) ≡
      Some (cond b (changed o d x y.fields) (with_fields x x.fields))) [
        | true ↦ λ h.
            let e : x.variant ≡ y.variant = eqb-true x.variant y.variant h in
            let there : slice_get (cases d) y.variant ≡ Some ux.0 = ap (slice_get (cases d)) (sym e) ∙ at in
            let ly : length (field_list ux.0.fields) ≡ length y.fields = subst (λ (c : Option Case). fits_case c
            (length y.fields)) there vy in
            method-leaves structural o d os x (value_input y) (combined o (field_list ux.0.fields) x.fields y.fields) assigns refl
            (same-after s o is x y ux.0 at e refl (sym ux.2) (sym ly)) ∙
            ap (λ (c : Option Case). Some (with_fields x (combined o (fields_in c) x.fields y.fields))) (sym at)
        | false ↦ λ h.
            let ne : x.variant ≢ y.variant = λ e. let t : eqb x.variant y.variant ≡ true = ap (eqb x.variant) (sym e) ∙
            eqb-same x.variant in cc in
            method-leaves structural o d os x (value_input y) x.fields assigns refl (other-after s o is x y ux.0 uy.0 at uy.1 ne)
      ]) refl

  -- any right side
  pub any-leaves : (x : Value) (t : Thing) (os : List Bool) → IsValue d x → IsTerm t →
      run_method d os (method_in scalar o d (cases_for o d)) x (term_input t) ≡ Some (of_any o d x t)
  any-leaves x t os vx term =
      let s : Setting = setting_of d os (Some receiver.RefMut) (term_input t) in
      let ux = value-case (slice_get (cases d) x.variant) (length x.fields) vx in
      let at : slice_get (cases d) x.variant ≡ Some ux.0 = ux.1 in
      method-leaves scalar o d os x (term_input t) (combined o (field_list ux.0.fields) x.fields (map (λ _. t) x.fields)) assigns refl
      (any-after s o (known-in os (term_input t)) x t ux.0 at term (sym ux.2)) ∙
      ap (λ (c : Option Case). Some (with_fields x (combined o (fields_in c) x.fields (map (λ _. t) x.fields)))) (sym at)
