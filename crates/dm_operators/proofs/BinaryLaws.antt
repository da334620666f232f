-- The method of a binary operator that gives a value gives what the operator means.
use Rattle.std.proofs.Common.{◌≡◌, ◌≢◌, ℕ, ◌+◌, List, [], ◌∷◌, length, map, Bool, true, false, cond, Option, Some, None, codes, slice_get, refl, sym, ap, ◌∙◌, subst}
use Rattle.std.proofs.lemmas.List.{length-map}
use Rattle.dm_stream.specs.declared.tokens.LitKind.TheVariants.{Str}
use Rattle.dm_lexer.specs.Values.{str_value}
use Rattle.dm_ast.specs.Declarations.{FieldsTree, named, unnamed, unit}
use Rattle.dm_output.specs.Output.{wild, ExprTree, no_expr, arms_of, block_body, expr_body, no_stmts, block}
use Rattle.dm_output.specs.Values.{Value, value_of, mine, theirs, Thing, Case, cases, is_enum, field_list, fits_case}
use Rattle.dm_output.specs.Fits.{Env, plain, bound, names_type}
use Rattle.dm_output.specs.Calls.{Setting, State, goes, as_term, known}
use Rattle.dm_output.specs.Run.{run, run_arms, run_body}
use Rattle.dm_operands.specs.Marked.{MarkedField, MarkedCase, form_of, mark_field, mark_case}
use Rattle.dm_operands.specs.Numbered.{self_name}
use Rattle.dm_operands.specs.Sides.{case_path}
use Rattle.dm_operands.specs.Named.{AreNamed}
use Rattle.dm_operands.proofs.FromLaws.{from-start}
use Rattle.dm_operands.proofs.NameLaws.{self-self, path-found}
use Rattle.dm_operands.proofs.BindingLaws.{Names, bound_side, Knows, knows, bound-miss, fields-marked, fields-kept}
use Rattle.dm_operands.proofs.ArmLaws.{two_values, both_sides, both-known}
use Rattle.dm_operators.specs.Operators.{Form, structural, scalar, Operator, IsOperator}
use Rattle.dm_operators.specs.Attributes.{skips, cases_for}
use Rattle.dm_operators.specs.Meaning as means
use Rattle.dm_operators.specs.Meaning.{combined, with_fields, is_unit, ok_if, IsTerm}
use Rattle.dm_operators.specs.Bodies as bodies
use Rattle.dm_operators.specs.Bodies.{quoted, in_ok, right_name, binary_part, arm, binary_given, value_given, answer_given, is_unit_form, binary_body}
use Rattle.dm_operators.proofs.TableLaws.{means-method, known-value}
use Rattle.dm_operators.proofs.ConstructorLaws.{ArePartsOf, leads, constructor-run}
use Rattle.dm_operators.proofs.OperandLaws.{self-right, right-right, AreStanding, keeps_all, places-stand, right-stands, GivesValue, binary-parts}
use Rattle.dm_operators.proofs.BinaryArms.{left_in, AreOpen, operands, same-case, other-case, any-case}

-- ---- errors, and `Ok`

module _ (s : Setting) (env : Env) (st : State) (foreign : names_type s.decl (codes "derive_more") ≡ false) where
  pub ok-run : (b : Bool) (e : ExprTree) (x : Thing) → as_term s st x ≡ x → run s e env st ≡ Some (goes x st) →
      run s (in_ok b e) env st ≡ Some (goes (ok_if b x) st)
  ok-run true e x term h = rw (h, foreign, term) refl
  ok-run false e x term h = h

  binary-unit-run : (o : Operator) → str_value Str (quoted o.method).text ≡ Some o.method →
      run s (bodies.binary_unit o) env st ≡ Some (goes (means.binary_unit o) st)
  unfolding bodies.binary_unit
  binary-unit-run o meant = rw (meant, foreign) refl

  mismatch-run : (o : Operator) → str_value Str (quoted o.method).text ≡ Some o.method →
      run s (bodies.mismatch o) env st ≡ Some (goes (means.mismatch o) st)
  unfolding bodies.mismatch
  mismatch-run o meant = rw (meant, foreign) refl

  pub unary-unit-run : (o : Operator) → str_value Str (quoted o.method).text ≡ Some o.method →
      run s (bodies.unary_unit o) env st ≡ Some (goes (means.unary_unit o) st)
  unfolding bodies.unary_unit
  unary-unit-run o meant = rw (meant, foreign) refl

-- ---- a value

pub unit-form : (fs : FieldsTree) → is_unit_form (form_of fs) ≡ is_unit fs
unit-form (named fs) = refl
unit-form (unnamed fs) = refl
unit-form unit = refl

pub value-case : (o : Option Case) (n : ℕ) → fits_case o n → (u : Case) × (o ≡ Some u) × (length (field_list u.fields) ≡ n)
value-case None n h = absurd h
value-case (Some u) n h = (u, refl, h)

-- self's fields at the start of a method
abbrev pub start : Value → State
start x = record { fields = x.fields; numbers = [] }

-- what the laws know of an operator that gives a value
pub record IsGiving (s : Setting) (o : Operator) : Type 0 where
  pub named : AreNamed s.decl
  pub open_cases : AreOpen o s.decl
  pub operator : IsOperator o
  pub value : o.assigning ≡ false

module _ (s : Setting) (o : Operator) (is : IsGiving s o) where
  -- the value of a case, where self's fields are bound and the right operands stand for terms
  value-run : (form : Form) (x : Value) (u : Case) (env : Names) (ys : List Thing) →
      slice_get (cases s.decl) x.variant ≡ Some u → is_unit u.fields ≡ false →
      length x.fields ≡ length (field_list u.fields) → length ys ≡ length (field_list u.fields) →
      Knows self_name mine env 0 (map (mark_field keeps_all) (field_list u.fields)) →
      AreStanding s (plain env) (start x) (bodies.right_operand form) 0 ys →
      run s (value_given form o s.decl (mark_case (skips o) u)) (plain env) (start x) ≡
      Some (goes (with_fields x (combined o (field_list u.fields) x.fields ys)) (start x))
  value-run form x u env ys at full lx ly known right =
      let kept = is.open_cases x.variant u at in
      let gives : GivesValue s o = record { foreign = is.named.foreign; unlisted = known-value o is.operator is.value } in
      let left = places-stand s env (start x) mine self_name 0 (field_list u.fields) x.fields known (from-start x.fields) lx in
      constructor-run s (plain env) (start x) (binary_part form o) (case_path s.decl u.ident) x.variant
      (leads s.decl (case_path s.decl u.ident) x.variant (path-found s.decl x.variant u is.named at)) u (mark_case (skips o) u).fields _
      (record { at = at; are = fields-kept (skips o) u kept; names = λ gs e. is.named.fields x.variant u gs at e }) full
      (subst (λ fs. ArePartsOf s (plain env) (start x) (binary_part form o) 0 fs (combined o (field_list u.fields) x.fields ys))
      (sym (fields-marked (skips o) u kept))
      (binary-parts s (plain env) (start x) o gives form 0 (field_list u.fields) x.fields ys lx ly left right))

  -- the fields of a pattern that leaves none out
  left-fields : (u : Case) → (mark_case (left_in o) u).fields ≡ map (mark_field keeps_all) (field_list u.fields)
  left-fields u = ap (λ (b : Bool). (mark_case (cond b (skips o) keeps_all) u).fields) is.value

  -- what an arm gives
  value-given : (form : Form) (c : MarkedCase) → binary_given form o s.decl c ≡ expr_body (answer_given form o s.decl c)
  value-given form c = ap (λ (b : Bool). cond b (block_body (bodies.calls_block form o c))
      (expr_body (answer_given form o s.decl c))) is.value

  value-different : bodies.different o ≡ arm wild (expr_body (bodies.mismatch o))
  value-different = ap (λ (b : Bool). arm wild (cond b (block_body (block no_stmts no_expr)) (expr_body (bodies.mismatch o)))) is.value

  -- the answer for two values of one case
  answer-run : (x : Value) (u : Case) (env : Names) (ys : List Thing) → slice_get (cases s.decl) x.variant ≡ Some u →
      (is_unit u.fields ≡ false → run s (value_given structural o s.decl (mark_case (skips o) u)) (plain env) (start x) ≡
      Some (goes (with_fields x (combined o (field_list u.fields) x.fields ys)) (start x))) →
      run s (answer_given structural o s.decl (mark_case (skips o) u)) (plain env) (start x) ≡
      Some (goes (cond (is_unit u.fields) (means.binary_unit o) (ok_if (is_enum s.decl)
      (with_fields x (combined o (field_list u.fields) x.fields ys)))) (start x))
  answer-run x u env ys at given =
      ap (λ (b : Bool). run s (cond b (bodies.binary_unit o) (in_ok (is_enum s.decl)
      (value_given structural o s.decl (mark_case (skips o) u)))) (plain env) (start x)) (unit-form u.fields) ∙
      (elim (is_unit u.fields) as (λ b. is_unit u.fields ≡ b →
      run s (cond b (bodies.binary_unit o) (in_ok (is_enum s.decl) (value_given structural o s.decl
      (mark_case (skips o) u)))) (plain env) (start x) ≡
      Some (goes (cond b (means.binary_unit o) (ok_if (is_enum s.decl) (with_fields x
      (combined o (field_list u.fields) x.fields ys)))) (start x))) [
        | true ↦ λ e. binary-unit-run s (plain env) (start x) is.named.foreign o (means-method o is.operator)
        | false ↦ λ e. ok-run s (plain env) (start x) is.named.foreign (is_enum s.decl)
            (value_given structural o s.decl (mark_case (skips o) u))
            (with_fields x (combined o (field_list u.fields) x.fields ys)) refl (given e)
      ]) refl

  -- two values of one case
  pub same-run : (x y : Value) (u : Case) → slice_get (cases s.decl) x.variant ≡ Some u → x.variant ≡ y.variant → s.right ≡ y.fields →
      length x.fields ≡ length (field_list u.fields) → length y.fields ≡ length (field_list u.fields) →
      run s (binary_body structural o s.decl (cases_for o s.decl)) (plain (operands x (value_of theirs y))) (start x) ≡
      Some (goes (cond (is_unit u.fields) (means.binary_unit o) (ok_if (is_enum s.decl)
      (with_fields x (combined o (field_list u.fields) x.fields y.fields)))) (start x))
  same-run x y u at same right lx ly =
      let env : Names = both_sides self_name right_name (mark_case (left_in o) u).fields (operands x (value_of theirs y)) in
      let known = both-known self_name right_name (map (mark_field keeps_all) (field_list u.fields)) (operands x (value_of theirs y))
      self-self right-right self-right in
      let all : List MarkedField → Names = λ fs. both_sides self_name right_name fs (operands x (value_of theirs y)) in
      let fields_are = left-fields u in
      let mine_known : Knows self_name mine env 0 (map (mark_field keeps_all) (field_list u.fields)) =
      subst (λ fs. Knows self_name mine (all fs) 0 (map (mark_field keeps_all) (field_list u.fields))) (sym fields_are) known.0 in
      let right_known : Knows right_name theirs env 0 (map (mark_field keeps_all) (field_list u.fields)) =
      subst (λ fs. Knows right_name theirs (all fs) 0 (map (mark_field keeps_all) (field_list u.fields))) (sym fields_are) known.1 in
      let right_stands = places-stand s env (start x) theirs right_name 0 (field_list u.fields) y.fields right_known
      (λ k. ap (λ ys. slice_get ys (0 + k)) right ∙ from-start y.fields k) ly in
      same-case s o is.named is.open_cases x y u (start x) at same ∙
      ap (λ b. run_body s b (plain env) (start x)) (value-given structural (mark_case (skips o) u)) ∙
      answer-run x u env y.fields at (λ full. value-run structural x u env y.fields at full lx ly mine_known right_stands)

  -- two values of different cases
  pub other-run : (x y : Value) (u w : Case) → slice_get (cases s.decl) x.variant ≡ Some u →
      slice_get (cases s.decl) y.variant ≡ Some w → x.variant ≢ y.variant →
      run s (binary_body structural o s.decl (cases_for o s.decl)) (plain (operands x (value_of theirs y))) (start x) ≡
      Some (goes (means.mismatch o) (start x))
  other-run x y u w at there other =
      other-case s o is.named is.open_cases x y u w (start x) at there other ∙
      ap (λ a. run_arms s (arms_of (a ∷ [])) (two_values x y) (plain (operands x (value_of theirs y))) (start x)) value-different ∙
      mismatch-run s (plain (operands x (value_of theirs y))) (start x) is.named.foreign o (means-method o is.operator)

  -- self beside any right side
  pub any-run : (x : Value) (t : Thing) (u : Case) → slice_get (cases s.decl) x.variant ≡ Some u → is_unit u.fields ≡ false → IsTerm t →
      length x.fields ≡ length (field_list u.fields) →
      run s (binary_body scalar o s.decl (cases_for o s.decl)) (plain (operands x t)) (start x) ≡
      Some (goes (with_fields x (combined o (field_list u.fields) x.fields (map (λ _. t) x.fields))) (start x))
  any-run x t u at full term lx =
      let env : Names = bound_side self_name mine 0 (mark_case (left_in o) u).fields (operands x t) in
      let all : List MarkedField → Names = λ fs. bound_side self_name mine 0 fs (operands x t) in
      let mine_known : Knows self_name mine env 0 (map (mark_field keeps_all) (field_list u.fields)) =
      subst (λ fs. Knows self_name mine (all fs) 0 (map (mark_field keeps_all) (field_list u.fields))) (sym (left-fields u))
      (knows self_name self-self mine 0 (map (mark_field keeps_all) (field_list u.fields)) (operands x t)) in
      let right : bound (plain env) (codes "__rhs") ≡ Some t =
      bound-miss self_name mine 0 (mark_case (left_in o) u).fields (operands x t) (codes "__rhs") (λ m a b. refl) in
      any-case s o is.named is.open_cases x t u (start x) at ∙
      ap (λ b. run_body s b (plain env) (start x)) (value-given scalar (mark_case (skips o) u)) ∙
      value-run scalar x u env (map (λ _. t) x.fields) at full lx (length-map x.fields (λ (_ : Thing). t) ∙ lx) mine_known
      (right-stands s (plain env) (start x) 0 t x.fields term right)
