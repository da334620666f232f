-- The methods of operators that give a value: with a receiver by value, and what is returned.
use Rattle.std.proofs.Common.{◌≡◌, ◌≢◌, ℕ, List, [], length, Bool, true, false, cond, eqb, Option, Some, slice_get, refl, sym, ap, ◌∙◌, subst}
use Rattle.std.proofs.lemmas.Bool.{eqb-true}
use Rattle.dm_ast.specs.Declarations.{Declaration}
use Rattle.dm_output.specs.declared.item.Receiver.TheVariants as receiver
use Rattle.dm_output.specs.Values.{Value, value_of, theirs, another, Thing, value, failure, Things, Case, cases, is_enum, field_list, fits_case, IsValue, Input, value_input, term_input}
use Rattle.dm_output.specs.Fits.{plain}
use Rattle.dm_output.specs.Calls.{Setting, State, goes, as_term}
use Rattle.dm_output.specs.Run.{run, constants_of, setting_of, run_method}
use Rattle.dm_operands.specs.Named.{AreNamed}
use Rattle.dm_operands.proofs.BindingLaws.{eqb-same}
use Rattle.dm_operators.specs.Operators.{Form, structural, scalar, Operator, IsOperator}
use Rattle.dm_operators.specs.Attributes.{cases_for}
use Rattle.dm_operators.specs.Meaning.{binary_unit, mismatch, ok_if, is_unit_in, case_of, changed, of_two, of_any, IsTerm}
use Rattle.dm_operators.specs.Bodies.{body_expr}
use Rattle.dm_operators.specs.Implementations.{method_in}
use Rattle.dm_operators.proofs.BinaryArms.{AreOpen, operands}
use Rattle.dm_operators.proofs.MethodForms.{body_run, method-answers}
use Rattle.dm_operators.proofs.BinaryLaws.{start, value-case, IsGiving, same-run, other-run, any-run}

-- it gives what its body gives, where that is a term
pub method-gives : (form : Form) (o : Operator) (d : Declaration) (os : List Bool) (x : Value) (y : Input) (t : Thing) →
    o.assigning ≡ false → constants_of y ≡ [] →
    as_term (setting_of d os (Some receiver.Value) y) (start x) t ≡ t →
    body_run false form o d os x y ≡ Some (goes t (start x)) →
    run_method d os (method_in form o d (cases_for o d)) x y ≡ Some t
method-gives form o d os x y t gives none term body =
    method-answers false form o d os x y (Some (goes t (start x))) gives none body ∙ ap (λ (u : Thing). Some u) term

-- what the operator of two values means is a term
two-term : (s : Setting) (st : State) (a b c : Bool) (p q : Thing) (n : ℕ) (xs : Things) →
    as_term s st (cond a (cond b (failure p) (ok_if c (value another n xs))) (failure q)) ≡
    cond a (cond b (failure p) (ok_if c (value another n xs))) (failure q)
two-term s st true true c p q n xs = refl
two-term s st true false true p q n xs = refl
two-term s st true false false p q n xs = refl
two-term s st false b c p q n xs = refl

module _ (o : Operator) (d : Declaration) (named : AreNamed d) (open_cases : AreOpen o d) (operator : IsOperator o)
    (gives : o.assigning ≡ false) where
  known-in : (s : Setting) → s.decl ≡ d → IsGiving s o
  known-in s e = record {
    named = subst AreNamed (sym e) named;
    open_cases = subst (AreOpen o) (sym e) open_cases;
    operator = operator;
    value = gives;
  }

  -- two values
  pub two-gives : (x y : Value) (os : List Bool) → IsValue d x → IsValue d y →
      run_method d os (method_in structural o d (cases_for o d)) x (value_input y) ≡ Some (of_two o d x y)
  two-gives x y os vx vy =
      let s : Setting = setting_of d os (Some receiver.Value) (value_input y) in
      let is = known-in s refl in
      let ux = value-case (slice_get (cases d) x.variant) (length x.fields) vx in
      let uy = value-case (slice_get (cases d) y.variant) (length y.fields) vy in
      let at : slice_get (cases d) x.variant ≡ Some ux.0 = ux.1 in
      method-gives structural o d os x (value_input y) (of_two o d x y) gives refl
      (two-term s (start x) (eqb x.variant y.variant) (is_unit_in (case_of d x)) (is_enum d) _ _ x.variant _)
      ((elim (eqb x.variant y.variant) as (λ b. eqb x.variant y.variant ≡ b →
      run s (body_expr structural o d (cases_for o d)) (plain (operands x (value_of theirs y))) (start x) ≡
      Some (goes (cond b (cond (is_unit_in (case_of d x)) (binary_unit o) (ok_if (is_enum d) (changed o d x y.fields)))
      (mismatch o)) (start x))) [
        | true ↦ λ h.
            let e : x.variant ≡ y.variant = eqb-true x.variant y.variant h in
            let there : slice_get (cases d) y.variant ≡ Some ux.0 = ap (slice_get (cases d)) (sym e) ∙ at in
            let ly : length (field_list ux.0.fields) ≡ length y.fields = subst (λ (c : Option Case). fits_case c
            (length y.fields)) there vy in
            rw at (same-run s o is x y ux.0 at e refl (sym ux.2) (sym ly))
        | false ↦ λ h.
            let ne : x.variant ≢ y.variant = λ e. let t : eqb x.variant y.variant ≡ true = ap (eqb x.variant) (sym e) ∙
            eqb-same x.variant in cc in
            other-run s o is x y ux.0 uy.0 at uy.1 ne
      ]) refl)

  -- any right side
  pub any-gives : (x : Value) (t : Thing) (os : List Bool) → IsValue d x → is_unit_in (case_of d x) ≡ false → IsTerm t →
      run_method d os (method_in scalar o d (cases_for o d)) x (term_input t) ≡ Some (of_any o d x t)
  any-gives x t os vx full term =
      let s : Setting = setting_of d os (Some receiver.Value) (term_input t) in
      let ux = value-case (slice_get (cases d) x.variant) (length x.fields) vx in
      let at : slice_get (cases d) x.variant ≡ Some ux.0 = ux.1 in
      method-gives scalar o d os x (term_input t) (of_any o d x t) gives refl refl
      (rw at (any-run s o (known-in s refl) x t ux.0 at (sym (ap is_unit_in at) ∙ full) term (sym ux.2)))
