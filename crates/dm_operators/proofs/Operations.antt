-- The implementation of an operator for a declaration that isn't refused is one of the operator.
use Rattle.std.proofs.Common.{◌≡◌, List, Bool, true, false, cond, Some, None, refl}
use Rattle.dm_ast.specs.Declarations.{Declaration}
use Rattle.dm_output.specs.Values.{Value, IsValue, Input, no_input, value_input, term_input}
use Rattle.dm_output.specs.Run.{run_method}
use Rattle.dm_operands.specs.Named.{AreNamed}
use Rattle.dm_operators.specs.Operators.{Form, structural, scalar, unary, Operator, IsOperator}
use Rattle.dm_operators.specs.Attributes.{forwards, form_by, form_in, cases_for}
use Rattle.dm_operators.specs.Meaning.{of_two, after_two, of_any, direct_in, IsRight, Gives}
use Rattle.dm_operators.specs.Heads.{IsOperation}
use Rattle.dm_operators.specs.Implementations.{method_in, method_of, item_of}
use Rattle.dm_operators.specs.Refusals.{refusal}
use Rattle.dm_operators.specs.Laws.{AreFew}
use Rattle.dm_operators.proofs.BinaryArms.{AreOpen}
use Rattle.dm_operators.proofs.ValueMethods.{two-gives, any-gives}
use Rattle.dm_operators.proofs.AssigningMethods.{two-leaves, any-leaves}
use Rattle.dm_operators.proofs.UnaryLaws.{one-gives}
use Rattle.dm_operators.proofs.RefusalLaws.{unrefused-open, unrefused-unary, unrefused-scalar}

unary-by : (f : Form) (b : Bool) → form_by f b ≡ unary → f ≡ unary
unary-by structural b h = absurd cc
unary-by scalar true h = absurd cc
unary-by scalar false h = absurd cc
unary-by unary b h = refl

module _ (o : Operator) (d : Declaration) (operator : IsOperator o) (names : AreNamed d) (few : AreFew o d)
    (unrefused : refusal o d ≡ None) where
  open_cases : AreOpen o d
  open_cases = unrefused-open o d unrefused

  -- the method of each form
  gives-by : (f : Form) → form_in o d ≡ f → (x : Value) (y : Input) (os : List Bool) → IsValue d x → IsRight f d y →
      run_method d os (method_in f o d (cases_for o d)) x y ≡ direct_in f o d x y
  gives-by structural e x (value_input y) os vx vy =
      (elim o.assigning as (λ b. o.assigning ≡ b → run_method d os (method_in structural o d (cases_for o d)) x (value_input y) ≡
      Some (cond b (after_two o d x y) (of_two o d x y))) [
        | true ↦ λ a. two-leaves o d names open_cases operator a x y os vx vy
        | false ↦ λ a. two-gives o d names open_cases operator a x y os vx vy
      ]) refl
  gives-by scalar e x (term_input t) os vx term =
      (elim o.assigning as (λ b. o.assigning ≡ b → run_method d os (method_in scalar o d (cases_for o d)) x
      (term_input t) ≡ Some (of_any o d x t)) [
        | true ↦ λ a. any-leaves o d names open_cases operator a x t os vx term
        | false ↦ λ a. any-gives o d names open_cases operator a x t os vx (unrefused-scalar o d x e unrefused) term
      ]) refl
  gives-by unary e x no_input os vx none =
      let own = unary-by o.form (forwards o d.attrs) e in
      one-gives o d names open_cases few operator own x os vx (unrefused-unary o d x own unrefused)
  gives-by f e x y os vx right = absurd right

  pub operator-gives : Gives o d (method_of o d)
  operator-gives = record { gives = λ x y os vx vy len. gives-by (form_in o d) refl x y os vx vy }

  pub operation : IsOperation o d (item_of o d)
  operation = record {
    attrs = refl;
    params = refl;
    trait_path = refl;
    ty = refl;
    predicates = refl;
    assocs_are = refl;
    method = method_of o d;
    only = refl;
    head = record { attrs = refl; is_const = refl; name_is = refl; receiver = refl; param = refl; output = refl };
    gives = operator-gives;
  }
