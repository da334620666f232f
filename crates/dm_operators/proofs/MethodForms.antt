-- The method of an operator by whether it assigns: then it changes its receiver and returns nothing.
use Rattle.std.proofs.Common.{◌≡◌, ℤ, List, [], Bool, false, cond, Option, Some, None, ap, ◌∙◌}
use Rattle.dm_ast.specs.Declarations.{Declaration}
use Rattle.dm_output.specs.Output.{some_expr, last_expr, MethodTree}
use Rattle.dm_output.specs.declared.item.Receiver.{Receiver}
use Rattle.dm_output.specs.declared.item.Receiver.TheVariants as receiver
use Rattle.dm_output.specs.Values.{Value, Thing, Input}
use Rattle.dm_output.specs.Fits.{plain}
use Rattle.dm_output.specs.Calls.{State, Flow}
use Rattle.dm_output.specs.Run.{run, answered, with_receiver, with_param, input_thing, constants_of, setting_of, run_method}
use Rattle.dm_generics.specs.Words.{word}
use Rattle.dm_operands.specs.Marked.{MarkedCase}
use Rattle.dm_operators.specs.Operators.{Form, Operator}
use Rattle.dm_operators.specs.Attributes.{cases_for}
use Rattle.dm_operators.specs.Bodies.{body_expr}
use Rattle.dm_operators.specs.Heads.{method_attrs, method_param, returned}
use Rattle.dm_operators.specs.Implementations.{method_in}
use Rattle.dm_operators.proofs.BinaryLaws.{start}

abbrev pub receiver_by : Bool → Option Receiver
receiver_by assigns = Some (cond assigns receiver.RefMut receiver.Value)

abbrev pub method_by : Bool → Form → Operator → Declaration → List MarkedCase → MethodTree
method_by assigns form o d cs =
    record {
      attrs = method_attrs form;
      is_const = false;
      name = word o.method;
      receiver = receiver_by assigns;
      param = method_param form;
      output = cond assigns None (Some (returned form d));
      body = last_expr (some_expr (body_expr form o d cs));
    }

pub method-by : (assigns : Bool) (form : Form) (o : Operator) (d : Declaration) (cs : List MarkedCase) → o.assigning ≡ assigns →
    method_in form o d cs ≡ method_by assigns form o d cs
method-by assigns form o d cs is = ap (λ (b : Bool). method_by b form o d cs) is

-- what its body comes to from this state
abbrev body_from : Bool → Form → Operator → Declaration → List Bool → Value → Input → State → Option (Flow Thing)
body_from assigns form o d os x y st =
    run (setting_of d os (receiver_by assigns) y) (body_expr form o d (cases_for o d))
    (plain (with_receiver (receiver_by assigns) x (with_param (method_param form) (input_thing (receiver_by assigns) y)))) st

abbrev pub body_run : Bool → Form → Operator → Declaration → List Bool → Value → Input → Option (Flow Thing)
body_run assigns form o d os x y = body_from assigns form o d os x y (start x)

-- that is answered
pub method-answers : (assigns : Bool) (form : Form) (o : Operator) (d : Declaration) (os : List Bool) (x : Value) (y : Input)
    (r : Option (Flow Thing)) → o.assigning ≡ assigns → constants_of y ≡ [] → body_run assigns form o d os x y ≡ r →
    run_method d os (method_in form o d (cases_for o d)) x y ≡
    answered (setting_of d os (receiver_by assigns) y) (method_by assigns form o d (cases_for o d)) x.variant r
method-answers assigns form o d os x y r is none body =
    let answer : Option (Flow Thing) → Option Thing = answered (setting_of d os (receiver_by assigns) y)
    (method_by assigns form o d (cases_for o d)) x.variant in
    ap (λ m. run_method d os m x y) (method-by assigns form o d (cases_for o d) is) ∙
    ap (λ (ns : List ℤ). answer (body_from assigns form o d os x y (record { fields = x.fields; numbers = ns }))) none ∙
    ap answer body
