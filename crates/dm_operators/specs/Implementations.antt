-- The implementation of an operator, as plain data.
use Rattle.std.specs.Prelude.{[], ◌∷◌, List, false, Some}
use Rattle.dm_ast.specs.Declarations.{Declaration}
use Rattle.dm_ast.specs.Implementors.{implementor}
use Rattle.dm_output.specs.Output.{some_expr, last_expr, BlockTree, MethodTree, ItemTree}
use Rattle.dm_generics.specs.Words.{word}
use Rattle.dm_operands.specs.Marked.{MarkedCase}
use Rattle.dm_operators.specs.Operators.{Form, Operator}
use Rattle.dm_operators.specs.Attributes.{cases_for, form_in}
use Rattle.dm_operators.specs.Predicates.{implemented}
use Rattle.dm_operators.specs.Heads.{method_attrs, receiver_of, method_param, method_output, item_attrs, item_params, item_predicates, assocs}
use Rattle.dm_operators.specs.Bodies.{body_expr}

-- the trait's method with this body
abbrev pub method_with : Form → Operator → Declaration → BlockTree → MethodTree
method_with form o d b =
    record {
      attrs = method_attrs form;
      is_const = false;
      name = word o.method;
      receiver = Some (receiver_of o);
      param = method_param form;
      output = method_output form o d;
      body = b;
    }

-- the method in this form, for these cases
abbrev pub method_in : Form → Operator → Declaration → List MarkedCase → MethodTree
method_in form o d cs = method_with form o d (last_expr (some_expr (body_expr form o d cs)))

-- the method of an operator for a declaration
abbrev pub method_of : Operator → Declaration → MethodTree
method_of o d = method_in (form_in o d) o d (cases_for o d)

-- all around the method
abbrev pub item_with : Form → Operator → Declaration → MethodTree → ItemTree
item_with form o d m =
    record {
      attrs = item_attrs form;
      params = item_params form o d;
      trait_path = Some (implemented form o);
      ty = implementor d;
      predicates = item_predicates o d;
      assocs = assocs form o d;
      methods = m ∷ [];
    }

-- the implementation of an operator for a declaration
abbrev pub item_of : Operator → Declaration → ItemTree
item_of o d = item_with (form_in o d) o d (method_of o d)
