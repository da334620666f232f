-- The implementation of an operator, in its form and for its cases, and tokens of its parts.
use Rattle.std.specs.Prelude.{List, [], ◌∷◌, ◌++◌, map, Option, None, Some, codes}
use Rattle.dm_stream.specs.Trees.{Trees, no_trees, join}
use Rattle.dm_ast.specs.Declarations.{PredicateTree, Declaration}
use Rattle.dm_ast.specs.Implementors.{predicates_of, implementor}
use Rattle.dm_output.specs.Output.{ParamOfMethod, AssocTree, MethodTree, ItemTree}
use Rattle.dm_output.specs.Tokens.{word, comma, in_turn, attr_trees, method_param_trees}
use Rattle.dm_operands.specs.Marked.{MarkedCase}
use Rattle.dm_operators.specs.Operators.{Form, Operator}
use Rattle.dm_operators.specs.Predicates.{implemented, needed_in}
use Rattle.dm_operators.specs.Heads.{method_attrs, item_attrs, item_params, assocs}
use Rattle.dm_operators.specs.Implementations.{method_in}

-- the declared predicates, and those that these cases need
abbrev pub predicates_in : Form → Operator → Declaration → List MarkedCase → List PredicateTree
predicates_in form o d cs = predicates_of d ++ needed_in form o d cs

-- the implementation for these cases, with this between its braces
abbrev pub item_with : Form → Operator → Declaration → List MarkedCase → List AssocTree → List MethodTree → ItemTree
item_with form o d cs all methods =
    record {
      attrs = item_attrs form;
      params = item_params form o d;
      trait_path = Some (implemented form o);
      ty = implementor d;
      predicates = predicates_in form o d cs;
      assocs = all;
      methods = methods;
    }

-- the implementation for these cases
abbrev pub item_for : Form → Operator → Declaration → List MarkedCase → ItemTree
item_for form o d cs = item_with form o d cs (assocs form o d) (method_in form o d cs ∷ [])

-- ---- tokens of parts

-- the attributes of the implementation, and `impl`
abbrev pub start_trees : Form → Trees
start_trees form = join (in_turn (map attr_trees (item_attrs form))) (word (codes "impl"))

-- the attributes of the method, and `fn`
abbrev pub method_start_trees : Form → Trees
method_start_trees form = join (in_turn (map attr_trees (method_attrs form))) (word (codes "fn"))

-- a comma and the right side, where there is one
abbrev pub more_input : Option ParamOfMethod → Trees
more_input None = no_trees
more_input (Some p) = join comma (method_param_trees p)
