-- What stands for a field, by how the operation on it is called; and the tokens of a value behind its path.
use Rattle.std.specs.Prelude.{ℕ, List}
use Rattle.dm_stream.specs.declared.tokens.Delim.TheVariants.{Paren, Brace}
use Rattle.dm_stream.specs.Trees.{Trees, no_trees}
use Rattle.dm_output.specs.Output.{ExprTree, exprs_of, named_exprs_of}
use Rattle.dm_output.specs.Tokens.{enclosed, ended, each_expr, each_named_expr}
use Rattle.dm_operands.specs.declared.cases.Form.{Form}
use Rattle.dm_operands.specs.declared.cases.Form.TheVariants as forms
use Rattle.dm_operands.specs.Marked.{MarkedField}
use Rattle.dm_operators.specs.Operators.{Operator}
use Rattle.dm_operators.specs.Table.{form_view}
use Rattle.dm_operators.specs.Bodies.{binary_part, inner_part, own_part, parts, named_parts}
use Rattle.dm_operator_prints.specs.declared.parts.Part.{Part}
use Rattle.dm_operator_prints.specs.declared.parts.Part.TheVariants.{Binary, Inner, Own}

abbrev pub part_by : Part → Operator → ℕ → MarkedField → ExprTree
part_by (Binary form) o n f = binary_part (form_view form) o n f
part_by Inner o n f = inner_part o n f
part_by (Own form) o n f = own_part o form n f

-- in braces, in parentheses with a comma behind each, or nothing
abbrev pub value_trees : (ℕ → MarkedField → ExprTree) → Form → List MarkedField → Trees
value_trees part forms.Named fs = enclosed Brace (ended (each_named_expr (named_exprs_of (named_parts part 0 fs))))
value_trees part forms.Unnamed fs = enclosed Paren (ended (each_expr (exprs_of (parts part 0 fs))))
value_trees part forms.Unit fs = no_trees
