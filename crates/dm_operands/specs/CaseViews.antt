-- The cases of a declaration as the program lends them, and which operand a name belongs to.
use Rattle.std.specs.Prelude.{ℕ, map}
use Rattle.dm_ast.specs.Declarations.{field_view}
use Rattle.dm_output.specs.Values.{Text}
use Rattle.dm_operands.specs.declared.cases.FieldRef.{FieldRef}
use Rattle.dm_operands.specs.declared.cases.CaseRef.{CaseRef}
use Rattle.dm_operands.specs.declared.sides.Operand.{Operand}
use Rattle.dm_operands.specs.declared.sides.Operand.TheVariants.{Mine, Theirs, Right, Inner}
use Rattle.dm_operands.specs.Marked.{MarkedField, MarkedCase}
use Rattle.dm_operands.specs.Numbered.{self_name, other_name, right_name, inner_name}

abbrev pub field_ref_view : FieldRef → MarkedField
field_ref_view f = record { field = field_view f.field.now; left_out = f.left_out }

abbrev pub case_view : CaseRef → MarkedCase
case_view c = record { ident = c.ident.now; form = c.form; left_out = c.left_out; fields = map field_ref_view c.fields.items }

-- the names of an operand's fields, by their numbers
abbrev pub naming : Operand → ℕ → Text
naming Mine n = self_name n
naming Theirs n = other_name n
naming Right n = right_name n
naming Inner n = inner_name n
