-- What the attributes of an operator say: `#[METHOD(skip)]` at a field, and `#[METHOD(forward)]` at a type.
use Rattle.std.specs.Prelude.{List, Bool, false, cond, filter}
use Rattle.dm_ast.specs.declared.plain.Attribute.{Attribute}
use Rattle.dm_ast.specs.declared.plain.AttrArgs.{AttrArgs}
use Rattle.dm_ast.specs.Declarations.{Declaration}
use Rattle.dm_output.specs.Values.{Text}
use Rattle.dm_attr.specs.Skips.{is_examined, reads_in, once_among, skip, Skipping, is_yes}
use Rattle.dm_attr.specs.Kinds.{forward_in}
use Rattle.dm_operands.specs.Marked.{MarkedCase, marked}
use Rattle.dm_operators.specs.Operators.{Form, structural, scalar, unary, Operator}

-- ---- fields

-- whether the attributes under a method's name skip their place
abbrev pub skipped_under : Text → List Attribute → Bool
skipped_under method attrs = is_yes (skip attrs method)

-- nothing is skipped
abbrev pub keeps_all : List Attribute → Bool
keeps_all attrs = false

-- the operation of one operand skips nothing
abbrev pub skipped_by : Form → Text → List Attribute → Bool
skipped_by structural method attrs = skipped_under method attrs
skipped_by scalar method attrs = skipped_under method attrs
skipped_by unary method attrs = keeps_all attrs

-- whether a field with these attributes isn't operated on
abbrev pub skips : Operator → List Attribute → Bool
skips o attrs = skipped_by o.form o.method attrs

-- the cases of a declaration, whose fields are marked so
abbrev pub cases_for : Operator → Declaration → List MarkedCase
cases_for o d = marked (skips o) d

-- ---- types

-- the attribute's contents are the word `forward`
abbrev pub reads_forward : AttrArgs → Bool
reads_forward a = reads_in forward_in a

-- none is examined; exactly one is, and it reads; anything else
abbrev pub forward_among : List Attribute → Skipping
forward_among attrs = once_among reads_forward attrs

-- whether a type with these attributes takes a value of its own type on the right in place of any value
abbrev pub forwards : Operator → List Attribute → Bool
forwards o attrs = is_yes (forward_among (filter (is_examined o.method) attrs))

-- any right side, unless the type forwards
abbrev pub form_by : Form → Bool → Form
form_by structural b = structural
form_by scalar b = cond b structural scalar
form_by unary b = unary

-- what stands right of self in the implementation for a declaration
abbrev pub form_in : Operator → Declaration → Form
form_in o d = form_by o.form (forwards o d.attrs)
