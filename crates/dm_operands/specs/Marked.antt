-- The cases of a declaration and their fields, each with the truth whether it is left out, as what its attributes say is read.
use Rattle.std.specs.Prelude.{List, [], Bool, cond, map}
use Rattle.dm_stream.specs.declared.tokens.Ident.{Ident}
use Rattle.dm_ast.specs.declared.plain.Attribute.{Attribute}
use Rattle.dm_ast.specs.Declarations.{Declaration, FieldTree, FieldsTree, named, unnamed, unit}
use Rattle.dm_output.specs.Values.{Case, cases, field_list}
use Rattle.dm_operands.specs.declared.cases.Form.{Form}
use Rattle.dm_operands.specs.declared.cases.Form.TheVariants as forms

pub record MarkedField : Type 0 where
  pub field : FieldTree
  pub left_out : Bool

-- a case, what encloses its fields, and these in order: none for a case that is left out, since its fields' attributes aren't looked at
pub record MarkedCase : Type 0 where
  pub ident : Ident
  pub form : Form
  pub left_out : Bool
  pub fields : List MarkedField

abbrev pub form_of : FieldsTree → Form
form_of (named fs) = forms.Named
form_of (unnamed fs) = forms.Unnamed
form_of unit = forms.Unit

abbrev pub mark_field : (List Attribute → Bool) → FieldTree → MarkedField
mark_field leaves_out f = record { field = f; left_out = leaves_out f.attrs }

abbrev pub mark_case : (List Attribute → Bool) → Case → MarkedCase
mark_case leaves_out c =
    record {
      ident = c.ident;
      form = form_of c.fields;
      left_out = leaves_out c.attrs;
      fields = cond (leaves_out c.attrs) [] (map (mark_field leaves_out) (field_list c.fields));
    }

-- where a place with these attributes is left out exactly if the function says so
abbrev pub marked : (List Attribute → Bool) → Declaration → List MarkedCase
marked leaves_out d = map (mark_case leaves_out) (cases d)
