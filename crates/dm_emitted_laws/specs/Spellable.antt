-- What of a declaration's cases, and of an operator, the bodies of emitted methods are written with: their names are spellable.
use Rattle.std.specs.Prelude.{◌≡◌, ◌≤◌, ◌^◌, length}
use Rattle.dm_stream.specs.declared.tokens.Token.TheVariants as t
use Rattle.dm_lexer.specs.Written.{IsSpellable}
use Rattle.dm_written.specs.Fitting.{NameFits}
use Rattle.dm_generics.specs.Words.{word}
use Rattle.dm_operands.specs.declared.cases.Form.TheVariants as forms
use Rattle.dm_operands.specs.Marked.{MarkedField, MarkedCase}
use Rattle.dm_operands.specs.Sides.{field_ident}
use Rattle.dm_head_laws.specs.Parts.{Each}
use Rattle.dm_operators.specs.Operators.{Operator}
use Rattle.dm_operators.specs.Bodies.{quoted}

-- the name of a field between braces
abbrev pub FieldSpellable : MarkedField → Type 0
FieldSpellable f = NameFits (field_ident f.field.ident)

-- a struct or a variant, and its fields
pub record CaseSpellable (c : MarkedCase) : Type 0 where
  pub ident : NameFits c.ident
  pub named : c.form ≡ forms.Named → Each FieldSpellable c.fields

-- the numbers of the fields are integers of the language: 64 bits do
abbrev pub HasFewFields : MarkedCase → Type 0
HasFewFields c = length c.fields ≤ 2 ^ 64

-- the trait and the method of an operator, and the method as a string
pub record OperatorSpellable (o : Operator) : Type 0 where
  pub trait_name : NameFits (word o.trait_name)
  pub method : NameFits (word o.method)
  pub string : IsSpellable (t.Literal (quoted o.method))
