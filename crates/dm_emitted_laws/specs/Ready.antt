-- What of a case the bodies of emitted methods stand on: its name is a name, and where its fields stand in braces, so are theirs.
use Rattle.std.specs.Prelude.{◌≡◌}
use Rattle.dm_operands.specs.declared.cases.Form.TheVariants as forms
use Rattle.dm_operands.specs.Marked.{MarkedCase}
use Rattle.dm_operands.specs.Sides.{field_ident}
use Rattle.dm_head_laws.specs.Parts.{Each}
use Rattle.dm_reread.specs.Grammar.{IsName}

pub record CaseReady (c : MarkedCase) : Type 0 where
  pub ident : IsName c.ident
  pub named : c.form ≡ forms.Named → Each (λ f. IsName (field_ident f.field.ident)) c.fields
