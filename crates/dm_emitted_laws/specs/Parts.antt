-- What of a declaration, and of an operator, the bodies of emitted methods stand on: their names are names.
use Rattle.std.specs.Prelude.{IsTrue, Option, Some, None, ⊤}
use Rattle.dm_stream.specs.declared.tokens.Ident.{Ident}
use Rattle.dm_ast.specs.TypeGrammar.{is_path_word}
use Rattle.dm_ast.specs.Declarations.{FieldTree, Declaration}
use Rattle.dm_output.specs.Values.{Case, cases, field_list}
use Rattle.dm_generics.specs.Words.{word}
use Rattle.dm_head_laws.specs.Parts.{Each}
use Rattle.dm_reread.specs.Grammar.{IsName}
use Rattle.dm_operators.specs.Operators.{Operator}

-- the name of a field that has one
abbrev pub IfNamed : Option Ident → Type 0
IfNamed None = ⊤
IfNamed (Some i) = IsName i

abbrev pub FieldNamed : FieldTree → Type 0
FieldNamed f = IfNamed f.ident

-- a struct or a variant, and its fields
pub record CaseNamed (c : Case) : Type 0 where
  pub ident : IsName c.ident
  pub fields : Each FieldNamed (field_list c.fields)

-- a declaration with its variants and fields
pub record IsNamed (d : Declaration) : Type 0 where
  pub ident : IsName d.ident
  pub each_case : Each CaseNamed (cases d)

-- the trait and the method of an operator
pub record OperatorNamed (o : Operator) : Type 0 where
  pub trait_named : IsTrue (is_path_word (word o.trait_name))
  pub method_named : IsName (word o.method)
