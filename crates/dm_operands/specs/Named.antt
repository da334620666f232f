-- Names that tell things apart: what holds of a declaration that the compiler accepts.
use Rattle.std.specs.Prelude.{◌≡◌, ℕ, List, false, Option, Some, None, codes, slice_get}
use Rattle.dm_stream.specs.declared.tokens.Ident.{Ident}
use Rattle.dm_ast.specs.Declarations.{Declaration, FieldTree}
use Rattle.dm_output.specs.Values.{Text, Case, cases}
use Rattle.dm_output.specs.Fits.{names_type, brace_fields}
use Rattle.dm_operands.specs.Sides.{field_ident}

-- items of one name stand at one place
abbrev pub AreDistinct : {A : Type 0} → (A → Text) → List A → Type 0
AreDistinct {A} name_of xs = (i j : ℕ) (x y : A) → slice_get xs i ≡ Some x → slice_get xs j ≡ Some y → name_of x ≡ name_of y → i ≡ j

abbrev pub HasName : Option Ident → Type 0
HasName None = ⊥
HasName (Some i) = Unit {0}

abbrev pub case_name : Case → Text
case_name c = c.ident.name

abbrev pub field_name : FieldTree → Text
field_name f = (field_ident f.ident).name

-- each field has a name, and no two have the same
pub record AreFieldsNamed (fs : List FieldTree) : Type 0 where
  pub named : (i : ℕ) (f : FieldTree) → slice_get fs i ≡ Some f → HasName f.ident
  pub distinct : AreDistinct field_name fs

-- no path of the crate `derive_more` begins with the type; the variants differ by name, and so do the fields between the braces of each
pub record AreNamed (d : Declaration) : Type 0 where
  pub foreign : names_type d (codes "derive_more") ≡ false
  pub distinct : AreDistinct case_name (cases d)
  pub fields : (n : ℕ) (c : Case) (fs : List FieldTree) → slice_get (cases d) n ≡ Some c → brace_fields c.fields ≡ Some fs → AreFieldsNamed fs
