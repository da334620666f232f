-- Which declarations an operator is derived for.
use Rattle.std.specs.Prelude.{◌≡◌, ◌≢◌, List, true, false, All}
use Rattle.dm_ast.specs.declared.plain.Attribute.{Attribute}
use Rattle.dm_ast.specs.Declarations.{Declaration, FieldTree, VariantTree, ShapeTree, struct_shape, enum_shape, union_shape}
use Rattle.dm_output.specs.Values.{is_enum, field_list}
use Rattle.dm_attr.specs.Skips.{skip, no, bad}
use Rattle.dm_operators.specs.Operators.{Form, structural, scalar, unary, Operator}
use Rattle.dm_operators.specs.Attributes.{forward_among, forwards}
use Rattle.dm_operators.specs.Meaning.{is_unit}
use Rattle.dm_operators.specs.Refusals.{examined, is_union, is_unit_struct, all_skipped}

-- no attribute of the operator stands there
abbrev pub IsPlain : Operator → List Attribute → Type 0
IsPlain o attrs = skip attrs o.method ≡ no

-- fields that say whether they are skipped, and some of which are not
pub record AreGoodFields (o : Operator) (fs : List FieldTree) : Type 0 where
  pub good : All (λ f. skip f.attrs o.method ≢ bad) fs
  pub kept : all_skipped o fs ≡ false

-- a variant isn't skipped, and its fields are good if it has any
pub record IsGoodVariant (o : Operator) (v : VariantTree) : Type 0 where
  pub own : IsPlain o v.attrs
  pub fields : is_unit v.fields ≡ false → AreGoodFields o (field_list v.fields)

-- a struct, or all variants of an enum
abbrev pub AreGoodParts : Operator → ShapeTree → Type 0
AreGoodParts o (struct_shape word fs) = AreGoodFields o (field_list fs)
AreGoodParts o (enum_shape word vs) = All (IsGoodVariant o) vs.items
AreGoodParts o (union_shape word fs) = Unit {0}

-- a struct that isn't a unit one, or an enum, in whose place nothing can be assigned
pub record HasShape (o : Operator) (d : Declaration) : Type 0 where
  pub union : is_union d.shape ≡ false
  pub unit : is_unit_struct d.shape ≡ false
  pub enum : o.assigning ≡ true → is_enum d ≡ false

-- with a value of the same type on the right
pub record IsStructural (o : Operator) (d : Declaration) : Type 0 where
  pub shape : HasShape o d
  pub own : IsPlain o d.attrs
  pub parts : AreGoodParts o d.shape

-- with any value on the right: an enum says that it is forwarded
pub record IsScalar (o : Operator) (d : Declaration) : Type 0 where
  pub shape : HasShape o d
  pub own : forward_among (examined o d.attrs) ≢ bad
  pub enum : forwards o d.attrs ≡ false → is_enum d ≡ false
  pub parts : AreGoodParts o d.shape

-- without a right side
pub record IsUnary (d : Declaration) : Type 0 where
  pub union : is_union d.shape ≡ false
  pub unit : is_unit_struct d.shape ≡ false

-- by what stands right of self
abbrev pub IsValidBy : Form → Operator → Declaration → Type 0
IsValidBy structural o d = IsStructural o d
IsValidBy scalar o d = IsScalar o d
IsValidBy unary o d = IsUnary d

-- a declaration that the operator is derived for
abbrev pub IsValid : Operator → Declaration → Type 0
IsValid o d = IsValidBy o.form o d
