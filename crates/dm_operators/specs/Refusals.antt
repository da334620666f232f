-- Which declarations an operator refuses, and where: the first refusal of those that derive_more looks for, in its order.
use Rattle.std.specs.Prelude.{List, [], ◌∷◌, ◌++◌, map, flat_map, filter, Bool, true, false, not, cond, ◌||◌, ◌&&◌, Option, Some, None}
use Rattle.dm_stream.specs.declared.tokens.Span.{Span}
use Rattle.dm_stream.specs.declared.error.Kind.{Kind}
use Rattle.dm_stream.specs.declared.error.Kind.TheVariants.{WrongShape, AllSkipped}
use Rattle.dm_stream.specs.declared.error.Refusal.{Refusal}
use Rattle.dm_ast.specs.declared.plain.Attribute.{Attribute}
use Rattle.dm_ast.specs.Declarations.{Declaration, FieldTree, VariantTree, ShapeTree, struct_shape, enum_shape, union_shape}
use Rattle.dm_output.specs.Values.{is_enum, field_list}
use Rattle.dm_attr.specs.Skips.{is_examined}
pub use Rattle.dm_operands.specs.Places.{first}
pub use Rattle.dm_attr.specs.SkipRefusals.{second_refusal, reading_refusal, given_refusal}
use Rattle.dm_attr.specs.SkipRefusals.{refusal_among}
use Rattle.dm_operators.specs.Operators.{Form, structural, scalar, unary, Operator}
use Rattle.dm_operators.specs.Attributes.{skipped_under, reads_forward, forwards}
use Rattle.dm_operators.specs.Meaning.{is_unit}

-- a refusal of this kind, if so
abbrev pub refused_if : Bool → Kind → Span → Option Refusal
refused_if b k at = cond b (Some (record { kind = k; span = at })) None

-- ---- attributes

-- the attributes under the method's name
abbrev pub examined : Operator → List Attribute → List Attribute
examined o attrs = filter (is_examined o.method) attrs

-- a place that may be skipped
abbrev pub skip_refusal : Operator → List Attribute → Option Refusal
skip_refusal o attrs = refusal_among (examined o attrs)

-- a place that may not: an attribute that would skip it isn't allowed
abbrev pub unskipped_refusals : Operator → List Attribute → List (Option Refusal)
unskipped_refusals o attrs = skip_refusal o attrs ∷ given_refusal (examined o attrs) ∷ []

-- a type that may be forwarded
abbrev pub forward_refusal : Operator → List Attribute → Option Refusal
forward_refusal o attrs = reading_refusal reads_forward (examined o attrs)

-- ---- shapes

-- the range of the word `struct`, `enum` or `union`
abbrev pub word_of : ShapeTree → Span
word_of (struct_shape word fs) = word
word_of (enum_shape word vs) = word
word_of (union_shape word fs) = word

-- neither a struct nor an enum
abbrev pub is_union : ShapeTree → Bool
is_union (struct_shape word fs) = false
is_union (enum_shape word vs) = false
is_union (union_shape word fs) = true

-- a struct without parentheses and braces
abbrev pub is_unit_struct : ShapeTree → Bool
is_unit_struct (struct_shape word fs) = is_unit fs
is_unit_struct (enum_shape word vs) = false
is_unit_struct (union_shape word fs) = false

-- a shape that the trait isn't derived for
abbrev pub wrong_if : Bool → Declaration → Option Refusal
wrong_if b d = refused_if b WrongShape (word_of d.shape)

-- ---- fields

-- what is refused of a field
abbrev pub field_refusal : Operator → FieldTree → Option Refusal
field_refusal o f = skip_refusal o f.attrs

-- whether no field is left
abbrev pub all_skipped : Operator → List FieldTree → Bool
all_skipped o [] = true
all_skipped o (f ∷ fs) = skipped_under o.method f.attrs && all_skipped o fs

-- each field, and then that none is left
abbrev pub fields_refusals : Operator → Span → List FieldTree → List (Option Refusal)
fields_refusals o at fs = map (field_refusal o) fs ++ refused_if (all_skipped o fs) AllSkipped at ∷ []

-- a variant isn't skipped itself, and one without fields need not have one left
abbrev pub variant_refusals : Operator → VariantTree → List (Option Refusal)
variant_refusals o v = unskipped_refusals o v.attrs ++ cond (is_unit v.fields) [] (fields_refusals o v.span (field_list v.fields))

-- a struct, or its variants in order
abbrev pub shape_refusals : Operator → ShapeTree → List (Option Refusal)
shape_refusals o (struct_shape word fs) = fields_refusals o word (field_list fs)
shape_refusals o (enum_shape word vs) = flat_map (variant_refusals o) vs.items
shape_refusals o (union_shape word fs) = []

-- ---- each form

-- with a value of the same type on the right
abbrev pub structural_refusals : Operator → Declaration → List (Option Refusal)
structural_refusals o d =
    wrong_if (is_union d.shape || o.assigning && is_enum d) d ∷ unskipped_refusals o d.attrs ++
    wrong_if (is_unit_struct d.shape) d ∷ shape_refusals o d.shape

-- with any value on the right: an enum has to be forwarded
abbrev pub scalar_refusals : Operator → Declaration → List (Option Refusal)
scalar_refusals o d =
    wrong_if (is_union d.shape || is_unit_struct d.shape || o.assigning && is_enum d) d ∷
    forward_refusal o d.attrs ∷
    wrong_if (not (forwards o d.attrs) && is_enum d) d ∷
    shape_refusals o d.shape

-- without a right side
abbrev pub unary_refusals : Operator → Declaration → List (Option Refusal)
unary_refusals o d = wrong_if (is_union d.shape || is_unit_struct d.shape) d ∷ []

-- by what stands right of self
abbrev pub refusals_by : Form → Operator → Declaration → List (Option Refusal)
refusals_by structural o d = structural_refusals o d
refusals_by scalar o d = scalar_refusals o d
refusals_by unary o d = unary_refusals o d

-- the first refusal of a declaration
abbrev pub refusal : Operator → Declaration → Option Refusal
refusal o d = first (refusals_by o.form o d)
