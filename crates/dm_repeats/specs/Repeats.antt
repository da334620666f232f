-- The first name that a declaration declares again, list by list.
use Rattle.std.specs.Prelude.{ℕ, Bool, false, ◌||◌, if◌then◌else◌, List, [], ◌∷◌, ◌++◌, Option, Some, None}
use Rattle.std.specs.List.{list_any}
use Rattle.std.specs.Option.{option_or}
use Rattle.std.specs.Str.{bytes_eq}
use Rattle.dm_stream.specs.declared.tokens.Span.{Span}
use Rattle.dm_stream.specs.declared.tokens.Ident.{Ident}
use Rattle.dm_stream.specs.declared.tokens.Lifetime.{Lifetime}
use Rattle.dm_ast.specs.Declarations.{FieldTree, FieldsTree, named, unnamed, unit, VariantTree, ShapeTree, struct_shape, enum_shape, union_shape, ParamTree, lifetime_param, type_param, const_param, Declaration}

-- the first place that a test gives, which sees an item and those before it
abbrev pub repeats : {A : Type 0} → (List A → A → Option Span) → List A → List A → Option Span
repeats again earlier [] = None
repeats again earlier (x ∷ xs) = option_or (again earlier x) (repeats again (earlier ++ x ∷ []) xs)

abbrev pub place_if : Bool → Span → Option Span
place_if b range = if b then Some range else None

-- ---- the fields of a variant, or of a struct or a union

abbrev pub is_called : List ℕ → Option Ident → Bool
is_called name None = false
is_called name (Some i) = bytes_eq i.name name

abbrev pub is_field_called : List ℕ → FieldTree → Bool
is_field_called name f = is_called name f.ident

abbrev pub label_again : List FieldTree → Option Ident → Option Span
label_again earlier None = None
label_again earlier (Some i) = place_if (list_any (is_field_called i.name) earlier) i.span

abbrev pub field_again : List FieldTree → FieldTree → Option Span
field_again earlier f = label_again earlier f.ident

abbrev pub repeated_in_fields : FieldsTree → Option Span
repeated_in_fields (named fs) = repeats field_again [] fs.items
repeated_in_fields (unnamed fs) = repeats field_again [] fs.items
repeated_in_fields unit = None

-- ---- variants

abbrev pub is_variant_called : List ℕ → VariantTree → Bool
is_variant_called name v = bytes_eq v.ident.name name

abbrev pub variant_again : List VariantTree → VariantTree → Option Span
variant_again earlier v = option_or (place_if (list_any (is_variant_called v.ident.name) earlier) v.ident.span) (repeated_in_fields v.fields)

-- ---- parameters. The type's name stands among those of types and constants.

abbrev pub is_lifetime_called : List ℕ → ParamTree → Bool
is_lifetime_called name (lifetime_param attrs l bs) = bytes_eq l.name name
is_lifetime_called name (type_param attrs i bs default) = false
is_lifetime_called name (const_param attrs i t default) = false

abbrev pub is_type_called : List ℕ → ParamTree → Bool
is_type_called name (lifetime_param attrs l bs) = false
is_type_called name (type_param attrs i bs default) = bytes_eq i.name name
is_type_called name (const_param attrs i t default) = bytes_eq i.name name

abbrev pub lifetime_again : List ParamTree → Lifetime → Option Span
lifetime_again earlier l = place_if (list_any (is_lifetime_called l.name) earlier) l.span

abbrev pub type_again : Ident → List ParamTree → Ident → Option Span
type_again whole earlier i = place_if (bytes_eq whole.name i.name || list_any (is_type_called i.name) earlier) i.span

abbrev pub param_again : Ident → List ParamTree → ParamTree → Option Span
param_again whole earlier (lifetime_param attrs l bs) = lifetime_again earlier l
param_again whole earlier (type_param attrs i bs default) = type_again whole earlier i
param_again whole earlier (const_param attrs i t default) = type_again whole earlier i

-- ---- declarations

abbrev pub repeated_in_shape : ShapeTree → Option Span
repeated_in_shape (struct_shape range fs) = repeated_in_fields fs
repeated_in_shape (enum_shape range vs) = repeats variant_again [] vs.items
repeated_in_shape (union_shape range fs) = repeats field_again [] fs.items

abbrev pub repeated : Declaration → Option Span
repeated d = option_or (repeats (param_again d.ident) [] d.generics.params.items) (repeated_in_shape d.shape)
