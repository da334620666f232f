-- The parts of variants and shapes that the reader puts together, as plain data.
use Rattle.std.specs.Prelude.{Bool, Option, option_map}
use Rattle.dm_stream.specs.declared.seq.Punctuated.{Punctuated}
use Rattle.dm_stream.specs.declared.tokens.Ident.{Ident}
use Rattle.dm_ast.specs.declared.plain.Opaque.{Opaque}
use Rattle.dm_ast.specs.declared.plain.ConstArg.{ConstArg}
use Rattle.dm_ast.specs.declared.ty.Ty.{Ty}
use Rattle.dm_ast.specs.declared.ty.Bound.{Bound}
use Rattle.dm_ast.specs.Tree.{TypeTree, ty_view, BoundTree, bound_view}
use Rattle.dm_ast.specs.declared.decl.Field.{Field}
use Rattle.dm_ast.specs.declared.decl.Fields.{Fields}
use Rattle.dm_ast.specs.declared.decl.Variant.{Variant}
use Rattle.dm_ast.specs.declared.decl.Data.{Data}
use Rattle.dm_ast.specs.declared.decl.GenericParam.{GenericParam}
use Rattle.dm_ast.specs.declared.decl.WherePredicate.{WherePredicate}
use Rattle.dm_ast.specs.declared.decl.Generics.{Generics}
use Rattle.dm_ast.specs.Declarations.{Listed, listed, FieldTree, field_view, FieldsTree, fields_view, VariantTree, variant_view}
use Rattle.dm_ast.specs.Declarations.{ParamTree, param_view, PredicateTree, predicate_view, shape_view, generics_view}
use Rattle.dm_read.specs.DeclarationReaders.{Shaped}

-- two parts, each by its view
abbrev pub both_views : {X Y A B : Type 0} → (X → A) → (Y → B) → X × Y → A × B
both_views f g v = (f v.0, g v.1)

-- a part behind one that is plain data as it is
abbrev pub second_view : {X Y B : Type 0} → (Y → B) → X × Y → X × B
second_view g v = (v.0, g v.1)

-- the type of a constant parameter, and its value
abbrev pub value_view : Ty × Option ConstArg → TypeTree × Option ConstArg
value_view v = (ty_view v.0, v.1)

-- the bounds of a type parameter, and the type that it stands for by itself
abbrev pub bounds_default_view : Option (Punctuated Bound) × Option Ty → Option (Listed BoundTree) × Option TypeTree
bounds_default_view = both_views (option_map (listed bound_view)) (option_map ty_view)

-- the fields and the discriminant of a variant
abbrev pub body_view : Fields × Option Opaque → FieldsTree × Option Opaque
body_view v = (fields_view v.0, v.1)

-- whether `<` and `>` stand there, and the parameters
abbrev pub angled_view : Bool × Punctuated GenericParam → Bool × Listed ParamTree
angled_view v = (v.0, listed param_view v.1)

abbrev pub clause_view : Option (Punctuated WherePredicate) → Option (Listed PredicateTree)
clause_view = option_map (listed predicate_view)

-- what follows the generics
abbrev pub struct_view : Fields × Option (Punctuated WherePredicate) → FieldsTree × Option (Listed PredicateTree)
struct_view = both_views fields_view clause_view

abbrev pub enum_view : Option (Punctuated WherePredicate) × Punctuated Variant → Option (Listed PredicateTree) × Listed VariantTree
enum_view = both_views clause_view (listed variant_view)

abbrev pub union_view : Option (Punctuated WherePredicate) × Punctuated Field → Option (Listed PredicateTree) × Listed FieldTree
union_view = both_views clause_view (listed field_view)

-- a shape with the name and the generics
abbrev pub shaped_view : Data × (Ident × Generics) → Shaped
shaped_view = both_views shape_view (second_view generics_view)
