-- Declarations, as plain data: a declaration of the program with each type as a tree of `Tree`. Ranges stay.
use Rattle.std.specs.Prelude.{List, map, Bool, Option, option_map}
use Rattle.dm_stream.specs.declared.seq.Punctuated.{Punctuated}
use Rattle.dm_stream.specs.declared.tokens.Span.{Span}
use Rattle.dm_stream.specs.declared.tokens.Ident.{Ident}
use Rattle.dm_stream.specs.declared.tokens.Lifetime.{Lifetime}
use Rattle.dm_ast.specs.declared.plain.Attribute.{Attribute}
use Rattle.dm_ast.specs.declared.plain.Vis.{Vis}
use Rattle.dm_ast.specs.declared.plain.Opaque.{Opaque}
use Rattle.dm_ast.specs.declared.plain.ConstArg.{ConstArg}
use Rattle.dm_ast.specs.declared.decl.Field.{Field}
use Rattle.dm_ast.specs.declared.decl.Fields.{Fields}
use Rattle.dm_ast.specs.declared.decl.Fields.TheVariants as fields
use Rattle.dm_ast.specs.declared.decl.Variant.{Variant}
use Rattle.dm_ast.specs.declared.decl.Data.{Data}
use Rattle.dm_ast.specs.declared.decl.Data.TheVariants as shapes
use Rattle.dm_ast.specs.declared.decl.GenericParam.{GenericParam}
use Rattle.dm_ast.specs.declared.decl.GenericParam.TheVariants as params
use Rattle.dm_ast.specs.declared.decl.WherePredicate.{WherePredicate}
use Rattle.dm_ast.specs.declared.decl.WherePredicate.TheVariants as predicates
use Rattle.dm_ast.specs.declared.decl.Generics.{Generics}
use Rattle.dm_ast.specs.declared.decl.DeriveInput.{DeriveInput}
use Rattle.dm_ast.specs.Tree.{Lifetimes, TypeTree, BoundTree, bound_view, ty_view}

-- a list, and whether a separator stands behind its last item
pub record Listed (A : Type 0) : Type 0 where
  pub items : List A
  pub trailing : Bool

pub record FieldTree : Type 0 where
  pub attrs : List Attribute
  pub vis : Option Vis
  pub ident : Option Ident
  pub ty : TypeTree
  pub span : Span

pub data FieldsTree : Type 0 where
  named : Listed FieldTree → FieldsTree
  unnamed : Listed FieldTree → FieldsTree
  unit : FieldsTree

pub record VariantTree : Type 0 where
  pub attrs : List Attribute
  pub vis : Option Vis
  pub ident : Ident
  pub fields : FieldsTree
  pub discriminant : Option Opaque
  pub span : Span

-- the range is that of the word `struct`, `enum` or `union`
pub data ShapeTree : Type 0 where
  struct_shape : Span → FieldsTree → ShapeTree
  enum_shape : Span → Listed VariantTree → ShapeTree
  union_shape : Span → Listed FieldTree → ShapeTree

pub data ParamTree : Type 0 where
  lifetime_param : List Attribute → Lifetime → Lifetimes → ParamTree
  type_param : List Attribute → Ident → Option (Listed BoundTree) → Option TypeTree → ParamTree
  const_param : List Attribute → Ident → TypeTree → Option ConstArg → ParamTree

pub data PredicateTree : Type 0 where
  lifetime_predicate : Lifetime → Punctuated Lifetime → PredicateTree
  type_predicate : Lifetimes → TypeTree → Listed BoundTree → PredicateTree

pub record GenericsTree : Type 0 where
  pub angled : Bool
  pub params : Listed ParamTree
  pub where_clause : Option (Listed PredicateTree)

pub record Declaration : Type 0 where
  pub attrs : List Attribute
  pub vis : Option Vis
  pub ident : Ident
  pub generics : GenericsTree
  pub shape : ShapeTree

-- ---- the views

abbrev pub listed : {A B : Type 0} → (A → B) → Punctuated A → Listed B
listed f xs = record { items = map f xs.items; trailing = xs.trailing }

abbrev pub field_view : Field → FieldTree
field_view f = record { attrs = f.attrs; vis = f.vis; ident = f.ident; ty = ty_view f.ty; span = f.span }

abbrev pub fields_view : Fields → FieldsTree
fields_view (fields.Named fs) = named (listed field_view fs)
fields_view (fields.Unnamed fs) = unnamed (listed field_view fs)
fields_view fields.Unit = unit

abbrev pub variant_view : Variant → VariantTree
variant_view v = record { attrs = v.attrs; vis = v.vis; ident = v.ident; fields = fields_view v.fields; discriminant = v.discriminant; span = v.span }

abbrev pub shape_view : Data → ShapeTree
shape_view (shapes.Struct s) = struct_shape s.word (fields_view s.fields)
shape_view (shapes.Enum e) = enum_shape e.word (listed variant_view e.variants)
shape_view (shapes.Union u) = union_shape u.word (listed field_view u.fields)

abbrev pub param_view : GenericParam → ParamTree
param_view (params.Lifetime p) = lifetime_param p.attrs p.lifetime p.bounds
param_view (params.Ty p) = type_param p.attrs p.ident (option_map (listed bound_view) p.bounds) (option_map ty_view p.default_ty)
param_view (params.Const p) = const_param p.attrs p.ident (ty_view p.ty) p.default_value

abbrev pub predicate_view : WherePredicate → PredicateTree
predicate_view (predicates.Lifetime l ls) = lifetime_predicate l ls
predicate_view (predicates.Ty ls t bs) = type_predicate ls (ty_view t) (listed bound_view bs)

abbrev pub generics_view : Generics → GenericsTree
generics_view g =
    record { angled = g.angled; params = listed param_view g.params; where_clause = option_map (listed predicate_view) g.where_clause }

abbrev pub declaration_view : DeriveInput → Declaration
declaration_view d =
    record { attrs = d.attrs; vis = d.vis; ident = d.ident; generics = generics_view d.generics; shape = shape_view d.shape }
