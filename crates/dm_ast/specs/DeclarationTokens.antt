-- The tokens that a declaration is written with. The own tokens of a field or a variant stand at its range, the word
-- `struct`, `enum` or `union` at the range that the declaration keeps for it, and all others at no place of a text.
use Rattle.std.specs.Prelude.{ℕ, List, map, codes, Option, Some, None}
use Rattle.dm_stream.specs.declared.tokens.Span.{Span}
use Rattle.dm_stream.specs.declared.tokens.Delim.TheVariants.{Paren, Brace}
use Rattle.dm_stream.specs.declared.tokens.Ident.{Ident}
use Rattle.dm_stream.specs.Layout.{nowhere}
use Rattle.dm_stream.specs.Trees.{Trees, no_trees, join}
use Rattle.dm_ast.specs.declared.plain.Vis.{Vis}
use Rattle.dm_ast.specs.declared.plain.Vis.TheVariants as v
use Rattle.dm_ast.specs.declared.plain.Opaque.{Opaque}
use Rattle.dm_ast.specs.declared.plain.ConstArg.{ConstArg}
use Rattle.dm_ast.specs.Tree.{Lifetimes, TypeTree, BoundTree, bounds_of}
use Rattle.dm_ast.specs.TypeTokens.{punct, name, word, lifetime, grouped, given, listed, angle_trees, plain_trees, for_trees, const_trees, attributes_trees, input_name_trees, type_trees, each_bound}
use Rattle.dm_ast.specs.Declarations.{Listed, FieldTree, FieldsTree, named, unnamed, unit, VariantTree, ShapeTree, struct_shape, enum_shape, union_shape, ParamTree, lifetime_param, type_param, const_param, PredicateTree, lifetime_predicate, type_predicate, GenericsTree, Declaration}

-- ---- visibility

-- what stands behind `pub`
abbrev pub reach_trees : Span → Vis → Trees
reach_trees s v.Public = no_trees
reach_trees s v.Crate = grouped Paren (word (codes "crate") s)
reach_trees s v.SelfOnly = grouped Paren (word (codes "self") s)
reach_trees s v.Super = grouped Paren (word (codes "super") s)
reach_trees s (v.In p) = grouped Paren (join (word (codes "in") s) (plain_trees s p))

abbrev pub vis_trees : Span → Option Vis → Trees
vis_trees s None = no_trees
vis_trees s (Some x) = join (word (codes "pub") s) (reach_trees s x)

-- ---- generics

abbrev pub bound_list_trees : Listed BoundTree → Trees
bound_list_trees bs = listed 43 nowhere (each_bound nowhere (bounds_of bs.items)) bs.trailing

-- `: 'b + 'c`
abbrev pub outlived_trees : Lifetimes → Trees
outlived_trees None = no_trees
outlived_trees (Some ls) = join (punct 58 nowhere) (listed 43 nowhere (map lifetime ls.items) ls.trailing)

-- `: A + B`
abbrev pub colon_bounds_trees : Option (Listed BoundTree) → Trees
colon_bounds_trees None = no_trees
colon_bounds_trees (Some bs) = join (punct 58 nowhere) (bound_list_trees bs)

-- `= T`
abbrev pub default_type_trees : Option TypeTree → Trees
default_type_trees None = no_trees
default_type_trees (Some t) = join (punct 61 nowhere) (type_trees t)

-- `= V`
abbrev pub default_const_trees : Option ConstArg → Trees
default_const_trees None = no_trees
default_const_trees (Some k) = join (punct 61 nowhere) (const_trees nowhere k)

abbrev pub param_trees : ParamTree → Trees
param_trees (lifetime_param attrs l bounds) = join (attributes_trees attrs) (join (lifetime l) (outlived_trees bounds))
param_trees (type_param attrs i bounds default) =
    join (attributes_trees attrs) (join (name i) (join (colon_bounds_trees bounds) (default_type_trees default)))
param_trees (const_param attrs i t default) =
    join (attributes_trees attrs) (join (word (codes "const") nowhere) (join (name i) (join (punct 58 nowhere)
    (join (type_trees t) (default_const_trees default)))))

-- `<'a, T, const N: usize>`
abbrev pub params_trees : GenericsTree → Trees
params_trees g = given g.angled (angle_trees nowhere (map param_trees g.params.items) g.params.trailing)

abbrev pub predicate_trees : PredicateTree → Trees
predicate_trees (lifetime_predicate l ls) =
    join (lifetime l) (join (punct 58 nowhere) (listed 43 nowhere (map lifetime ls.items) ls.trailing))
predicate_trees (type_predicate ls t bs) =
    join (for_trees nowhere ls) (join (type_trees t) (join (punct 58 nowhere) (bound_list_trees bs)))

abbrev pub where_trees : Option (Listed PredicateTree) → Trees
where_trees None = no_trees
where_trees (Some ps) = join (word (codes "where") nowhere) (listed 44 nowhere (map predicate_trees ps.items) ps.trailing)

-- ---- fields and variants

abbrev pub field_trees : FieldTree → Trees
field_trees f =
    join (attributes_trees f.attrs) (join (vis_trees f.span f.vis) (join (input_name_trees f.span f.ident) (type_trees f.ty)))

abbrev pub field_list_trees : Listed FieldTree → Trees
field_list_trees fs = listed 44 nowhere (map field_trees fs.items) fs.trailing

abbrev pub fields_trees : FieldsTree → Trees
fields_trees (named fs) = grouped Brace (field_list_trees fs)
fields_trees (unnamed fs) = grouped Paren (field_list_trees fs)
fields_trees unit = no_trees

-- `= V`
abbrev pub discriminant_trees : Span → Option Opaque → Trees
discriminant_trees s None = no_trees
discriminant_trees s (Some o) = join (punct 61 s) o.tokens.trees

abbrev pub variant_trees : VariantTree → Trees
variant_trees x =
    join (attributes_trees x.attrs) (join (vis_trees x.span x.vis) (join (name x.ident) (join (fields_trees x.fields)
    (discriminant_trees x.span x.discriminant))))

abbrev pub variant_list_trees : Listed VariantTree → Trees
variant_list_trees xs = listed 44 nowhere (map variant_trees xs.items) xs.trailing

-- ---- the declaration

-- what stands behind the parameters of a struct: the `where` clause stands before braces, but behind parentheses
abbrev pub struct_body_trees : Option (Listed PredicateTree) → FieldsTree → Trees
struct_body_trees ps (named fs) = join (where_trees ps) (grouped Brace (field_list_trees fs))
struct_body_trees ps (unnamed fs) = join (grouped Paren (field_list_trees fs)) (join (where_trees ps) (punct 59 nowhere))
struct_body_trees ps unit = join (where_trees ps) (punct 59 nowhere)

-- the word, the name and the parameters
abbrev pub head_trees : List ℕ → Span → Ident → GenericsTree → Trees
head_trees letters range i g = join (word letters range) (join (name i) (params_trees g))

abbrev pub shape_trees : Ident → GenericsTree → ShapeTree → Trees
shape_trees i g (struct_shape range fs) = join (head_trees (codes "struct") range i g) (struct_body_trees g.where_clause fs)
shape_trees i g (enum_shape range xs) =
    join (head_trees (codes "enum") range i g) (join (where_trees g.where_clause) (grouped Brace (variant_list_trees xs)))
shape_trees i g (union_shape range fs) =
    join (head_trees (codes "union") range i g) (join (where_trees g.where_clause) (grouped Brace (field_list_trees fs)))

abbrev pub declaration_trees : Declaration → Trees
declaration_trees d = join (attributes_trees d.attrs) (join (vis_trees nowhere d.vis) (shape_trees d.ident d.generics d.shape))
