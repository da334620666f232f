-- The parts of types and declarations that are not read, in the order of the text: the trees in the groups of attributes, macros and blocks,
-- the values of attributes, the lengths of arrays, and discriminants.
use Rattle.std.specs.Prelude.{List, [], ◌∷◌, ◌++◌, flat_map, Option, Some, None}
use Rattle.dm_stream.specs.Trees.{Trees}
use Rattle.dm_ast.specs.declared.plain.Attribute.{Attribute}
use Rattle.dm_ast.specs.declared.plain.AttrArgs.{AttrArgs}
use Rattle.dm_ast.specs.declared.plain.AttrArgs.TheVariants as args
use Rattle.dm_ast.specs.declared.plain.ConstArg.{ConstArg}
use Rattle.dm_ast.specs.declared.plain.ConstArg.TheVariants as constant
use Rattle.dm_ast.specs.declared.plain.Opaque.{Opaque}
use Rattle.dm_ast.specs.Tree.{TypeTree, type_tree, TypeNode, paren, tuple, slice, array, reference, pointer, bare_fn, trait_object, impl_trait, infer, never, path, macro_type, TypeTrees, no_types, type_then, MaybeType, no_type, some_type, MaybeSelf, no_self, some_self, BoundTree, bounds_of, outlives, implements, BoundTrees, no_bounds, bound_then, TraitBoundTree, trait_bound, FnTree, fn_tree, InputTree, input, InputTrees, no_inputs, input_then, PathTree, path_tree, SegmentTree, segment, SegmentTrees, no_segments, segment_then, ArgumentsTree, absent, angle, parens, ArgumentTree, lifetime_arg, type_arg, const_arg, assoc_type, assoc_const, constraint, ArgumentTrees, no_arguments, argument_then, MaybeArguments, arguments_absent, some_arguments}
use Rattle.dm_ast.specs.Declarations.{Listed, FieldTree, FieldsTree, named, unnamed, unit, VariantTree, ShapeTree, struct_shape, enum_shape, union_shape, ParamTree, lifetime_param, type_param, const_param, PredicateTree, lifetime_predicate, type_predicate, Declaration}

-- trees that stand whole, or a run of which the last punct is joint to nothing
pub data Part : Type 0 where
  whole : Trees → Part
  cut : Trees → Part

abbrev pub in_args : AttrArgs → List Part
in_args args.Absent = []
in_args (args.List d inside) = whole inside.trees ∷ []
in_args (args.Value o) = whole o.tokens.trees ∷ []

abbrev pub in_attributes : List Attribute → List Part
in_attributes as' = flat_map (λ a. in_args a.args) as'

abbrev pub in_constant : ConstArg → List Part
in_constant (constant.Block inside) = whole inside.trees ∷ []
in_constant _ = []

-- ---- what stands in a type

abbrev mutual
  pub in_type : TypeTree → List Part
  in_type (type_tree n range) = in_node n

  pub in_node : TypeNode → List Part
  in_node (paren t) = in_type t
  in_node (tuple ts trailing) = in_types ts
  in_node (slice t) = in_type t
  in_node (array t o) = in_type t ++ whole o.tokens.trees ∷ []
  in_node (reference l is_mut t) = in_type t
  in_node (pointer is_mut t) = in_type t
  in_node (bare_fn f) = in_function f
  in_node (trait_object bs trailing) = in_bounds bs
  in_node (impl_trait bs trailing) = in_bounds bs
  in_node infer = []
  in_node never = []
  in_node (path q p) = in_self q ++ in_path p
  in_node (macro_type p d inside) = whole inside.trees ∷ []

  pub in_types : TypeTrees → List Part
  in_types no_types = []
  in_types (type_then t ts) = in_type t ++ in_types ts

  pub in_output : MaybeType → List Part
  in_output no_type = []
  in_output (some_type t) = in_type t

  pub in_self : MaybeSelf → List Part
  in_self no_self = []
  in_self (some_self t n) = in_type t

  pub in_function : FnTree → List Part
  in_function (fn_tree ls is_unsafe abi is trailing out) = in_inputs is ++ in_output out

  pub in_inputs : InputTrees → List Part
  in_inputs no_inputs = []
  in_inputs (input_then a as') = in_input a ++ in_inputs as'

  pub in_input : InputTree → List Part
  in_input (input attrs i t) = in_attributes attrs ++ in_type t

  pub in_bound : BoundTree → List Part
  in_bound (outlives l) = []
  in_bound (implements t) = in_trait t

  pub in_bounds : BoundTrees → List Part
  in_bounds no_bounds = []
  in_bounds (bound_then b bs) = in_bound b ++ in_bounds bs

  pub in_trait : TraitBoundTree → List Part
  in_trait (trait_bound round maybe ls p) = in_path p

  pub in_path : PathTree → List Part
  in_path (path_tree leading ss) = in_segments ss

  pub in_segments : SegmentTrees → List Part
  in_segments no_segments = []
  in_segments (segment_then s ss) = in_segment s ++ in_segments ss

  pub in_segment : SegmentTree → List Part
  in_segment (segment i as') = in_segment_arguments as'

  pub in_segment_arguments : ArgumentsTree → List Part
  in_segment_arguments absent = []
  in_segment_arguments (angle double gs trailing) = in_arguments gs
  in_segment_arguments (parens ts trailing out) = in_types ts ++ in_output out

  pub in_arguments : ArgumentTrees → List Part
  in_arguments no_arguments = []
  in_arguments (argument_then g gs) = in_argument g ++ in_arguments gs

  pub in_argument : ArgumentTree → List Part
  in_argument (lifetime_arg l) = []
  in_argument (type_arg t) = in_type t
  in_argument (const_arg c) = in_constant c
  in_argument (assoc_type i gs t) = in_maybe_arguments gs ++ in_type t
  in_argument (assoc_const i gs c) = in_maybe_arguments gs ++ in_constant c
  in_argument (constraint i gs bs trailing) = in_maybe_arguments gs ++ in_bounds bs

  pub in_maybe_arguments : MaybeArguments → List Part
  in_maybe_arguments arguments_absent = []
  in_maybe_arguments (some_arguments gs trailing) = in_arguments gs

-- ---- what stands in a declaration

abbrev pub in_some : {A : Type 0} → (A → List Part) → Option A → List Part
in_some inside None = []
in_some inside (Some a) = inside a

abbrev pub in_bound_list : Listed BoundTree → List Part
in_bound_list bs = in_bounds (bounds_of bs.items)

abbrev pub in_param : ParamTree → List Part
in_param (lifetime_param attrs l bs) = in_attributes attrs
in_param (type_param attrs i bs default) = in_attributes attrs ++ (in_some in_bound_list bs ++ in_some in_type default)
in_param (const_param attrs i t default) = in_attributes attrs ++ (in_type t ++ in_some in_constant default)

abbrev pub in_predicate : PredicateTree → List Part
in_predicate (lifetime_predicate l ls) = []
in_predicate (type_predicate ls t bs) = in_type t ++ in_bound_list bs

abbrev pub in_where : Option (Listed PredicateTree) → List Part
in_where c = in_some (λ ps. flat_map in_predicate ps.items) c

abbrev pub in_field : FieldTree → List Part
in_field f = in_attributes f.attrs ++ in_type f.ty

abbrev pub in_fields : FieldsTree → List Part
in_fields (named fs) = flat_map in_field fs.items
in_fields (unnamed fs) = flat_map in_field fs.items
in_fields unit = []

abbrev pub in_discriminant : Option Opaque → List Part
in_discriminant o = in_some (λ x. cut x.tokens.trees ∷ []) o

abbrev pub in_variant : VariantTree → List Part
in_variant v = in_attributes v.attrs ++ (in_fields v.fields ++ in_discriminant v.discriminant)

-- the `where` clause stands before the fields, but for those in parentheses
abbrev pub in_struct : FieldsTree → Option (Listed PredicateTree) → List Part
in_struct (unnamed fs) c = in_fields (unnamed fs) ++ in_where c
in_struct fs c = in_where c ++ in_fields fs

abbrev pub in_shape : ShapeTree → Option (Listed PredicateTree) → List Part
in_shape (struct_shape range fs) c = in_struct fs c
in_shape (enum_shape range vs) c = in_where c ++ flat_map in_variant vs.items
in_shape (union_shape range fs) c = in_where c ++ in_fields (named fs)

abbrev pub in_declaration : Declaration → List Part
in_declaration d = in_attributes d.attrs ++ (flat_map in_param d.generics.params.items ++ in_shape d.shape d.generics.where_clause)
