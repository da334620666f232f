-- Types and declarations with a segment in place of each segment of a path that is spelled `Self`, in the types of fields, in parameters
-- and in predicates. All else stays as it was, and where no segment is given, everything does.
use Rattle.std.specs.Prelude.{Bool, if◌then◌else◌, map, codes, Option, None, option_map, unwrap_or}
use Rattle.dm_ast.specs.Tree.{TypeTree, type_tree, TypeNode, paren, tuple, slice, array, reference, pointer, bare_fn, trait_object, impl_trait, infer, never, path, macro_type, TypeTrees, no_types, type_then, MaybeType, no_type, some_type, MaybeSelf, no_self, some_self, BoundTree, outlives, implements, BoundTrees, no_bounds, bound_then, TraitBoundTree, trait_bound, FnTree, fn_tree, InputTree, input, InputTrees, no_inputs, input_then, PathTree, path_tree, SegmentTree, segment, SegmentTrees, no_segments, segment_then, ArgumentsTree, absent, angle, parens, ArgumentTree, lifetime_arg, type_arg, const_arg, assoc_type, assoc_const, constraint, ArgumentTrees, no_arguments, argument_then, MaybeArguments, arguments_absent, some_arguments}
use Rattle.dm_ast.specs.Declarations.{Listed, FieldTree, FieldsTree, named, unnamed, unit, VariantTree, ShapeTree, struct_shape, enum_shape, union_shape, ParamTree, lifetime_param, type_param, const_param, PredicateTree, lifetime_predicate, type_predicate, GenericsTree, Declaration}
use Rattle.dm_ast.specs.Spelling.{is_word}
use Rattle.dm_stream.specs.declared.tokens.Ident.{Ident}

abbrev pub is_self : Ident → Bool
is_self i = is_word (codes "Self") i

-- what stands for an identifier, where it is `Self`
abbrev pub standing : {A : Type 0} → Ident → Option A → Option A
standing i own = if is_self i then own else None

-- ---- in types, the first argument in place of each segment `Self`, whatever arguments that had

abbrev mutual
  pub replaced_type : Option SegmentTree → TypeTree → TypeTree
  replaced_type own (type_tree k range) = type_tree (replaced_node own k) range

  pub replaced_node : Option SegmentTree → TypeNode → TypeNode
  replaced_node own (paren t) = paren (replaced_type own t)
  replaced_node own (tuple ts trailing) = tuple (replaced_types own ts) trailing
  replaced_node own (slice t) = slice (replaced_type own t)
  replaced_node own (array t o) = array (replaced_type own t) o
  replaced_node own (reference l is_mut t) = reference l is_mut (replaced_type own t)
  replaced_node own (pointer is_mut t) = pointer is_mut (replaced_type own t)
  replaced_node own (bare_fn f) = bare_fn (replaced_function own f)
  replaced_node own (trait_object bs trailing) = trait_object (replaced_bounds own bs) trailing
  replaced_node own (impl_trait bs trailing) = impl_trait (replaced_bounds own bs) trailing
  replaced_node own infer = infer
  replaced_node own never = never
  replaced_node own (path q p) = path (replaced_qualifier own q) (replaced_path own p)
  replaced_node own (macro_type m d ts) = macro_type m d ts

  pub replaced_types : Option SegmentTree → TypeTrees → TypeTrees
  replaced_types own no_types = no_types
  replaced_types own (type_then t ts) = type_then (replaced_type own t) (replaced_types own ts)

  pub replaced_output : Option SegmentTree → MaybeType → MaybeType
  replaced_output own no_type = no_type
  replaced_output own (some_type t) = some_type (replaced_type own t)

  pub replaced_qualifier : Option SegmentTree → MaybeSelf → MaybeSelf
  replaced_qualifier own no_self = no_self
  replaced_qualifier own (some_self t position) = some_self (replaced_type own t) position

  pub replaced_function : Option SegmentTree → FnTree → FnTree
  replaced_function own (fn_tree ls is_unsafe abi is trailing out) =
      fn_tree ls is_unsafe abi (replaced_inputs own is) trailing (replaced_output own out)

  pub replaced_inputs : Option SegmentTree → InputTrees → InputTrees
  replaced_inputs own no_inputs = no_inputs
  replaced_inputs own (input_then a as') = input_then (replaced_input own a) (replaced_inputs own as')

  pub replaced_input : Option SegmentTree → InputTree → InputTree
  replaced_input own (input attrs i t) = input attrs i (replaced_type own t)

  pub replaced_bounds : Option SegmentTree → BoundTrees → BoundTrees
  replaced_bounds own no_bounds = no_bounds
  replaced_bounds own (bound_then b bs) = bound_then (replaced_bound own b) (replaced_bounds own bs)

  pub replaced_bound : Option SegmentTree → BoundTree → BoundTree
  replaced_bound own (outlives l) = outlives l
  replaced_bound own (implements t) = implements (replaced_trait own t)

  pub replaced_trait : Option SegmentTree → TraitBoundTree → TraitBoundTree
  replaced_trait own (trait_bound round maybe ls p) = trait_bound round maybe ls (replaced_path own p)

  pub replaced_path : Option SegmentTree → PathTree → PathTree
  replaced_path own (path_tree leading ss) = path_tree leading (replaced_segments own ss)

  pub replaced_segments : Option SegmentTree → SegmentTrees → SegmentTrees
  replaced_segments own no_segments = no_segments
  replaced_segments own (segment_then g ss) = segment_then (replaced_segment own g) (replaced_segments own ss)

  pub replaced_segment : Option SegmentTree → SegmentTree → SegmentTree
  replaced_segment own (segment i as') = unwrap_or (standing i own) (segment i (replaced_segment_arguments own as'))

  pub replaced_segment_arguments : Option SegmentTree → ArgumentsTree → ArgumentsTree
  replaced_segment_arguments own absent = absent
  replaced_segment_arguments own (angle double gs trailing) = angle double (replaced_arguments own gs) trailing
  replaced_segment_arguments own (parens ts trailing out) = parens (replaced_types own ts) trailing (replaced_output own out)

  pub replaced_arguments : Option SegmentTree → ArgumentTrees → ArgumentTrees
  replaced_arguments own no_arguments = no_arguments
  replaced_arguments own (argument_then g gs) = argument_then (replaced_argument own g) (replaced_arguments own gs)

  pub replaced_argument : Option SegmentTree → ArgumentTree → ArgumentTree
  replaced_argument own (lifetime_arg l) = lifetime_arg l
  replaced_argument own (type_arg t) = type_arg (replaced_type own t)
  replaced_argument own (const_arg c) = const_arg c
  replaced_argument own (assoc_type i gs t) = assoc_type i (replaced_maybe_arguments own gs) (replaced_type own t)
  replaced_argument own (assoc_const i gs c) = assoc_const i (replaced_maybe_arguments own gs) c
  replaced_argument own (constraint i gs bs trailing) = constraint i (replaced_maybe_arguments own gs) (replaced_bounds own bs) trailing

  pub replaced_maybe_arguments : Option SegmentTree → MaybeArguments → MaybeArguments
  replaced_maybe_arguments own arguments_absent = arguments_absent
  replaced_maybe_arguments own (some_arguments gs trailing) = some_arguments (replaced_arguments own gs) trailing

-- ---- in declarations

abbrev pub each : {A : Type 0} → (A → A) → Listed A → Listed A
each f xs = record { items = map f xs.items; trailing = xs.trailing }

abbrev pub replaced_bound_list : Option SegmentTree → Listed BoundTree → Listed BoundTree
replaced_bound_list own bs = each (replaced_bound own) bs

abbrev pub replaced_param : Option SegmentTree → ParamTree → ParamTree
replaced_param own (lifetime_param attrs l bs) = lifetime_param attrs l bs
replaced_param own (type_param attrs i bs default) =
    type_param attrs i (option_map (replaced_bound_list own) bs) (option_map (replaced_type own) default)
replaced_param own (const_param attrs i t default) = const_param attrs i (replaced_type own t) default

abbrev pub replaced_predicate : Option SegmentTree → PredicateTree → PredicateTree
replaced_predicate own (lifetime_predicate l ls) = lifetime_predicate l ls
replaced_predicate own (type_predicate ls t bs) = type_predicate ls (replaced_type own t) (replaced_bound_list own bs)

abbrev pub replaced_generics : Option SegmentTree → GenericsTree → GenericsTree
replaced_generics own g =
    record {
      angled = g.angled;
      params = each (replaced_param own) g.params;
      where_clause = option_map (each (replaced_predicate own)) g.where_clause;
    }

abbrev pub replaced_field : Option SegmentTree → FieldTree → FieldTree
replaced_field own f = record f { ty = replaced_type own f.ty }

abbrev pub replaced_fields : Option SegmentTree → FieldsTree → FieldsTree
replaced_fields own (named fs) = named (each (replaced_field own) fs)
replaced_fields own (unnamed fs) = unnamed (each (replaced_field own) fs)
replaced_fields own unit = unit

abbrev pub replaced_variant : Option SegmentTree → VariantTree → VariantTree
replaced_variant own v = record v { fields = replaced_fields own v.fields }

abbrev pub replaced_shape : Option SegmentTree → ShapeTree → ShapeTree
replaced_shape own (struct_shape range fs) = struct_shape range (replaced_fields own fs)
replaced_shape own (enum_shape range vs) = enum_shape range (each (replaced_variant own) vs)
replaced_shape own (union_shape range fs) = union_shape range (each (replaced_field own) fs)

abbrev pub replaced_declaration : Option SegmentTree → Declaration → Declaration
replaced_declaration own d = record d { generics = replaced_generics own d.generics; shape = replaced_shape own d.shape }
