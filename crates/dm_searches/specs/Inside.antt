-- Whether a type stands inside another one: it is the same part for part, or it stands so in the element of parentheses, of an array, a
-- slice, a reference or a pointer, in a part of a tuple, or in a type between the `<` and `>` of a path.
use Rattle.std.specs.Prelude.{Bool, false, ◌||◌}
use Rattle.dm_ast.specs.Tree.{TypeTree, type_tree, TypeNode, paren, tuple, slice, array, reference, pointer, bare_fn, trait_object, impl_trait, infer, never, path, macro_type, TypeTrees, no_types, type_then, PathTree, path_tree, SegmentTree, segment, SegmentTrees, no_segments, segment_then, ArgumentsTree, absent, angle, parens, ArgumentTree, lifetime_arg, type_arg, const_arg, assoc_type, assoc_const, constraint, ArgumentTrees, no_arguments, argument_then}
use Rattle.dm_same.specs.SameTypes.{same_type}

abbrev mutual
  pub inside : TypeTree → TypeTree → Bool
  inside needle (type_tree n range) = same_type (type_tree n range) needle || in_node needle n

  pub in_node : TypeTree → TypeNode → Bool
  in_node needle (paren t) = inside needle t
  in_node needle (tuple ts trailing) = in_types needle ts
  in_node needle (slice t) = inside needle t
  in_node needle (array t o) = inside needle t
  in_node needle (reference l is_mut t) = inside needle t
  in_node needle (pointer is_mut t) = inside needle t
  in_node needle (bare_fn f) = false
  in_node needle (trait_object bs trailing) = false
  in_node needle (impl_trait bs trailing) = false
  in_node needle infer = false
  in_node needle never = false
  in_node needle (path q p) = in_path needle p
  in_node needle (macro_type m d ts) = false

  pub in_types : TypeTree → TypeTrees → Bool
  in_types needle no_types = false
  in_types needle (type_then t ts) = inside needle t || in_types needle ts

  pub in_path : TypeTree → PathTree → Bool
  in_path needle (path_tree leading ss) = in_segments needle ss

  pub in_segments : TypeTree → SegmentTrees → Bool
  in_segments needle no_segments = false
  in_segments needle (segment_then s ss) = in_segment needle s || in_segments needle ss

  pub in_segment : TypeTree → SegmentTree → Bool
  in_segment needle (segment i as') = in_segment_arguments needle as'

  pub in_segment_arguments : TypeTree → ArgumentsTree → Bool
  in_segment_arguments needle absent = false
  in_segment_arguments needle (angle double gs trailing) = in_arguments needle gs
  in_segment_arguments needle (parens ts trailing out) = false

  pub in_arguments : TypeTree → ArgumentTrees → Bool
  in_arguments needle no_arguments = false
  in_arguments needle (argument_then g gs) = in_argument needle g || in_arguments needle gs

  pub in_argument : TypeTree → ArgumentTree → Bool
  in_argument needle (lifetime_arg l) = false
  in_argument needle (type_arg t) = inside needle t
  in_argument needle (const_arg c) = false
  in_argument needle (assoc_type i gs t) = false
  in_argument needle (assoc_const i gs c) = false
  in_argument needle (constraint i gs bs trailing) = false
