-- Whether one of some names is used in a type: as the first name of a path type, in its qualified self, as a type argument or as the name
-- of a constraint; or so behind references.
use Rattle.std.specs.Prelude.{ℕ, Bool, false, ◌||◌, if◌then◌else◌, List, Option, Some, None}
use Rattle.std.specs.List.{list_any}
use Rattle.std.specs.Str.{bytes_eq}
use Rattle.dm_stream.specs.declared.tokens.Ident.{Ident}
use Rattle.dm_ast.specs.Tree.{TypeTree, type_tree, TypeNode, paren, tuple, slice, array, reference, pointer, bare_fn, trait_object, impl_trait, infer, never, path, macro_type, MaybeSelf, no_self, some_self, PathTree, path_tree, SegmentTree, segment, SegmentTrees, no_segments, segment_then, ArgumentsTree, absent, angle, parens, ArgumentTree, lifetime_arg, type_arg, const_arg, assoc_type, assoc_const, constraint, ArgumentTrees, no_arguments, argument_then}

abbrev pub is_key : List (List ℕ) → Ident → Bool
is_key names i = list_any (bytes_eq i.name) names

abbrev pub is_first : List (List ℕ) → SegmentTrees → Bool
is_first names no_segments = false
is_first names (segment_then (segment i as') ss) = is_key names i

abbrev mutual
  pub uses : List (List ℕ) → TypeTree → Bool
  uses names (type_tree n range) = in_node names n

  pub in_node : List (List ℕ) → TypeNode → Bool
  in_node names (paren t) = false
  in_node names (tuple ts trailing) = false
  in_node names (slice t) = false
  in_node names (array t o) = false
  in_node names (reference l is_mut t) = uses names t
  in_node names (pointer is_mut t) = false
  in_node names (bare_fn f) = false
  in_node names (trait_object bs trailing) = false
  in_node names (impl_trait bs trailing) = false
  in_node names infer = false
  in_node names never = false
  in_node names (path q p) = in_self names q || in_path names p
  in_node names (macro_type m d ts) = false

  pub in_self : List (List ℕ) → MaybeSelf → Bool
  in_self names no_self = false
  in_self names (some_self t n) = uses names t

  pub in_path : List (List ℕ) → PathTree → Bool
  in_path names (path_tree leading ss) = is_first names ss || in_segments names ss

  pub in_segments : List (List ℕ) → SegmentTrees → Bool
  in_segments names no_segments = false
  in_segments names (segment_then s ss) = in_segment names s || in_segments names ss

  pub in_segment : List (List ℕ) → SegmentTree → Bool
  in_segment names (segment i as') = in_segment_arguments names as'

  pub in_segment_arguments : List (List ℕ) → ArgumentsTree → Bool
  in_segment_arguments names absent = false
  in_segment_arguments names (angle double gs trailing) = in_arguments names gs
  in_segment_arguments names (parens ts trailing out) = false

  pub in_arguments : List (List ℕ) → ArgumentTrees → Bool
  in_arguments names no_arguments = false
  in_arguments names (argument_then g gs) = in_argument names g || in_arguments names gs

  pub in_argument : List (List ℕ) → ArgumentTree → Bool
  in_argument names (lifetime_arg l) = false
  in_argument names (type_arg t) = uses names t
  in_argument names (const_arg c) = false
  in_argument names (assoc_type i gs t) = false
  in_argument names (assoc_const i gs c) = false
  in_argument names (constraint i gs bs trailing) = is_key names i

-- the type without one outer reference
abbrev pub behind_reference : TypeTree → TypeTree
behind_reference (type_tree (reference l is_mut t) range) = t
behind_reference (type_tree n range) = type_tree n range

-- where a name is used, the type without one outer reference
abbrev pub used_type : List (List ℕ) → TypeTree → Option TypeTree
used_type names t = if uses names t then Some (behind_reference t) else None
