-- Whether a type contains a type parameter: as a type, or before `::` as in `T::Item`; in an element, a tuple, the inputs and
-- the output of a function, the traits of a `dyn`, and the types among the arguments of a path.
use Rattle.std.specs.Prelude.{ℕ, Bool, false, ◌||◌, List}
use Rattle.std.specs.List.{list_any}
use Rattle.dm_stream.specs.declared.tokens.Ident.{Ident}
use Rattle.dm_ast.specs.Tree.{TypeTree, type_tree, TypeNode, paren, tuple, slice, array, reference, pointer, bare_fn, trait_object, impl_trait, infer, never, path, macro_type, TypeTrees, no_types, type_then, MaybeType, no_type, some_type, MaybeSelf, no_self, some_self, BoundTree, outlives, implements, BoundTrees, no_bounds, bound_then, TraitBoundTree, trait_bound, FnTree, fn_tree, InputTree, input, InputTrees, no_inputs, input_then, PathTree, path_tree, SegmentTree, segment, SegmentTrees, no_segments, segment_then, ArgumentsTree, absent, angle, parens, ArgumentTree, lifetime_arg, type_arg, const_arg, assoc_type, assoc_const, constraint, ArgumentTrees, no_arguments, argument_then}
use Rattle.dm_searches.specs.Parameters.{some_named, bare_first}

abbrev mutual
  pub in_type : List ℕ → TypeTree → Bool
  in_type n (type_tree k range) = in_node n k

  pub in_node : List ℕ → TypeNode → Bool
  in_node n (paren t) = in_type n t
  in_node n (tuple ts trailing) = in_types n ts
  in_node n (slice t) = in_type n t
  in_node n (array t o) = in_type n t
  in_node n (reference l is_mut t) = in_type n t
  in_node n (pointer is_mut t) = in_type n t
  in_node n (bare_fn f) = in_function n f
  in_node n (trait_object bs trailing) = in_bounds n bs
  in_node n (impl_trait bs trailing) = false
  in_node n infer = false
  in_node n never = false
  in_node n (path q r) = in_self n q || in_path n r
  in_node n (macro_type m d ts) = false

  pub in_types : List ℕ → TypeTrees → Bool
  in_types n no_types = false
  in_types n (type_then t ts) = in_type n t || in_types n ts

  pub in_output : List ℕ → MaybeType → Bool
  in_output n no_type = false
  in_output n (some_type t) = in_type n t

  pub in_self : List ℕ → MaybeSelf → Bool
  in_self n no_self = false
  in_self n (some_self t position) = in_type n t

  pub in_function : List ℕ → FnTree → Bool
  in_function n (fn_tree ls is_unsafe abi is trailing out) = in_inputs n is || in_output n out

  pub in_inputs : List ℕ → InputTrees → Bool
  in_inputs n no_inputs = false
  in_inputs n (input_then a as') = in_input n a || in_inputs n as'

  pub in_input : List ℕ → InputTree → Bool
  in_input n (input attrs i t) = in_type n t

  pub in_bounds : List ℕ → BoundTrees → Bool
  in_bounds n no_bounds = false
  in_bounds n (bound_then b bs) = in_bound n b || in_bounds n bs

  pub in_bound : List ℕ → BoundTree → Bool
  in_bound n (outlives l) = false
  in_bound n (implements t) = in_trait n t

  pub in_trait : List ℕ → TraitBoundTree → Bool
  in_trait n (trait_bound round maybe ls r) = in_path n r

  -- a path that is a parameter also begins with one
  pub in_path : List ℕ → PathTree → Bool
  in_path n (path_tree leading ss) = some_named n (bare_first ss) || in_segments n ss

  pub in_segments : List ℕ → SegmentTrees → Bool
  in_segments n no_segments = false
  in_segments n (segment_then s ss) = in_segment n s || in_segments n ss

  pub in_segment : List ℕ → SegmentTree → Bool
  in_segment n (segment i as') = in_segment_arguments n as'

  pub in_arguments : List ℕ → ArgumentTrees → Bool
  in_arguments n no_arguments = false
  in_arguments n (argument_then g gs) = in_argument n g || in_arguments n gs

  pub in_segment_arguments : List ℕ → ArgumentsTree → Bool
  in_segment_arguments n absent = false
  in_segment_arguments n (angle double gs trailing) = in_arguments n gs
  in_segment_arguments n (parens ts trailing out) = in_types n ts || in_output n out

  pub in_argument : List ℕ → ArgumentTree → Bool
  in_argument n (lifetime_arg l) = false
  in_argument n (type_arg t) = in_type n t
  in_argument n (const_arg c) = false
  in_argument n (assoc_type i gs t) = in_type n t
  in_argument n (assoc_const i gs c) = false
  in_argument n (constraint i gs bs trailing) = false

-- ---- some of the parameters

abbrev pub contains : List Ident → TypeTree → Bool
contains all t = list_any (λ i. in_type i.name t) all

abbrev pub path_contains : List Ident → PathTree → Bool
path_contains all r = list_any (λ i. in_path i.name r) all
