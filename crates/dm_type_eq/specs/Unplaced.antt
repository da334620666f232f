-- Types without the places of their tokens: each range is the empty one at 0, and lists of trees that are not read end at 0.
use Rattle.std.specs.Prelude.{map, Option, option_map, Some, None}
use Rattle.dm_stream.specs.declared.tokens.Ident.{Ident}
use Rattle.dm_stream.specs.declared.tokens.Lifetime.{Lifetime}
use Rattle.dm_stream.specs.declared.tokens.Literal.{Literal}
use Rattle.dm_stream.specs.Layout.{nowhere}
use Rattle.dm_stream.specs.Trees.{Stream}
use Rattle.dm_lexer.specs.Written.{unplaced}
use Rattle.dm_ast.specs.declared.plain.Opaque.{Opaque}
use Rattle.dm_ast.specs.declared.plain.PlainPath.{PlainPath}
use Rattle.dm_ast.specs.declared.plain.AttrArgs.{AttrArgs}
use Rattle.dm_ast.specs.declared.plain.AttrArgs.TheVariants as args
use Rattle.dm_ast.specs.declared.plain.Attribute.{Attribute}
use Rattle.dm_ast.specs.declared.plain.ConstArg.{ConstArg}
use Rattle.dm_ast.specs.declared.plain.ConstArg.TheVariants as constant
use Rattle.dm_ast.specs.Tree.{Lifetimes, TypeTree, type_tree, TypeNode, paren, tuple, slice, array, reference, pointer, bare_fn, trait_object, impl_trait, infer, never, path, macro_type, TypeTrees, no_types, type_then, MaybeType, no_type, some_type, MaybeSelf, no_self, some_self, BoundTree, outlives, implements, BoundTrees, no_bounds, bound_then, TraitBoundTree, trait_bound, FnTree, fn_tree, InputTree, input, InputTrees, no_inputs, input_then, PathTree, path_tree, SegmentTree, segment, SegmentTrees, no_segments, segment_then, ArgumentsTree, absent, angle, parens, ArgumentTree, lifetime_arg, type_arg, const_arg, assoc_type, assoc_const, constraint, ArgumentTrees, no_arguments, argument_then, MaybeArguments, arguments_absent, some_arguments}

-- ---- names, literals and trees that are not read

abbrev pub unplaced_ident : Ident → Ident
unplaced_ident i = record { name = i.name; raw = i.raw; span = nowhere }

abbrev pub unplaced_lifetime : Lifetime → Lifetime
unplaced_lifetime l = record { name = l.name; span = nowhere }

abbrev pub unplaced_literal : Literal → Literal
unplaced_literal l = record { kind = l.kind; text = l.text; span = nowhere }

abbrev pub unplaced_stream : Stream → Stream
unplaced_stream s = record { trees = unplaced s.trees; limit = 0 }

abbrev pub unplaced_opaque : Opaque → Opaque
unplaced_opaque o = record { tokens = unplaced_stream o.tokens }

-- ---- the parts that hold no types

abbrev pub unplaced_plain : PlainPath → PlainPath
unplaced_plain p = record { leading_colon = p.leading_colon; segments = map unplaced_ident p.segments }

abbrev pub unplaced_args : AttrArgs → AttrArgs
unplaced_args args.Absent = args.Absent
unplaced_args (args.List d s) = args.List d (unplaced_stream s)
unplaced_args (args.Value o) = args.Value (unplaced_opaque o)

abbrev pub unplaced_attribute : Attribute → Attribute
unplaced_attribute a = record { path = unplaced_plain a.path; args = unplaced_args a.args; span = nowhere }

abbrev pub unplaced_lifetimes : Lifetimes → Lifetimes
unplaced_lifetimes None = None
unplaced_lifetimes (Some ls) = Some (record { items = map unplaced_lifetime ls.items; trailing = ls.trailing })

abbrev pub unplaced_abi : Option (Option Literal) → Option (Option Literal)
unplaced_abi a = option_map (option_map unplaced_literal) a

abbrev pub unplaced_constant : ConstArg → ConstArg
unplaced_constant (constant.Literal m l) = constant.Literal m (unplaced_literal l)
unplaced_constant (constant.Bool i) = constant.Bool (unplaced_ident i)
unplaced_constant (constant.Block s) = constant.Block (unplaced_stream s)
unplaced_constant (constant.Name i) = constant.Name (unplaced_ident i)

-- ---- types

abbrev mutual
  pub unplaced_type : TypeTree → TypeTree
  unplaced_type (type_tree n s) = type_tree (unplaced_node n) nowhere

  pub unplaced_node : TypeNode → TypeNode
  unplaced_node (paren t) = paren (unplaced_type t)
  unplaced_node (tuple ts trailing) = tuple (unplaced_types ts) trailing
  unplaced_node (slice t) = slice (unplaced_type t)
  unplaced_node (array t o) = array (unplaced_type t) (unplaced_opaque o)
  unplaced_node (reference l m t) = reference (option_map unplaced_lifetime l) m (unplaced_type t)
  unplaced_node (pointer m t) = pointer m (unplaced_type t)
  unplaced_node (bare_fn f) = bare_fn (unplaced_fn f)
  unplaced_node (trait_object bs trailing) = trait_object (unplaced_bounds bs) trailing
  unplaced_node (impl_trait bs trailing) = impl_trait (unplaced_bounds bs) trailing
  unplaced_node infer = infer
  unplaced_node never = never
  unplaced_node (path q p) = path (unplaced_self q) (unplaced_path p)
  unplaced_node (macro_type p d s) = macro_type (unplaced_plain p) d (unplaced_stream s)

  pub unplaced_types : TypeTrees → TypeTrees
  unplaced_types no_types = no_types
  unplaced_types (type_then t ts) = type_then (unplaced_type t) (unplaced_types ts)

  pub unplaced_maybe_type : MaybeType → MaybeType
  unplaced_maybe_type no_type = no_type
  unplaced_maybe_type (some_type t) = some_type (unplaced_type t)

  pub unplaced_self : MaybeSelf → MaybeSelf
  unplaced_self no_self = no_self
  unplaced_self (some_self t n) = some_self (unplaced_type t) n

  pub unplaced_bound : BoundTree → BoundTree
  unplaced_bound (outlives l) = outlives (unplaced_lifetime l)
  unplaced_bound (implements b) = implements (unplaced_trait b)

  pub unplaced_bounds : BoundTrees → BoundTrees
  unplaced_bounds no_bounds = no_bounds
  unplaced_bounds (bound_then b bs) = bound_then (unplaced_bound b) (unplaced_bounds bs)

  pub unplaced_trait : TraitBoundTree → TraitBoundTree
  unplaced_trait (trait_bound in_parens maybe ls p) = trait_bound in_parens maybe (unplaced_lifetimes ls) (unplaced_path p)

  pub unplaced_fn : FnTree → FnTree
  unplaced_fn (fn_tree ls is_unsafe abi is trailing out) =
      fn_tree (unplaced_lifetimes ls) is_unsafe (unplaced_abi abi) (unplaced_inputs is) trailing (unplaced_maybe_type out)

  pub unplaced_input : InputTree → InputTree
  unplaced_input (input attrs i t) = input (map unplaced_attribute attrs) (option_map unplaced_ident i) (unplaced_type t)

  pub unplaced_inputs : InputTrees → InputTrees
  unplaced_inputs no_inputs = no_inputs
  unplaced_inputs (input_then i is) = input_then (unplaced_input i) (unplaced_inputs is)

  pub unplaced_path : PathTree → PathTree
  unplaced_path (path_tree leading ss) = path_tree leading (unplaced_segments ss)

  pub unplaced_segments : SegmentTrees → SegmentTrees
  unplaced_segments no_segments = no_segments
  unplaced_segments (segment_then s ss) = segment_then (unplaced_segment s) (unplaced_segments ss)

  pub unplaced_segment : SegmentTree → SegmentTree
  unplaced_segment (segment i gs) = segment (unplaced_ident i) (unplaced_arguments_of gs)

  pub unplaced_arguments_of : ArgumentsTree → ArgumentsTree
  unplaced_arguments_of absent = absent
  unplaced_arguments_of (angle double gs trailing) = angle double (unplaced_arguments gs) trailing
  unplaced_arguments_of (parens ts trailing out) = parens (unplaced_types ts) trailing (unplaced_maybe_type out)

  pub unplaced_argument : ArgumentTree → ArgumentTree
  unplaced_argument (lifetime_arg l) = lifetime_arg (unplaced_lifetime l)
  unplaced_argument (type_arg t) = type_arg (unplaced_type t)
  unplaced_argument (const_arg c) = const_arg (unplaced_constant c)
  unplaced_argument (assoc_type i gs t) = assoc_type (unplaced_ident i) (unplaced_maybe_arguments gs) (unplaced_type t)
  unplaced_argument (assoc_const i gs c) = assoc_const (unplaced_ident i) (unplaced_maybe_arguments gs) (unplaced_constant c)
  unplaced_argument (constraint i gs bs trailing) = constraint (unplaced_ident i) (unplaced_maybe_arguments gs) (unplaced_bounds bs) trailing

  pub unplaced_arguments : ArgumentTrees → ArgumentTrees
  unplaced_arguments no_arguments = no_arguments
  unplaced_arguments (argument_then g gs) = argument_then (unplaced_argument g) (unplaced_arguments gs)

  pub unplaced_maybe_arguments : MaybeArguments → MaybeArguments
  unplaced_maybe_arguments arguments_absent = arguments_absent
  unplaced_maybe_arguments (some_arguments gs trailing) = some_arguments (unplaced_arguments gs) trailing
