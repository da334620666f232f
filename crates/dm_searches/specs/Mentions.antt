-- Whether a parameter is mentioned in a type: a type parameter as a type or before `::` as in `T::Item`, a const parameter as a type, a
-- lifetime parameter wherever a lifetime stands; and each of them among tokens that are not read.
use Rattle.std.specs.Prelude.{ℕ, Bool, false, ◌||◌, List, Option, Some, None}
use Rattle.std.specs.List.{list_any}
use Rattle.dm_stream.specs.declared.tokens.Ident.{Ident}
use Rattle.dm_stream.specs.declared.tokens.Lifetime.{Lifetime}
use Rattle.dm_stream.specs.declared.tokens.Token.{Token}
use Rattle.dm_stream.specs.declared.tokens.Token.TheVariants as t
use Rattle.dm_stream.specs.declared.tokens.Entry.{Entry}
use Rattle.dm_stream.specs.declared.tokens.Entry.TheVariants as entry
use Rattle.dm_stream.specs.Trees.{Trees, no_trees, token, group}
use Rattle.dm_ast.specs.declared.plain.AttrArgs.{AttrArgs}
use Rattle.dm_ast.specs.declared.plain.AttrArgs.TheVariants as attr
use Rattle.dm_ast.specs.declared.plain.Attribute.{Attribute}
use Rattle.dm_ast.specs.declared.plain.ConstArg.{ConstArg}
use Rattle.dm_ast.specs.declared.plain.ConstArg.TheVariants as c
use Rattle.dm_ast.specs.Idents.{path_ident}
use Rattle.dm_ast.specs.Tree.{Lifetimes, TypeTree, type_tree, TypeNode, paren, tuple, slice, array, reference, pointer, bare_fn, trait_object, impl_trait, infer, never, path, macro_type, TypeTrees, no_types, type_then, MaybeType, no_type, some_type, MaybeSelf, no_self, some_self, BoundTree, outlives, implements, BoundTrees, no_bounds, bound_then, TraitBoundTree, trait_bound, FnTree, fn_tree, InputTree, input, InputTrees, no_inputs, input_then, PathTree, path_tree, SegmentTree, segment, SegmentTrees, no_segments, segment_then, ArgumentsTree, absent, angle, parens, ArgumentTree, lifetime_arg, type_arg, const_arg, assoc_type, assoc_const, constraint, ArgumentTrees, no_arguments, argument_then, MaybeArguments, arguments_absent, some_arguments}
use Rattle.dm_searches.specs.declared.names.Sort.{Sort}
use Rattle.dm_searches.specs.declared.names.Sort.TheVariants as sort
use Rattle.dm_searches.specs.Parameters.{Parameters, is_named, is_lifetime_named, some_named, bare_first}

-- ---- one parameter: its sort and its name

-- an identifier among tokens that are not read
abbrev pub is_ident : Sort → List ℕ → Ident → Bool
is_ident sort.Ty n i = is_named n i
is_ident sort.Lifetime n i = false
is_ident sort.Const n i = is_named n i

abbrev pub is_lifetime : Sort → List ℕ → Lifetime → Bool
is_lifetime sort.Ty n l = false
is_lifetime sort.Lifetime n l = is_lifetime_named n l
is_lifetime sort.Const n l = false

-- the path of a path type: a type parameter alone or before `::`, a const parameter alone
abbrev pub is_path : Sort → List ℕ → PathTree → Bool
is_path sort.Ty n (path_tree leading ss) = some_named n (bare_first ss)
is_path sort.Lifetime n r = false
is_path sort.Const n r = some_named n (path_ident r)

-- ---- among tokens that are not read

abbrev pub is_token : Sort → List ℕ → Token → Bool
is_token s n (t.Ident i) = is_ident s n i
is_token s n (t.Lifetime l) = is_lifetime s n l
is_token s n (t.Punct c) = false
is_token s n (t.Literal l) = false

abbrev pub in_trees : Sort → List ℕ → Trees → Bool
in_trees s n no_trees = false
in_trees s n (token k rest) = is_token s n k || in_trees s n rest
in_trees s n (group d from inside upto rest) = in_trees s n inside || in_trees s n rest

-- an entry of the flat form of trees
abbrev pub is_entry : Sort → List ℕ → Entry → Bool
is_entry s n (entry.Token k) = is_token s n k
is_entry s n (entry.Open d from count) = false
is_entry s n (entry.Close d upto) = false

abbrev pub in_constant : Sort → List ℕ → ConstArg → Bool
in_constant s n (c.Literal minus l) = false
in_constant s n (c.Bool i) = is_ident s n i
in_constant s n (c.Block ts) = in_trees s n ts.trees
in_constant s n (c.Name i) = is_ident s n i

abbrev pub in_attribute_arguments : Sort → List ℕ → AttrArgs → Bool
in_attribute_arguments s n attr.Absent = false
in_attribute_arguments s n (attr.List d ts) = in_trees s n ts.trees
in_attribute_arguments s n (attr.Value o) = in_trees s n o.tokens.trees

abbrev pub in_attribute : Sort → List ℕ → Attribute → Bool
in_attribute s n a = in_attribute_arguments s n a.args

abbrev pub in_attributes : Sort → List ℕ → List Attribute → Bool
in_attributes s n all = list_any (in_attribute s n) all

-- ---- lifetimes that may be missing

abbrev pub in_lifetime : Sort → List ℕ → Option Lifetime → Bool
in_lifetime s n None = false
in_lifetime s n (Some l) = is_lifetime s n l

-- the lifetimes of a `for`
abbrev pub in_for : Sort → List ℕ → Lifetimes → Bool
in_for s n None = false
in_for s n (Some ls) = list_any (is_lifetime s n) ls.items

-- ---- types

abbrev mutual
  pub in_type : Sort → List ℕ → TypeTree → Bool
  in_type s n (type_tree k range) = in_node s n k

  pub in_node : Sort → List ℕ → TypeNode → Bool
  in_node s n (paren t) = in_type s n t
  in_node s n (tuple ts trailing) = in_types s n ts
  in_node s n (slice t) = in_type s n t
  in_node s n (array t o) = in_type s n t || in_trees s n o.tokens.trees
  in_node s n (reference l is_mut t) = in_lifetime s n l || in_type s n t
  in_node s n (pointer is_mut t) = in_type s n t
  in_node s n (bare_fn f) = in_function s n f
  in_node s n (trait_object bs trailing) = in_bounds s n bs
  in_node s n (impl_trait bs trailing) = in_bounds s n bs
  in_node s n infer = false
  in_node s n never = false
  in_node s n (path q r) = is_path s n r || (in_self s n q || in_path s n r)
  in_node s n (macro_type m d ts) = in_trees s n ts.trees

  pub in_types : Sort → List ℕ → TypeTrees → Bool
  in_types s n no_types = false
  in_types s n (type_then t ts) = in_type s n t || in_types s n ts

  pub in_output : Sort → List ℕ → MaybeType → Bool
  in_output s n no_type = false
  in_output s n (some_type t) = in_type s n t

  pub in_self : Sort → List ℕ → MaybeSelf → Bool
  in_self s n no_self = false
  in_self s n (some_self t position) = in_type s n t

  pub in_function : Sort → List ℕ → FnTree → Bool
  in_function s n (fn_tree ls is_unsafe abi is trailing out) = in_for s n ls || (in_inputs s n is || in_output s n out)

  pub in_inputs : Sort → List ℕ → InputTrees → Bool
  in_inputs s n no_inputs = false
  in_inputs s n (input_then a as') = in_input s n a || in_inputs s n as'

  pub in_input : Sort → List ℕ → InputTree → Bool
  in_input s n (input attrs i t) = in_attributes s n attrs || in_type s n t

  pub in_bounds : Sort → List ℕ → BoundTrees → Bool
  in_bounds s n no_bounds = false
  in_bounds s n (bound_then b bs) = in_bound s n b || in_bounds s n bs

  pub in_bound : Sort → List ℕ → BoundTree → Bool
  in_bound s n (outlives l) = is_lifetime s n l
  in_bound s n (implements t) = in_trait s n t

  pub in_trait : Sort → List ℕ → TraitBoundTree → Bool
  in_trait s n (trait_bound round maybe ls r) = in_for s n ls || in_path s n r

  pub in_path : Sort → List ℕ → PathTree → Bool
  in_path s n (path_tree leading ss) = in_segments s n ss

  pub in_segments : Sort → List ℕ → SegmentTrees → Bool
  in_segments s n no_segments = false
  in_segments s n (segment_then g ss) = in_segment s n g || in_segments s n ss

  pub in_segment : Sort → List ℕ → SegmentTree → Bool
  in_segment s n (segment i as') = in_segment_arguments s n as'

  pub in_arguments : Sort → List ℕ → ArgumentTrees → Bool
  in_arguments s n no_arguments = false
  in_arguments s n (argument_then g gs) = in_argument s n g || in_arguments s n gs

  pub in_segment_arguments : Sort → List ℕ → ArgumentsTree → Bool
  in_segment_arguments s n absent = false
  in_segment_arguments s n (angle double gs trailing) = in_arguments s n gs
  in_segment_arguments s n (parens ts trailing out) = in_types s n ts || in_output s n out

  pub in_argument : Sort → List ℕ → ArgumentTree → Bool
  in_argument s n (lifetime_arg l) = is_lifetime s n l
  in_argument s n (type_arg t) = in_type s n t
  in_argument s n (const_arg c) = in_constant s n c
  in_argument s n (assoc_type i gs t) = in_maybe_arguments s n gs || in_type s n t
  in_argument s n (assoc_const i gs c) = in_maybe_arguments s n gs || in_constant s n c
  in_argument s n (constraint i gs bs trailing) = in_maybe_arguments s n gs || in_bounds s n bs

  pub in_maybe_arguments : Sort → List ℕ → MaybeArguments → Bool
  in_maybe_arguments s n arguments_absent = false
  in_maybe_arguments s n (some_arguments gs trailing) = in_arguments s n gs

-- ---- some of the parameters

-- one of these type or const parameters
abbrev pub any_name : Sort → List Ident → TypeTree → Bool
any_name s all t = list_any (λ i. in_type s i.name t) all

abbrev pub any_lifetime : List Lifetime → TypeTree → Bool
any_lifetime all t = list_any (λ l. in_type sort.Lifetime l.name t) all

-- whether a type mentions a parameter
abbrev pub mentions : Parameters → TypeTree → Bool
mentions p t = any_name sort.Ty p.types t || (any_lifetime p.lifetimes t || any_name sort.Const p.consts t)
