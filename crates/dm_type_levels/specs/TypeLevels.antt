-- The levels of the tokens that types, paths, bounds and arguments are written with, in the order of `TypeTokens`. The first number is the
-- level outside: delimiters, `<` and `>` have it, what stands between them has one more.
use Rattle.std.specs.Prelude.{ℕ, ◌+◌, ◌-◌, List, [], ◌∷◌, ◌++◌, take, drop, ◌==◌, Bool, true, false, cond, Option, Some, None}
use Rattle.dm_stream.specs.declared.seq.Punctuated.{Punctuated}
use Rattle.dm_stream.specs.declared.tokens.Ident.{Ident}
use Rattle.dm_stream.specs.declared.tokens.Literal.{Literal}
use Rattle.dm_stream.specs.declared.tokens.Lifetime.{Lifetime}
use Rattle.dm_stream.specs.declared.tokens.Entry.{Entry}
use Rattle.dm_stream.specs.declared.tokens.Entry.TheVariants as entry
use Rattle.dm_stream.specs.Trees.{Trees, no_trees, token, group}
use Rattle.dm_ast.specs.declared.plain.PlainPath.{PlainPath}
use Rattle.dm_ast.specs.declared.plain.AttrArgs.{AttrArgs}
use Rattle.dm_ast.specs.declared.plain.AttrArgs.TheVariants as attr
use Rattle.dm_ast.specs.declared.plain.Attribute.{Attribute}
use Rattle.dm_ast.specs.declared.plain.ConstArg.{ConstArg}
use Rattle.dm_ast.specs.declared.plain.ConstArg.TheVariants as c
use Rattle.dm_ast.specs.Tree.{Lifetimes, TypeTree, type_tree, TypeNode, paren, tuple, slice, array, reference, pointer, bare_fn, trait_object, impl_trait, infer, never, path, macro_type, TypeTrees, no_types, type_then, MaybeType, no_type, some_type, MaybeSelf, no_self, some_self, BoundTree, outlives, implements, BoundTrees, no_bounds, bound_then, TraitBoundTree, trait_bound, FnTree, fn_tree, InputTree, input, InputTrees, no_inputs, input_then, PathTree, path_tree, SegmentTree, segment, SegmentTrees, no_segments, segment_then, ArgumentsTree, absent, angle, parens, ArgumentTree, lifetime_arg, type_arg, const_arg, assoc_type, assoc_const, constraint, ArgumentTrees, no_arguments, argument_then, MaybeArguments, arguments_absent, some_arguments, bounds_of}
use Rattle.dm_ast.specs.Declarations.{Listed, ParamTree, lifetime_param, type_param, const_param, PredicateTree, lifetime_predicate, type_predicate}
use Rattle.dm_type_levels.specs.Passing.{given}

-- ---- trees that are not read

abbrev pub trees_levels : ℕ → Trees → List ℕ
trees_levels k no_trees = []
trees_levels k (token t rest) = k ∷ trees_levels k rest
trees_levels k (group d from inside upto rest) = k ∷ (trees_levels (k + 1) inside ++ k ∷ trees_levels k rest)

-- the same of a flat form: the level of an entry, where the level behind the entry before it is `k`
abbrev pub level_at : ℕ → Entry → ℕ
level_at k (entry.Token t) = k
level_at k (entry.Open d from n) = k
level_at k (entry.Close d upto) = k - 1

-- the level behind an entry of this level
abbrev pub level_behind : ℕ → Entry → ℕ
level_behind k (entry.Token t) = k
level_behind k (entry.Open d from n) = k + 1
level_behind k (entry.Close d upto) = k

abbrev pub entries_levels : ℕ → List Entry → List ℕ
entries_levels k [] = []
entries_levels k (e ∷ es) = level_at k e ∷ entries_levels (level_behind (level_at k e) e) es

-- two delimiters and what stands between them
abbrev pub grouped_levels : ℕ → List ℕ → List ℕ
grouped_levels k inside = k ∷ (inside ++ k ∷ [])

-- ---- `::` and `->`, and what may be missing

abbrev pub two : ℕ → List ℕ
two k = k ∷ k ∷ []

abbrev pub maybe_levels : {A : Type 0} → ℕ → Option A → List ℕ
maybe_levels k None = []
maybe_levels k (Some a) = k ∷ []

-- ---- lists

-- the levels of each item in turn, with `between` before each, but not before the first of all
abbrev pub spaced_levels : List ℕ → Bool → List (List ℕ) → List ℕ
spaced_levels between first [] = []
spaced_levels between first (ls ∷ rest) = cond first [] between ++ (ls ++ spaced_levels between false rest)

-- a list with a separator between two items, and perhaps after the last
abbrev pub listed_levels : ℕ → List (List ℕ) → Bool → List ℕ
listed_levels k items trailing = spaced_levels (k ∷ []) true items ++ given trailing (k ∷ [])

-- a comma list in angle brackets; the items have the levels that they have between these
abbrev pub angle_levels : ℕ → List (List ℕ) → Bool → List ℕ
angle_levels k items trailing = grouped_levels k (listed_levels (k + 1) items trailing)

-- items of one token each
abbrev pub alone : {A : Type 0} → ℕ → List A → List (List ℕ)
alone k [] = []
alone k (x ∷ xs) = (k ∷ []) ∷ alone k xs

-- ---- the parts that hold no types

abbrev pub plain_levels : ℕ → PlainPath → List ℕ
plain_levels k p = given p.leading_colon (two k) ++ spaced_levels (two k) true (alone k p.segments)

abbrev pub lifetimes_levels : ℕ → Punctuated Lifetime → List ℕ
lifetimes_levels k ls = listed_levels k (alone k ls.items) ls.trailing

-- `for<'a, 'b>`
abbrev pub for_levels : ℕ → Lifetimes → List ℕ
for_levels k None = []
for_levels k (Some ls) = k ∷ grouped_levels k (lifetimes_levels (k + 1) ls)

abbrev pub const_levels : ℕ → ConstArg → List ℕ
const_levels k (c.Literal minus l) = given minus (k ∷ []) ++ k ∷ []
const_levels k (c.Bool i) = k ∷ []
const_levels k (c.Block ts) = grouped_levels k (trees_levels (k + 1) ts.trees)
const_levels k (c.Name i) = k ∷ []

abbrev pub attr_args_levels : ℕ → AttrArgs → List ℕ
attr_args_levels k attr.Absent = []
attr_args_levels k (attr.List d ts) = grouped_levels k (trees_levels (k + 1) ts.trees)
attr_args_levels k (attr.Value o) = k ∷ trees_levels k o.tokens.trees

-- `#[path args]`
abbrev pub attribute_levels : ℕ → Attribute → List ℕ
attribute_levels k a = k ∷ grouped_levels k (plain_levels (k + 1) a.path ++ attr_args_levels (k + 1) a.args)

abbrev pub attributes_levels : ℕ → List Attribute → List ℕ
attributes_levels k [] = []
attributes_levels k (a ∷ more) = attribute_levels k a ++ attributes_levels k more

abbrev pub abi_levels : ℕ → Option (Option Literal) → List ℕ
abi_levels k None = []
abi_levels k (Some l) = k ∷ maybe_levels k l

-- the name of an input of a `fn` type, which a colon ends
abbrev pub input_name_levels : ℕ → Option Ident → List ℕ
input_name_levels k None = []
input_name_levels k (Some i) = two k

-- ---- types

-- `as` and the trait of a qualified path, where there is one, at the level that they have between `<` and `>`
abbrev pub as_levels : ℕ → ℕ → Bool → List (List ℕ) → List ℕ
as_levels k position leading_colon segments =
    cond (position == 0) [] (k ∷ (given leading_colon (two k) ++ spaced_levels (two k) true (take position segments)))

-- `<Self as trait::segments>::later::segments`, of whose segments the first ones have the levels `inner` and the others `outer`
abbrev pub qualified_levels : ℕ → List ℕ → ℕ → Bool → List (List ℕ) → List (List ℕ) → List ℕ
qualified_levels k self position leading_colon inner outer =
    k ∷ (self ++ (as_levels (k + 1) position leading_colon inner ++ k ∷ spaced_levels (two k) false (drop position outer)))

-- a trait as a bound without its parentheses, whose path has the levels `behind`
abbrev pub bare_levels : ℕ → Bool → Lifetimes → List ℕ → List ℕ
bare_levels k maybe ls behind = given maybe (k ∷ []) ++ (for_levels k ls ++ behind)

abbrev mutual
  pub type_levels : ℕ → TypeTree → List ℕ
  type_levels k (type_tree n s) = node_levels k n

  pub node_levels : ℕ → TypeNode → List ℕ
  node_levels k (paren t) = grouped_levels k (type_levels (k + 1) t)
  node_levels k (tuple ts trailing) = grouped_levels k (listed_levels (k + 1) (each_type (k + 1) ts) trailing)
  node_levels k (slice t) = grouped_levels k (type_levels (k + 1) t)
  node_levels k (array t size) = grouped_levels k (type_levels (k + 1) t ++ (k + 1) ∷ trees_levels (k + 1) size.tokens.trees)
  node_levels k (reference l is_mut t) = k ∷ (maybe_levels (k + 1) l ++ (given is_mut ((k + 1) ∷ []) ++ type_levels (k + 1) t))
  node_levels k (pointer is_mut t) = k ∷ (k + 1) ∷ type_levels (k + 1) t
  node_levels k (bare_fn f) = fn_levels k f
  node_levels k (trait_object bs trailing) = k ∷ listed_levels (k + 1) (each_bound (k + 1) bs) trailing
  node_levels k (impl_trait bs trailing) = k ∷ listed_levels (k + 1) (each_bound (k + 1) bs) trailing
  node_levels k infer = k ∷ []
  node_levels k never = k ∷ []
  node_levels k (path no_self p) = path_levels k p
  node_levels k (path (some_self t position) (path_tree leading_colon ss)) =
      qualified_levels k (type_levels (k + 1) t) position leading_colon (each_segment (k + 1) ss) (each_segment k ss)
  node_levels k (macro_type p d ts) = plain_levels k p ++ k ∷ grouped_levels k (trees_levels (k + 1) ts.trees)

  pub each_type : ℕ → TypeTrees → List (List ℕ)
  each_type k no_types = []
  each_type k (type_then t ts) = type_levels k t ∷ each_type k ts

  pub each_bound : ℕ → BoundTrees → List (List ℕ)
  each_bound k no_bounds = []
  each_bound k (bound_then b bs) = bound_levels k b ∷ each_bound k bs

  pub bound_levels : ℕ → BoundTree → List ℕ
  bound_levels k (outlives l) = k ∷ []
  bound_levels k (implements b) = trait_bound_levels k b

  pub trait_bound_levels : ℕ → TraitBoundTree → List ℕ
  trait_bound_levels k (trait_bound in_parens maybe ls p) =
      cond in_parens (grouped_levels k (bare_levels (k + 1) maybe ls (path_levels (k + 1) p))) (bare_levels k maybe ls (path_levels k p))

  -- what stands behind `fn` is one deeper
  pub fn_levels : ℕ → FnTree → List ℕ
  fn_levels k (fn_tree ls is_unsafe abi inputs trailing output) =
      for_levels k ls ++ (given is_unsafe (k ∷ []) ++ (abi_levels k abi ++
      k ∷ (grouped_levels (k + 1) (listed_levels (k + 1 + 1) (each_input (k + 1 + 1) inputs) trailing) ++ output_levels (k + 1) (k + 1) output)))

  pub each_input : ℕ → InputTrees → List (List ℕ)
  each_input k no_inputs = []
  each_input k (input_then i is) = input_levels k i ∷ each_input k is

  pub input_levels : ℕ → InputTree → List ℕ
  input_levels k (input attrs i t) = attributes_levels k attrs ++ (input_name_levels k i ++ type_levels k t)

  -- `->`, and the type behind it at the level `inner`
  pub output_levels : ℕ → ℕ → MaybeType → List ℕ
  output_levels k inner no_type = []
  output_levels k inner (some_type t) = k ∷ k ∷ type_levels inner t

  pub path_levels : ℕ → PathTree → List ℕ
  path_levels k (path_tree leading_colon ss) = given leading_colon (two k) ++ spaced_levels (two k) true (each_segment k ss)

  pub each_segment : ℕ → SegmentTrees → List (List ℕ)
  each_segment k no_segments = []
  each_segment k (segment_then x xs) = segment_levels k x ∷ each_segment k xs

  pub segment_levels : ℕ → SegmentTree → List ℕ
  segment_levels k (segment i gs) = k ∷ arguments_levels k gs

  -- what stands behind the name of a segment
  pub arguments_levels : ℕ → ArgumentsTree → List ℕ
  arguments_levels k absent = []
  arguments_levels k (angle has_colons gs trailing) = given has_colons (two k) ++ angle_levels k (each_argument (k + 1) gs) trailing
  arguments_levels k (parens ts trailing output) =
      grouped_levels k (listed_levels (k + 1) (each_type (k + 1) ts) trailing) ++ output_levels k (k + 1) output

  pub maybe_angle_levels : ℕ → MaybeArguments → List ℕ
  maybe_angle_levels k arguments_absent = []
  maybe_angle_levels k (some_arguments gs trailing) = angle_levels k (each_argument (k + 1) gs) trailing

  pub each_argument : ℕ → ArgumentTrees → List (List ℕ)
  each_argument k no_arguments = []
  each_argument k (argument_then g gs) = argument_levels k g ∷ each_argument k gs

  pub argument_levels : ℕ → ArgumentTree → List ℕ
  argument_levels k (lifetime_arg l) = k ∷ []
  argument_levels k (type_arg t) = type_levels k t
  argument_levels k (const_arg v) = const_levels k v
  argument_levels k (assoc_type i gs t) = k ∷ (maybe_angle_levels k gs ++ k ∷ type_levels k t)
  argument_levels k (assoc_const i gs v) = k ∷ (maybe_angle_levels k gs ++ k ∷ const_levels k v)
  argument_levels k (constraint i gs bs trailing) = k ∷ (maybe_angle_levels k gs ++ k ∷ listed_levels k (each_bound k bs) trailing)

-- a path, or a qualified one
abbrev pub path_expr_levels : ℕ → MaybeSelf → PathTree → List ℕ
path_expr_levels k q p = node_levels k (path q p)

-- ---- parameters and predicates

abbrev pub maybe_bounds_levels : ℕ → Option (Listed BoundTree) → List ℕ
maybe_bounds_levels k None = []
maybe_bounds_levels k (Some bs) = k ∷ listed_levels k (each_bound k (bounds_of bs.items)) bs.trailing

abbrev pub maybe_lifetimes_levels : ℕ → Lifetimes → List ℕ
maybe_lifetimes_levels k None = []
maybe_lifetimes_levels k (Some ls) = k ∷ lifetimes_levels k ls

abbrev pub default_type_levels : ℕ → Option TypeTree → List ℕ
default_type_levels k None = []
default_type_levels k (Some t) = k ∷ type_levels k t

abbrev pub default_const_levels : ℕ → Option ConstArg → List ℕ
default_const_levels k None = []
default_const_levels k (Some v) = k ∷ const_levels k v

abbrev pub param_levels : ℕ → ParamTree → List ℕ
param_levels k (lifetime_param attrs l bounds) = attributes_levels k attrs ++ k ∷ maybe_lifetimes_levels k bounds
param_levels k (type_param attrs i bounds default) =
    attributes_levels k attrs ++ k ∷ (maybe_bounds_levels k bounds ++ default_type_levels k default)
param_levels k (const_param attrs i t default) =
    attributes_levels k attrs ++ k ∷ k ∷ k ∷ (type_levels k t ++ default_const_levels k default)

abbrev pub predicate_levels : ℕ → PredicateTree → List ℕ
predicate_levels k (lifetime_predicate l ls) = k ∷ maybe_lifetimes_levels k (Some ls)
predicate_levels k (type_predicate ls t bs) = for_levels k ls ++ (type_levels k t ++ maybe_bounds_levels k (Some bs))
