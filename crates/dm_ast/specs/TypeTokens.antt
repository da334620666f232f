-- The tokens that types, paths, bounds and arguments are written with. A node's own tokens stand at the range of the
-- innermost type around them, those of an attribute at the attribute's, and delimiters at no place of a text. `::` and `->` are joint, other puncts alone.
-- Parts that are not read give their own trees.
use Rattle.std.specs.Prelude.{ℕ, List, [], ◌∷◌, map, take, drop, ◌==◌, Bool, true, false, cond, codes, Option, Some, None}
use Rattle.dm_stream.specs.declared.tokens.Span.{Span}
use Rattle.dm_stream.specs.declared.tokens.Delim.{Delim}
use Rattle.dm_stream.specs.declared.tokens.Delim.TheVariants.{Paren, Bracket, Brace}
use Rattle.dm_stream.specs.declared.tokens.Ident.{Ident}
use Rattle.dm_stream.specs.declared.tokens.Literal.{Literal}
use Rattle.dm_stream.specs.declared.tokens.Lifetime.{Lifetime}
use Rattle.dm_stream.specs.declared.tokens.Spacing.TheVariants.{Joint, Alone}
use Rattle.dm_stream.specs.declared.tokens.Token.{Token}
use Rattle.dm_stream.specs.declared.tokens.Token.TheVariants as t
use Rattle.dm_stream.specs.Layout.{nowhere}
use Rattle.dm_stream.specs.Trees.{Trees, no_trees, token, group, join}
use Rattle.dm_ast.specs.declared.plain.PlainPath.{PlainPath}
use Rattle.dm_ast.specs.declared.plain.AttrArgs.{AttrArgs}
use Rattle.dm_ast.specs.declared.plain.AttrArgs.TheVariants as attr
use Rattle.dm_ast.specs.declared.plain.Attribute.{Attribute}
use Rattle.dm_ast.specs.declared.plain.ConstArg.{ConstArg}
use Rattle.dm_ast.specs.declared.plain.ConstArg.TheVariants as c
use Rattle.dm_ast.specs.Tree.{Lifetimes, TypeTree, type_tree, TypeNode, paren, tuple, slice, array, reference, pointer, bare_fn, trait_object, impl_trait, infer, never, path, macro_type, TypeTrees, no_types, type_then, MaybeType, no_type, some_type, no_self, some_self, BoundTree, outlives, implements, BoundTrees, no_bounds, bound_then, TraitBoundTree, trait_bound, FnTree, fn_tree, InputTree, input, InputTrees, no_inputs, input_then, PathTree, path_tree, SegmentTree, segment, SegmentTrees, no_segments, segment_then, ArgumentsTree, absent, angle, parens, ArgumentTree, lifetime_arg, type_arg, const_arg, assoc_type, assoc_const, constraint, ArgumentTrees, no_arguments, argument_then, MaybeArguments, arguments_absent, some_arguments}

-- ---- single tokens

abbrev pub one : Token → Trees
one k = token k no_trees

abbrev pub punct : ℕ → Span → Trees
punct ch s = one (t.Punct (record { ch = ch; spacing = Alone; span = s }))

-- two puncts that are read as one
abbrev pub joint : ℕ → ℕ → Span → Trees
joint ch next s = token (t.Punct (record { ch = ch; spacing = Joint; span = s })) (punct next s)

abbrev pub colons : Span → Trees
colons s = joint 58 58 s

abbrev pub arrow : Span → Trees
arrow s = joint 45 62 s

abbrev pub name : Ident → Trees
name i = one (t.Ident i)

abbrev pub word : List ℕ → Span → Trees
word letters s = name (record { name = letters; raw = false; span = s })

abbrev pub lifetime : Lifetime → Trees
lifetime l = one (t.Lifetime l)

abbrev pub literal : Literal → Trees
literal l = one (t.Literal l)

-- trees between two delimiters, which stand at no place of a text
abbrev pub grouped : Delim → Trees → Trees
grouped d inside = group d nowhere inside nowhere no_trees

-- ---- what may be missing

abbrev pub given : Bool → Trees → Trees
given here ts = cond here ts no_trees

abbrev pub maybe_lifetime : Option Lifetime → Trees
maybe_lifetime None = no_trees
maybe_lifetime (Some l) = lifetime l

abbrev pub maybe_literal : Option Literal → Trees
maybe_literal None = no_trees
maybe_literal (Some l) = literal l

-- ---- lists

-- the trees of each item in turn, with `between` before each, but not before the first of all
abbrev pub spaced : Trees → Bool → List Trees → Trees
spaced between first [] = no_trees
spaced between first (ts ∷ rest) = join (cond first no_trees between) (join ts (spaced between false rest))

-- a list with a separator between two items, and perhaps after the last
abbrev pub listed : ℕ → Span → List Trees → Bool → Trees
listed ch s items trailing = join (spaced (punct ch s) true items) (given trailing (punct ch s))

-- a comma list in angle brackets
abbrev pub angle_trees : Span → List Trees → Bool → Trees
angle_trees s items trailing = join (punct 60 s) (join (listed 44 s items trailing) (punct 62 s))

-- ---- the parts that hold no types

abbrev pub plain_trees : Span → PlainPath → Trees
plain_trees s p = join (given p.leading_colon (colons s)) (spaced (colons s) true (map name p.segments))

-- `for<'a, 'b>`
abbrev pub for_trees : Span → Lifetimes → Trees
for_trees s None = no_trees
for_trees s (Some ls) = join (word (codes "for") s) (angle_trees s (map lifetime ls.items) ls.trailing)

abbrev pub const_trees : Span → ConstArg → Trees
const_trees s (c.Literal minus l) = join (given minus (punct 45 s)) (literal l)
const_trees s (c.Bool i) = name i
const_trees s (c.Block ts) = grouped Brace ts.trees
const_trees s (c.Name i) = name i

abbrev pub attr_args_trees : Span → AttrArgs → Trees
attr_args_trees s attr.Absent = no_trees
attr_args_trees s (attr.List d ts) = grouped d ts.trees
attr_args_trees s (attr.Value o) = join (punct 61 s) o.tokens.trees

-- `#[path args]`
abbrev pub attribute_trees : Attribute → Trees
attribute_trees a =
    join (punct 35 a.span) (grouped Bracket (join (plain_trees a.span a.path) (attr_args_trees a.span a.args)))

abbrev pub attributes_trees : List Attribute → Trees
attributes_trees [] = no_trees
attributes_trees (a ∷ more) = join (attribute_trees a) (attributes_trees more)

abbrev pub abi_trees : Span → Option (Option Literal) → Trees
abi_trees s None = no_trees
abi_trees s (Some l) = join (word (codes "extern") s) (maybe_literal l)

-- the name of an input of a `fn` type, which a colon ends
abbrev pub input_name_trees : Span → Option Ident → Trees
input_name_trees s None = no_trees
input_name_trees s (Some i) = join (name i) (punct 58 s)

-- ---- types

-- the trait of a qualified path, where there is one
abbrev pub as_trees : Span → ℕ → Bool → List Trees → Trees
as_trees s position leading_colon segments =
    cond (position == 0) no_trees
    (join (word (codes "as") s) (join (given leading_colon (colons s)) (spaced (colons s) true (take position segments))))

-- what stands behind `<Self`: `position` tells how many segments are the trait's, and is 0 where there is none
abbrev pub behind_self_trees : Span → ℕ → Bool → List Trees → Trees
behind_self_trees s position leading_colon segments =
    join (as_trees s position leading_colon segments) (join (punct 62 s) (spaced (colons s) false (drop position segments)))

-- `<Self as trait::segments>::later::segments`
abbrev pub qualified_trees : Span → Trees → ℕ → Bool → List Trees → Trees
qualified_trees s self position leading_colon segments =
    join (punct 60 s) (join self (behind_self_trees s position leading_colon segments))

abbrev mutual
  pub type_trees : TypeTree → Trees
  type_trees (type_tree n s) = node_trees s n

  pub node_trees : Span → TypeNode → Trees
  node_trees s (paren t) = grouped Paren (type_trees t)
  node_trees s (tuple ts trailing) = grouped Paren (listed 44 s (each_type ts) trailing)
  node_trees s (slice t) = grouped Bracket (type_trees t)
  node_trees s (array t size) = grouped Bracket (join (type_trees t) (join (punct 59 s) size.tokens.trees))
  node_trees s (reference l is_mut t) =
      join (punct 38 s) (join (maybe_lifetime l) (join (given is_mut (word (codes "mut") s)) (type_trees t)))
  node_trees s (pointer is_mut t) =
      join (punct 42 s) (join (cond is_mut (word (codes "mut") s) (word (codes "const") s)) (type_trees t))
  node_trees s (bare_fn f) = fn_trees s f
  node_trees s (trait_object bs trailing) = join (word (codes "dyn") s) (listed 43 s (each_bound s bs) trailing)
  node_trees s (impl_trait bs trailing) = join (word (codes "impl") s) (listed 43 s (each_bound s bs) trailing)
  node_trees s infer = word (codes "_") s
  node_trees s never = punct 33 s
  node_trees s (path no_self p) = path_trees s p
  node_trees s (path (some_self t position) (path_tree leading_colon ss)) =
      qualified_trees s (type_trees t) position leading_colon (each_segment s ss)
  node_trees s (macro_type p d ts) = join (plain_trees s p) (join (punct 33 s) (grouped d ts.trees))

  pub each_type : TypeTrees → List Trees
  each_type no_types = []
  each_type (type_then t ts) = type_trees t ∷ each_type ts

  pub each_bound : Span → BoundTrees → List Trees
  each_bound s no_bounds = []
  each_bound s (bound_then b bs) = bound_trees s b ∷ each_bound s bs

  pub bound_trees : Span → BoundTree → Trees
  bound_trees s (outlives l) = lifetime l
  bound_trees s (implements b) = trait_bound_trees s b

  pub trait_bound_trees : Span → TraitBoundTree → Trees
  trait_bound_trees s (trait_bound in_parens maybe ls p) =
      let inside = join (given maybe (punct 63 s)) (join (for_trees s ls) (path_trees s p)) in
      cond in_parens (grouped Paren inside) inside

  pub fn_trees : Span → FnTree → Trees
  fn_trees s (fn_tree ls is_unsafe abi inputs trailing output) =
      join (for_trees s ls) (join (given is_unsafe (word (codes "unsafe") s)) (join (abi_trees s abi) (join (word (codes "fn") s)
      (join (grouped Paren (listed 44 s (each_input s inputs) trailing)) (output_trees s output)))))

  pub each_input : Span → InputTrees → List Trees
  each_input s no_inputs = []
  each_input s (input_then i is) = input_trees s i ∷ each_input s is

  pub input_trees : Span → InputTree → Trees
  input_trees s (input attrs i t) = join (attributes_trees attrs) (join (input_name_trees s i) (type_trees t))

  pub output_trees : Span → MaybeType → Trees
  output_trees s no_type = no_trees
  output_trees s (some_type t) = join (arrow s) (type_trees t)

  pub path_trees : Span → PathTree → Trees
  path_trees s (path_tree leading_colon ss) = join (given leading_colon (colons s)) (spaced (colons s) true (each_segment s ss))

  pub each_segment : Span → SegmentTrees → List Trees
  each_segment s no_segments = []
  each_segment s (segment_then x xs) = segment_trees s x ∷ each_segment s xs

  pub segment_trees : Span → SegmentTree → Trees
  segment_trees s (segment i gs) = join (name i) (arguments_trees s gs)

  -- what stands behind the name of a segment
  pub arguments_trees : Span → ArgumentsTree → Trees
  arguments_trees s absent = no_trees
  arguments_trees s (angle has_colons gs trailing) = join (given has_colons (colons s)) (angle_trees s (each_argument s gs) trailing)
  arguments_trees s (parens ts trailing output) = join (grouped Paren (listed 44 s (each_type ts) trailing)) (output_trees s output)

  pub maybe_angle_trees : Span → MaybeArguments → Trees
  maybe_angle_trees s arguments_absent = no_trees
  maybe_angle_trees s (some_arguments gs trailing) = angle_trees s (each_argument s gs) trailing

  pub each_argument : Span → ArgumentTrees → List Trees
  each_argument s no_arguments = []
  each_argument s (argument_then g gs) = argument_trees s g ∷ each_argument s gs

  pub argument_trees : Span → ArgumentTree → Trees
  argument_trees s (lifetime_arg l) = lifetime l
  argument_trees s (type_arg t) = type_trees t
  argument_trees s (const_arg k) = const_trees s k
  argument_trees s (assoc_type i gs t) = join (name i) (join (maybe_angle_trees s gs) (join (punct 61 s) (type_trees t)))
  argument_trees s (assoc_const i gs k) = join (name i) (join (maybe_angle_trees s gs) (join (punct 61 s) (const_trees s k)))
  argument_trees s (constraint i gs bs trailing) =
      join (name i) (join (maybe_angle_trees s gs) (join (punct 58 s) (listed 43 s (each_bound s bs) trailing)))
