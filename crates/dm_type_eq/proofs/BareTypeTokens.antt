-- The tokens of types without ranges are the tokens of the types, without ranges.
use Rattle.std.specs.Prelude.{◌≡◌, ℕ, List, [], ◌∷◌, map, Bool, true, false, cond, Option, option_map, Some, None, refl}
use Rattle.std.proofs.Common.{ap, ap₂, ◌∙◌}
use Rattle.std.proofs.lemmas.List.{take-map, drop-map}
use Rattle.dm_stream.specs.declared.tokens.Span.{Span}
use Rattle.dm_stream.specs.declared.tokens.Ident.{Ident}
use Rattle.dm_stream.specs.declared.tokens.Lifetime.{Lifetime}
use Rattle.dm_stream.specs.declared.tokens.Literal.{Literal}
use Rattle.dm_stream.specs.Layout.{nowhere}
use Rattle.dm_stream.specs.Trees.{Trees, no_trees, token, group, join}
use Rattle.dm_lexer.specs.Written.{unplaced_token, unplaced}
use Rattle.dm_ast.specs.declared.plain.PlainPath.{PlainPath}
use Rattle.dm_ast.specs.declared.plain.AttrArgs.{AttrArgs}
use Rattle.dm_ast.specs.declared.plain.AttrArgs.TheVariants as args
use Rattle.dm_ast.specs.declared.plain.Attribute.{Attribute}
use Rattle.dm_ast.specs.declared.plain.ConstArg.{ConstArg}
use Rattle.dm_ast.specs.declared.plain.ConstArg.TheVariants as constant
use Rattle.dm_ast.specs.Tree.{Lifetimes, TypeTree, type_tree, TypeNode, paren, tuple, slice, array, reference, pointer, bare_fn, trait_object, impl_trait, infer, never, path, macro_type, TypeTrees, no_types, type_then, MaybeType, no_type, some_type, no_self, some_self, BoundTree, outlives, implements, BoundTrees, no_bounds, bound_then, TraitBoundTree, trait_bound, FnTree, fn_tree, InputTree, input, InputTrees, no_inputs, input_then, PathTree, path_tree, SegmentTree, segment, SegmentTrees, no_segments, segment_then, ArgumentsTree, absent, angle, parens, ArgumentTree, lifetime_arg, type_arg, const_arg, assoc_type, assoc_const, constraint, ArgumentTrees, no_arguments, argument_then, MaybeArguments, arguments_absent, some_arguments}
use Rattle.dm_ast.specs.TypeTokens.{name, lifetime, given, spaced, plain_trees, for_trees, const_trees, attr_args_trees, attribute_trees, attributes_trees, maybe_lifetime, abi_trees, input_name_trees, as_trees, qualified_trees, type_trees, node_trees, each_type, each_bound, bound_trees, trait_bound_trees, fn_trees, each_input, input_trees, output_trees, path_trees, each_segment, segment_trees, arguments_trees, maybe_angle_trees, each_argument, argument_trees}
use Rattle.dm_type_eq.specs.Unplaced.{unplaced_abi, unplaced_args, unplaced_argument, unplaced_arguments, unplaced_arguments_of, unplaced_attribute, unplaced_bound, unplaced_bounds, unplaced_constant, unplaced_fn, unplaced_ident, unplaced_input, unplaced_inputs, unplaced_lifetime, unplaced_lifetimes, unplaced_maybe_arguments, unplaced_maybe_type, unplaced_node, unplaced_path, unplaced_plain, unplaced_segment, unplaced_segments, unplaced_trait, unplaced_type, unplaced_types}

-- ---- lists of trees

pub unplaced-join : (ts us : Trees) → unplaced (join ts us) ≡ join (unplaced ts) (unplaced us)
unplaced-join no_trees us = refl
unplaced-join (token k rest) us = ap (token (unplaced_token k)) (unplaced-join rest us)
unplaced-join (group d from inside upto rest) us = ap (group d nowhere (unplaced inside) nowhere) (unplaced-join rest us)

pub unplaced-given : (b : Bool) (ts : Trees) → unplaced (given b ts) ≡ given b (unplaced ts)
unplaced-given true ts = refl
unplaced-given false ts = refl

pub unplaced-spaced : (between : Trees) (first : Bool) (xs : List Trees) →
    unplaced (spaced between first xs) ≡ spaced (unplaced between) first (map unplaced xs)
unplaced-spaced between first [] = refl
unplaced-spaced between true (ts ∷ rest) = simp (unplaced-join, unplaced-spaced between false rest)
unplaced-spaced between false (ts ∷ rest) = simp (unplaced-join, unplaced-spaced between false rest)

ruleset parts = (unplaced-join, unplaced-given, unplaced-spaced)

-- the tokens of each item without its ranges
pub each-bare : {A : Type 0} (trees : A → Trees) (bare : A → A) → ((a : A) → unplaced (trees a) ≡ trees (bare a)) → (xs : List A) →
    map unplaced (map trees xs) ≡ map trees (map bare xs)
each-bare trees bare h [] = refl
each-bare trees bare h (x ∷ xs) = ap₂ (λ y ys. y ∷ ys) (h x) (each-bare trees bare h xs)

names-bare : (is : List Ident) → map unplaced (map name is) ≡ map name (map unplaced_ident is)
names-bare = each-bare name unplaced_ident (λ i. refl)

pub lifetimes-bare : (ls : List Lifetime) → map unplaced (map lifetime ls) ≡ map lifetime (map unplaced_lifetime ls)
lifetimes-bare = each-bare lifetime unplaced_lifetime (λ l. refl)

-- ---- the parts that hold no types

plain-bare : (s : Span) (p : PlainPath) → unplaced (plain_trees s p) ≡ plain_trees nowhere (unplaced_plain p)
plain-bare s p = simp (names-bare, parts)

pub for-bare : (s : Span) (ls : Lifetimes) → unplaced (for_trees s ls) ≡ for_trees nowhere (unplaced_lifetimes ls)
for-bare s None = refl
for-bare s (Some ls) = simp (lifetimes-bare, parts)

pub const-bare : (s : Span) (c : ConstArg) → unplaced (const_trees s c) ≡ const_trees nowhere (unplaced_constant c)
const-bare s (constant.Literal true l) = refl
const-bare s (constant.Literal false l) = refl
const-bare s (constant.Bool i) = refl
const-bare s (constant.Block ts) = refl
const-bare s (constant.Name i) = refl

args-bare : (s : Span) (a : AttrArgs) → unplaced (attr_args_trees s a) ≡ attr_args_trees nowhere (unplaced_args a)
args-bare s args.Absent = refl
args-bare s (args.List d ts) = refl
args-bare s (args.Value o) = refl

attribute-bare : (a : Attribute) → unplaced (attribute_trees a) ≡ attribute_trees (unplaced_attribute a)
attribute-bare a = simp (plain-bare, args-bare, unplaced-join)

pub attributes-bare : (as' : List Attribute) → unplaced (attributes_trees as') ≡ attributes_trees (map unplaced_attribute as')
attributes-bare [] = refl
attributes-bare (a ∷ as') = unplaced-join (attribute_trees a) (attributes_trees as') ∙ ap₂ join (attribute-bare a) (attributes-bare as')

abi-bare : (s : Span) (a : Option (Option Literal)) → unplaced (abi_trees s a) ≡ abi_trees nowhere (unplaced_abi a)
abi-bare s None = refl
abi-bare s (Some None) = refl
abi-bare s (Some (Some l)) = refl

input-name-bare : (s : Span) (i : Option Ident) → unplaced (input_name_trees s i) ≡ input_name_trees nowhere (option_map unplaced_ident i)
input-name-bare s None = refl
input-name-bare s (Some i) = refl

maybe-lifetime-bare : (l : Option Lifetime) → unplaced (maybe_lifetime l) ≡ maybe_lifetime (option_map unplaced_lifetime l)
maybe-lifetime-bare None = refl
maybe-lifetime-bare (Some l) = refl

-- ---- types

unplaced-cond : (b : Bool) (ts us : Trees) → unplaced (cond b ts us) ≡ cond b (unplaced ts) (unplaced us)
unplaced-cond true ts us = refl
unplaced-cond false ts us = refl

as-bare : (s : Span) (position : ℕ) (leading : Bool) (xs : List Trees) →
    unplaced (as_trees s position leading xs) ≡ as_trees nowhere position leading (map unplaced xs)
as-bare s position leading xs = simp (unplaced-cond, unplaced-join, unplaced-spaced, take-map)

qualified-bare : (s : Span) (self : Trees) (position : ℕ) (leading : Bool) (xs : List Trees) →
    unplaced (qualified_trees s self position leading xs) ≡ qualified_trees nowhere (unplaced self) position leading (map unplaced xs)
qualified-bare s self position leading xs = simp (unplaced-join, as-bare, unplaced-spaced, drop-map)

mutual
  pub type-bare : (t : TypeTree) → unplaced (type_trees t) ≡ type_trees (unplaced_type t)
  type-bare (type_tree n s) = node-bare s n

  pub node-bare : (s : Span) (n : TypeNode) → unplaced (node_trees s n) ≡ node_trees nowhere (unplaced_node n)
  node-bare s (paren t) = simp (type-bare t)
  node-bare s (tuple ts trailing) = simp (types-bare ts, parts)
  node-bare s (slice t) = simp (type-bare t)
  node-bare s (array t o) = simp (type-bare t, parts)
  node-bare s (reference l true t) = simp (maybe-lifetime-bare, type-bare t, parts)
  node-bare s (reference l false t) = simp (maybe-lifetime-bare, type-bare t, parts)
  node-bare s (pointer true t) = simp (type-bare t)
  node-bare s (pointer false t) = simp (type-bare t)
  node-bare s (bare_fn f) = function-bare s f
  node-bare s (trait_object bs trailing) = simp (bounds-bare s bs, parts)
  node-bare s (impl_trait bs trailing) = simp (bounds-bare s bs, parts)
  node-bare s infer = refl
  node-bare s never = refl
  node-bare s (path no_self p) = path-bare s p
  node-bare s (path (some_self t position) (path_tree leading ss)) = simp (qualified-bare, type-bare t, segments-bare s ss)
  node-bare s (macro_type p d ts) = simp (plain-bare, parts)

  types-bare : (ts : TypeTrees) → map unplaced (each_type ts) ≡ each_type (unplaced_types ts)
  types-bare no_types = refl
  types-bare (type_then t ts) = ap₂ (λ x xs. x ∷ xs) (type-bare t) (types-bare ts)

  pub bounds-bare : (s : Span) (bs : BoundTrees) → map unplaced (each_bound s bs) ≡ each_bound nowhere (unplaced_bounds bs)
  bounds-bare s no_bounds = refl
  bounds-bare s (bound_then b bs) = ap₂ (λ x xs. x ∷ xs) (bound-bare s b) (bounds-bare s bs)

  bound-bare : (s : Span) (b : BoundTree) → unplaced (bound_trees s b) ≡ bound_trees nowhere (unplaced_bound b)
  bound-bare s (outlives l) = refl
  bound-bare s (implements b) = trait-bare s b

  trait-bare : (s : Span) (b : TraitBoundTree) → unplaced (trait_bound_trees s b) ≡ trait_bound_trees nowhere (unplaced_trait b)
  trait-bare s (trait_bound true maybe ls p) = simp (for-bare, path-bare s p, parts)
  trait-bare s (trait_bound false maybe ls p) = simp (for-bare, path-bare s p, parts)

  function-bare : (s : Span) (f : FnTree) → unplaced (fn_trees s f) ≡ fn_trees nowhere (unplaced_fn f)
  function-bare s (fn_tree ls is_unsafe abi is trailing out) = simp (for-bare, abi-bare, inputs-bare s is, output-bare s out, parts)

  inputs-bare : (s : Span) (is : InputTrees) → map unplaced (each_input s is) ≡ each_input nowhere (unplaced_inputs is)
  inputs-bare s no_inputs = refl
  inputs-bare s (input_then i is) = ap₂ (λ x xs. x ∷ xs) (input-bare s i) (inputs-bare s is)

  input-bare : (s : Span) (i : InputTree) → unplaced (input_trees s i) ≡ input_trees nowhere (unplaced_input i)
  input-bare s (input attrs i t) = simp (attributes-bare, input-name-bare, type-bare t, parts)

  output-bare : (s : Span) (t : MaybeType) → unplaced (output_trees s t) ≡ output_trees nowhere (unplaced_maybe_type t)
  output-bare s no_type = refl
  output-bare s (some_type t) = simp (type-bare t)

  pub path-bare : (s : Span) (p : PathTree) → unplaced (path_trees s p) ≡ path_trees nowhere (unplaced_path p)
  path-bare s (path_tree leading ss) = simp (segments-bare s ss, parts)

  segments-bare : (s : Span) (ss : SegmentTrees) → map unplaced (each_segment s ss) ≡ each_segment nowhere (unplaced_segments ss)
  segments-bare s no_segments = refl
  segments-bare s (segment_then x xs) = ap₂ (λ y ys. y ∷ ys) (segment-bare s x) (segments-bare s xs)

  segment-bare : (s : Span) (x : SegmentTree) → unplaced (segment_trees s x) ≡ segment_trees nowhere (unplaced_segment x)
  segment-bare s (segment i gs) = simp (arguments-of-bare s gs)

  arguments-of-bare : (s : Span) (gs : ArgumentsTree) → unplaced (arguments_trees s gs) ≡ arguments_trees nowhere (unplaced_arguments_of gs)
  arguments-of-bare s absent = refl
  arguments-of-bare s (angle double gs trailing) = simp (arguments-bare s gs, parts)
  arguments-of-bare s (parens ts trailing out) = simp (types-bare ts, output-bare s out, parts)

  maybe-angle-bare : (s : Span) (gs : MaybeArguments) →
      unplaced (maybe_angle_trees s gs) ≡ maybe_angle_trees nowhere (unplaced_maybe_arguments gs)
  maybe-angle-bare s arguments_absent = refl
  maybe-angle-bare s (some_arguments gs trailing) = simp (arguments-bare s gs, parts)

  arguments-bare : (s : Span) (gs : ArgumentTrees) → map unplaced (each_argument s gs) ≡ each_argument nowhere (unplaced_arguments gs)
  arguments-bare s no_arguments = refl
  arguments-bare s (argument_then g gs) = ap₂ (λ x xs. x ∷ xs) (argument-bare s g) (arguments-bare s gs)

  argument-bare : (s : Span) (g : ArgumentTree) → unplaced (argument_trees s g) ≡ argument_trees nowhere (unplaced_argument g)
  argument-bare s (lifetime_arg l) = refl
  argument-bare s (type_arg t) = type-bare t
  argument-bare s (const_arg c) = const-bare s c
  argument-bare s (assoc_type i gs t) = simp (maybe-angle-bare s gs, type-bare t, parts)
  argument-bare s (assoc_const i gs c) = simp (maybe-angle-bare s gs, const-bare, parts)
  argument-bare s (constraint i gs bs trailing) = simp (maybe-angle-bare s gs, bounds-bare s bs, parts)
