-- The levels of types, parameters and predicates without ranges are their levels.
use Rattle.std.specs.Prelude.{◌≡◌, ℕ, ◌+◌, List, [], ◌∷◌, ◌++◌, map, true, false, Option, option_map, Some, None, refl}
use Rattle.std.proofs.Common.{ap, ap₂}
use Rattle.dm_stream.specs.declared.tokens.Ident.{Ident}
use Rattle.dm_stream.specs.declared.tokens.Literal.{Literal}
use Rattle.dm_stream.specs.Trees.{Trees, no_trees, token, group}
use Rattle.dm_lexer.specs.Written.{unplaced}
use Rattle.dm_ast.specs.declared.plain.PlainPath.{PlainPath}
use Rattle.dm_ast.specs.declared.plain.AttrArgs.{AttrArgs}
use Rattle.dm_ast.specs.declared.plain.AttrArgs.TheVariants as args
use Rattle.dm_ast.specs.declared.plain.Attribute.{Attribute}
use Rattle.dm_ast.specs.declared.plain.ConstArg.{ConstArg}
use Rattle.dm_ast.specs.declared.plain.ConstArg.TheVariants as constant
use Rattle.dm_ast.specs.Tree.{Lifetimes, TypeTree, type_tree, TypeNode, paren, tuple, slice, array, reference, pointer, bare_fn, trait_object, impl_trait, infer, never, path, macro_type, TypeTrees, no_types, type_then, MaybeType, no_type, some_type, MaybeSelf, no_self, some_self, BoundTree, outlives, implements, BoundTrees, no_bounds, bound_then, TraitBoundTree, trait_bound, FnTree, fn_tree, InputTree, input, InputTrees, no_inputs, input_then, PathTree, path_tree, SegmentTree, segment, SegmentTrees, no_segments, segment_then, ArgumentsTree, absent, angle, parens, ArgumentTree, lifetime_arg, type_arg, const_arg, assoc_type, assoc_const, constraint, ArgumentTrees, no_arguments, argument_then, MaybeArguments, arguments_absent, some_arguments, bounds_of}
use Rattle.dm_ast.specs.Declarations.{Listed, ParamTree, lifetime_param, type_param, const_param, PredicateTree, lifetime_predicate, type_predicate}
use Rattle.dm_type_levels.specs.TypeLevels.{trees_levels, maybe_levels, alone, plain_levels, for_levels, const_levels, attr_args_levels, attribute_levels, attributes_levels, abi_levels, input_name_levels, type_levels, node_levels, each_type, each_bound, bound_levels, trait_bound_levels, fn_levels, each_input, input_levels, output_levels, path_levels, each_segment, segment_levels, arguments_levels, maybe_angle_levels, each_argument, argument_levels, path_expr_levels, maybe_bounds_levels, maybe_lifetimes_levels, default_type_levels, default_const_levels, param_levels, predicate_levels}
use Rattle.dm_type_eq.specs.Unplaced.{unplaced_abi, unplaced_args, unplaced_argument, unplaced_arguments, unplaced_arguments_of, unplaced_attribute, unplaced_bound, unplaced_bounds, unplaced_constant, unplaced_fn, unplaced_ident, unplaced_input, unplaced_inputs, unplaced_lifetimes, unplaced_maybe_arguments, unplaced_maybe_type, unplaced_node, unplaced_path, unplaced_plain, unplaced_segment, unplaced_segments, unplaced_self, unplaced_trait, unplaced_type, unplaced_types}
use Rattle.dm_reread.specs.Bare.{bare_listed, bare_param, bare_predicate}

-- ---- lists

-- the levels of each of a list
pub map_same : {A : Type 0} (levels : A → List ℕ) (bare : A → A) → ((x : A) → levels (bare x) ≡ levels x) → (xs : List A) →
    map levels (map bare xs) ≡ map levels xs
map_same levels bare same [] = refl
map_same levels bare same (x ∷ xs) = ap₂ (λ l ls. l ∷ ls) (same x) (map_same levels bare same xs)

pub alone_same : {A : Type 0} (k : ℕ) (bare : A → A) (xs : List A) → alone k (map bare xs) ≡ alone k xs
alone_same k bare [] = refl
alone_same k bare (x ∷ xs) = ap (λ ls. (k ∷ []) ∷ ls) (alone_same k bare xs)

pub maybe_same : {A : Type 0} (k : ℕ) (bare : A → A) (x : Option A) → maybe_levels k (option_map bare x) ≡ maybe_levels k x
maybe_same k bare None = refl
maybe_same k bare (Some x) = refl

-- ---- the parts that hold no types

pub trees_same : (k : ℕ) (ts : Trees) → trees_levels k (unplaced ts) ≡ trees_levels k ts
trees_same k no_trees = refl
trees_same k (token t rest) = ap (λ ls. k ∷ ls) (trees_same k rest)
trees_same k (group d from inside upto rest) = simp (trees_same (k + 1) inside, trees_same k rest)

pub plain_same : (k : ℕ) (p : PlainPath) → plain_levels k (unplaced_plain p) ≡ plain_levels k p
plain_same k p = simp alone_same

pub for_same : (k : ℕ) (ls : Lifetimes) → for_levels k (unplaced_lifetimes ls) ≡ for_levels k ls
for_same k None = refl
for_same k (Some ls) = simp alone_same

pub const_same : (k : ℕ) (c : ConstArg) → const_levels k (unplaced_constant c) ≡ const_levels k c
const_same k (constant.Literal minus l) = refl
const_same k (constant.Bool i) = refl
const_same k (constant.Block ts) = simp (trees_same (k + 1) ts.trees)
const_same k (constant.Name i) = refl

pub args_same : (k : ℕ) (a : AttrArgs) → attr_args_levels k (unplaced_args a) ≡ attr_args_levels k a
args_same k args.Absent = refl
args_same k (args.List d ts) = simp (trees_same (k + 1) ts.trees)
args_same k (args.Value o) = ap (λ ls. k ∷ ls) (trees_same k o.tokens.trees)

pub attribute_same : (k : ℕ) (a : Attribute) → attribute_levels k (unplaced_attribute a) ≡ attribute_levels k a
attribute_same k a = simp (plain_same (k + 1) a.path, args_same (k + 1) a.args)

pub attributes_same : (k : ℕ) (as' : List Attribute) → attributes_levels k (map unplaced_attribute as') ≡ attributes_levels k as'
attributes_same k [] = refl
attributes_same k (a ∷ as') = ap₂ (λ l ls. l ++ ls) (attribute_same k a) (attributes_same k as')

pub abi_same : (k : ℕ) (a : Option (Option Literal)) → abi_levels k (unplaced_abi a) ≡ abi_levels k a
abi_same k None = refl
abi_same k (Some None) = refl
abi_same k (Some (Some l)) = refl

pub input_name_same : (k : ℕ) (i : Option Ident) → input_name_levels k (option_map unplaced_ident i) ≡ input_name_levels k i
input_name_same k None = refl
input_name_same k (Some i) = refl

-- ---- types

mutual
  pub type_same : (k : ℕ) (x : TypeTree) → type_levels k (unplaced_type x) ≡ type_levels k x
  type_same k (type_tree n s) = node_same k n

  pub node_same : (k : ℕ) (n : TypeNode) → node_levels k (unplaced_node n) ≡ node_levels k n
  node_same k (paren t) = simp (type_same (k + 1) t)
  node_same k (tuple ts trailing) = simp (types_same (k + 1) ts)
  node_same k (slice t) = simp (type_same (k + 1) t)
  node_same k (array t o) = simp (type_same (k + 1) t, trees_same (k + 1) o.tokens.trees)
  node_same k (reference l is_mut t) = simp (maybe_same, type_same (k + 1) t)
  node_same k (pointer is_mut t) = simp (type_same (k + 1) t)
  node_same k (bare_fn f) = function_same k f
  node_same k (trait_object bs trailing) = simp (bounds_same (k + 1) bs)
  node_same k (impl_trait bs trailing) = simp (bounds_same (k + 1) bs)
  node_same k infer = refl
  node_same k never = refl
  node_same k (path no_self p) = path_same k p
  node_same k (path (some_self t position) (path_tree leading ss)) =
      simp (type_same (k + 1) t, segments_same (k + 1) ss, segments_same k ss)
  node_same k (macro_type p d ts) = simp (plain_same k p, trees_same (k + 1) ts.trees)

  pub types_same : (k : ℕ) (ts : TypeTrees) → each_type k (unplaced_types ts) ≡ each_type k ts
  types_same k no_types = refl
  types_same k (type_then t ts) = ap₂ (λ l ls. l ∷ ls) (type_same k t) (types_same k ts)

  pub bounds_same : (k : ℕ) (bs : BoundTrees) → each_bound k (unplaced_bounds bs) ≡ each_bound k bs
  bounds_same k no_bounds = refl
  bounds_same k (bound_then b bs) = ap₂ (λ l ls. l ∷ ls) (bound_same k b) (bounds_same k bs)

  pub bound_same : (k : ℕ) (b : BoundTree) → bound_levels k (unplaced_bound b) ≡ bound_levels k b
  bound_same k (outlives l) = refl
  bound_same k (implements b) = trait_bound_same k b

  pub trait_bound_same : (k : ℕ) (b : TraitBoundTree) → trait_bound_levels k (unplaced_trait b) ≡ trait_bound_levels k b
  trait_bound_same k (trait_bound true maybe ls p) = simp (for_same (k + 1) ls, path_same (k + 1) p)
  trait_bound_same k (trait_bound false maybe ls p) = simp (for_same k ls, path_same k p)

  pub function_same : (k : ℕ) (f : FnTree) → fn_levels k (unplaced_fn f) ≡ fn_levels k f
  function_same k (fn_tree ls is_unsafe abi is trailing out) =
      simp (for_same k ls, abi_same k abi, inputs_same (k + 1 + 1) is, output_same (k + 1) (k + 1) out)

  pub inputs_same : (k : ℕ) (is : InputTrees) → each_input k (unplaced_inputs is) ≡ each_input k is
  inputs_same k no_inputs = refl
  inputs_same k (input_then i is) = ap₂ (λ l ls. l ∷ ls) (input_same k i) (inputs_same k is)

  pub input_same : (k : ℕ) (i : InputTree) → input_levels k (unplaced_input i) ≡ input_levels k i
  input_same k (input attrs i t) = simp (attributes_same k attrs, input_name_same k i, type_same k t)

  pub output_same : (k inner : ℕ) (t : MaybeType) → output_levels k inner (unplaced_maybe_type t) ≡ output_levels k inner t
  output_same k inner no_type = refl
  output_same k inner (some_type t) = simp (type_same inner t)

  pub path_same : (k : ℕ) (p : PathTree) → path_levels k (unplaced_path p) ≡ path_levels k p
  path_same k (path_tree leading ss) = simp (segments_same k ss)

  pub segments_same : (k : ℕ) (ss : SegmentTrees) → each_segment k (unplaced_segments ss) ≡ each_segment k ss
  segments_same k no_segments = refl
  segments_same k (segment_then x xs) = ap₂ (λ l ls. l ∷ ls) (segment_same k x) (segments_same k xs)

  pub segment_same : (k : ℕ) (x : SegmentTree) → segment_levels k (unplaced_segment x) ≡ segment_levels k x
  segment_same k (segment i gs) = ap (λ ls. k ∷ ls) (arguments_of_same k gs)

  pub arguments_of_same : (k : ℕ) (gs : ArgumentsTree) → arguments_levels k (unplaced_arguments_of gs) ≡ arguments_levels k gs
  arguments_of_same k absent = refl
  arguments_of_same k (angle double gs trailing) = simp (arguments_same (k + 1) gs)
  arguments_of_same k (parens ts trailing out) = simp (types_same (k + 1) ts, output_same k (k + 1) out)

  pub maybe_angle_same : (k : ℕ) (gs : MaybeArguments) → maybe_angle_levels k (unplaced_maybe_arguments gs) ≡ maybe_angle_levels k gs
  maybe_angle_same k arguments_absent = refl
  maybe_angle_same k (some_arguments gs trailing) = simp (arguments_same (k + 1) gs)

  pub arguments_same : (k : ℕ) (gs : ArgumentTrees) → each_argument k (unplaced_arguments gs) ≡ each_argument k gs
  arguments_same k no_arguments = refl
  arguments_same k (argument_then g gs) = ap₂ (λ l ls. l ∷ ls) (argument_same k g) (arguments_same k gs)

  pub argument_same : (k : ℕ) (g : ArgumentTree) → argument_levels k (unplaced_argument g) ≡ argument_levels k g
  argument_same k (lifetime_arg l) = refl
  argument_same k (type_arg t) = type_same k t
  argument_same k (const_arg c) = const_same k c
  argument_same k (assoc_type i gs t) = simp (maybe_angle_same k gs, type_same k t)
  argument_same k (assoc_const i gs c) = simp (maybe_angle_same k gs, const_same k c)
  argument_same k (constraint i gs bs trailing) = simp (maybe_angle_same k gs, bounds_same k bs)

pub path_expr_same : (k : ℕ) (q : MaybeSelf) (p : PathTree) → path_expr_levels k (unplaced_self q) (unplaced_path p) ≡ path_expr_levels k q p
path_expr_same k q p = node_same k (path q p)

-- ---- parameters and predicates

bounds_of_same : (k : ℕ) (bs : List BoundTree) → each_bound k (bounds_of (map unplaced_bound bs)) ≡ each_bound k (bounds_of bs)
bounds_of_same k [] = refl
bounds_of_same k (b ∷ bs) = ap₂ (λ l ls. l ∷ ls) (bound_same k b) (bounds_of_same k bs)

pub maybe_bounds_same : (k : ℕ) (bs : Option (Listed BoundTree)) →
    maybe_bounds_levels k (option_map bare_listed bs) ≡ maybe_bounds_levels k bs
maybe_bounds_same k None = refl
maybe_bounds_same k (Some bs) = simp (bounds_of_same k bs.items)

pub maybe_lifetimes_same : (k : ℕ) (ls : Lifetimes) → maybe_lifetimes_levels k (unplaced_lifetimes ls) ≡ maybe_lifetimes_levels k ls
maybe_lifetimes_same k None = refl
maybe_lifetimes_same k (Some ls) = simp alone_same

pub default_type_same : (k : ℕ) (t : Option TypeTree) → default_type_levels k (option_map unplaced_type t) ≡ default_type_levels k t
default_type_same k None = refl
default_type_same k (Some t) = ap (λ ls. k ∷ ls) (type_same k t)

pub default_const_same : (k : ℕ) (c : Option ConstArg) → default_const_levels k (option_map unplaced_constant c) ≡ default_const_levels k c
default_const_same k None = refl
default_const_same k (Some c) = ap (λ ls. k ∷ ls) (const_same k c)

pub param_same : (k : ℕ) (p : ParamTree) → param_levels k (bare_param p) ≡ param_levels k p
param_same k (lifetime_param attrs l bounds) = simp (attributes_same k attrs, maybe_lifetimes_same k bounds)
param_same k (type_param attrs i bounds default) =
    simp (attributes_same k attrs, maybe_bounds_same k bounds, default_type_same k default)
param_same k (const_param attrs i t default) = simp (attributes_same k attrs, type_same k t, default_const_same k default)

pub predicate_same : (k : ℕ) (p : PredicateTree) → predicate_levels k (bare_predicate p) ≡ predicate_levels k p
predicate_same k (lifetime_predicate l ls) = ap (λ ms. k ∷ ms) (maybe_lifetimes_same k (Some ls))
predicate_same k (type_predicate ls t bs) = simp (for_same k ls, type_same k t, bounds_of_same k bs.items)
