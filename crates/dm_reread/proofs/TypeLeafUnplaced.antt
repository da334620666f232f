-- A type that some trees spell, without its ranges, is one that is read back.
use Rattle.std.proofs.Common.{◌≡◌, Bool, List, [], ◌∷◌, map, Option, Some, None, refl, sym, ap, ap₂, ◌∙◌, option_map}
use Rattle.dm_stream.specs.declared.tokens.Literal.{Literal}
use Rattle.dm_stream.specs.declared.tokens.Token.TheVariants as t
use Rattle.dm_stream.specs.Layout.{nowhere}
use Rattle.dm_stream.specs.Trees.{Trees, no_trees, token, group, Stream}
use Rattle.dm_ast.specs.declared.plain.Opaque.{Opaque}
use Rattle.dm_ast.specs.declared.plain.PlainPath.{PlainPath}
use Rattle.dm_ast.specs.declared.plain.AttrArgs.{AttrArgs}
use Rattle.dm_ast.specs.declared.plain.AttrArgs.TheVariants as args
use Rattle.dm_ast.specs.declared.plain.Attribute.{Attribute}
use Rattle.dm_ast.specs.declared.plain.ConstArg.{ConstArg}
use Rattle.dm_ast.specs.declared.plain.ConstArg.TheVariants as constant
use Rattle.dm_ast.specs.Tree.{Lifetimes, TypeTree, type_tree, TypeNode, paren, tuple, slice, array, reference, pointer, bare_fn, trait_object, impl_trait, infer, never, path, macro_type, TypeTrees, no_types, type_then, MaybeType, no_type, some_type, MaybeSelf, no_self, some_self, BoundTree, outlives, implements, BoundTrees, no_bounds, bound_then, TraitBoundTree, trait_bound, FnTree, fn_tree, InputTree, input, InputTrees, no_inputs, input_then, PathTree, path_tree, SegmentTree, segment, SegmentTrees, no_segments, segment_then, ArgumentsTree, absent, angle, parens, ArgumentTree, lifetime_arg, type_arg, const_arg, assoc_type, assoc_const, constraint, ArgumentTrees, no_arguments, argument_then, MaybeArguments, arguments_absent, some_arguments}
use Rattle.dm_ast.specs.Spelling.{Where, Marks, first_too_deep}
use Rattle.dm_ast.specs.TypeGrammar.{type_spelled}
use Rattle.dm_lexer.specs.Written.{unplaced, unplaced_token}
use Rattle.dm_type_eq.specs.Unplaced.{unplaced_abi, unplaced_args, unplaced_argument, unplaced_arguments, unplaced_arguments_of, unplaced_attribute, unplaced_bound, unplaced_bounds, unplaced_constant, unplaced_fn, unplaced_ident, unplaced_input, unplaced_inputs, unplaced_lifetime, unplaced_lifetimes, unplaced_literal, unplaced_maybe_arguments, unplaced_maybe_type, unplaced_node, unplaced_opaque, unplaced_path, unplaced_plain, unplaced_segment, unplaced_segments, unplaced_self, unplaced_stream, unplaced_trait, unplaced_type, unplaced_types}
use Rattle.dm_reread.specs.TypeLeaves.{IsType}

-- ---- twice is once: the parts that hold no types

abbrev Once : {A : Type 0} → (A → A) → A → Type 0
Once f x = f (f x) ≡ f x

once_map : {A : Type 0} (f : A → A) → ((x : A) → Once f x) → (xs : List A) → Once (map f) xs
once_map f h [] = refl
once_map f h (x ∷ xs) = ap₂ (λ y ys. y ∷ ys) (h x) (once_map f h xs)

once_option : {A : Type 0} (f : A → A) → ((x : A) → Once f x) → (x : Option A) → Once (option_map f) x
once_option f h None = refl
once_option f h (Some x) = ap Some (h x)

once_token : (k : t.the_data) → Once unplaced_token k
once_token (t.Ident i) = refl
once_token (t.Lifetime l) = refl
once_token (t.Literal l) = refl
once_token (t.Punct p) = refl

once_trees : (ts : Trees) → Once unplaced ts
once_trees no_trees = refl
once_trees (token k ts) = ap₂ (λ x y. token x y) (once_token k) (once_trees ts)
once_trees (group d from inside upto ts) = ap₂ (λ x y. group d nowhere x nowhere y) (once_trees inside) (once_trees ts)

once_stream : (s : Stream) → Once unplaced_stream s
once_stream s = ap (λ x. record { trees = x; limit = 0 }) (once_trees s.trees)

once_opaque : (o : Opaque) → Once unplaced_opaque o
once_opaque o = ap (λ x. record { tokens = x }) (once_stream o.tokens)

once_plain : (p : PlainPath) → Once unplaced_plain p
once_plain p = ap (λ x. record { leading_colon = p.leading_colon; segments = x }) (once_map unplaced_ident (λ i. refl) p.segments)

once_args : (a : AttrArgs) → Once unplaced_args a
once_args args.Absent = refl
once_args (args.List d s) = ap (λ x. args.List d x) (once_stream s)
once_args (args.Value o) = ap (λ x. args.Value x) (once_opaque o)

once_attribute : (a : Attribute) → Once unplaced_attribute a
once_attribute a = ap₂ (λ x y. record { path = x; args = y; span = nowhere }) (once_plain a.path) (once_args a.args)

once_lifetimes : (ls : Lifetimes) → Once unplaced_lifetimes ls
once_lifetimes None = refl
once_lifetimes (Some ls) =
    ap (λ x. Some (record { items = x; trailing = ls.trailing })) (once_map unplaced_lifetime (λ l. refl) ls.items)

once_abi : (a : Option (Option Literal)) → Once unplaced_abi a
once_abi a = once_option (option_map unplaced_literal) (once_option unplaced_literal (λ l. refl)) a

once_constant : (c : ConstArg) → Once unplaced_constant c
once_constant (constant.Literal m l) = refl
once_constant (constant.Bool i) = refl
once_constant (constant.Block s) = ap (λ x. constant.Block x) (once_stream s)
once_constant (constant.Name i) = refl

-- ---- types

mutual
  pub once_type : (x : TypeTree) → Once unplaced_type x
  once_type (type_tree n s) = ap (λ y. type_tree y nowhere) (once_node n)

  once_node : (n : TypeNode) → Once unplaced_node n
  once_node (paren x) = ap paren (once_type x)
  once_node (tuple xs u) = ap (λ y. tuple y u) (once_types xs)
  once_node (slice x) = ap slice (once_type x)
  once_node (array x o) = ap₂ (λ y z. array y z) (once_type x) (once_opaque o)
  once_node (reference l b x) = ap₂ (λ y z. reference y b z) (once_option unplaced_lifetime (λ k. refl) l) (once_type x)
  once_node (pointer b x) = ap (λ y. pointer b y) (once_type x)
  once_node (bare_fn f) = ap bare_fn (once_fn f)
  once_node (trait_object bs u) = ap (λ y. trait_object y u) (once_bounds bs)
  once_node (impl_trait bs u) = ap (λ y. impl_trait y u) (once_bounds bs)
  once_node infer = refl
  once_node never = refl
  once_node (path q p) = ap₂ (λ y z. path y z) (once_self q) (once_path p)
  once_node (macro_type p d s) = ap₂ (λ y z. macro_type y d z) (once_plain p) (once_stream s)

  once_types : (xs : TypeTrees) → Once unplaced_types xs
  once_types no_types = refl
  once_types (type_then x xs) = ap₂ (λ y z. type_then y z) (once_type x) (once_types xs)

  once_maybe_type : (x : MaybeType) → Once unplaced_maybe_type x
  once_maybe_type no_type = refl
  once_maybe_type (some_type x) = ap some_type (once_type x)

  once_self : (q : MaybeSelf) → Once unplaced_self q
  once_self no_self = refl
  once_self (some_self x n) = ap (λ y. some_self y n) (once_type x)

  once_bound : (b : BoundTree) → Once unplaced_bound b
  once_bound (outlives l) = refl
  once_bound (implements b) = ap implements (once_trait b)

  once_bounds : (bs : BoundTrees) → Once unplaced_bounds bs
  once_bounds no_bounds = refl
  once_bounds (bound_then b bs) = ap₂ (λ y z. bound_then y z) (once_bound b) (once_bounds bs)

  once_trait : (b : TraitBoundTree) → Once unplaced_trait b
  once_trait (trait_bound in_parens maybe ls p) = ap₂ (λ y z. trait_bound in_parens maybe y z) (once_lifetimes ls) (once_path p)

  once_fn : (f : FnTree) → Once unplaced_fn f
  once_fn (fn_tree ls b abi is u out) =
      ap₂ (λ y z. fn_tree y b (unplaced_abi (unplaced_abi abi)) z u (unplaced_maybe_type (unplaced_maybe_type out))) (once_lifetimes ls)
      (once_inputs is) ∙
      ap₂ (λ y z. fn_tree (unplaced_lifetimes ls) b y (unplaced_inputs is) u z) (once_abi abi) (once_maybe_type out)

  once_input : (i : InputTree) → Once unplaced_input i
  once_input (input as' i x) =
      ap (λ y. input y (option_map unplaced_ident (option_map unplaced_ident i)) (unplaced_type (unplaced_type x)))
      (once_map unplaced_attribute once_attribute as') ∙
      ap₂ (λ y z. input (map unplaced_attribute as') y z) (once_option unplaced_ident (λ k. refl) i) (once_type x)

  once_inputs : (is : InputTrees) → Once unplaced_inputs is
  once_inputs no_inputs = refl
  once_inputs (input_then i is) = ap₂ (λ y z. input_then y z) (once_input i) (once_inputs is)

  once_path : (p : PathTree) → Once unplaced_path p
  once_path (path_tree b ss) = ap (λ y. path_tree b y) (once_segments ss)

  once_segments : (ss : SegmentTrees) → Once unplaced_segments ss
  once_segments no_segments = refl
  once_segments (segment_then s ss) = ap₂ (λ y z. segment_then y z) (once_segment s) (once_segments ss)

  once_segment : (s : SegmentTree) → Once unplaced_segment s
  once_segment (segment i gs) = ap (λ y. segment (unplaced_ident i) y) (once_arguments_of gs)

  once_arguments_of : (a : ArgumentsTree) → Once unplaced_arguments_of a
  once_arguments_of absent = refl
  once_arguments_of (angle b gs u) = ap (λ y. angle b y u) (once_arguments gs)
  once_arguments_of (parens xs u out) = ap₂ (λ y z. parens y u z) (once_types xs) (once_maybe_type out)

  once_argument : (g : ArgumentTree) → Once unplaced_argument g
  once_argument (lifetime_arg l) = refl
  once_argument (type_arg x) = ap type_arg (once_type x)
  once_argument (const_arg c) = ap const_arg (once_constant c)
  once_argument (assoc_type i gs x) = ap₂ (λ y z. assoc_type (unplaced_ident i) y z) (once_maybe_arguments gs) (once_type x)
  once_argument (assoc_const i gs c) = ap₂ (λ y z. assoc_const (unplaced_ident i) y z) (once_maybe_arguments gs) (once_constant c)
  once_argument (constraint i gs bs u) = ap₂ (λ y z. constraint (unplaced_ident i) y z u) (once_maybe_arguments gs) (once_bounds bs)

  once_arguments : (gs : ArgumentTrees) → Once unplaced_arguments gs
  once_arguments no_arguments = refl
  once_arguments (argument_then g gs) = ap₂ (λ y z. argument_then y z) (once_argument g) (once_arguments gs)

  once_maybe_arguments : (gs : MaybeArguments) → Once unplaced_maybe_arguments gs
  once_maybe_arguments arguments_absent = refl
  once_maybe_arguments (some_arguments gs u) = ap (λ y. some_arguments y u) (once_arguments gs)

-- ---- what is read is in the grammar, without its ranges

pub read_is_type : (x : TypeTree) (single : Bool) (w : Where) (ts others : Trees) (m : Marks) → type_spelled x single w ts others m →
    first_too_deep m ≡ None → IsType (unplaced_type x)
read_is_type x single w ts others m s h =
    record {
      unplaced = once_type x;
      spelled = record {
        like = x;
        same = sym (once_type x);
        single = single;
        place = w;
        trees = ts;
        others = others;
        marks = m;
        spelled = s;
        within = h;
      };
    }
