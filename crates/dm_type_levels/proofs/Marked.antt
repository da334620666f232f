-- The levels of types, parameters and predicates are those of the marks that the grammar gives their tokens: part by part.
use Rattle.std.proofs.Common.{◌≡◌, ℕ, zero, suc, ◌+◌, ◌==◌, Bool, true, false, cond, not, List, [], ◌∷◌, ◌++◌, map, take, drop, codes, Option, Some, None, refl, sym, ap, ◌∙◌, append_assoc, append-nil, arith}
use Rattle.std.proofs.lemmas.Bool.{ne_eqb}
use Rattle.std.proofs.lemmas.List.{map-append}
use Rattle.dm_stream.specs.declared.tokens.Span.{Span}
use Rattle.dm_stream.specs.declared.tokens.Delim.{Delim}
use Rattle.dm_stream.specs.declared.tokens.Ident.{Ident}
use Rattle.dm_stream.specs.declared.tokens.Lifetime.{Lifetime}
use Rattle.dm_stream.specs.declared.tokens.Literal.{Literal}
use Rattle.dm_stream.specs.declared.tokens.Token.TheVariants as t
use Rattle.dm_stream.specs.declared.seq.Punctuated.{Punctuated}
use Rattle.dm_stream.specs.Trees.{Trees, no_trees, token, group, Stream}
use Rattle.dm_ast.specs.declared.plain.Opaque.{Opaque}
use Rattle.dm_ast.specs.declared.plain.PlainPath.{PlainPath}
use Rattle.dm_ast.specs.declared.plain.AttrArgs.{AttrArgs}
use Rattle.dm_ast.specs.declared.plain.AttrArgs.TheVariants as args
use Rattle.dm_ast.specs.declared.plain.Attribute.{Attribute}
use Rattle.dm_ast.specs.declared.plain.ConstArg.{ConstArg}
use Rattle.dm_ast.specs.declared.plain.ConstArg.TheVariants as constant
use Rattle.dm_ast.specs.Tree.{Lifetimes, TypeTree, type_tree, TypeNode, paren, tuple, slice, array, reference, pointer, bare_fn, trait_object, impl_trait, infer, never, path, macro_type, TypeTrees, no_types, type_then, MaybeType, no_type, some_type, no_self, some_self, BoundTree, outlives, implements, BoundTrees, no_bounds, bound_then, TraitBoundTree, trait_bound, FnTree, fn_tree, InputTree, input, InputTrees, no_inputs, input_then, PathTree, path_tree, SegmentTree, segment, SegmentTrees, no_segments, segment_then, ArgumentsTree, absent, angle, parens, ArgumentTree, lifetime_arg, type_arg, const_arg, assoc_type, assoc_const, constraint, ArgumentTrees, no_arguments, argument_then, MaybeArguments, arguments_absent, some_arguments, bounds_of}
use Rattle.dm_ast.specs.Declarations.{Listed, ParamTree, lifetime_param, type_param, const_param, PredicateTree, lifetime_predicate, type_predicate}
use Rattle.dm_ast.specs.Spelling.{Where, deeper, Marks, Spelling, marks_of, Nothing, Facing, ◌then◌, Provided, Before, RangedAt, AllAt, TokenAt, PairAt, LoneAt, GroupAt, at_end, sees, sees_word, sees_lifetime, sees_literal, sees_colons, sees_colon, sees_equals, ident, lifetime, literal, punct, keyword, colons, colon, equals, flag, perhaps, repeated, chain, no_items, last_item, items_left, items}
use Rattle.dm_ast.specs.TypeGrammar.{plain_path, opaque, kept, attribute_args, attribute, attributes, for_lifetimes, constant_spelled, constant_argument, ends_bounds, type_spelled, node, types, types_left, output, function, input_spelled, inputs, inputs_left, bound, trait_bound_spelled, some_bounds, more_bounds, bounds, bounds_left, path_spelled, segments, segments_left, trait_segments, some_segments_left, segment_spelled, arguments_of_segment, arguments, arguments_left, argument, maybe_angled}
use Rattle.dm_ast.specs.DeclarationGrammar.{lifetime_bounds, bound_list, param, predicate}
use Rattle.dm_type_levels.specs.Passing.{given}
use Rattle.dm_type_levels.specs.TypeLevels.{trees_levels, grouped_levels, two, maybe_levels, spaced_levels, listed_levels, alone, plain_levels, lifetimes_levels, for_levels, const_levels, attr_args_levels, attribute_levels, attributes_levels, abi_levels, as_levels, bare_levels, type_levels, node_levels, each_type, each_bound, bound_levels, trait_bound_levels, fn_levels, each_input, input_levels, output_levels, path_levels, each_segment, segment_levels, arguments_levels, maybe_angle_levels, each_argument, argument_levels, maybe_bounds_levels, maybe_lifetimes_levels, default_type_levels, default_const_levels, param_levels, predicate_levels}

abbrev marked : Marks → List ℕ
marked m = map (λ k. k.0) m

-- wherever the part stands, its tokens have these levels
record Levels (S : Spelling) (ls : List ℕ) : Type 0 where
  are : (ts others : Trees) (m : Marks) → S ts others m → marked m ≡ ls

-- ---- parts

marked_append : (m n : Marks) → marked (m ++ n) ≡ marked m ++ marked n
marked_append m n = map-append (λ (k : ℕ × Span). k.0) m n

-- the same levels, put together in another way
levels_as : {S : Spelling} {ls ms : List ℕ} → ls ≡ ms → Levels S ls → Levels S ms
levels_as e h = record { are = λ ts others m s. h.are ts others m s ∙ e }

levels_then : {A B : Spelling} {ls ms : List ℕ} → Levels A ls → Levels B ms → Levels (A then B) (ls ++ ms)
levels_then {A} {B} {ls} {ms} f g =
    record {
      are = λ ts others m s.
          let x : marked s.first_marks ≡ ls = f.are ts s.middle s.first_marks s.first in
          let y : marked s.rest_marks ≡ ms = g.are s.middle others s.rest_marks s.rest in
          ap marked s.marks ∙ marked_append s.first_marks s.rest_marks ∙ ap (λ z. z ++ marked s.rest_marks) x ∙ ap (λ z. ls ++ z) y;
    }

levels_nothing : Levels Nothing []
levels_nothing = record { are = λ ts others m s. ap marked s.marks }

levels_facing : {F : Trees → Type 0} {A : Spelling} {ls : List ℕ} → Levels A ls → Levels (Facing F A) ls
levels_facing h = record { are = λ ts others m s. h.are ts others m s.part }

levels_before : {F : Trees → Type 0} {A : Spelling} {ls : List ℕ} → Levels A ls → Levels (Before F A) ls
levels_before h = record { are = λ ts others m s. h.are ts others m s.part }

levels_provided : {F : Type 0} {A : Spelling} {ls : List ℕ} → (F → Levels A ls) → Levels (Provided F A) ls
levels_provided h = record { are = λ ts others m s. (h s.fact).are ts others m s.part }

levels_ranged : {range : Span} {A : Spelling} {ls : List ℕ} → Levels A ls → Levels (RangedAt range A) ls
levels_ranged h = record { are = λ ts others m s. h.are ts others m s.part }

-- no part
levels_absent : {F : Trees → Type 0} → Levels (Before F Nothing) []
levels_absent = levels_before levels_nothing

-- a part that stands nowhere
levels_never : {A : Spelling} {ls : List ℕ} → Levels (Provided ⊥ A) ls
levels_never = levels_provided (λ e. absurd e)

levels_flag : (begins : Trees → Bool) (b : Bool) {A : Spelling} {ls : List ℕ} → Levels A ls → Levels (flag begins b A) (given b ls)
levels_flag begins true h = h
levels_flag begins false h = levels_absent

-- ---- tokens

levels_token : {w : Where} {k : t.the_data} → Levels (TokenAt w k) (w.level ∷ [])
levels_token = record { are = λ ts others m s. ap marked s.marks }

levels_punct : {w : Where} {c : ℕ} → Levels (punct w c) (w.level ∷ [])
levels_punct = record { are = λ ts others m s. ap marked s.there.marks }

levels_word : {w : Where} {word : List ℕ} → Levels (keyword w word) (w.level ∷ [])
levels_word = record { are = λ ts others m s. ap marked s.there.marks }

levels_pair : {w : Where} {a b : ℕ} → Levels (PairAt w a b) (two w.level)
levels_pair = record { are = λ ts others m s. ap marked s.marks }

levels_lone : {w : Where} {c : ℕ} {stops : List ℕ} → Levels (LoneAt w c stops) (w.level ∷ [])
levels_lone = record { are = λ ts others m s. ap marked s.there.marks }

levels_name : {w : Where} {i : Ident} {F : Type 0} → Levels (Provided F (ident w i)) (w.level ∷ [])
levels_name = levels_provided (λ _. levels_token)

-- ---- groups

-- the inside of a group that ends at `n`
abbrev within : Where → ℕ → Where
within w n = record { level = w.level + 1; limit = n }

levels_group : {w : Where} {d : Delim} {Inside : Where → Spelling} {ls : List ℕ} → ((n : ℕ) → Levels (Inside (within w n)) ls) →
    Levels (GroupAt w d Inside) (grouped_levels w.level ls)
levels_group {w} {d} {Inside} {ls} h =
    record {
      are = λ ts others m s.
          let x : marked s.inner_marks ≡ ls = (h s.closer.start).are s.inside no_trees s.inner_marks s.whole in
          let y = marked_append s.inner_marks ((w.level, s.closer) ∷ []) in
          ap marked s.marks ∙ ap (λ z. w.level ∷ z) (y ∙ ap (λ z. z ++ w.level ∷ []) x);
    }

levels_angles : {w : Where} {A : Spelling} {ls : List ℕ} → Levels A ls →
    Levels (punct w 60 then (A then punct w 62)) (grouped_levels w.level ls)
levels_angles h = levels_then levels_punct (levels_then h levels_punct)

-- ---- trees that are not read

marks_levels : (k : ℕ) (ts : Trees) → marked (marks_of k ts) ≡ trees_levels k ts
marks_levels k no_trees = refl
marks_levels k (token x rest) = ap (λ z. k ∷ z) (marks_levels k rest)
marks_levels k (group d from inside upto rest) =
    ap (λ z. k ∷ z)
    (marked_append (marks_of (k + 1) inside) ((k, upto) ∷ marks_of k rest) ∙
    ap (λ z. z ++ k ∷ marked (marks_of k rest)) (marks_levels (k + 1) inside) ∙
    ap (λ z. trees_levels (k + 1) inside ++ k ∷ z) (marks_levels k rest))

levels_all : {w : Where} {all : Trees} → Levels (AllAt w all) (trees_levels w.level all)
levels_all {w} {all} = record { are = λ ts others m s. ap marked s.marks ∙ marks_levels w.level all }

levels_opaque : {w : Where} (x : Opaque) → Levels (opaque w x) (trees_levels w.level x.tokens.trees)
levels_opaque x = levels_provided (λ _. levels_provided (λ _. levels_all))

levels_kept : {w : Where} {d : Delim} (x : Stream) →
    Levels (GroupAt w d (kept x)) (grouped_levels w.level (trees_levels (w.level + 1) x.trees))
levels_kept x = levels_group (λ n. levels_provided (λ _. levels_all))

-- ---- lists

-- the levels of a list behind its first item
abbrev Left : ℕ → List (List ℕ) → Bool → List ℕ
Left k xs u = spaced_levels (k ∷ []) false xs ++ given u (k ∷ [])

module _ (w : Where) (c : ℕ) (ends : Trees → Bool) where
  levels_last : (u : Bool) → Levels (last_item w c ends u) (Left w.level [] u)
  levels_last true = levels_then levels_punct levels_absent
  levels_last false = levels_absent

  levels_none : (u : Bool) → Levels (no_items w c ends u) (listed_levels w.level [] u)
  levels_none true = levels_provided (λ e. absurd (cc))
  levels_none false = levels_provided (λ _. levels_absent)

-- an item, and the others
levels_first : {A B : Spelling} {ls : List ℕ} (k : ℕ) (xs : List (List ℕ)) (u : Bool) → Levels A ls → Levels B (Left k xs u) →
    Levels (A then B) (listed_levels k (ls ∷ xs) u)
levels_first {ls = ls} k xs u f g = levels_as (sym (append_assoc ls (spaced_levels (k ∷ []) false xs) (given u (k ∷ [])))) (levels_then f g)

levels_next : {A B : Spelling} {w : Where} {c : ℕ} {ls : List ℕ} (xs : List (List ℕ)) (u : Bool) → Levels A ls →
    Levels B (Left w.level xs u) →
    Levels (punct w c then (A then B)) (Left w.level (ls ∷ xs) u)
levels_next {w = w} {ls = ls} xs u f g =
    levels_then levels_punct (levels_first w.level xs u f g)

-- items of one token each
module _ {A : Type 0} (w : Where) (c : ℕ) (ends : Trees → Bool) (item : A → Spelling) (one : (x : A) → Levels (item x) (w.level ∷ [])) where
  levels_alone_left : (xs : List A) (u : Bool) → Levels (items_left w c ends item xs u) (Left w.level (alone w.level xs) u)
  levels_alone_left [] u = levels_last w c ends u
  levels_alone_left (x ∷ xs) u = levels_next (alone w.level xs) u (one x) (levels_alone_left xs u)

  levels_alone : (xs : List A) (u : Bool) → Levels (items w c ends item xs u) (listed_levels w.level (alone w.level xs) u)
  levels_alone [] u = levels_none w c ends u
  levels_alone (x ∷ xs) u = levels_first w.level (alone w.level xs) u (one x) (levels_alone_left xs u)

levels_lifetimes : (w : Where) (c : ℕ) (ends : Trees → Bool) (ls : Punctuated Lifetime) →
    Levels (items w c ends (lifetime w) ls.items ls.trailing) (lifetimes_levels w.level ls)
levels_lifetimes w c ends ls = levels_alone w c ends (lifetime w) (λ _. levels_token) ls.items ls.trailing

-- ---- the parts that hold no types

levels_repeated : (w : Where) (xs : List Ident) →
    Levels (repeated sees_colons (λ y. colons w then ident w y) xs) (spaced_levels (two w.level) false (alone w.level xs))
levels_repeated w [] = levels_absent
levels_repeated w (x ∷ xs) = levels_then (levels_then levels_pair levels_token) (levels_repeated w xs)

levels_chain : (w : Where) (xs : List Ident) →
    Levels (chain (colons w) sees_colons (ident w) xs) (spaced_levels (two w.level) true (alone w.level xs))
levels_chain w [] = levels_never
levels_chain w (x ∷ xs) = levels_then levels_token (levels_repeated w xs)

levels_plain : (w : Where) (p : PlainPath) → Levels (plain_path w p) (plain_levels w.level p)
levels_plain w p = levels_then (levels_flag sees_colons p.leading_colon levels_pair) (levels_chain w p.segments)

levels_attribute_args : (w : Where) (x : AttrArgs) → Levels (attribute_args w x) (attr_args_levels w.level x)
levels_attribute_args w args.Absent = levels_absent
levels_attribute_args w (args.List d x) = levels_kept x
levels_attribute_args w (args.Value x) = levels_then levels_lone (levels_opaque x)

levels_attribute : (w : Where) (a : Attribute) → Levels (attribute w a) (attribute_levels w.level a)
levels_attribute w a =
    levels_ranged
    (levels_then levels_punct (levels_group (λ n. levels_then (levels_plain (within w n) a.path) (levels_attribute_args (within w n) a.args))))

levels_attributes : (w : Where) (xs : List Attribute) → Levels (attributes w xs) (attributes_levels w.level xs)
levels_attributes w [] = levels_absent
levels_attributes w (a ∷ xs) = levels_then (levels_attribute w a) (levels_attributes w xs)

levels_for : (w : Where) (ls : Lifetimes) → Levels (for_lifetimes w ls) (for_levels w.level ls)
levels_for w None = levels_absent
levels_for w (Some ls) = levels_then levels_word (levels_angles (levels_lifetimes (deeper w) 44 (sees 62) ls))

levels_constant : (w : Where) (x : ConstArg) → Levels (constant_spelled w x) (const_levels w.level x)
levels_constant w (constant.Literal minus l) = levels_then (levels_flag (sees 45) minus levels_punct) levels_token
levels_constant w (constant.Bool i) = levels_name
levels_constant w (constant.Block x) = levels_kept x
levels_constant w (constant.Name i) = levels_name

levels_constant_argument : (w : Where) (x : ConstArg) → Levels (constant_argument x w) (const_levels w.level x)
levels_constant_argument w x = levels_facing (levels_provided (λ _. levels_constant w x))

levels_maybe_lifetime : (w : Where) (l : Option Lifetime) → Levels (perhaps sees_lifetime l (lifetime w)) (maybe_levels w.level l)
levels_maybe_lifetime w None = levels_absent
levels_maybe_lifetime w (Some l) = levels_token

levels_called : (w : Where) (l : Option Literal) → Levels (perhaps sees_literal l (literal w)) (maybe_levels w.level l)
levels_called w None = levels_absent
levels_called w (Some l) = levels_token

levels_abi : (w : Where) (abi : Option (Option Literal)) →
    Levels (perhaps (sees_word (codes "extern")) abi (λ called. keyword w (codes "extern") then perhaps sees_literal called (literal w)))
    (abi_levels w.level abi)
levels_abi w None = levels_absent
levels_abi w (Some l) = levels_then levels_word (levels_called w l)

-- a trait as a bound, before its path
levels_bare : (w : Where) (maybe : Bool) (ls : Lifetimes) {A : Spelling} {ms : List ℕ} → Levels A ms →
    Levels (flag (sees 63) maybe (punct w 63) then (for_lifetimes w ls then A)) (bare_levels w.level maybe ls ms)
levels_bare w maybe ls h = levels_then (levels_flag (sees 63) maybe levels_punct) (levels_then (levels_for w ls) h)

-- ---- qualified paths: the segments of the trait, `>`, and the others

-- the first segments have the levels `inner`, the others `outer`
abbrev Cut : ℕ → ℕ → List (List ℕ) → List (List ℕ) → List ℕ
Cut k n inner outer =
    spaced_levels (two (k + 1)) true (take (suc n) inner) ++ k ∷ spaced_levels (two k) false (drop (suc n) outer)

suc_apart : (n : ℕ) → (suc n == 0) ≡ false
suc_apart n = ne_eqb (suc n) 0 (λ e. omega (arith, e))

behind_as : (k n : ℕ) (b : Bool) (inner outer : List (List ℕ)) →
    (k + 1) ∷ (given b (two (k + 1)) ++ Cut k n inner outer) ≡
    as_levels (k + 1) (suc n) b inner ++ k ∷ spaced_levels (two k) false (drop (suc n) outer)
behind_as k n b inner outer =
    let front : List ℕ = given b (two (k + 1)) in
    let first : List ℕ = spaced_levels (two (k + 1)) true (take (suc n) inner) in
    let behind : List ℕ = k ∷ spaced_levels (two k) false (drop (suc n) outer) in
    ap (λ z. (k + 1) ∷ z) (sym (append_assoc front first behind)) ∙
    ap (λ z. cond z [] ((k + 1) ∷ (front ++ first)) ++ behind) (sym (suc_apart n))

cut_last : (k : ℕ) (x y : List ℕ) (inner outer : List (List ℕ)) →
    x ++ k ∷ spaced_levels (two k) false outer ≡ Cut k zero (x ∷ inner) (y ∷ outer)
cut_last k x y inner outer = ap (λ z. z ++ k ∷ spaced_levels (two k) false outer) (sym (append-nil x))

cut_next : (k n : ℕ) (x y z : List ℕ) (inner outer : List (List ℕ)) →
    x ++ (k + 1) ∷ (k + 1) ∷ Cut k n (y ∷ inner) outer ≡ Cut k (suc n) (x ∷ y ∷ inner) (z ∷ outer)
cut_next k n x y z inner outer =
    let first : List ℕ = spaced_levels (two (k + 1)) true (take (suc n) (y ∷ inner)) in
    sym (append_assoc x ((k + 1) ∷ (k + 1) ∷ first) (k ∷ spaced_levels (two k) false (drop (suc n) outer)))

-- where a trait has to stand, there are segments
no_trait : (n : ℕ) (w : Where) (ts others : Trees) (m : Marks) → trait_segments n no_segments w ts others m → ⊥
no_trait zero w ts others m s = s.fact
no_trait (suc n) w ts others m s = s.fact

-- ---- types

mutual
  levels_type : (x : TypeTree) (single : Bool) (w : Where) → Levels (type_spelled x single w) (type_levels w.level x)
  levels_type (type_tree n range) single w = levels_ranged (levels_facing (levels_node n single w))

  levels_node : (n : TypeNode) (single : Bool) (w : Where) → Levels (node n single w) (node_levels w.level n)
  levels_node (paren x) single w = levels_group (λ n. levels_type x false (within w n))
  levels_node (tuple xs u) single w = levels_provided (λ _. levels_group (λ n. levels_types xs u (within w n)))
  levels_node (slice x) single w = levels_group (λ n. levels_type x false (within w n))
  levels_node (array x size) single w =
      levels_group (λ n. levels_then (levels_type x false (within w n)) (levels_then levels_punct (levels_opaque size)))
  levels_node (reference l is_mut x) single w =
      levels_then levels_punct
      (levels_then (levels_maybe_lifetime (deeper w) l)
      (levels_then (levels_flag (sees_word (codes "mut")) is_mut levels_word) (levels_type x true (deeper w))))
  levels_node (pointer true x) single w = levels_then levels_punct (levels_then levels_word (levels_type x true (deeper w)))
  levels_node (pointer false x) single w = levels_then levels_punct (levels_then levels_word (levels_type x true (deeper w)))
  levels_node (bare_fn f) single w = levels_function f w
  levels_node (trait_object bs u) single w = levels_provided (λ e. levels_then levels_word (levels_some_bounds bs single u (deeper w) e))
  levels_node (impl_trait bs u) single w = levels_provided (λ e. levels_then levels_word (levels_some_bounds bs single u (deeper w) e))
  levels_node infer single w = levels_word
  levels_node never single w = levels_punct
  levels_node (path no_self p) single w = levels_path p w
  levels_node (path (some_self x zero) (path_tree b ss)) single w =
      levels_then levels_punct
      (levels_then (levels_type x false (deeper w)) (levels_provided (λ _. levels_then levels_punct (levels_some_left ss w))))
  levels_node (path (some_self x (suc n)) (path_tree b ss)) single w =
      levels_then levels_punct
      (levels_then (levels_type x false (deeper w))
      (levels_as (behind_as w.level n b (each_segment (w.level + 1) ss) (each_segment w.level ss))
      (levels_then levels_word (levels_then (levels_flag sees_colons b levels_pair) (levels_trait_segments ss n w)))))
  levels_node (macro_type p d x) single w = levels_then (levels_plain w p) (levels_then levels_punct (levels_kept x))

  -- ---- lists of types

  levels_types : (xs : TypeTrees) (u : Bool) (w : Where) → Levels (types xs u w) (listed_levels w.level (each_type w.level xs) u)
  levels_types no_types u w = levels_none w 44 at_end u
  levels_types (type_then x xs) u w = levels_first w.level (each_type w.level xs) u (levels_type x false w) (levels_types_left xs u w)

  levels_types_left : (xs : TypeTrees) (u : Bool) (w : Where) → Levels (types_left xs u w) (Left w.level (each_type w.level xs) u)
  levels_types_left no_types u w = levels_last w 44 at_end u
  levels_types_left (type_then x xs) u w = levels_next (each_type w.level xs) u (levels_type x false w) (levels_types_left xs u w)

  levels_output : (x : MaybeType) (w inner : Where) → Levels (output x w inner) (output_levels w.level inner.level x)
  levels_output no_type w inner = levels_absent
  levels_output (some_type x) w inner = levels_then levels_pair (levels_type x true inner)

  levels_function : (f : FnTree) (w : Where) → Levels (function f w) (fn_levels w.level f)
  levels_function (fn_tree ls is_unsafe abi xs u out) w =
      levels_then (levels_for w ls)
      (levels_then (levels_flag (sees_word (codes "unsafe")) is_unsafe levels_word)
      (levels_then (levels_abi w abi)
      (levels_then levels_word
      (levels_then (levels_group (λ n. levels_inputs xs u (within (deeper w) n))) (levels_output out (deeper w) (deeper w))))))

  levels_input : (x : InputTree) (w : Where) → Levels (input_spelled x w) (input_levels w.level x)
  levels_input (input as' None x) w = levels_then (levels_attributes w as') (levels_facing (levels_type x false w))
  levels_input (input as' (Some i) x) w =
      levels_then (levels_attributes w as') (levels_then levels_name (levels_then levels_lone (levels_type x false w)))

  levels_inputs : (xs : InputTrees) (u : Bool) (w : Where) → Levels (inputs xs u w) (listed_levels w.level (each_input w.level xs) u)
  levels_inputs no_inputs u w = levels_none w 44 at_end u
  levels_inputs (input_then x xs) u w = levels_first w.level (each_input w.level xs) u (levels_input x w) (levels_inputs_left xs u w)

  levels_inputs_left : (xs : InputTrees) (u : Bool) (w : Where) → Levels (inputs_left xs u w) (Left w.level (each_input w.level xs) u)
  levels_inputs_left no_inputs u w = levels_last w 44 at_end u
  levels_inputs_left (input_then x xs) u w = levels_next (each_input w.level xs) u (levels_input x w) (levels_inputs_left xs u w)

  -- ---- bounds

  levels_bound : (b : BoundTree) (w : Where) → Levels (bound b w) (bound_levels w.level b)
  levels_bound (outlives l) w = levels_token
  levels_bound (implements b) w = levels_trait b w

  levels_trait : (b : TraitBoundTree) (w : Where) → Levels (trait_bound_spelled b w) (trait_bound_levels w.level b)
  levels_trait (trait_bound true maybe ls p) w = levels_group (λ n. levels_bare (within w n) maybe ls (levels_path p (within w n)))
  levels_trait (trait_bound false maybe ls p) w = levels_bare w maybe ls (levels_path p w)

  levels_some_bounds : (bs : BoundTrees) (single u : Bool) (w : Where) → u ≡ false →
      Levels (some_bounds bs single w) (listed_levels w.level (each_bound w.level bs) u)
  levels_some_bounds no_bounds single u w e = levels_never
  levels_some_bounds (bound_then b bs) single u w e =
      levels_first w.level (each_bound w.level bs) u (levels_bound b w) (levels_more_bounds bs single u w e)

  levels_more_bounds : (bs : BoundTrees) (single u : Bool) (w : Where) → u ≡ false →
      Levels (more_bounds bs single w) (Left w.level (each_bound w.level bs) u)
  levels_more_bounds no_bounds single true w e = absurd (cc)
  levels_more_bounds no_bounds single false w e = levels_absent
  levels_more_bounds (bound_then b bs) single u w e =
      levels_provided (λ _. levels_next (each_bound w.level bs) u (levels_bound b w) (levels_more_bounds bs single u w e))

  levels_bounds : (bs : BoundTrees) (u : Bool) (w : Where) → Levels (bounds bs u w) (listed_levels w.level (each_bound w.level bs) u)
  levels_bounds no_bounds u w = levels_none w 43 ends_bounds u
  levels_bounds (bound_then b bs) u w = levels_first w.level (each_bound w.level bs) u (levels_bound b w) (levels_bounds_left bs u w)

  levels_bounds_left : (bs : BoundTrees) (u : Bool) (w : Where) → Levels (bounds_left bs u w) (Left w.level (each_bound w.level bs) u)
  levels_bounds_left no_bounds u w = levels_last w 43 ends_bounds u
  levels_bounds_left (bound_then b bs) u w = levels_next (each_bound w.level bs) u (levels_bound b w) (levels_bounds_left bs u w)

  -- ---- paths

  levels_path : (p : PathTree) (w : Where) → Levels (path_spelled p w) (path_levels w.level p)
  levels_path (path_tree b ss) w = levels_then (levels_flag sees_colons b levels_pair) (levels_segments ss w)

  levels_segments : (ss : SegmentTrees) (w : Where) → Levels (segments ss w) (spaced_levels (two w.level) true (each_segment w.level ss))
  levels_segments no_segments w = levels_never
  levels_segments (segment_then x ss) w = levels_then (levels_segment x w) (levels_segments_left ss w)

  levels_segments_left : (ss : SegmentTrees) (w : Where) →
      Levels (segments_left ss w) (spaced_levels (two w.level) false (each_segment w.level ss))
  levels_segments_left no_segments w = levels_absent
  levels_segments_left (segment_then x ss) w = levels_then levels_pair (levels_then (levels_segment x w) (levels_segments_left ss w))

  levels_some_left : (ss : SegmentTrees) (w : Where) →
      Levels (some_segments_left ss w) (spaced_levels (two w.level) false (each_segment w.level ss))
  levels_some_left no_segments w = levels_never
  levels_some_left (segment_then x ss) w = levels_then levels_pair (levels_then (levels_segment x w) (levels_segments_left ss w))

  levels_trait_segments : (ss : SegmentTrees) (n : ℕ) (w : Where) →
      Levels (trait_segments n ss w) (Cut w.level n (each_segment (w.level + 1) ss) (each_segment w.level ss))
  levels_trait_segments no_segments n w = record { are = λ ts others m s. absurd (no_trait n w ts others m s) }
  levels_trait_segments (segment_then x ss) zero w =
      levels_as
      (cut_last w.level (segment_levels (w.level + 1) x) (segment_levels w.level x) (each_segment (w.level + 1) ss) (each_segment w.level ss))
      (levels_then (levels_segment x (deeper w)) (levels_then levels_punct (levels_some_left ss w)))
  levels_trait_segments (segment_then x no_segments) (suc n) w =
      record { are = λ ts others m s. absurd (no_trait n w s.rest.middle others s.rest.rest_marks s.rest.rest) }
  levels_trait_segments (segment_then x (segment_then y ss)) (suc n) w =
      levels_as
      (cut_next w.level n (segment_levels (w.level + 1) x) (segment_levels (w.level + 1) y) (segment_levels w.level x) (each_segment (w.level + 1) ss)
      (each_segment w.level (segment_then y ss)))
      (levels_then (levels_segment x (deeper w)) (levels_then levels_pair (levels_trait_segments (segment_then y ss) n w)))

  levels_segment : (x : SegmentTree) (w : Where) → Levels (segment_spelled x w) (segment_levels w.level x)
  levels_segment (segment i gs) w = levels_then levels_name (levels_arguments_of gs w)

  -- ---- generic arguments

  levels_arguments_of : (gs : ArgumentsTree) (w : Where) → Levels (arguments_of_segment gs w) (arguments_levels w.level gs)
  levels_arguments_of absent w = levels_absent
  levels_arguments_of (angle double gs u) w =
      levels_then (levels_flag sees_colons double levels_pair) (levels_angles (levels_arguments gs u (deeper w)))
  levels_arguments_of (parens xs u out) w =
      levels_then (levels_group (λ n. levels_types xs u (within w n))) (levels_output out w (deeper w))

  levels_arguments : (gs : ArgumentTrees) (u : Bool) (w : Where) →
      Levels (arguments gs u w) (listed_levels w.level (each_argument w.level gs) u)
  levels_arguments no_arguments u w = levels_none w 44 (sees 62) u
  levels_arguments (argument_then g gs) u w =
      levels_first w.level (each_argument w.level gs) u (levels_argument g w) (levels_arguments_left gs u w)

  levels_arguments_left : (gs : ArgumentTrees) (u : Bool) (w : Where) →
      Levels (arguments_left gs u w) (Left w.level (each_argument w.level gs) u)
  levels_arguments_left no_arguments u w = levels_last w 44 (sees 62) u
  levels_arguments_left (argument_then g gs) u w =
      levels_next (each_argument w.level gs) u (levels_argument g w) (levels_arguments_left gs u w)

  levels_maybe_angled : (gs : MaybeArguments) (w : Where) → Levels (maybe_angled gs w) (maybe_angle_levels w.level gs)
  levels_maybe_angled arguments_absent w = levels_nothing
  levels_maybe_angled (some_arguments gs u) w = levels_angles (levels_arguments gs u (deeper w))

  levels_argument : (g : ArgumentTree) (w : Where) → Levels (argument g w) (argument_levels w.level g)
  levels_argument (lifetime_arg l) w = levels_token
  levels_argument (type_arg x) w = levels_before (levels_type x false w)
  levels_argument (const_arg x) w = levels_constant_argument w x
  levels_argument (assoc_type i gs x) w =
      levels_then levels_name (levels_then (levels_maybe_angled gs w) (levels_then levels_lone (levels_type x false w)))
  levels_argument (assoc_const i gs x) w =
      levels_then levels_name (levels_then (levels_maybe_angled gs w) (levels_then levels_lone (levels_constant_argument w x)))
  levels_argument (constraint i gs bs u) w =
      levels_then levels_name (levels_then (levels_maybe_angled gs w) (levels_then levels_lone (levels_bounds bs u w)))

pub levels_are_marks : (x : TypeTree) (single : Bool) (w : Where) (ts others : Trees) (m : Marks) → type_spelled x single w ts others m →
    map (λ k. k.0) m ≡ type_levels w.level x
levels_are_marks x single w = (levels_type x single w).are

-- ---- parameters and predicates

levels_maybe_lifetimes : (w : Where) (ls : Lifetimes) →
    Levels (perhaps sees_colon ls (λ x. colon w then lifetime_bounds w x)) (maybe_lifetimes_levels w.level ls)
levels_maybe_lifetimes w None = levels_absent
levels_maybe_lifetimes w (Some ls) = levels_then levels_lone (levels_lifetimes w 43 (λ ts. not (sees_lifetime ts)) ls)

levels_maybe_bounds : (w : Where) (bs : Option (Listed BoundTree)) →
    Levels (perhaps sees_colon bs (λ b. colon w then bound_list w b)) (maybe_bounds_levels w.level bs)
levels_maybe_bounds w None = levels_absent
levels_maybe_bounds w (Some bs) = levels_then levels_lone (levels_bounds (bounds_of bs.items) bs.trailing w)

levels_default_type : (w : Where) (x : Option TypeTree) →
    Levels (perhaps sees_equals x (λ y. equals w then type_spelled y false w)) (default_type_levels w.level x)
levels_default_type w None = levels_absent
levels_default_type w (Some x) = levels_then levels_lone (levels_type x false w)

levels_default_const : (w : Where) (x : Option ConstArg) →
    Levels (perhaps sees_equals x (λ y. equals w then constant_spelled w y)) (default_const_levels w.level x)
levels_default_const w None = levels_absent
levels_default_const w (Some x) = levels_then levels_lone (levels_constant w x)

levels_param : (x : ParamTree) (w : Where) → Levels (param x w) (param_levels w.level x)
levels_param (lifetime_param as' l ls) w = levels_then (levels_attributes w as') (levels_then levels_token (levels_maybe_lifetimes w ls))
levels_param (type_param as' i bs default) w =
    levels_then (levels_attributes w as') (levels_then levels_name (levels_then (levels_maybe_bounds w bs) (levels_default_type w default)))
levels_param (const_param as' i x default) w =
    levels_then (levels_attributes w as')
    (levels_then levels_word
    (levels_then levels_name (levels_then levels_lone (levels_then (levels_type x false w) (levels_default_const w default)))))

levels_predicate : (x : PredicateTree) (w : Where) → Levels (predicate x w) (predicate_levels w.level x)
levels_predicate (lifetime_predicate l ls) w = levels_then levels_token (levels_maybe_lifetimes w (Some ls))
levels_predicate (type_predicate ls x bs) w =
    levels_then (levels_for w ls) (levels_then (levels_type x false w) (levels_maybe_bounds w (Some bs)))

pub param_levels_are_marks : (x : ParamTree) (w : Where) (ts others : Trees) (m : Marks) → param x w ts others m →
    map (λ k. k.0) m ≡ param_levels w.level x
param_levels_are_marks x w = (levels_param x w).are

pub predicate_levels_are_marks : (x : PredicateTree) (w : Where) (ts others : Trees) (m : Marks) → predicate x w ts others m →
    map (λ k. k.0) m ≡ predicate_levels w.level x
predicate_levels_are_marks x w = (levels_predicate x w).are
