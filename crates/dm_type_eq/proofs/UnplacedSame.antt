-- Types that are equal without the places of their tokens are the same part for part, and types with the same tokens
-- are spelled by equal trees without their places.
use Rattle.std.proofs.Common.{◌≡◌, ℕ, ◌+◌, Bool, true, false, ◌&&◌, nat_eq, List, [], ◌∷◌, ◌++◌, length, map, Option, Some, None, refl, sym, ap, ap₂, ◌∙◌, append_assoc, append-nil, option_map}
use Rattle.std.proofs.lemmas.Bool.Decides.{Decides-eqb}
use Rattle.std.proofs.lemmas.List.{map-append, length-map}
use Rattle.std.proofs.lemmas.Slice.Eq.{bytes_eq-Decides}
use Rattle.std.specs.Str.{bytes_eq}
use Rattle.dm_stream.specs.declared.tokens.Delim.{Delim}
use Rattle.dm_stream.specs.declared.tokens.Delim.TheVariants.{Paren, Bracket, Brace}
use Rattle.dm_stream.specs.declared.tokens.Ident.{Ident}
use Rattle.dm_stream.specs.declared.tokens.Lifetime.{Lifetime}
use Rattle.dm_stream.specs.declared.tokens.Literal.{Literal}
use Rattle.dm_stream.specs.declared.tokens.Spacing.{Spacing}
use Rattle.dm_stream.specs.declared.tokens.Spacing.TheVariants.{Joint, Alone}
use Rattle.dm_stream.specs.declared.tokens.Token.{Token}
use Rattle.dm_stream.specs.declared.tokens.Token.TheVariants as t
use Rattle.dm_stream.specs.declared.tokens.Entry.{Entry}
use Rattle.dm_stream.specs.declared.tokens.Entry.TheVariants as entry
use Rattle.dm_stream.specs.Layout.{nowhere}
use Rattle.dm_stream.specs.Trees.{Trees, no_trees, token, group, join, flatten, Stream, join-no_trees}
use Rattle.dm_stream.specs.Cursors.{same_delim}
use Rattle.dm_ast.specs.declared.plain.PlainPath.{PlainPath}
use Rattle.dm_ast.specs.declared.plain.AttrArgs.{AttrArgs}
use Rattle.dm_ast.specs.declared.plain.AttrArgs.TheVariants as args
use Rattle.dm_ast.specs.declared.plain.Attribute.{Attribute}
use Rattle.dm_ast.specs.declared.plain.ConstArg.{ConstArg}
use Rattle.dm_ast.specs.declared.plain.ConstArg.TheVariants as constant
use Rattle.dm_ast.specs.Tree.{Lifetimes, TypeTree, type_tree, TypeNode, paren, tuple, slice, array, reference, pointer, bare_fn, trait_object, impl_trait, infer, never, path, macro_type, TypeTrees, no_types, type_then, MaybeType, no_type, some_type, MaybeSelf, no_self, some_self, BoundTree, outlives, implements, BoundTrees, no_bounds, bound_then, TraitBoundTree, trait_bound, FnTree, fn_tree, InputTree, input, InputTrees, no_inputs, input_then, PathTree, path_tree, SegmentTree, segment, SegmentTrees, no_segments, segment_then, ArgumentsTree, absent, angle, parens, ArgumentTree, lifetime_arg, type_arg, const_arg, assoc_type, assoc_const, constraint, ArgumentTrees, no_arguments, argument_then, MaybeArguments, arguments_absent, some_arguments}
use Rattle.dm_ast.specs.TypeTokens.{type_trees}
use Rattle.dm_type_eq.specs.BareTokens.{Bare, bare_name, bare_lifetime, bare_literal, bare_punct, opening, closing, bare, tokens_of}
use Rattle.dm_same.specs.SameTypes.{same_flag, same_option, all_same, same_list, same_name, same_lifetime, kind_number, same_literal, same_spacing, same_token, same_entry, same_stream, same_lifetimes, same_plain, same_args, same_attribute, same_constant, same_abi, same_type, same_node, same_types, same_maybe_type, same_self, same_bound, same_bounds, same_trait_bound, same_fn, same_input, same_inputs, same_path, same_segments, same_segment, same_arguments_of, same_argument, same_arguments, same_maybe_arguments}
use Rattle.dm_lexer.specs.Written.{unplaced, unplaced_token}
use Rattle.dm_type_eq.specs.Unplaced.{unplaced_abi, unplaced_args, unplaced_argument, unplaced_arguments, unplaced_arguments_of, unplaced_attribute, unplaced_bound, unplaced_bounds, unplaced_constant, unplaced_fn, unplaced_ident, unplaced_input, unplaced_inputs, unplaced_lifetime, unplaced_lifetimes, unplaced_literal, unplaced_maybe_arguments, unplaced_maybe_type, unplaced_node, unplaced_path, unplaced_plain, unplaced_segment, unplaced_segments, unplaced_self, unplaced_stream, unplaced_trait, unplaced_type, unplaced_types}
use Rattle.dm_type_eq.proofs.BareTypeTokens.{type-bare}

both : {a b c d : Bool} → a ≡ c → b ≡ d → (a && b) ≡ (c && d)
both e f = ap₂ (λ x y. x && y) e f

-- ---- the second without its places

option_again : {A B : Type 0} (same : A → B → Bool) (f : B → B) → ((a : A) (b : B) → same a (f b) ≡ same a b) → (a : Option A) (b : Option B) →
    same_option same a (option_map f b) ≡ same_option same a b
option_again same f h None None = refl
option_again same f h None (Some b) = refl
option_again same f h (Some a) None = refl
option_again same f h (Some a) (Some b) = h a b

list_again : {A B : Type 0} (same : A → B → Bool) (f : B → B) → ((a : A) (b : B) → same a (f b) ≡ same a b) → (xs : List A) (ys : List B) →
    all_same same xs (map f ys) ≡ all_same same xs ys
list_again same f h [] [] = refl
list_again same f h [] (y ∷ ys) = refl
list_again same f h (x ∷ xs) [] = refl
list_again same f h (x ∷ xs) (y ∷ ys) = both (h x y) (list_again same f h xs ys)

abbrev unplaced_entry : Entry → Entry
unplaced_entry (entry.Token k) = entry.Token (unplaced_token k)
unplaced_entry (entry.Open d from n) = entry.Open d nowhere n
unplaced_entry (entry.Close d upto) = entry.Close d nowhere

flat_unplaced : (ts : Trees) → flatten (unplaced ts) ≡ map unplaced_entry (flatten ts)
flat_unplaced no_trees = refl
flat_unplaced (token k rest) = ap (λ l. entry.Token (unplaced_token k) ∷ l) (flat_unplaced rest)
flat_unplaced (group d from inside upto rest) =
    ap₂ (λ x y. entry.Open d nowhere (length x + 1) ∷ (x ++ entry.Close d nowhere ∷ y)) (flat_unplaced inside) (flat_unplaced rest) ∙
    ap₂ (λ n l. entry.Open d nowhere (n + 1) ∷ l) (length-map (flatten inside) unplaced_entry)
    (sym (map-append unplaced_entry (flatten inside) (entry.Close d upto ∷ flatten rest)))

token_again : (k l : Token) → same_token k (unplaced_token l) ≡ same_token k l
token_again (t.Ident i) (t.Ident j) = refl
token_again (t.Lifetime l) (t.Lifetime k) = refl
token_again (t.Literal l) (t.Literal k) = refl
token_again (t.Punct p) (t.Punct q) = refl
token_again _ _ = refl

entry_again : (e f : Entry) → same_entry e (unplaced_entry f) ≡ same_entry e f
entry_again (entry.Token k) (entry.Token l) = token_again k l
entry_again (entry.Open d from n) (entry.Open e upto m) = refl
entry_again (entry.Close d from) (entry.Close e upto) = refl
entry_again _ _ = refl

stream_again : (s u : Stream) → same_stream s (unplaced_stream u) ≡ same_stream s u
stream_again s u =
    ap (λ l. all_same same_entry (flatten s.trees) l) (flat_unplaced u.trees) ∙
    list_again same_entry unplaced_entry entry_again (flatten s.trees) (flatten u.trees)

args_again : (a b : AttrArgs) → same_args a (unplaced_args b) ≡ same_args a b
args_again (args.List d s) (args.List e u) = both refl (stream_again s u)
args_again (args.Value o) (args.Value p) = stream_again o.tokens p.tokens
args_again args.Absent args.Absent = refl
args_again _ _ = refl

plain_again : (p q : PlainPath) → same_plain p (unplaced_plain q) ≡ same_plain p q
plain_again p q = both refl (list_again same_name unplaced_ident (λ i j. refl) p.segments q.segments)

attribute_again : (a b : Attribute) → same_attribute a (unplaced_attribute b) ≡ same_attribute a b
attribute_again a b = both (plain_again a.path b.path) (args_again a.args b.args)

lifetimes_again : (a b : Lifetimes) → same_lifetimes a (unplaced_lifetimes b) ≡ same_lifetimes a b
lifetimes_again (Some ls) (Some ks) = both (list_again same_lifetime unplaced_lifetime (λ l k. refl) ls.items ks.items) refl
lifetimes_again None None = refl
lifetimes_again _ _ = refl

abi_again : (a b : Option (Option Literal)) → same_abi a (unplaced_abi b) ≡ same_abi a b
abi_again a b =
    option_again (same_option same_literal) (option_map unplaced_literal) (option_again same_literal unplaced_literal (λ l k. refl)) a b

constant_again : (a b : ConstArg) → same_constant a (unplaced_constant b) ≡ same_constant a b
constant_again (constant.Block s) (constant.Block u) = stream_again s u
constant_again (constant.Literal m l) (constant.Literal n k) = refl
constant_again (constant.Bool i) (constant.Bool j) = refl
constant_again (constant.Name i) (constant.Name j) = refl
constant_again _ _ = refl

mutual
  same_again : (a b : TypeTree) → same_type a (unplaced_type b) ≡ same_type a b
  same_again (type_tree n s) (type_tree k r) = node_again n k

  node_again : (n k : TypeNode) → same_node n (unplaced_node k) ≡ same_node n k
  node_again (paren x) (paren y) = same_again x y
  node_again (tuple xs a) (tuple ys b) = both (types_again xs ys) refl
  node_again (slice x) (slice y) = same_again x y
  node_again (array x o) (array y p) = both (same_again x y) (stream_again o.tokens p.tokens)
  node_again (reference l m x) (reference k n y) = both (both (option_again same_lifetime unplaced_lifetime (λ _ _. refl) l k) refl) (same_again x y)
  node_again (pointer m x) (pointer n y) = both refl (same_again x y)
  node_again (bare_fn f) (bare_fn g) = fn_again f g
  node_again (trait_object bs a) (trait_object cs b) = both (bounds_again bs cs) refl
  node_again (impl_trait bs a) (impl_trait cs b) = both (bounds_again bs cs) refl
  node_again (path q p) (path w o) = both (self_again q w) (path_again p o)
  node_again (macro_type p d s) (macro_type o e u) = both (both (plain_again p o) refl) (stream_again s u)
  node_again infer infer = refl
  node_again never never = refl
  node_again _ _ = refl

  types_again : (xs ys : TypeTrees) → same_types xs (unplaced_types ys) ≡ same_types xs ys
  types_again (type_then x xs) (type_then y ys) = both (same_again x y) (types_again xs ys)
  types_again no_types no_types = refl
  types_again _ _ = refl

  maybe_type_again : (a b : MaybeType) → same_maybe_type a (unplaced_maybe_type b) ≡ same_maybe_type a b
  maybe_type_again (some_type x) (some_type y) = same_again x y
  maybe_type_again no_type no_type = refl
  maybe_type_again _ _ = refl

  self_again : (q w : MaybeSelf) → same_self q (unplaced_self w) ≡ same_self q w
  self_again (some_self x n) (some_self y k) = both (same_again x y) refl
  self_again no_self no_self = refl
  self_again _ _ = refl

  bound_again : (b c : BoundTree) → same_bound b (unplaced_bound c) ≡ same_bound b c
  bound_again (implements b) (implements c) = trait_bound_again b c
  bound_again (outlives l) (outlives k) = refl
  bound_again _ _ = refl

  bounds_again : (bs cs : BoundTrees) → same_bounds bs (unplaced_bounds cs) ≡ same_bounds bs cs
  bounds_again (bound_then b bs) (bound_then c cs) = both (bound_again b c) (bounds_again bs cs)
  bounds_again no_bounds no_bounds = refl
  bounds_again _ _ = refl

  trait_bound_again : (b c : TraitBoundTree) → same_trait_bound b (unplaced_trait c) ≡ same_trait_bound b c
  trait_bound_again (trait_bound a m ls p) (trait_bound b n ks o) = both (both refl (lifetimes_again ls ks)) (path_again p o)

  fn_again : (f g : FnTree) → same_fn f (unplaced_fn g) ≡ same_fn f g
  fn_again (fn_tree ls m abi is a out) (fn_tree ks n called js b into) =
      both (both (both (both (both (lifetimes_again ls ks) refl) (abi_again abi called)) (inputs_again is js)) refl) (maybe_type_again out into)

  input_again : (i j : InputTree) → same_input i (unplaced_input j) ≡ same_input i j
  input_again (input xs i x) (input ys j y) =
      both (both (list_again same_attribute unplaced_attribute attribute_again xs ys) (option_again same_name unplaced_ident (λ _ _. refl) i j)) (same_again x y)

  inputs_again : (is js : InputTrees) → same_inputs is (unplaced_inputs js) ≡ same_inputs is js
  inputs_again (input_then i is) (input_then j js) = both (input_again i j) (inputs_again is js)
  inputs_again no_inputs no_inputs = refl
  inputs_again _ _ = refl

  path_again : (p o : PathTree) → same_path p (unplaced_path o) ≡ same_path p o
  path_again (path_tree a ss) (path_tree b us) = both refl (segments_again ss us)

  segments_again : (ss us : SegmentTrees) → same_segments ss (unplaced_segments us) ≡ same_segments ss us
  segments_again (segment_then x ss) (segment_then y us) = both (segment_again x y) (segments_again ss us)
  segments_again no_segments no_segments = refl
  segments_again _ _ = refl

  segment_again : (x y : SegmentTree) → same_segment x (unplaced_segment y) ≡ same_segment x y
  segment_again (segment i gs) (segment j hs) = both refl (arguments_of_again gs hs)

  arguments_of_again : (a b : ArgumentsTree) → same_arguments_of a (unplaced_arguments_of b) ≡ same_arguments_of a b
  arguments_of_again (angle c gs a) (angle d hs b) = both (both refl (arguments_again gs hs)) refl
  arguments_of_again (parens xs a out) (parens ys b into) = both (both (types_again xs ys) refl) (maybe_type_again out into)
  arguments_of_again absent absent = refl
  arguments_of_again _ _ = refl

  argument_again : (g h : ArgumentTree) → same_argument g (unplaced_argument h) ≡ same_argument g h
  argument_again (type_arg x) (type_arg y) = same_again x y
  argument_again (const_arg c) (const_arg d) = constant_again c d
  argument_again (assoc_type i gs x) (assoc_type j hs y) = both (both refl (maybe_arguments_again gs hs)) (same_again x y)
  argument_again (assoc_const i gs c) (assoc_const j hs d) = both (both refl (maybe_arguments_again gs hs)) (constant_again c d)
  argument_again (constraint i gs bs a) (constraint j hs cs b) = both (both refl (maybe_arguments_again gs hs)) (both (bounds_again bs cs) refl)
  argument_again (lifetime_arg l) (lifetime_arg k) = refl
  argument_again _ _ = refl

  arguments_again : (gs hs : ArgumentTrees) → same_arguments gs (unplaced_arguments hs) ≡ same_arguments gs hs
  arguments_again (argument_then g gs) (argument_then h hs) = both (argument_again g h) (arguments_again gs hs)
  arguments_again no_arguments no_arguments = refl
  arguments_again _ _ = refl

  maybe_arguments_again : (a b : MaybeArguments) → same_maybe_arguments a (unplaced_maybe_arguments b) ≡ same_maybe_arguments a b
  maybe_arguments_again (some_arguments gs a) (some_arguments hs b) = both (arguments_again gs hs) refl
  maybe_arguments_again arguments_absent arguments_absent = refl
  maybe_arguments_again _ _ = refl

-- ---- what is the same as itself

flag_itself : (b : Bool) → same_flag b b ≡ true
flag_itself true = refl
flag_itself false = refl

number_itself : (n : ℕ) → nat_eq n n ≡ true
number_itself n = (Decides-eqb n n).1 refl

text_itself : (text : List ℕ) → bytes_eq text text ≡ true
text_itself text = (bytes_eq-Decides text text).1 refl

option_itself : {A : Type 0} (same : A → A → Bool) → ((a : A) → same a a ≡ true) → (a : Option A) → same_option same a a ≡ true
option_itself same h None = refl
option_itself same h (Some a) = h a

pub list_itself : {A : Type 0} (same : A → A → Bool) → ((a : A) → same a a ≡ true) → (xs : List A) → all_same same xs xs ≡ true
list_itself same h [] = refl
list_itself same h (x ∷ xs) = both (h x) (list_itself same h xs)

name_itself : (i : Ident) → same_name i i ≡ true
name_itself i = both (flag_itself i.raw) (text_itself i.name)

lifetime_itself : (l : Lifetime) → same_lifetime l l ≡ true
lifetime_itself l = text_itself l.name

literal_itself : (l : Literal) → same_literal l l ≡ true
literal_itself l = both (number_itself (kind_number l.kind)) (text_itself l.text)

spacing_itself : (s : Spacing) → same_spacing s s ≡ true
spacing_itself Joint = refl
spacing_itself Alone = refl

delim_itself : (d : Delim) → same_delim d d ≡ true
delim_itself Paren = refl
delim_itself Bracket = refl
delim_itself Brace = refl

token_itself : (k : Token) → same_token k k ≡ true
token_itself (t.Ident i) = name_itself i
token_itself (t.Lifetime l) = lifetime_itself l
token_itself (t.Literal l) = literal_itself l
token_itself (t.Punct p) = both (number_itself p.ch) (spacing_itself p.spacing)

pub entry_itself : (e : Entry) → same_entry e e ≡ true
entry_itself (entry.Token k) = token_itself k
entry_itself (entry.Open d from n) = delim_itself d
entry_itself (entry.Close d upto) = delim_itself d

stream_itself : (s : Stream) → same_stream s s ≡ true
stream_itself s = list_itself same_entry entry_itself (flatten s.trees)

lifetimes_itself : (a : Lifetimes) → same_lifetimes a a ≡ true
lifetimes_itself a =
    option_itself (same_list same_lifetime) (λ ls. both (list_itself same_lifetime lifetime_itself ls.items) (flag_itself ls.trailing)) a

plain_itself : (p : PlainPath) → same_plain p p ≡ true
plain_itself p = both (flag_itself p.leading_colon) (list_itself same_name name_itself p.segments)

args_itself : (a : AttrArgs) → same_args a a ≡ true
args_itself args.Absent = refl
args_itself (args.List d s) = both (delim_itself d) (stream_itself s)
args_itself (args.Value o) = stream_itself o.tokens

attribute_itself : (a : Attribute) → same_attribute a a ≡ true
attribute_itself a = both (plain_itself a.path) (args_itself a.args)

constant_itself : (a : ConstArg) → same_constant a a ≡ true
constant_itself (constant.Literal m l) = both (flag_itself m) (literal_itself l)
constant_itself (constant.Bool i) = name_itself i
constant_itself (constant.Block s) = stream_itself s
constant_itself (constant.Name i) = name_itself i

abi_itself : (a : Option (Option Literal)) → same_abi a a ≡ true
abi_itself a = option_itself (same_option same_literal) (option_itself same_literal literal_itself) a

mutual
  same_itself : (a : TypeTree) → same_type a a ≡ true
  same_itself (type_tree n s) = node_itself n

  node_itself : (n : TypeNode) → same_node n n ≡ true
  node_itself (paren x) = same_itself x
  node_itself (tuple xs a) = both (types_itself xs) (flag_itself a)
  node_itself (slice x) = same_itself x
  node_itself (array x o) = both (same_itself x) (stream_itself o.tokens)
  node_itself (reference l m x) = both (both (option_itself same_lifetime lifetime_itself l) (flag_itself m)) (same_itself x)
  node_itself (pointer m x) = both (flag_itself m) (same_itself x)
  node_itself (bare_fn f) = fn_itself f
  node_itself (trait_object bs a) = both (bounds_itself bs) (flag_itself a)
  node_itself (impl_trait bs a) = both (bounds_itself bs) (flag_itself a)
  node_itself infer = refl
  node_itself never = refl
  node_itself (path q p) = both (self_itself q) (path_itself p)
  node_itself (macro_type p d s) = both (both (plain_itself p) (delim_itself d)) (stream_itself s)

  types_itself : (xs : TypeTrees) → same_types xs xs ≡ true
  types_itself no_types = refl
  types_itself (type_then x xs) = both (same_itself x) (types_itself xs)

  maybe_type_itself : (a : MaybeType) → same_maybe_type a a ≡ true
  maybe_type_itself no_type = refl
  maybe_type_itself (some_type x) = same_itself x

  self_itself : (q : MaybeSelf) → same_self q q ≡ true
  self_itself no_self = refl
  self_itself (some_self x n) = both (same_itself x) (number_itself n)

  bound_itself : (b : BoundTree) → same_bound b b ≡ true
  bound_itself (outlives l) = lifetime_itself l
  bound_itself (implements b) = trait_bound_itself b

  bounds_itself : (bs : BoundTrees) → same_bounds bs bs ≡ true
  bounds_itself no_bounds = refl
  bounds_itself (bound_then b bs) = both (bound_itself b) (bounds_itself bs)

  trait_bound_itself : (b : TraitBoundTree) → same_trait_bound b b ≡ true
  trait_bound_itself (trait_bound a m ls p) = both (both (both (flag_itself a) (flag_itself m)) (lifetimes_itself ls)) (path_itself p)

  fn_itself : (f : FnTree) → same_fn f f ≡ true
  fn_itself (fn_tree ls m abi is a out) =
      both (both (both (both (both (lifetimes_itself ls) (flag_itself m)) (abi_itself abi)) (inputs_itself is)) (flag_itself a)) (maybe_type_itself out)

  input_itself : (i : InputTree) → same_input i i ≡ true
  input_itself (input xs i x) =
      both (both (list_itself same_attribute attribute_itself xs) (option_itself same_name name_itself i)) (same_itself x)

  inputs_itself : (is : InputTrees) → same_inputs is is ≡ true
  inputs_itself no_inputs = refl
  inputs_itself (input_then i is) = both (input_itself i) (inputs_itself is)

  path_itself : (p : PathTree) → same_path p p ≡ true
  path_itself (path_tree a ss) = both (flag_itself a) (segments_itself ss)

  segments_itself : (ss : SegmentTrees) → same_segments ss ss ≡ true
  segments_itself no_segments = refl
  segments_itself (segment_then x ss) = both (segment_itself x) (segments_itself ss)

  segment_itself : (x : SegmentTree) → same_segment x x ≡ true
  segment_itself (segment i gs) = both (name_itself i) (arguments_of_itself gs)

  arguments_of_itself : (a : ArgumentsTree) → same_arguments_of a a ≡ true
  arguments_of_itself absent = refl
  arguments_of_itself (angle c gs a) = both (both (flag_itself c) (arguments_itself gs)) (flag_itself a)
  arguments_of_itself (parens xs a out) = both (both (types_itself xs) (flag_itself a)) (maybe_type_itself out)

  argument_itself : (g : ArgumentTree) → same_argument g g ≡ true
  argument_itself (lifetime_arg l) = lifetime_itself l
  argument_itself (type_arg x) = same_itself x
  argument_itself (const_arg c) = constant_itself c
  argument_itself (assoc_type i gs x) = both (both (name_itself i) (maybe_arguments_itself gs)) (same_itself x)
  argument_itself (assoc_const i gs c) = both (both (name_itself i) (maybe_arguments_itself gs)) (constant_itself c)
  argument_itself (constraint i gs bs a) = both (both (name_itself i) (maybe_arguments_itself gs)) (both (bounds_itself bs) (flag_itself a))

  arguments_itself : (gs : ArgumentTrees) → same_arguments gs gs ≡ true
  arguments_itself no_arguments = refl
  arguments_itself (argument_then g gs) = both (argument_itself g) (arguments_itself gs)

  maybe_arguments_itself : (a : MaybeArguments) → same_maybe_arguments a a ≡ true
  maybe_arguments_itself arguments_absent = refl
  maybe_arguments_itself (some_arguments gs a) = both (arguments_itself gs) (flag_itself a)

-- ---- both ways

pub same_unplaced : (a b : TypeTree) → unplaced_type a ≡ unplaced_type b → same_type a b ≡ true
same_unplaced a b e = sym (same_again a b) ∙ ap (same_type a) (sym e) ∙ same_again a a ∙ same_itself a

-- ---- trees again, from their tokens

-- what a reader from the back has: the trees of the list that it is in, and those that follow each list around it
abbrev Reading : Type 0
Reading = Trees × List Trees

abbrev opened : Delim → Trees → List Trees → Reading
opened d inside [] = (inside, [])
opened d inside (rest ∷ around) = (group d nowhere inside nowhere rest, around)

abbrev one_back : Bare → Reading → Reading
one_back (bare_name text raw) r = (token (t.Ident (record { name = text; raw = raw; span = nowhere })) r.0, r.1)
one_back (bare_lifetime text) r = (token (t.Lifetime (record { name = text; span = nowhere })) r.0, r.1)
one_back (bare_literal kind text) r = (token (t.Literal (record { kind = kind; text = text; span = nowhere })) r.0, r.1)
one_back (bare_punct c spacing) r = (token (t.Punct (record { ch = c; spacing = spacing; span = nowhere })) r.0, r.1)
one_back (opening d) r = opened d r.0 r.1
one_back (closing d) r = (no_trees, r.0 ∷ r.1)

abbrev read_back : List Bare → Reading
read_back [] = (no_trees, [])
read_back (k ∷ ks) = one_back k (read_back ks)

abbrev after : Trees → Reading → Reading
after ts r = (join (unplaced ts) r.0, r.1)

one_again : (k : Token) (r : Reading) → one_back (bare k) r ≡ (token (unplaced_token k) r.0, r.1)
one_again (t.Ident i) r = refl
one_again (t.Lifetime l) r = refl
one_again (t.Literal l) r = refl
one_again (t.Punct p) r = refl

tokens_again : (ts : Trees) (ks : List Bare) → read_back (tokens_of ts ++ ks) ≡ after ts (read_back ks)
tokens_again no_trees ks = refl
tokens_again (token k rest) ks = one_again k (read_back (tokens_of rest ++ ks)) ∙ ap (λ r. (token (unplaced_token k) r.0, r.1)) (tokens_again rest ks)
tokens_again (group d from inside upto rest) ks =
    ap (λ l. one_back (opening d) (read_back l)) (append_assoc (tokens_of inside) (closing d ∷ tokens_of rest) ks) ∙
    ap (one_back (opening d)) (tokens_again inside (closing d ∷ (tokens_of rest ++ ks)) ∙ ap (λ r. after inside (one_back (closing d) r)) (tokens_again rest ks)) ∙
    ap (λ x. opened d x (join (unplaced rest) (read_back ks).0 ∷ (read_back ks).1)) (join-no_trees (unplaced inside))

trees_again : (ts : Trees) → (read_back (tokens_of ts)).0 ≡ unplaced ts
trees_again ts =
    ap (λ l. (read_back l).0) (sym (append-nil (tokens_of ts))) ∙ ap (λ r. r.0) (tokens_again ts []) ∙ join-no_trees (unplaced ts)

pub same_bare : (x y : Trees) → tokens_of x ≡ tokens_of y → unplaced x ≡ unplaced y
same_bare x y e = sym (trees_again x) ∙ ap (λ l. (read_back l).0) e ∙ trees_again y

pub unplaced_tokens : (a b : TypeTree) → tokens_of (type_trees a) ≡ tokens_of (type_trees b) →
    type_trees (unplaced_type a) ≡ type_trees (unplaced_type b)
unplaced_tokens a b e = sym (type-bare a) ∙ same_bare (type_trees a) (type_trees b) e ∙ type-bare b
