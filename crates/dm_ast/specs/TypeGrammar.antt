-- The grammar of types, paths, bounds and generic arguments: one case for each of their nodes.
use Rattle.std.specs.Prelude.{◌≡◌, ◌≢◌, ℕ, zero, suc, Bool, true, false, not, cond, ◌&&◌, ◌||◌, nat_eq, List, codes, Option, Some, None, IsTrue}
use Rattle.dm_stream.specs.declared.tokens.Delim.TheVariants.{Paren, Bracket, Brace}
use Rattle.dm_stream.specs.declared.tokens.Ident.{Ident}
use Rattle.dm_stream.specs.declared.tokens.Token.TheVariants as t
use Rattle.dm_stream.specs.Trees.{Trees, no_trees, token, group, Stream}
use Rattle.dm_ast.specs.declared.plain.PlainPath.{PlainPath}
use Rattle.dm_ast.specs.declared.plain.Attribute.{Attribute}
use Rattle.dm_ast.specs.declared.plain.AttrArgs.{AttrArgs}
use Rattle.dm_ast.specs.declared.plain.AttrArgs.TheVariants as args
use Rattle.dm_ast.specs.declared.plain.Opaque.{Opaque}
use Rattle.dm_ast.specs.declared.plain.ConstArg.{ConstArg}
use Rattle.dm_ast.specs.declared.plain.ConstArg.TheVariants as constant
use Rattle.dm_ast.specs.Keywords.{is_name}
use Rattle.dm_ast.specs.Spelling.{Where, deeper, Spelling, Nothing, ◌then◌, Provided, Before, Facing, RangedAt, is_joint, at_end, sees, sees_group, sees_literal, sees_lifetime, sees_word, is_word, sees_colons, sees_arrow, sees_colon, sees_equals, ident, lifetime, literal, punct, keyword, colons, arrow, colon, equals, GroupAt, flag, perhaps, repeated, chain, items, no_items, last_item, AllAt}
use Rattle.dm_ast.specs.Tree.{Lifetimes, TypeTree, type_tree, TypeNode, paren, tuple, slice, array, reference, pointer, bare_fn, trait_object, impl_trait, infer, never, path, macro_type, TypeTrees, no_types, type_then, MaybeType, no_type, some_type, no_self, some_self, BoundTree, outlives, implements, BoundTrees, no_bounds, bound_then, TraitBoundTree, trait_bound, FnTree, fn_tree, InputTree, input, InputTrees, no_inputs, input_then, PathTree, path_tree, SegmentTree, segment, SegmentTrees, no_segments, segment_then, ArgumentsTree, absent, angle, parens, ArgumentTree, lifetime_arg, type_arg, const_arg, assoc_type, assoc_const, constraint, ArgumentTrees, no_arguments, argument_then, MaybeArguments, arguments_absent, some_arguments}

-- ---- names

-- a Name: raw, or no keyword, and not `_`
abbrev pub name : Where → Ident → Spelling
name w i = Provided (IsTrue (is_name i)) (ident w i)

-- a word of a path: a Name, or one of these four
abbrev pub is_path_word : Ident → Bool
is_path_word i = is_name i || (is_word (codes "self") i || is_word (codes "Self") i || is_word (codes "super") i || is_word (codes "crate") i)

abbrev pub word : Where → Ident → Spelling
word w i = Provided (IsTrue (is_path_word i)) (ident w i)

-- `true` or `false`
abbrev pub is_truth : Ident → Bool
is_truth i = is_word (codes "true") i || is_word (codes "false") i

-- the name of a parameter
abbrev pub is_input_name : Ident → Bool
is_input_name i = is_name i || is_word (codes "_") i

abbrev pub sees_path_word : Trees → Bool
sees_path_word (token (t.Ident i) rest) = is_path_word i
sees_path_word _ = false

-- ---- plain paths

-- what follows `::` with an identifier, as often as that stands there
abbrev pub behind_idents : Trees → Trees
behind_idents (token (t.Punct a) (token (t.Punct b) (token (t.Ident i) rest))) =
    cond ((nat_eq a.ch 58 && is_joint a.spacing) && nat_eq b.ch 58) (behind_idents rest) (token (t.Punct a) (token (t.Punct b) (token (t.Ident i) rest)))
behind_idents ts = ts

abbrev pub behind_colons : Trees → Trees
behind_colons (token (t.Punct a) (token (t.Punct b) rest)) =
    cond ((nat_eq a.ch 58 && is_joint a.spacing) && nat_eq b.ch 58) rest (token (t.Punct a) (token (t.Punct b) rest))
behind_colons ts = ts

abbrev pub behind_first : Trees → Option Trees
behind_first (token (t.Ident i) rest) = Some (behind_idents rest)
behind_first _ = None

-- what follows the longest plain path in front
abbrev pub behind_plain : Trees → Option Trees
behind_plain ts = behind_first (behind_colons ts)

abbrev pub is_call : Option Trees → Bool
is_call (Some (token (t.Punct p) (group d from inside upto rest))) = nat_eq p.ch 33
is_call _ = false

-- a macro's name, `!` and a group
abbrev pub sees_macro : Trees → Bool
sees_macro ts = is_call (behind_plain ts)

abbrev pub plain_path : Where → PlainPath → Spelling
plain_path w p = flag sees_colons p.leading_colon (colons w) then chain (colons w) sees_colons (ident w) p.segments

-- ---- other parts without types

-- all that is left, one tree at least
abbrev pub opaque : Where → Opaque → Spelling
opaque w o =
    Provided (o.tokens.trees ≢ no_trees) (Provided (o.tokens.limit ≡ w.limit) (AllAt w o.tokens.trees))

-- the inside of a group that is not read
abbrev pub kept : Stream → Where → Spelling
kept s w = Provided (s.limit ≡ w.limit) (AllAt w s.trees)

abbrev pub attribute_args : Where → AttrArgs → Spelling
attribute_args w args.Absent = Before (λ others. at_end others ≡ true) Nothing
attribute_args w (args.List d inside) = GroupAt w d (kept inside)
attribute_args w (args.Value o) = equals w then opaque w o

-- `#[path args]`, whose range is that of its tokens
abbrev pub attribute : Where → Attribute → Spelling
attribute w a =
    RangedAt a.span (punct w 35 then GroupAt w Bracket (λ v. plain_path v a.path then attribute_args v a.args))

abbrev pub attributes : Where → List Attribute → Spelling
attributes w as' = repeated (sees 35) (attribute w) as'

-- `<..>`, whose inside stands one level deeper
abbrev pub between_angles : Where → (Where → Spelling) → Spelling
between_angles w inside = punct w 60 then (inside (deeper w) then punct w 62)

-- `for<..>`
abbrev pub for_lifetimes : Where → Lifetimes → Spelling
for_lifetimes w found =
    perhaps (sees_word (codes "for")) found (λ ls.
    keyword w (codes "for") then between_angles w (λ v. items v 44 (sees 62) (lifetime v) ls.items ls.trailing))

abbrev pub constant_spelled : Where → ConstArg → Spelling
constant_spelled w (constant.Literal minus l) = flag (sees 45) minus (punct w 45) then literal w l
constant_spelled w (constant.Bool i) = Provided (IsTrue (is_truth i)) (ident w i)
constant_spelled w (constant.Block inside) = GroupAt w Brace (kept inside)
constant_spelled w (constant.Name i) = name w i

-- as an argument a name is a type
abbrev pub not_named : ConstArg → Bool
not_named (constant.Name i) = false
not_named _ = true

abbrev pub constant_argument : ConstArg → Where → Spelling
constant_argument c w = Facing (λ ts. sees_macro ts ≡ false) (Provided (IsTrue (not_named c)) (constant_spelled w c))

-- ---- what types have to meet

-- a tuple has no element, several, or one with a comma behind it
abbrev pub is_tuple : TypeTrees → Bool → Bool
is_tuple no_types trailing = not trailing
is_tuple (type_then t no_types) trailing = trailing
is_tuple (type_then t (type_then u ts)) trailing = true

abbrev pub is_macro : TypeNode → Bool
is_macro (macro_type p d inside) = true
is_macro _ = false

-- ---- what goes on: arguments behind a name, and a bound

abbrev pub sees_turbofish : Trees → Bool
sees_turbofish ts = sees_colons ts && sees 60 (behind_colons ts)

abbrev pub sees_arguments : Trees → Bool
sees_arguments ts = sees 60 ts || sees_turbofish ts || sees_group Paren ts

abbrev pub sees_bound : Trees → Bool
sees_bound ts = sees_lifetime ts || sees 63 ts || sees_group Paren ts || sees_word (codes "for") ts || sees_colons ts || sees_path_word ts

-- a name and a lone `:`
abbrev pub sees_named : Trees → Bool
sees_named (token (t.Ident i) rest) = is_input_name i && sees_colon rest
sees_named _ = false

-- where a list of bounds ends
abbrev pub ends_bounds : Trees → Bool
ends_bounds ts = not (sees_bound ts)

-- ---- types. Directly behind `&`, `*` and `->` a `dyn` or an `impl` has one bound, as `single` says; elsewhere it has all that follow.

abbrev mutual
  pub type_spelled : TypeTree → Bool → Where → Spelling
  type_spelled (type_tree n range) single w = RangedAt range (Facing (λ ts. sees_macro ts ≡ is_macro n) (node n single w))

  pub node : TypeNode → Bool → Where → Spelling
  node (paren t) single w = GroupAt w Paren (λ v. type_spelled t false v)
  node (tuple ts trailing) single w = Provided (IsTrue (is_tuple ts trailing)) (GroupAt w Paren (λ v. types ts trailing v))
  node (slice t) single w = GroupAt w Bracket (λ v. type_spelled t false v)
  node (array t o) single w = GroupAt w Bracket (λ v. type_spelled t false v then (punct v 59 then opaque v o))
  node (reference l is_mut t) single w =
      punct w 38 then
      (perhaps sees_lifetime l (lifetime (deeper w)) then
      (flag (sees_word (codes "mut")) is_mut (keyword (deeper w) (codes "mut")) then
      type_spelled t true (deeper w)))
  node (pointer true t) single w = punct w 42 then (keyword (deeper w) (codes "mut") then type_spelled t true (deeper w))
  node (pointer false t) single w = punct w 42 then (keyword (deeper w) (codes "const") then type_spelled t true (deeper w))
  node (bare_fn f) single w = function f w
  node (trait_object bs trailing) single w = Provided (trailing ≡ false) (keyword w (codes "dyn") then some_bounds bs single (deeper w))
  node (impl_trait bs trailing) single w = Provided (trailing ≡ false) (keyword w (codes "impl") then some_bounds bs single (deeper w))
  node infer single w = keyword w (codes "_")
  node never single w = punct w 33
  node (path no_self p) single w = path_spelled p w
  node (path (some_self t n) p) single w = punct w 60 then (type_spelled t false (deeper w) then qualified n p w)
  node (macro_type p d inside) single w = plain_path w p then (punct w 33 then GroupAt w d (kept inside))

  -- ---- lists of types

  pub types : TypeTrees → Bool → Where → Spelling
  types no_types trailing w = no_items w 44 at_end trailing
  types (type_then t ts) trailing w = type_spelled t false w then types_left ts trailing w

  pub types_left : TypeTrees → Bool → Where → Spelling
  types_left no_types trailing w = last_item w 44 at_end trailing
  types_left (type_then t ts) trailing w = punct w 44 then (type_spelled t false w then types_left ts trailing w)

  -- `-> T`, whose type stands one level deeper than the list of parameters
  pub output : MaybeType → Where → Where → Spelling
  output no_type w inner = Before (λ others. sees_arrow others ≡ false) Nothing
  output (some_type t) w inner = arrow w then type_spelled t true inner

  -- `for<..> unsafe extern ".." fn (..) -> T`, where what is behind `fn` stands one level deeper
  pub function : FnTree → Where → Spelling
  function (fn_tree ls is_unsafe abi is trailing out) w =
      for_lifetimes w ls then
      (flag (sees_word (codes "unsafe")) is_unsafe (keyword w (codes "unsafe")) then
      (perhaps (sees_word (codes "extern")) abi (λ called. keyword w (codes "extern") then perhaps sees_literal called (literal w)) then
      (keyword w (codes "fn") then
      (GroupAt (deeper w) Paren (λ v. inputs is trailing v) then
      output out (deeper w) (deeper w)))))

  pub input_spelled : InputTree → Where → Spelling
  input_spelled (input attrs None t) w = attributes w attrs then Facing (λ ts. sees_named ts ≡ false) (type_spelled t false w)
  input_spelled (input attrs (Some i) t) w =
      attributes w attrs then (Provided (IsTrue (is_input_name i)) (ident w i) then (colon w then type_spelled t false w))

  pub inputs : InputTrees → Bool → Where → Spelling
  inputs no_inputs trailing w = no_items w 44 at_end trailing
  inputs (input_then a as') trailing w = input_spelled a w then inputs_left as' trailing w

  pub inputs_left : InputTrees → Bool → Where → Spelling
  inputs_left no_inputs trailing w = last_item w 44 at_end trailing
  inputs_left (input_then a as') trailing w = punct w 44 then (input_spelled a w then inputs_left as' trailing w)

  -- ---- bounds

  pub bound : BoundTree → Where → Spelling
  bound (outlives l) w = lifetime w l
  bound (implements t) w = trait_bound_spelled t w

  pub trait_bound_spelled : TraitBoundTree → Where → Spelling
  trait_bound_spelled (trait_bound true maybe ls p) w =
      GroupAt w Paren (λ v. flag (sees 63) maybe (punct v 63) then (for_lifetimes v ls then path_spelled p v))
  trait_bound_spelled (trait_bound false maybe ls p) w = flag (sees 63) maybe (punct w 63) then (for_lifetimes w ls then path_spelled p w)

  -- one bound or more with `+` between
  pub some_bounds : BoundTrees → Bool → Where → Spelling
  some_bounds no_bounds single w = Provided ⊥ Nothing
  some_bounds (bound_then b bs) single w = bound b w then more_bounds bs single w

  pub more_bounds : BoundTrees → Bool → Where → Spelling
  more_bounds no_bounds single w = Before (λ others. (not single && sees 43 others) ≡ false) Nothing
  more_bounds (bound_then b bs) single w = Provided (single ≡ false) (punct w 43 then (bound b w then more_bounds bs single w))

  -- bounds with `+` between, and perhaps one behind the last
  pub bounds : BoundTrees → Bool → Where → Spelling
  bounds no_bounds trailing w = no_items w 43 ends_bounds trailing
  bounds (bound_then b bs) trailing w = bound b w then bounds_left bs trailing w

  pub bounds_left : BoundTrees → Bool → Where → Spelling
  bounds_left no_bounds trailing w = last_item w 43 ends_bounds trailing
  bounds_left (bound_then b bs) trailing w = punct w 43 then (bound b w then bounds_left bs trailing w)

  -- ---- paths

  pub path_spelled : PathTree → Where → Spelling
  path_spelled (path_tree leading ss) w = flag sees_colons leading (colons w) then segments ss w

  -- one segment or more with `::` between
  pub segments : SegmentTrees → Where → Spelling
  segments no_segments w = Provided ⊥ Nothing
  segments (segment_then s ss) w = segment_spelled s w then segments_left ss w

  pub segments_left : SegmentTrees → Where → Spelling
  segments_left no_segments w = Before (λ others. sees_colons others ≡ false) Nothing
  segments_left (segment_then s ss) w = colons w then (segment_spelled s w then segments_left ss w)

  -- behind the type of a qualified path: `as` and the first segments, `>`, and the others, each behind `::`
  pub qualified : ℕ → PathTree → Where → Spelling
  qualified zero (path_tree leading ss) w = Provided (leading ≡ true) (punct w 62 then some_segments_left ss w)
  qualified (suc n) (path_tree leading ss) w =
      keyword (deeper w) (codes "as") then (flag sees_colons leading (colons (deeper w)) then trait_segments n ss w)

  pub trait_segments : ℕ → SegmentTrees → Where → Spelling
  trait_segments n no_segments w = Provided ⊥ Nothing
  trait_segments zero (segment_then s ss) w = segment_spelled s (deeper w) then (punct w 62 then some_segments_left ss w)
  trait_segments (suc n) (segment_then s ss) w = segment_spelled s (deeper w) then (colons (deeper w) then trait_segments n ss w)

  pub some_segments_left : SegmentTrees → Where → Spelling
  some_segments_left no_segments w = Provided ⊥ Nothing
  some_segments_left (segment_then s ss) w = colons w then (segment_spelled s w then segments_left ss w)

  pub segment_spelled : SegmentTree → Where → Spelling
  segment_spelled (segment i as') w = word w i then arguments_of_segment as' w

  pub arguments_of_segment : ArgumentsTree → Where → Spelling
  arguments_of_segment absent w = Before (λ others. sees_arguments others ≡ false) Nothing
  arguments_of_segment (angle double gs trailing) w = flag sees_colons double (colons w) then between_angles w (λ v. arguments gs trailing v)
  arguments_of_segment (parens ts trailing out) w = GroupAt w Paren (λ v. types ts trailing v) then output out w (deeper w)

  pub arguments : ArgumentTrees → Bool → Where → Spelling
  arguments no_arguments trailing w = no_items w 44 (sees 62) trailing
  arguments (argument_then g gs) trailing w = argument g w then arguments_left gs trailing w

  pub arguments_left : ArgumentTrees → Bool → Where → Spelling
  arguments_left no_arguments trailing w = last_item w 44 (sees 62) trailing
  arguments_left (argument_then g gs) trailing w = punct w 44 then (argument g w then arguments_left gs trailing w)

  -- a type isn't followed by what makes a binding of it
  pub argument : ArgumentTree → Where → Spelling
  argument (lifetime_arg l) w = lifetime w l
  argument (type_arg t) w = Before (λ others. (sees_equals others || sees_colon others) ≡ false) (type_spelled t false w)
  argument (const_arg c) w = constant_argument c w
  argument (assoc_type i gs t) w = name w i then (maybe_angled gs w then (equals w then type_spelled t false w))
  argument (assoc_const i gs c) w = name w i then (maybe_angled gs w then (equals w then constant_argument c w))
  argument (constraint i gs bs trailing) w = name w i then (maybe_angled gs w then (colon w then bounds bs trailing w))

  pub maybe_angled : MaybeArguments → Where → Spelling
  maybe_angled arguments_absent w = Nothing
  maybe_angled (some_arguments gs trailing) w = between_angles w (λ v. arguments gs trailing v)
