-- What the definitions say of single types.
use Rattle.std.specs.Prelude.{◌≡◌, ℕ, true, false, List, [], ◌∷◌, codes, Some, None, refl}
use Rattle.dm_stream.specs.declared.tokens.Ident.{Ident}
use Rattle.dm_stream.specs.declared.tokens.Lifetime.{Lifetime}
use Rattle.dm_stream.specs.declared.tokens.Delim.TheVariants.{Paren}
use Rattle.dm_stream.specs.declared.tokens.Token.TheVariants as t
use Rattle.dm_stream.specs.Layout.{nowhere}
use Rattle.dm_stream.specs.Trees.{no_trees, token, group}
use Rattle.dm_ast.specs.declared.plain.Opaque.{Opaque}
use Rattle.dm_ast.specs.Tree.{TypeTree, type_tree, TypeNode, paren, slice, array, reference, bare_fn, trait_object, impl_trait, infer, path, no_types, type_then, some_type, no_self, some_self, implements, no_bounds, bound_then, trait_bound, fn_tree, input, no_inputs, input_then, path_tree, SegmentTree, segment, no_segments, segment_then, absent, angle, parens, ArgumentTree, lifetime_arg, type_arg, assoc_type, no_arguments, argument_then, arguments_absent}
use Rattle.dm_searches.specs.Parameters.{Parameters}
use Rattle.dm_searches.specs.Mentions.{mentions}
use Rattle.dm_searches.specs.Contains.{contains}
use Rattle.dm_searches.specs.Uses.{uses}
use Rattle.dm_searches.specs.Inner.{option_inner, inner}

abbrev named : List ℕ → Ident
named n = record { name = n; raw = false; span = nowhere }

abbrev a : Lifetime
a = record { name = codes "a"; span = nowhere }

abbrev just : TypeNode → TypeTree
just k = type_tree k nowhere

abbrev bare_segment : List ℕ → SegmentTree
bare_segment n = segment (named n) absent

-- `n<g>`
abbrev of_one : List ℕ → ArgumentTree → SegmentTree
of_one n g = segment (named n) (angle false (argument_then g no_arguments) false)

abbrev alone : SegmentTree → TypeTree
alone s = just (path no_self (path_tree false (segment_then s no_segments)))

abbrev two : SegmentTree → SegmentTree → TypeTree
two s r = just (path no_self (path_tree false (segment_then s (segment_then r no_segments))))

abbrev type_T : TypeTree
type_T = alone (bare_segment (codes "T"))

abbrev type_u8 : TypeTree
type_u8 = alone (bare_segment (codes "u8"))

-- `f(n)` as tokens
abbrev called : Opaque
called = record { tokens = record { trees = token (t.Ident (named (codes "f"))) (group Paren nowhere (token (t.Ident (named (codes "N"))) no_trees) nowhere no_trees); limit = 0 } }

abbrev dyn_fn : TypeTree
dyn_fn = just (trait_object (bound_then (implements (trait_bound false false None (path_tree false (segment_then (segment (named (codes "Fn")) (parens (type_then type_T no_types) false (some_type type_u8))) no_segments)))) no_bounds) false)

abbrev impl_of : TypeTree
impl_of = just (impl_trait (bound_then (implements (trait_bound false false None (path_tree false (segment_then (of_one (codes "X") (type_arg type_T)) no_segments)))) no_bounds) false)

abbrev for_type : Parameters
for_type = record { types = named (codes "T") ∷ []; lifetimes = []; consts = [] }

abbrev for_lifetime : Parameters
for_lifetime = record { types = []; lifetimes = a ∷ []; consts = [] }

abbrev for_const : Parameters
for_const = record { types = []; lifetimes = []; consts = named (codes "N") ∷ [] }

-- ---- `any_in`

mentions-T : mentions for_type type_T ≡ true
mentions-T = refl

mentions-reference : mentions for_type (just (reference (Some a) false type_T)) ≡ true
mentions-reference = refl

-- `path::<T>::Type`
mentions-middle : mentions for_type (just (path no_self (path_tree false (segment_then (bare_segment (codes "path")) (segment_then (of_one [] (type_arg type_T)) no_segments))))) ≡ true
mentions-middle = refl

-- `T::Type`, and not `Type::T` or `T<u8>`
mentions-first : mentions for_type (two (bare_segment (codes "T")) (bare_segment (codes "Type"))) ≡ true
mentions-first = refl

mentions-second : mentions for_type (two (bare_segment (codes "Type")) (bare_segment (codes "T"))) ≡ false
mentions-second = refl

mentions-with_arguments : mentions for_type (alone (of_one (codes "T") (type_arg type_u8))) ≡ false
mentions-with_arguments = refl

-- `<T as Trait>::Type`
mentions-self : mentions for_type (just (path (some_self type_T 1) (path_tree false (segment_then (bare_segment (codes "Trait")) (segment_then (bare_segment (codes "Type")) no_segments))))) ≡ true
mentions-self = refl

-- `fn(_) -> T`
mentions-output : mentions for_type (just (bare_fn (fn_tree None false None (input_then (input [] None (just infer)) no_inputs) false (some_type type_T)))) ≡ true
mentions-output = refl

mentions-u8 : mentions for_type type_u8 ≡ false
mentions-u8 = refl

-- `&'a T`, `Type<'a>`
mentions-lifetime : mentions for_lifetime (just (reference (Some a) false type_T)) ≡ true
mentions-lifetime = refl

mentions-lifetime_argument : mentions for_lifetime (alone (of_one (codes "Type") (lifetime_arg a))) ≡ true
mentions-lifetime_argument = refl

mentions-no_lifetime : mentions for_lifetime type_T ≡ false
mentions-no_lifetime = refl

-- `[u8; f(N)]`, `N`, and not `N::X`
mentions-length : mentions for_const (just (array type_u8 called)) ≡ true
mentions-length = refl

mentions-const : mentions for_const (alone (bare_segment (codes "N"))) ≡ true
mentions-const = refl

mentions-const_first : mentions for_const (two (bare_segment (codes "N")) (bare_segment (codes "X"))) ≡ false
mentions-const_first = refl

-- ---- `contains_generics`

contains-dyn : contains (named (codes "T") ∷ []) dyn_fn ≡ true
contains-dyn = refl

contains-impl : contains (named (codes "T") ∷ []) impl_of ≡ false
contains-impl = refl

-- `A<B = T>`
contains-associated : contains (named (codes "T") ∷ []) (alone (of_one (codes "A") (assoc_type (named (codes "B")) arguments_absent type_T))) ≡ true
contains-associated = refl

contains-length : contains (named (codes "N") ∷ []) (just (array type_u8 called)) ≡ false
contains-length = refl

-- ---- `is_type_parameter_used_in_type`

uses-first : uses (codes "T" ∷ []) (alone (of_one (codes "T") (type_arg type_u8))) ≡ true
uses-first = refl

uses-reference : uses (codes "T" ∷ []) (just (reference None false type_T)) ≡ true
uses-reference = refl

uses-slice : uses (codes "T" ∷ []) (just (slice type_T)) ≡ false
uses-slice = refl

-- ---- `get_option_inner` and `get_inner`

option-paren : option_inner (just (paren (alone (of_one (codes "Option") (type_arg type_T))))) ≡ Some type_T
option-paren = refl

option-box : option_inner (alone (of_one (codes "Box") (type_arg type_T))) ≡ None
option-box = refl

inner-box : inner (alone (of_one (codes "Box") (type_arg type_T))) ≡ Some type_T
inner-box = refl

inner-paren : inner (just (paren (alone (of_one (codes "Box") (type_arg type_T))))) ≡ None
inner-paren = refl

inner-lifetime : inner (alone (segment (named (codes "A")) (angle false (argument_then (lifetime_arg a) (argument_then (type_arg type_T) no_arguments)) false))) ≡ None
inner-lifetime = refl
