-- What a declaration declares, and its macro types, in the order of the text; and which of these may not stand.
use Rattle.std.specs.Prelude.{◌≡◌, ℕ, ◌+◌, Bool, true, false, ◌&&◌, ◌||◌, nat_eq, if◌then◌else◌, List, [], ◌∷◌, ◌++◌, map, codes, Option, Some, None, All, AllPairs, find, flat_map}
use Rattle.std.specs.Str.{bytes_eq}
use Rattle.std.specs.List.{list_any, starts_with}
use Rattle.dm_stream.specs.declared.tokens.Span.{Span}
use Rattle.dm_stream.specs.declared.tokens.Ident.{Ident}
use Rattle.dm_stream.specs.declared.error.Error.{Error}
use Rattle.dm_stream.specs.declared.error.Error.TheVariants.{NoMemory, Refused}
use Rattle.dm_stream.specs.declared.error.Refusal.{Refusal}
use Rattle.dm_stream.specs.declared.error.Kind.{Kind}
use Rattle.dm_stream.specs.declared.error.Kind.TheVariants.{Unsupported, DuplicateName, ReservedName}
use Rattle.dm_ast.specs.Tree.{Lifetimes, TypeTree, type_tree, TypeNode, paren, tuple, slice, array, reference, pointer, bare_fn, trait_object, impl_trait, infer, never, path, macro_type, TypeTrees, no_types, type_then, MaybeType, no_type, some_type, MaybeSelf, no_self, some_self, BoundTree, outlives, implements, BoundTrees, no_bounds, bound_then, TraitBoundTree, trait_bound, FnTree, fn_tree, InputTree, input, InputTrees, no_inputs, input_then, PathTree, path_tree, SegmentTree, segment, SegmentTrees, no_segments, segment_then, ArgumentsTree, absent, angle, parens, ArgumentTree, lifetime_arg, type_arg, const_arg, assoc_type, assoc_const, constraint, ArgumentTrees, no_arguments, argument_then, MaybeArguments, arguments_absent, some_arguments}
use Rattle.dm_ast.specs.Declarations.{Listed, FieldTree, FieldsTree, named, unnamed, unit, VariantTree, ShapeTree, struct_shape, enum_shape, union_shape, ParamTree, lifetime_param, type_param, const_param, PredicateTree, lifetime_predicate, type_predicate, Declaration}

-- what a name is declared among: the type with its type and const parameters, its lifetime parameters, its variants,
-- the fields of the variant with this number, or of a struct or a union; and the lifetimes of all `for`, which may repeat
pub data Scope : Type 0 where
  types : Scope
  lifetimes : Scope
  variants : Scope
  fields : ℕ → Scope
  bound : Scope

-- whether two names have to differ
abbrev pub is_shared : Scope → Scope → Bool
is_shared types types = true
is_shared lifetimes lifetimes = true
is_shared variants variants = true
is_shared (fields m) (fields n) = nat_eq m n
is_shared _ _ = false

-- a macro type, or a declared name, with its range
pub data Found : Type 0 where
  macro_at : Span → Found
  name_at : Scope → List ℕ → Span → Found

-- ---- what stands in a type

abbrev pub in_for : Lifetimes → List Found
in_for None = []
in_for (Some ls) = map (λ l. name_at bound l.name l.span) ls.items

abbrev mutual
  pub in_type : TypeTree → List Found
  in_type (type_tree n range) = in_node n range

  pub in_node : TypeNode → Span → List Found
  in_node (paren t) range = in_type t
  in_node (tuple ts trailing) range = in_types ts
  in_node (slice t) range = in_type t
  in_node (array t o) range = in_type t
  in_node (reference l is_mut t) range = in_type t
  in_node (pointer is_mut t) range = in_type t
  in_node (bare_fn f) range = in_function f
  in_node (trait_object bs trailing) range = in_bounds bs
  in_node (impl_trait bs trailing) range = in_bounds bs
  in_node infer range = []
  in_node never range = []
  in_node (path q p) range = in_self q ++ in_path p
  in_node (macro_type p d inside) range = macro_at range ∷ []

  pub in_types : TypeTrees → List Found
  in_types no_types = []
  in_types (type_then t ts) = in_type t ++ in_types ts

  pub in_output : MaybeType → List Found
  in_output no_type = []
  in_output (some_type t) = in_type t

  pub in_self : MaybeSelf → List Found
  in_self no_self = []
  in_self (some_self t n) = in_type t

  pub in_function : FnTree → List Found
  in_function (fn_tree ls is_unsafe abi is trailing out) = in_for ls ++ (in_inputs is ++ in_output out)

  pub in_inputs : InputTrees → List Found
  in_inputs no_inputs = []
  in_inputs (input_then a as') = in_input a ++ in_inputs as'

  pub in_input : InputTree → List Found
  in_input (input attrs i t) = in_type t

  pub in_bound : BoundTree → List Found
  in_bound (outlives l) = []
  in_bound (implements t) = in_trait t

  pub in_bounds : BoundTrees → List Found
  in_bounds no_bounds = []
  in_bounds (bound_then b bs) = in_bound b ++ in_bounds bs

  pub in_trait : TraitBoundTree → List Found
  in_trait (trait_bound round maybe ls p) = in_for ls ++ in_path p

  pub in_path : PathTree → List Found
  in_path (path_tree leading ss) = in_segments ss

  pub in_segments : SegmentTrees → List Found
  in_segments no_segments = []
  in_segments (segment_then s ss) = in_segment s ++ in_segments ss

  pub in_segment : SegmentTree → List Found
  in_segment (segment i as') = in_segment_arguments as'

  pub in_segment_arguments : ArgumentsTree → List Found
  in_segment_arguments absent = []
  in_segment_arguments (angle double gs trailing) = in_arguments gs
  in_segment_arguments (parens ts trailing out) = in_types ts ++ in_output out

  pub in_arguments : ArgumentTrees → List Found
  in_arguments no_arguments = []
  in_arguments (argument_then g gs) = in_argument g ++ in_arguments gs

  pub in_argument : ArgumentTree → List Found
  in_argument (lifetime_arg l) = []
  in_argument (type_arg t) = in_type t
  in_argument (const_arg c) = []
  in_argument (assoc_type i gs t) = in_maybe_arguments gs ++ in_type t
  in_argument (assoc_const i gs c) = in_maybe_arguments gs
  in_argument (constraint i gs bs trailing) = in_maybe_arguments gs ++ in_bounds bs

  pub in_maybe_arguments : MaybeArguments → List Found
  in_maybe_arguments arguments_absent = []
  in_maybe_arguments (some_arguments gs trailing) = in_arguments gs

-- ---- what stands in a declaration

abbrev pub in_some : {A : Type 0} → (A → List Found) → Option A → List Found
in_some inside None = []
in_some inside (Some a) = inside a

abbrev pub in_bound_list : Listed BoundTree → List Found
in_bound_list bs = flat_map in_bound bs.items

abbrev pub declared : Scope → Ident → Found
declared scope i = name_at scope i.name i.span

abbrev pub in_param : ParamTree → List Found
in_param (lifetime_param attrs l bs) = name_at lifetimes l.name l.span ∷ []
in_param (type_param attrs i bs default) = declared types i ∷ (in_some in_bound_list bs ++ in_some in_type default)
in_param (const_param attrs i t default) = declared types i ∷ in_type t

abbrev pub in_predicate : PredicateTree → List Found
in_predicate (lifetime_predicate l ls) = []
in_predicate (type_predicate ls t bs) = in_for ls ++ (in_type t ++ in_bound_list bs)

abbrev pub in_where : Option (Listed PredicateTree) → List Found
in_where c = in_some (λ ps. flat_map in_predicate ps.items) c

-- the fields of the variant with this number
abbrev pub in_field : ℕ → FieldTree → List Found
in_field n f = in_some (λ i. declared (fields n) i ∷ []) f.ident ++ in_type f.ty

abbrev pub in_fields : ℕ → FieldsTree → List Found
in_fields n (named fs) = flat_map (in_field n) fs.items
in_fields n (unnamed fs) = flat_map (in_field n) fs.items
in_fields n unit = []

abbrev pub in_variants : ℕ → List VariantTree → List Found
in_variants n [] = []
in_variants n (v ∷ vs) = declared variants v.ident ∷ (in_fields n v.fields ++ in_variants (n + 1) vs)

-- the `where` clause stands before the fields, but for those in parentheses
abbrev pub in_shape : ShapeTree → Option (Listed PredicateTree) → List Found
in_shape (struct_shape range (unnamed fs)) c = in_fields 0 (unnamed fs) ++ in_where c
in_shape (struct_shape range fs) c = in_where c ++ in_fields 0 fs
in_shape (enum_shape range vs) c = in_where c ++ in_variants 0 vs.items
in_shape (union_shape range fs) c = in_where c ++ in_fields 0 (named fs)

abbrev pub found : Declaration → List Found
found d = declared types d.ident ∷ (flat_map in_param d.generics.params.items ++ in_shape d.shape d.generics.where_clause)

-- ---- what may not stand

abbrev pub is_macro : Found → Bool
is_macro (macro_at range) = true
is_macro (name_at scope name range) = false

-- whether the second name is the first one again
abbrev pub is_again : Found → Found → Bool
is_again (name_at a x r) (name_at b y s) = is_shared a b && bytes_eq x y
is_again _ _ = false

-- names that begin with `__`, and the type or a type or const parameter `derive_more`
abbrev pub is_reserved : Found → Bool
is_reserved (macro_at range) = false
is_reserved (name_at scope name range) = starts_with nat_eq name (codes "__") || (is_shared scope types && bytes_eq name (codes "derive_more"))

-- no macro type stands in it, its names are distinct, and none is reserved
pub record Named (d : Declaration) : Type 0 where
  pub no_macro : All (λ f. is_macro f ≡ false) (found d)
  pub distinct : AllPairs (λ f g. is_again f g ≡ false) (found d)
  pub none_reserved : All (λ f. is_reserved f ≡ false) (found d)

-- ---- the refusal

-- the first element that stands for an earlier one again
abbrev pub first_again : {A : Type 0} → (A → A → Bool) → List A → List A → Option A
first_again again earlier [] = None
first_again again earlier (x ∷ xs) = if list_any (λ y. again y x) earlier then Some x else first_again again (earlier ++ x ∷ []) xs

abbrev pub range_of : Found → Span
range_of (macro_at range) = range
range_of (name_at scope name range) = range

-- a refusal of this kind there, or else another one
abbrev pub refused_at : Kind → Option Found → Option Refusal → Option Refusal
refused_at kind None other = other
refused_at kind (Some f) other = Some (record { kind = kind; span = range_of f })

-- of each kind the first place in the text counts
abbrev pub names_refusal : Declaration → Option Refusal
names_refusal d =
    refused_at Unsupported (find is_macro (found d))
    (refused_at DuplicateName (first_again is_again [] (found d)) (refused_at ReservedName (find is_reserved (found d)) None))

-- why there is no answer: no memory, or the refusal of the declaration's names
abbrev pub IsNamesError : Declaration → Error → Type 0
IsNamesError d NoMemory = Unit {0}
IsNamesError d (Refused r) = names_refusal d ≡ Some r
