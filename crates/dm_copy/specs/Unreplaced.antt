-- Where nothing stands for `Self`, types and declarations stay as they are.
use Rattle.std.proofs.Common.{◌≡◌, ℕ, Bool, true, false, if◌then◌else◌, List, [], ◌∷◌, map, Option, None, Some, option_map, unwrap_or, refl, ap, ap₂, ◌∙◌}
use Rattle.dm_stream.specs.declared.tokens.Ident.{Ident}
use Rattle.dm_stream.specs.declared.tokens.Span.{Span}
use Rattle.dm_ast.specs.Tree.{TypeTree, type_tree, TypeNode, paren, tuple, slice, array, reference, pointer, bare_fn, trait_object, impl_trait, infer, never, path, macro_type, TypeTrees, no_types, type_then, MaybeType, no_type, some_type, MaybeSelf, no_self, some_self, BoundTree, outlives, implements, BoundTrees, no_bounds, bound_then, TraitBoundTree, trait_bound, FnTree, fn_tree, InputTree, input, InputTrees, no_inputs, input_then, PathTree, path_tree, SegmentTree, segment, SegmentTrees, no_segments, segment_then, ArgumentsTree, absent, angle, parens, ArgumentTree, lifetime_arg, type_arg, const_arg, assoc_type, assoc_const, constraint, ArgumentTrees, no_arguments, argument_then, MaybeArguments, arguments_absent, some_arguments}
use Rattle.dm_ast.specs.Declarations.{Listed, FieldTree, FieldsTree, named, unnamed, unit, VariantTree, ShapeTree, struct_shape, enum_shape, union_shape, ParamTree, lifetime_param, type_param, const_param, PredicateTree, lifetime_predicate, type_predicate, GenericsTree, Declaration}
use Rattle.dm_copy.specs.Replaced.{is_self, standing, replaced_type, replaced_node, replaced_types, replaced_output, replaced_qualifier, replaced_function, replaced_inputs, replaced_input, replaced_bounds, replaced_bound, replaced_trait, replaced_path, replaced_segments, replaced_segment, replaced_segment_arguments, replaced_arguments, replaced_argument, replaced_maybe_arguments, each, replaced_bound_list, replaced_param, replaced_predicate, replaced_generics, replaced_field, replaced_fields, replaced_variant, replaced_shape, replaced_declaration}

abbrev nothing : Option SegmentTree
nothing = None

nothing_stands : (i : Ident) → standing i nothing ≡ nothing
nothing_stands i = by (is_self i)
  where
    by : (b : Bool) → (if b then nothing else None) ≡ nothing
    by true = refl
    by false = refl

-- ---- types

mutual
  pub type_same : (t : TypeTree) → replaced_type None t ≡ t
  type_same (type_tree k range) = ap (λ z. type_tree z range) (node_same k)

  pub node_same : (k : TypeNode) → replaced_node None k ≡ k
  node_same (paren t) = ap (λ z. paren z) (type_same t)
  node_same (tuple ts trailing) = ap (λ z. tuple z trailing) (types_same ts)
  node_same (slice t) = ap (λ z. slice z) (type_same t)
  node_same (array t o) = ap (λ z. array z o) (type_same t)
  node_same (reference l is_mut t) = ap (λ z. reference l is_mut z) (type_same t)
  node_same (pointer is_mut t) = ap (λ z. pointer is_mut z) (type_same t)
  node_same (bare_fn f) = ap (λ z. bare_fn z) (function_same f)
  node_same (trait_object bs trailing) = ap (λ z. trait_object z trailing) (bounds_same bs)
  node_same (impl_trait bs trailing) = ap (λ z. impl_trait z trailing) (bounds_same bs)
  node_same infer = refl
  node_same never = refl
  node_same (path q p) = ap₂ (λ x y. path x y) (qualifier_same q) (path_same p)
  node_same (macro_type m d ts) = refl

  types_same : (ts : TypeTrees) → replaced_types None ts ≡ ts
  types_same no_types = refl
  types_same (type_then t ts) = ap₂ (λ x y. type_then x y) (type_same t) (types_same ts)

  output_same : (o : MaybeType) → replaced_output None o ≡ o
  output_same no_type = refl
  output_same (some_type t) = ap (λ z. some_type z) (type_same t)

  qualifier_same : (q : MaybeSelf) → replaced_qualifier None q ≡ q
  qualifier_same no_self = refl
  qualifier_same (some_self t position) = ap (λ z. some_self z position) (type_same t)

  pub function_same : (f : FnTree) → replaced_function None f ≡ f
  function_same (fn_tree ls is_unsafe abi is trailing out) =
      ap₂ (λ x y. fn_tree ls is_unsafe abi x trailing y) (inputs_same is) (output_same out)

  inputs_same : (is : InputTrees) → replaced_inputs None is ≡ is
  inputs_same no_inputs = refl
  inputs_same (input_then a as') = ap₂ (λ x y. input_then x y) (input_same a) (inputs_same as')

  pub input_same : (a : InputTree) → replaced_input None a ≡ a
  input_same (input attrs i t) = ap (λ z. input attrs i z) (type_same t)

  bounds_same : (bs : BoundTrees) → replaced_bounds None bs ≡ bs
  bounds_same no_bounds = refl
  bounds_same (bound_then b bs) = ap₂ (λ x y. bound_then x y) (bound_same b) (bounds_same bs)

  pub bound_same : (b : BoundTree) → replaced_bound None b ≡ b
  bound_same (outlives l) = refl
  bound_same (implements t) = ap (λ z. implements z) (trait_same t)

  pub trait_same : (t : TraitBoundTree) → replaced_trait None t ≡ t
  trait_same (trait_bound round maybe ls p) = ap (λ z. trait_bound round maybe ls z) (path_same p)

  pub path_same : (p : PathTree) → replaced_path None p ≡ p
  path_same (path_tree leading ss) = ap (λ z. path_tree leading z) (segments_same ss)

  segments_same : (ss : SegmentTrees) → replaced_segments None ss ≡ ss
  segments_same no_segments = refl
  segments_same (segment_then g ss) = ap₂ (λ x y. segment_then x y) (segment_same g) (segments_same ss)

  pub segment_same : (g : SegmentTree) → replaced_segment None g ≡ g
  segment_same (segment i as') =
      ap (λ z. unwrap_or z (segment i (replaced_segment_arguments None as'))) (nothing_stands i) ∙ ap (λ z. segment i z) (segment_arguments_same as')

  pub segment_arguments_same : (as' : ArgumentsTree) →
      replaced_segment_arguments None as' ≡ as'
  segment_arguments_same absent = refl
  segment_arguments_same (angle double gs trailing) = ap (λ z. angle double z trailing) (arguments_same gs)
  segment_arguments_same (parens ts trailing out) =
      ap₂ (λ x y. parens x trailing y) (types_same ts) (output_same out)

  arguments_same : (gs : ArgumentTrees) → replaced_arguments None gs ≡ gs
  arguments_same no_arguments = refl
  arguments_same (argument_then g gs) = ap₂ (λ x y. argument_then x y) (argument_same g) (arguments_same gs)

  pub argument_same : (g : ArgumentTree) → replaced_argument None g ≡ g
  argument_same (lifetime_arg l) = refl
  argument_same (type_arg t) = ap (λ z. type_arg z) (type_same t)
  argument_same (const_arg c) = refl
  argument_same (assoc_type i gs t) = ap₂ (λ x y. assoc_type i x y) (maybe_arguments_same gs) (type_same t)
  argument_same (assoc_const i gs c) = ap (λ z. assoc_const i z c) (maybe_arguments_same gs)
  argument_same (constraint i gs bs trailing) =
      ap₂ (λ x y. constraint i x y trailing) (maybe_arguments_same gs) (bounds_same bs)

  maybe_arguments_same : (gs : MaybeArguments) →
      replaced_maybe_arguments None gs ≡ gs
  maybe_arguments_same arguments_absent = refl
  maybe_arguments_same (some_arguments gs trailing) = ap (λ z. some_arguments z trailing) (arguments_same gs)

pub qself_same : (q : TypeTree × ℕ) → (replaced_type None q.0, q.1) ≡ q
qself_same q = ap (λ t. (t, q.1)) (type_same q.0)

-- ---- lists

pub list_same : {A : Type 0} (f : A → A) → ((x : A) → f x ≡ x) → (xs : List A) → map f xs ≡ xs
list_same f same [] = refl
list_same f same (x ∷ xs) = ap₂ (λ y ys. y ∷ ys) (same x) (list_same f same xs)

pub option_same : {A : Type 0} (f : A → A) → ((x : A) → f x ≡ x) → (o : Option A) → option_map f o ≡ o
option_same f same None = refl
option_same f same (Some x) = ap (λ z. Some z) (same x)

pub each_same : {A : Type 0} (f : A → A) → ((x : A) → f x ≡ x) → (xs : Listed A) → each f xs ≡ xs
each_same {A} f same xs =
    let put : List A → Listed A = λ z. record { items = z; trailing = xs.trailing } in ap put (list_same f same xs.items)

-- ---- declarations

pub param_same : (p : ParamTree) → replaced_param None p ≡ p
param_same (lifetime_param attrs l bs) = refl
param_same (type_param attrs i bs default) =
    ap₂ (λ x y. type_param attrs i x y) (option_same (replaced_bound_list None) (each_same (replaced_bound None) bound_same) bs)
    (option_same (replaced_type None) type_same default)
param_same (const_param attrs i t default) = ap (λ z. const_param attrs i z default) (type_same t)

pub predicate_same : (p : PredicateTree) → replaced_predicate None p ≡ p
predicate_same (lifetime_predicate l ls) = refl
predicate_same (type_predicate ls t bs) =
    ap₂ (λ x y. type_predicate ls x y) (type_same t) (each_same (replaced_bound None) bound_same bs)

pub generics_same : (g : GenericsTree) → replaced_generics None g ≡ g
generics_same g =
    let of : Listed ParamTree → Option (Listed PredicateTree) → GenericsTree = λ x y. record { angled = g.angled; params = x; where_clause = y } in
    ap₂ of (each_same (replaced_param None) param_same g.params)
    (option_same (each (replaced_predicate None)) (each_same (replaced_predicate None) predicate_same) g.where_clause)

pub field_same : (f : FieldTree) → replaced_field None f ≡ f
field_same f = let of : TypeTree → FieldTree = λ z. record f { ty = z } in ap of (type_same f.ty)

pub fields_same : (fs : FieldsTree) → replaced_fields None fs ≡ fs
fields_same (named fs) = ap (λ z. named z) (each_same (replaced_field None) field_same fs)
fields_same (unnamed fs) = ap (λ z. unnamed z) (each_same (replaced_field None) field_same fs)
fields_same unit = refl

pub variant_same : (v : VariantTree) → replaced_variant None v ≡ v
variant_same v = let of : FieldsTree → VariantTree = λ z. record v { fields = z } in ap of (fields_same v.fields)

pub shape_same : (s : ShapeTree) → replaced_shape None s ≡ s
shape_same (struct_shape range fs) = ap (λ z. struct_shape range z) (fields_same fs)
shape_same (enum_shape range vs) = ap (λ z. enum_shape range z) (each_same (replaced_variant None) variant_same vs)
shape_same (union_shape range fs) = ap (λ z. union_shape range z) (each_same (replaced_field None) field_same fs)

pub struct_same : (s : Span × FieldsTree) → (s.0, replaced_fields None s.1) ≡ s
struct_same s = ap (λ fs. (s.0, fs)) (fields_same s.1)

pub enum_same : (e : Span × Listed VariantTree) → (e.0, each (replaced_variant None) e.1) ≡ e
enum_same e = ap (λ vs. (e.0, vs)) (each_same (replaced_variant None) variant_same e.1)

pub union_same : (u : Span × Listed FieldTree) → (u.0, each (replaced_field None) u.1) ≡ u
union_same u = ap (λ fs. (u.0, fs)) (each_same (replaced_field None) field_same u.1)

pub declaration_same : (d : Declaration) → replaced_declaration None d ≡ d
declaration_same d =
    let of : GenericsTree → ShapeTree → Declaration = λ x y. record d { generics = x; shape = y } in
    ap₂ of (generics_same d.generics) (shape_same d.shape)
