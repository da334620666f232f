-- Replacing `Self` twice is replacing it once: the segment that comes in its place holds no `Self` in its arguments.
use Rattle.std.proofs.Common.{◌≡◌, Bool, true, false, not, cond, if◌then◌else◌, List, [], ◌∷◌, ◌++◌, map, filter, Option, Some, None, option_map, unwrap_or, All, refl, sym, ap, ap₂, ◌∙◌}
use Rattle.std.proofs.lemmas.List.{map-append}
use Rattle.std.proofs.lemmas.List.Elements.{All-append, All-cons, All-filter, All-head, All-map, All-nil, All-tail}
use Rattle.dm_stream.specs.declared.tokens.Ident.{Ident}
use Rattle.dm_stream.specs.Layout.{nowhere}
use Rattle.dm_ast.specs.Tree.{TypeTree, type_tree, TypeNode, paren, tuple, slice, array, reference, pointer, bare_fn, trait_object, impl_trait, infer, never, path, macro_type, TypeTrees, no_types, type_then, MaybeType, no_type, some_type, MaybeSelf, no_self, some_self, BoundTree, outlives, implements, BoundTrees, no_bounds, bound_then, TraitBoundTree, trait_bound, FnTree, fn_tree, InputTree, input, InputTrees, no_inputs, input_then, PathTree, path_tree, SegmentTree, segment, SegmentTrees, no_segments, segment_then, ArgumentsTree, absent, angle, parens, ArgumentTree, lifetime_arg, type_arg, const_arg, assoc_type, assoc_const, constraint, ArgumentTrees, no_arguments, argument_then, arguments_of, MaybeArguments, arguments_absent, some_arguments}
use Rattle.dm_ast.specs.Declarations.{Listed, FieldTree, FieldsTree, named, unnamed, unit, VariantTree, ShapeTree, struct_shape, enum_shape, union_shape, ParamTree, lifetime_param, type_param, const_param, PredicateTree, lifetime_predicate, type_predicate, GenericsTree, Declaration}
use Rattle.dm_ast.specs.Implementors.{name_type, is_lifetime, is_other, bare, params_of, argument, arguments}
use Rattle.dm_copy.specs.Replaced.{is_self, replaced_type, replaced_node, replaced_types, replaced_output, replaced_qualifier, replaced_function, replaced_inputs, replaced_input, replaced_bounds, replaced_bound, replaced_trait, replaced_path, replaced_segments, replaced_segment, replaced_segment_arguments, replaced_arguments, replaced_argument, replaced_maybe_arguments, each, replaced_bound_list, replaced_param, replaced_predicate, replaced_generics, replaced_field, replaced_fields, replaced_variant, replaced_shape}
use Rattle.dm_replace.specs.Replaced.{declared_segment, replaced}
use Rattle.dm_copy.specs.Segments.{bracketed}
use Rattle.dm_replace.specs.Arguments.{arguments_where}
use Rattle.dm_replace.specs.Laws.{is_self_param, TwiceIsOnce}
use Rattle.dm_replace.proofs.DeclaredArguments.{arguments_by}

-- ---- in types

-- the segment that is put in stays as it is
abbrev Stays : SegmentTree → Type 0
Stays s = replaced_segment (Some s) s ≡ s

-- a segment that was replaced, or not
segment_twice : (s : SegmentTree) → Stays s → (i : Ident) (as' : ArgumentsTree) (b : Bool) → is_self i ≡ b →
    replaced_segment_arguments (Some s) as' ≡ as' →
    replaced_segment (Some s) (unwrap_or (if b then Some s else None) (segment i as')) ≡ unwrap_or (if b then Some s else None) (segment i as')
segment_twice s stays i as' true is_b same = stays
segment_twice s stays i as' false is_b same =
    ap (λ (b : Bool). unwrap_or (if b then Some s else None) (segment i (replaced_segment_arguments (Some s) as'))) is_b ∙ ap (λ z. segment i z) same

mutual
  pub type_twice : (s : SegmentTree) → Stays s → (t : TypeTree) → replaced_type (Some s) (replaced_type (Some s) t) ≡ replaced_type (Some s) t
  type_twice s stays (type_tree k range) = ap (λ z. type_tree z range) (node_twice s stays k)

  node_twice : (s : SegmentTree) → Stays s → (k : TypeNode) → replaced_node (Some s) (replaced_node (Some s) k) ≡ replaced_node (Some s) k
  node_twice s stays (paren t) = ap (λ z. paren z) (type_twice s stays t)
  node_twice s stays (tuple ts trailing) = ap (λ z. tuple z trailing) (types_twice s stays ts)
  node_twice s stays (slice t) = ap (λ z. slice z) (type_twice s stays t)
  node_twice s stays (array t o) = ap (λ z. array z o) (type_twice s stays t)
  node_twice s stays (reference l is_mut t) = ap (λ z. reference l is_mut z) (type_twice s stays t)
  node_twice s stays (pointer is_mut t) = ap (λ z. pointer is_mut z) (type_twice s stays t)
  node_twice s stays (bare_fn f) = ap (λ z. bare_fn z) (function_twice s stays f)
  node_twice s stays (trait_object bs trailing) = ap (λ z. trait_object z trailing) (bounds_twice s stays bs)
  node_twice s stays (impl_trait bs trailing) = ap (λ z. impl_trait z trailing) (bounds_twice s stays bs)
  node_twice s stays infer = refl
  node_twice s stays never = refl
  node_twice s stays (path q p) = ap₂ (λ x y. path x y) (qualifier_twice s stays q) (path_twice s stays p)
  node_twice s stays (macro_type m d ts) = refl

  types_twice : (s : SegmentTree) → Stays s → (ts : TypeTrees) → replaced_types (Some s) (replaced_types (Some s) ts) ≡ replaced_types (Some s) ts
  types_twice s stays no_types = refl
  types_twice s stays (type_then t ts) = ap₂ (λ x y. type_then x y) (type_twice s stays t) (types_twice s stays ts)

  output_twice : (s : SegmentTree) → Stays s → (o : MaybeType) → replaced_output (Some s) (replaced_output (Some s) o) ≡ replaced_output (Some s) o
  output_twice s stays no_type = refl
  output_twice s stays (some_type t) = ap (λ z. some_type z) (type_twice s stays t)

  qualifier_twice : (s : SegmentTree) → Stays s → (q : MaybeSelf) → replaced_qualifier (Some s) (replaced_qualifier (Some s) q) ≡ replaced_qualifier (Some s) q
  qualifier_twice s stays no_self = refl
  qualifier_twice s stays (some_self t position) = ap (λ z. some_self z position) (type_twice s stays t)

  function_twice : (s : SegmentTree) → Stays s → (f : FnTree) → replaced_function (Some s) (replaced_function (Some s) f) ≡ replaced_function (Some s) f
  function_twice s stays (fn_tree ls is_unsafe abi is trailing out) =
      ap₂ (λ x y. fn_tree ls is_unsafe abi x trailing y) (inputs_twice s stays is) (output_twice s stays out)

  inputs_twice : (s : SegmentTree) → Stays s → (is : InputTrees) → replaced_inputs (Some s) (replaced_inputs (Some s) is) ≡ replaced_inputs (Some s) is
  inputs_twice s stays no_inputs = refl
  inputs_twice s stays (input_then a as') = ap₂ (λ x y. input_then x y) (input_twice s stays a) (inputs_twice s stays as')

  input_twice : (s : SegmentTree) → Stays s → (a : InputTree) → replaced_input (Some s) (replaced_input (Some s) a) ≡ replaced_input (Some s) a
  input_twice s stays (input attrs i t) = ap (λ z. input attrs i z) (type_twice s stays t)

  bounds_twice : (s : SegmentTree) → Stays s → (bs : BoundTrees) → replaced_bounds (Some s) (replaced_bounds (Some s) bs) ≡ replaced_bounds (Some s) bs
  bounds_twice s stays no_bounds = refl
  bounds_twice s stays (bound_then b bs) = ap₂ (λ x y. bound_then x y) (bound_twice s stays b) (bounds_twice s stays bs)

  pub bound_twice : (s : SegmentTree) → Stays s → (b : BoundTree) → replaced_bound (Some s) (replaced_bound (Some s) b) ≡ replaced_bound (Some s) b
  bound_twice s stays (outlives l) = refl
  bound_twice s stays (implements t) = ap (λ z. implements z) (trait_twice s stays t)

  trait_twice : (s : SegmentTree) → Stays s → (t : TraitBoundTree) → replaced_trait (Some s) (replaced_trait (Some s) t) ≡ replaced_trait (Some s) t
  trait_twice s stays (trait_bound round maybe ls p) = ap (λ z. trait_bound round maybe ls z) (path_twice s stays p)

  path_twice : (s : SegmentTree) → Stays s → (p : PathTree) → replaced_path (Some s) (replaced_path (Some s) p) ≡ replaced_path (Some s) p
  path_twice s stays (path_tree leading ss) = ap (λ z. path_tree leading z) (segments_twice s stays ss)

  segments_twice : (s : SegmentTree) → Stays s → (ss : SegmentTrees) → replaced_segments (Some s) (replaced_segments (Some s) ss) ≡ replaced_segments (Some s) ss
  segments_twice s stays no_segments = refl
  segments_twice s stays (segment_then (segment i as') ss) =
      ap₂ (λ x y. segment_then x y) (segment_twice s stays i (replaced_segment_arguments (Some s) as') (is_self i) refl (segment_arguments_twice s stays as'))
      (segments_twice s stays ss)

  segment_arguments_twice : (s : SegmentTree) → Stays s → (as' : ArgumentsTree) →
      replaced_segment_arguments (Some s) (replaced_segment_arguments (Some s) as') ≡ replaced_segment_arguments (Some s) as'
  segment_arguments_twice s stays absent = refl
  segment_arguments_twice s stays (angle double gs trailing) = ap (λ z. angle double z trailing) (arguments_twice s stays gs)
  segment_arguments_twice s stays (parens ts trailing out) =
      ap₂ (λ x y. parens x trailing y) (types_twice s stays ts) (output_twice s stays out)

  arguments_twice : (s : SegmentTree) → Stays s → (gs : ArgumentTrees) → replaced_arguments (Some s) (replaced_arguments (Some s) gs) ≡ replaced_arguments (Some s) gs
  arguments_twice s stays no_arguments = refl
  arguments_twice s stays (argument_then g gs) = ap₂ (λ x y. argument_then x y) (argument_twice s stays g) (arguments_twice s stays gs)

  argument_twice : (s : SegmentTree) → Stays s → (g : ArgumentTree) → replaced_argument (Some s) (replaced_argument (Some s) g) ≡ replaced_argument (Some s) g
  argument_twice s stays (lifetime_arg l) = refl
  argument_twice s stays (type_arg t) = ap (λ z. type_arg z) (type_twice s stays t)
  argument_twice s stays (const_arg c) = refl
  argument_twice s stays (assoc_type i gs t) = ap₂ (λ x y. assoc_type i x y) (maybe_arguments_twice s stays gs) (type_twice s stays t)
  argument_twice s stays (assoc_const i gs c) = ap (λ z. assoc_const i z c) (maybe_arguments_twice s stays gs)
  argument_twice s stays (constraint i gs bs trailing) =
      ap₂ (λ x y. constraint i x y trailing) (maybe_arguments_twice s stays gs) (bounds_twice s stays bs)

  maybe_arguments_twice : (s : SegmentTree) → Stays s → (gs : MaybeArguments) →
      replaced_maybe_arguments (Some s) (replaced_maybe_arguments (Some s) gs) ≡ replaced_maybe_arguments (Some s) gs
  maybe_arguments_twice s stays arguments_absent = refl
  maybe_arguments_twice s stays (some_arguments gs trailing) = ap (λ z. some_arguments z trailing) (arguments_twice s stays gs)

-- ---- in declarations

abbrev Twice : {A : Type 0} → (A → A) → Type 0
Twice {A} f = (x : A) → f (f x) ≡ f x

map_twice : {A : Type 0} (f : A → A) → Twice f → Twice (map f)
map_twice f same [] = refl
map_twice f same (x ∷ xs) = ap₂ (λ y ys. y ∷ ys) (same x) (map_twice f same xs)

each_twice : {A : Type 0} (f : A → A) → Twice f → Twice (each f)
each_twice {A} f same xs =
    let put : List A → Listed A = λ z. record { items = z; trailing = xs.trailing } in ap put (map_twice f same xs.items)

some_twice : {A : Type 0} (f : A → A) → Twice f → Twice (option_map f)
some_twice f same None = refl
some_twice f same (Some x) = ap (λ z. Some z) (same x)

bound_list_twice : (s : SegmentTree) → Stays s → Twice (replaced_bound_list (Some s))
bound_list_twice s stays = each_twice (replaced_bound (Some s)) (bound_twice s stays)

param_twice : (s : SegmentTree) → Stays s → Twice (replaced_param (Some s))
param_twice s stays (lifetime_param attrs l bs) = refl
param_twice s stays (type_param attrs i bs default) =
    ap₂ (λ x y. type_param attrs i x y) (some_twice (replaced_bound_list (Some s)) (bound_list_twice s stays) bs)
    (some_twice (replaced_type (Some s)) (type_twice s stays) default)
param_twice s stays (const_param attrs i t default) = ap (λ z. const_param attrs i z default) (type_twice s stays t)

predicate_twice : (s : SegmentTree) → Stays s → Twice (replaced_predicate (Some s))
predicate_twice s stays (lifetime_predicate l ls) = refl
predicate_twice s stays (type_predicate ls t bs) = ap₂ (λ x y. type_predicate ls x y) (type_twice s stays t) (bound_list_twice s stays bs)

generics_twice : (s : SegmentTree) → Stays s → Twice (replaced_generics (Some s))
generics_twice s stays g =
    let of : Listed ParamTree → Option (Listed PredicateTree) → GenericsTree = λ x y. record { angled = g.angled; params = x; where_clause = y } in
    ap₂ of (each_twice (replaced_param (Some s)) (param_twice s stays) g.params)
    (some_twice (each (replaced_predicate (Some s))) (each_twice (replaced_predicate (Some s)) (predicate_twice s stays)) g.where_clause)

field_twice : (s : SegmentTree) → Stays s → Twice (replaced_field (Some s))
field_twice s stays f = let of : TypeTree → FieldTree = λ z. record f { ty = z } in ap of (type_twice s stays f.ty)

fields_twice : (s : SegmentTree) → Stays s → Twice (replaced_fields (Some s))
fields_twice s stays (named fs) = ap (λ z. named z) (each_twice (replaced_field (Some s)) (field_twice s stays) fs)
fields_twice s stays (unnamed fs) = ap (λ z. unnamed z) (each_twice (replaced_field (Some s)) (field_twice s stays) fs)
fields_twice s stays unit = refl

variant_twice : (s : SegmentTree) → Stays s → Twice (replaced_variant (Some s))
variant_twice s stays v = let of : FieldsTree → VariantTree = λ z. record v { fields = z } in ap of (fields_twice s stays v.fields)

shape_twice : (s : SegmentTree) → Stays s → Twice (replaced_shape (Some s))
shape_twice s stays (struct_shape range fs) = ap (λ z. struct_shape range z) (fields_twice s stays fs)
shape_twice s stays (enum_shape range vs) = ap (λ z. enum_shape range z) (each_twice (replaced_variant (Some s)) (variant_twice s stays) vs)
shape_twice s stays (union_shape range fs) = ap (λ z. union_shape range z) (each_twice (replaced_field (Some s)) (field_twice s stays) fs)

-- ---- the segment

argument_same : (s : SegmentTree) (p : ParamTree) → argument (bare (replaced_param (Some s) p)) ≡ argument (bare p)
argument_same s (lifetime_param attrs l bs) = refl
argument_same s (type_param attrs i bs default) = refl
argument_same s (const_param attrs i t default) = refl

lifetime_same : (s : SegmentTree) (p : ParamTree) → is_lifetime (replaced_param (Some s) p) ≡ is_lifetime p
lifetime_same s (lifetime_param attrs l bs) = refl
lifetime_same s (type_param attrs i bs default) = refl
lifetime_same s (const_param attrs i t default) = refl

other_same : (s : SegmentTree) (p : ParamTree) → is_other (replaced_param (Some s) p) ≡ is_other p
other_same s p = ap not (lifetime_same s p)

-- parameters that were replaced have the same arguments
arguments_behind : (b : Bool) (p : ParamTree) (ps : List ParamTree) →
    map argument (map bare (cond b (p ∷ ps) ps)) ≡ cond b (argument (bare p) ∷ map argument (map bare ps)) (map argument (map bare ps))
arguments_behind true p ps = refl
arguments_behind false p ps = refl

chosen_same : (s : SegmentTree) (k : ParamTree → Bool) → ((p : ParamTree) → k (replaced_param (Some s) p) ≡ k p) → (ps : List ParamTree) →
    arguments_where k (map (replaced_param (Some s)) ps) ≡ arguments_where k ps
chosen_same s k same [] = refl
chosen_same s k same (p ∷ ps) =
    arguments_behind (k (replaced_param (Some s) p)) (replaced_param (Some s) p) (filter k (map (replaced_param (Some s)) ps)) ∙
    ap₂ (λ x xs. cond (k (replaced_param (Some s) p)) (x ∷ xs) xs) (argument_same s p) (chosen_same s k same ps) ∙
    ap (λ b. cond b (argument (bare p) ∷ arguments_where k ps) (arguments_where k ps)) (same p) ∙
    sym (arguments_behind (k p) p (filter k ps))

segment_arguments : (d : Declaration) →
    map argument (params_of d) ≡ arguments_where is_lifetime d.generics.params.items ++ arguments_where is_other d.generics.params.items
segment_arguments d =
    let ls = filter is_lifetime d.generics.params.items in let os = filter is_other d.generics.params.items in
    map-append argument (map bare ls) (map bare os)

-- the segment of a declaration whose `Self` was replaced is that of the declaration
declared_same : (d : Declaration) → declared_segment (replaced d) ≡ declared_segment d
declared_same d =
    let s = declared_segment d in let ps = d.generics.params.items in
    ap (λ z. segment d.ident z)
    (arguments_by (params_of (replaced d)) ∙
    ap bracketed
    (segment_arguments (replaced d) ∙
    ap₂ (λ x y. x ++ y) (chosen_same s is_lifetime (lifetime_same s) ps) (chosen_same s is_other (other_same s) ps) ∙
    sym (segment_arguments d)) ∙
    sym (arguments_by (params_of d)))

-- ---- where no parameter is spelled `Self`

abbrev Other : ParamTree → Type 0
Other p = is_self_param p ≡ false

bare_other : (p : ParamTree) → Other p → Other (bare p)
bare_other (lifetime_param attrs l bs) other = other
bare_other (type_param attrs i bs default) other = other
bare_other (const_param attrs i t default) other = other

name_stays : (s : SegmentTree) (i : Ident) → is_self i ≡ false → replaced_type (Some s) (name_type i) ≡ name_type i
name_stays s i other =
    ap (λ (b : Bool). type_tree (path no_self (path_tree false (segment_then (unwrap_or (if b then Some s else None) (segment i absent)) no_segments))) nowhere) other

argument_stays : (s : SegmentTree) (p : ParamTree) → Other p → replaced_argument (Some s) (argument p) ≡ argument p
argument_stays s (lifetime_param attrs l bs) other = refl
argument_stays s (type_param attrs i bs default) other = ap (λ z. type_arg z) (name_stays s i other)
argument_stays s (const_param attrs i t default) other = ap (λ z. type_arg z) (name_stays s i other)

arguments_stay : (s : SegmentTree) (ps : List ParamTree) → All Other ps →
    replaced_arguments (Some s) (arguments_of (map argument ps)) ≡ arguments_of (map argument ps)
arguments_stay s [] all = refl
arguments_stay s (p ∷ ps) all = ap₂ (λ x y. argument_then x y) (argument_stays s p (All-head Other p ps all))
    (arguments_stay s ps (All-tail Other p ps all))

brackets_stay : (s : SegmentTree) (ps : List ParamTree) → All Other ps → replaced_segment_arguments (Some s) (arguments ps) ≡ arguments ps
brackets_stay s [] all = refl
brackets_stay s (p ∷ ps) all = ap (λ z. angle false z false) (arguments_stay s (p ∷ ps) all)

-- a segment with such arguments stays, also where its name is `Self`
segment_stays : (i : Ident) (as' : ArgumentsTree) (b : Bool) → is_self i ≡ b →
    replaced_segment_arguments (Some (segment i as')) as' ≡ as' → Stays (segment i as')
segment_stays i as' true is_b same =
    ap (λ (b : Bool). unwrap_or (if b then Some (segment i as') else None) (segment i (replaced_segment_arguments (Some (segment i as')) as'))) is_b
segment_stays i as' false is_b same =
    ap (λ (b : Bool). unwrap_or (if b then Some (segment i as') else None) (segment i (replaced_segment_arguments (Some (segment i as')) as'))) is_b ∙ ap (λ z. segment i z) same

bares_other : (ps : List ParamTree) → All Other ps → All (λ p. Other (bare p)) ps
bares_other [] all = All-nil (λ p. Other (bare p))
bares_other (p ∷ ps) all =
    All-cons (λ q. Other (bare q)) p ps (bare_other p (All-head Other p ps all)) (bares_other ps (All-tail Other p ps all))

some_other : (k : ParamTree → Bool) (ps : List ParamTree) → All Other ps → All Other (map bare (filter k ps))
some_other k ps all = All-map Other bare (filter k ps) (All-filter k (λ p. Other (bare p)) ps (bares_other ps all))

params_other : (d : Declaration) → All Other d.generics.params.items → All Other (params_of d)
params_other d all =
    let ps = d.generics.params.items in
    All-append Other (map bare (filter is_lifetime ps)) (map bare (filter is_other ps)) (some_other is_lifetime ps all) (some_other is_other ps all)

declared_stays : (d : Declaration) → All Other d.generics.params.items → Stays (declared_segment d)
declared_stays d all =
    segment_stays d.ident (arguments (params_of d)) (is_self d.ident) refl (brackets_stay (declared_segment d) (params_of d) (params_other d all))

-- ---- the law

pub twice_is_once : TwiceIsOnce
twice_is_once d all =
    let s = declared_segment d in let stays = declared_stays d all in
    let of : SegmentTree → Declaration = λ z. record d { generics = replaced_generics (Some z) (replaced_generics (Some s) d.generics); shape = replaced_shape (Some z) (replaced_shape (Some s) d.shape) } in
    let both : GenericsTree → ShapeTree → Declaration = λ x y. record d { generics = x; shape = y } in
    ap of (declared_same d) ∙ ap₂ both (generics_twice s stays d.generics) (shape_twice s stays d.shape)
