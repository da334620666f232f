-- Among what is found in a declaration only its own names can repeat: macro types and the lifetimes of a `for` don't.
use Rattle.std.proofs.Common.{◌≡◌, ℕ, ◌+◌, Bool, true, false, ◌||◌, cond, List, [], ◌∷◌, ◌++◌, map, flat_map, filter, Option, Some, None, refl, sym, ap, ap₂, ◌∙◌, append-nil}
use Rattle.std.specs.List.{list_any}
use Rattle.std.proofs.lemmas.List.Elements.{filter-append}
use Rattle.dm_stream.specs.declared.tokens.Span.{Span}
use Rattle.dm_stream.specs.declared.tokens.Ident.{Ident}
use Rattle.dm_stream.specs.declared.tokens.Lifetime.{Lifetime}
use Rattle.dm_ast.specs.Tree.{Lifetimes, TypeTree, type_tree, TypeNode, paren, tuple, slice, array, reference, pointer, bare_fn, trait_object, impl_trait, infer, never, path, macro_type, TypeTrees, no_types, type_then, MaybeType, no_type, some_type, MaybeSelf, no_self, some_self, BoundTree, outlives, implements, BoundTrees, no_bounds, bound_then, TraitBoundTree, trait_bound, FnTree, fn_tree, InputTree, input, InputTrees, no_inputs, input_then, PathTree, path_tree, SegmentTree, segment, SegmentTrees, no_segments, segment_then, ArgumentsTree, absent, angle, parens, ArgumentTree, lifetime_arg, type_arg, const_arg, assoc_type, assoc_const, constraint, ArgumentTrees, no_arguments, argument_then, MaybeArguments, arguments_absent, some_arguments}
use Rattle.dm_ast.specs.Declarations.{Listed, FieldTree, FieldsTree, named, unnamed, unit, VariantTree, ShapeTree, struct_shape, enum_shape, union_shape, ParamTree, lifetime_param, type_param, const_param, PredicateTree, lifetime_predicate, type_predicate, Declaration}
use Rattle.dm_ast.specs.Names.{types, lifetimes, variants, fields, bound, Found, macro_at, name_at, is_again, first_again, in_for, in_type, in_node, in_types, in_output, in_self, in_function, in_inputs, in_input, in_bounds, in_bound, in_trait, in_path, in_segments, in_segment, in_segment_arguments, in_arguments, in_argument, in_maybe_arguments, in_some, in_bound_list, declared, in_param, in_predicate, in_where, in_field, in_fields, in_variants, in_shape, found}

abbrev pub is_own : Found → Bool
is_own (macro_at range) = false
is_own (name_at types name range) = true
is_own (name_at lifetimes name range) = true
is_own (name_at variants name range) = true
is_own (name_at (fields n) name range) = true
is_own (name_at bound name range) = false

abbrev pub own : List Found → List Found
own fs = filter is_own fs

own-append : (xs ys : List Found) → own (xs ++ ys) ≡ own xs ++ own ys
own-append xs ys = filter-append is_own xs ys

-- ---- what is no own name stands for none again, and none for it

not_before : (x y : Found) → is_own x ≡ false → is_again x y ≡ false
not_before (macro_at r) (macro_at s) e = refl
not_before (macro_at r) (name_at b y s) e = refl
not_before (name_at types x r) y e = absurd (cc)
not_before (name_at lifetimes x r) y e = absurd (cc)
not_before (name_at variants x r) y e = absurd (cc)
not_before (name_at (fields n) x r) y e = absurd (cc)
not_before (name_at bound x r) (macro_at s) e = refl
not_before (name_at bound x r) (name_at types y s) e = refl
not_before (name_at bound x r) (name_at lifetimes y s) e = refl
not_before (name_at bound x r) (name_at variants y s) e = refl
not_before (name_at bound x r) (name_at (fields n) y s) e = refl
not_before (name_at bound x r) (name_at bound y s) e = refl

not_after : (x y : Found) → is_own y ≡ false → is_again x y ≡ false
not_after (macro_at r) (macro_at s) e = refl
not_after (macro_at r) (name_at b y s) e = refl
not_after (name_at a x r) (macro_at s) e = refl
not_after (name_at a x r) (name_at types y s) e = absurd (cc)
not_after (name_at a x r) (name_at lifetimes y s) e = absurd (cc)
not_after (name_at a x r) (name_at variants y s) e = absurd (cc)
not_after (name_at a x r) (name_at (fields n) y s) e = absurd (cc)
not_after (name_at types x r) (name_at bound y s) e = refl
not_after (name_at lifetimes x r) (name_at bound y s) e = refl
not_after (name_at variants x r) (name_at bound y s) e = refl
not_after (name_at (fields n) x r) (name_at bound y s) e = refl
not_after (name_at bound x r) (name_at bound y s) e = refl

none_before : (earlier : List Found) (y : Found) → is_own y ≡ false → list_any (λ x. is_again x y) earlier ≡ false
none_before [] y e = refl
none_before (x ∷ xs) y e = ap₂ ◌||◌ (not_after x y e) (none_before xs y e)

drop_first : (b c d : Bool) → (b ≡ false → c ≡ false) → (c || d) ≡ cond b (c || d) d
drop_first true c d h = refl
drop_first false c d h = ap (λ x. x || d) (h refl)

any_kept : (p : Found → Bool) (b : Bool) (x : Found) (xs : List Found) →
    list_any p (cond b (x ∷ xs) xs) ≡ cond b (p x || list_any p xs) (list_any p xs)
any_kept p true x xs = refl
any_kept p false x xs = refl

own_before : (earlier : List Found) (y : Found) → list_any (λ x. is_again x y) earlier ≡ list_any (λ x. is_again x y) (own earlier)
own_before [] y = refl
own_before (x ∷ xs) y =
    ap (λ b. is_again x y || b) (own_before xs y) ∙ drop_first (is_own x) (is_again x y) (list_any (λ z. is_again z y) (own xs)) (not_before x y) ∙
    sym (any_kept (λ z. is_again z y) (is_own x) x (own xs))

-- the first step of a search at an own name and at another
own_step : (b : Bool) (earlier : List Found) (x : Found) (xs : List Found) →
    is_own x ≡ b → first_again is_again (own (earlier ++ x ∷ [])) (own xs) ≡ first_again is_again (own earlier ++ cond b (x ∷ []) []) (own xs)
own_step b earlier x xs e =
    ap (λ zs. first_again is_again zs (own xs)) (own-append earlier (x ∷ []) ∙ ap (λ c. own earlier ++ cond c (x ∷ []) []) e)

own_first : (b : Bool) (earlier : List Found) (x : Found) (xs : List Found) → is_own x ≡ b →
    cond (list_any (λ y. is_again y x) earlier) (Some x) (first_again is_again (own (earlier ++ x ∷ [])) (own xs)) ≡
    first_again is_again (own earlier) (cond b (x ∷ own xs) (own xs))
own_first true earlier x xs e =
    ap₂ (λ c r. cond c (Some x) r) (own_before earlier x) (own_step true earlier x xs e)
own_first false earlier x xs e =
    ap₂ (λ c r. cond c (Some x) r) (none_before earlier x e) (own_step false earlier x xs e) ∙
    ap (λ zs. first_again is_again zs (own xs)) (append-nil (own earlier))

pub own_again : (earlier xs : List Found) → first_again is_again earlier xs ≡ first_again is_again (own earlier) (own xs)
own_again earlier [] = refl
own_again earlier (x ∷ xs) =
    ap (λ r. cond (list_any (λ y. is_again y x) earlier) (Some x) r) (own_again (earlier ++ x ∷ []) xs) ∙ own_first (is_own x) earlier x xs refl

-- ---- a type has no own names

none_in : (xs ys : List Found) → own xs ≡ [] → own ys ≡ [] → own (xs ++ ys) ≡ []
none_in xs ys e f = own-append xs ys ∙ ap₂ ◌++◌ e f

none_in_lifetimes : (ls : List Lifetime) → own (map (λ l. name_at bound l.name l.span) ls) ≡ []
none_in_lifetimes [] = refl
none_in_lifetimes (l ∷ ls) = none_in_lifetimes ls

none_in_for : (ls : Lifetimes) → own (in_for ls) ≡ []
none_in_for None = refl
none_in_for (Some ls) = none_in_lifetimes ls.items

mutual
  pub none_in_type : (t : TypeTree) → own (in_type t) ≡ []
  none_in_type (type_tree n range) = none_in_node n range

  none_in_node : (n : TypeNode) (range : Span) → own (in_node n range) ≡ []
  none_in_node (paren t) range = none_in_type t
  none_in_node (tuple ts trailing) range = none_in_types ts
  none_in_node (slice t) range = none_in_type t
  none_in_node (array t o) range = none_in_type t
  none_in_node (reference l is_mut t) range = none_in_type t
  none_in_node (pointer is_mut t) range = none_in_type t
  none_in_node (bare_fn f) range = none_in_function f
  none_in_node (trait_object bs trailing) range = none_in_bounds bs
  none_in_node (impl_trait bs trailing) range = none_in_bounds bs
  none_in_node infer range = refl
  none_in_node never range = refl
  none_in_node (path q p) range = none_in (in_self q) (in_path p) (none_in_self q) (none_in_path p)
  none_in_node (macro_type p d inside) range = refl

  none_in_types : (ts : TypeTrees) → own (in_types ts) ≡ []
  none_in_types no_types = refl
  none_in_types (type_then t ts) = none_in (in_type t) (in_types ts) (none_in_type t) (none_in_types ts)

  none_in_output : (t : MaybeType) → own (in_output t) ≡ []
  none_in_output no_type = refl
  none_in_output (some_type t) = none_in_type t

  none_in_self : (q : MaybeSelf) → own (in_self q) ≡ []
  none_in_self no_self = refl
  none_in_self (some_self t n) = none_in_type t

  none_in_function : (f : FnTree) → own (in_function f) ≡ []
  none_in_function (fn_tree ls is_unsafe abi is trailing out) =
      none_in (in_for ls) (in_inputs is ++ in_output out) (none_in_for ls) (none_in (in_inputs is) (in_output out) (none_in_inputs is) (none_in_output out))

  none_in_inputs : (is : InputTrees) → own (in_inputs is) ≡ []
  none_in_inputs no_inputs = refl
  none_in_inputs (input_then a as') = none_in (in_input a) (in_inputs as') (none_in_input a) (none_in_inputs as')

  none_in_input : (a : InputTree) → own (in_input a) ≡ []
  none_in_input (input attrs i t) = none_in_type t

  none_in_bound : (b : BoundTree) → own (in_bound b) ≡ []
  none_in_bound (outlives l) = refl
  none_in_bound (implements t) = none_in_trait t

  none_in_bounds : (bs : BoundTrees) → own (in_bounds bs) ≡ []
  none_in_bounds no_bounds = refl
  none_in_bounds (bound_then b bs) = none_in (in_bound b) (in_bounds bs) (none_in_bound b) (none_in_bounds bs)

  none_in_trait : (t : TraitBoundTree) → own (in_trait t) ≡ []
  none_in_trait (trait_bound round maybe ls p) = none_in (in_for ls) (in_path p) (none_in_for ls) (none_in_path p)

  none_in_path : (p : PathTree) → own (in_path p) ≡ []
  none_in_path (path_tree leading ss) = none_in_segments ss

  none_in_segments : (ss : SegmentTrees) → own (in_segments ss) ≡ []
  none_in_segments no_segments = refl
  none_in_segments (segment_then s ss) = none_in (in_segment s) (in_segments ss) (none_in_segment s) (none_in_segments ss)

  none_in_segment : (s : SegmentTree) → own (in_segment s) ≡ []
  none_in_segment (segment i as') = none_in_segment_arguments as'

  none_in_segment_arguments : (a : ArgumentsTree) → own (in_segment_arguments a) ≡ []
  none_in_segment_arguments absent = refl
  none_in_segment_arguments (angle double gs trailing) = none_in_arguments gs
  none_in_segment_arguments (parens ts trailing out) = none_in (in_types ts) (in_output out) (none_in_types ts) (none_in_output out)

  none_in_arguments : (gs : ArgumentTrees) → own (in_arguments gs) ≡ []
  none_in_arguments no_arguments = refl
  none_in_arguments (argument_then g gs) = none_in (in_argument g) (in_arguments gs) (none_in_argument g) (none_in_arguments gs)

  none_in_argument : (g : ArgumentTree) → own (in_argument g) ≡ []
  none_in_argument (lifetime_arg l) = refl
  none_in_argument (type_arg t) = none_in_type t
  none_in_argument (const_arg c) = refl
  none_in_argument (assoc_type i gs t) = none_in (in_maybe_arguments gs) (in_type t) (none_in_maybe_arguments gs) (none_in_type t)
  none_in_argument (assoc_const i gs c) = none_in_maybe_arguments gs
  none_in_argument (constraint i gs bs trailing) = none_in (in_maybe_arguments gs) (in_bounds bs) (none_in_maybe_arguments gs) (none_in_bounds bs)

  none_in_maybe_arguments : (gs : MaybeArguments) → own (in_maybe_arguments gs) ≡ []
  none_in_maybe_arguments arguments_absent = refl
  none_in_maybe_arguments (some_arguments gs trailing) = none_in_arguments gs

-- ---- what is left of a declaration

none_in_some : {A : Type 0} (inside : A → List Found) (o : Option A) → ((a : A) → own (inside a) ≡ []) → own (in_some inside o) ≡ []
none_in_some inside None h = refl
none_in_some inside (Some a) h = h a

none_in_all : {A : Type 0} (inside : A → List Found) (xs : List A) → ((a : A) → own (inside a) ≡ []) → own (flat_map inside xs) ≡ []
none_in_all inside [] h = refl
none_in_all inside (x ∷ xs) h = none_in (inside x) (flat_map inside xs) (h x) (none_in_all inside xs h)

none_in_bound_list : (bs : Listed BoundTree) → own (in_bound_list bs) ≡ []
none_in_bound_list bs = none_in_all in_bound bs.items none_in_bound

none_in_predicate : (p : PredicateTree) → own (in_predicate p) ≡ []
none_in_predicate (lifetime_predicate l ls) = refl
none_in_predicate (type_predicate ls t bs) =
    none_in (in_for ls) (in_type t ++ in_bound_list bs) (none_in_for ls) (none_in (in_type t) (in_bound_list bs) (none_in_type t) (none_in_bound_list bs))

none_in_where : (c : Option (Listed PredicateTree)) → own (in_where c) ≡ []
none_in_where c = none_in_some (λ ps. flat_map in_predicate ps.items) c (λ ps. none_in_all in_predicate ps.items none_in_predicate)

abbrev pub own_param : ParamTree → Found
own_param (lifetime_param attrs l bs) = name_at lifetimes l.name l.span
own_param (type_param attrs i bs default) = declared types i
own_param (const_param attrs i t default) = declared types i

own_in_param : (p : ParamTree) → own (in_param p) ≡ own_param p ∷ []
own_in_param (lifetime_param attrs l bs) = refl
own_in_param (type_param attrs i bs default) =
    ap (λ zs. declared types i ∷ zs)
    (none_in (in_some in_bound_list bs) (in_some in_type default) (none_in_some in_bound_list bs none_in_bound_list) (none_in_some in_type default none_in_type))
own_in_param (const_param attrs i t default) = ap (λ zs. declared types i ∷ zs) (none_in_type t)

own_in_params : (ps : List ParamTree) → own (flat_map in_param ps) ≡ map own_param ps
own_in_params [] = refl
own_in_params (p ∷ ps) = own-append (in_param p) (flat_map in_param ps) ∙ ap₂ ◌++◌ (own_in_param p) (own_in_params ps)

abbrev pub own_label : ℕ → Option Ident → List Found
own_label n None = []
own_label n (Some i) = declared (fields n) i ∷ []

own_in_label : (n : ℕ) (i : Option Ident) → own (in_some (λ j. declared (fields n) j ∷ []) i) ≡ own_label n i
own_in_label n None = refl
own_in_label n (Some i) = refl

abbrev pub own_field : ℕ → FieldTree → List Found
own_field n f = own_label n f.ident

right_none : (xs ys : List Found) → ys ≡ [] → xs ++ ys ≡ xs
right_none xs ys e = ap (λ zs. xs ++ zs) e ∙ append-nil xs

own_in_field : (n : ℕ) (f : FieldTree) → own (in_field n f) ≡ own_field n f
own_in_field n f =
    own-append (in_some (λ i. declared (fields n) i ∷ []) f.ident) (in_type f.ty) ∙
    right_none (own (in_some (λ i. declared (fields n) i ∷ []) f.ident)) (own (in_type f.ty)) (none_in_type f.ty) ∙ own_in_label n f.ident

own_in_all_fields : (n : ℕ) (fs : List FieldTree) → own (flat_map (in_field n) fs) ≡ flat_map (own_field n) fs
own_in_all_fields n [] = refl
own_in_all_fields n (f ∷ fs) = own-append (in_field n f) (flat_map (in_field n) fs) ∙ ap₂ ◌++◌ (own_in_field n f) (own_in_all_fields n fs)

abbrev pub own_fields : ℕ → FieldsTree → List Found
own_fields n (named fs) = flat_map (own_field n) fs.items
own_fields n (unnamed fs) = flat_map (own_field n) fs.items
own_fields n unit = []

own_in_fields : (n : ℕ) (fs : FieldsTree) → own (in_fields n fs) ≡ own_fields n fs
own_in_fields n (named fs) = own_in_all_fields n fs.items
own_in_fields n (unnamed fs) = own_in_all_fields n fs.items
own_in_fields n unit = refl

abbrev pub own_variants : ℕ → List VariantTree → List Found
own_variants n [] = []
own_variants n (v ∷ vs) = declared variants v.ident ∷ (own_fields n v.fields ++ own_variants (n + 1) vs)

own_in_variants : (n : ℕ) (vs : List VariantTree) → own (in_variants n vs) ≡ own_variants n vs
own_in_variants n [] = refl
own_in_variants n (v ∷ vs) =
    ap (λ zs. declared variants v.ident ∷ zs)
    (own-append (in_fields n v.fields) (in_variants (n + 1) vs) ∙ ap₂ ◌++◌ (own_in_fields n v.fields) (own_in_variants (n + 1) vs))

abbrev pub own_shape : ShapeTree → List Found
own_shape (struct_shape range fs) = own_fields 0 fs
own_shape (enum_shape range vs) = own_variants 0 vs.items
own_shape (union_shape range fs) = flat_map (own_field 0) fs.items

behind_where : (c : Option (Listed PredicateTree)) (xs ys : List Found) → own xs ≡ ys → own (in_where c ++ xs) ≡ ys
behind_where c xs ys e = own-append (in_where c) xs ∙ ap (λ zs. zs ++ own xs) (none_in_where c) ∙ e

own_in_shape : (s : ShapeTree) (c : Option (Listed PredicateTree)) → own (in_shape s c) ≡ own_shape s
own_in_shape (struct_shape range (named fs)) c = behind_where c (in_fields 0 (named fs)) (own_fields 0 (named fs)) (own_in_fields 0 (named fs))
own_in_shape (struct_shape range (unnamed fs)) c =
    own-append (in_fields 0 (unnamed fs)) (in_where c) ∙
    right_none (own (in_fields 0 (unnamed fs))) (own (in_where c)) (none_in_where c) ∙ own_in_fields 0 (unnamed fs)
own_in_shape (struct_shape range unit) c = behind_where c [] [] refl
own_in_shape (enum_shape range vs) c = behind_where c (in_variants 0 vs.items) (own_variants 0 vs.items) (own_in_variants 0 vs.items)
own_in_shape (union_shape range fs) c = behind_where c (in_fields 0 (named fs)) (own_fields 0 (named fs)) (own_in_fields 0 (named fs))

pub own_found : (d : Declaration) → own (found d) ≡ declared types d.ident ∷ (map own_param d.generics.params.items ++ own_shape d.shape)
own_found d =
    ap (λ zs. declared types d.ident ∷ zs)
    (own-append (flat_map in_param d.generics.params.items) (in_shape d.shape d.generics.where_clause) ∙
    ap₂ ◌++◌ (own_in_params d.generics.params.items) (own_in_shape d.shape d.generics.where_clause))
