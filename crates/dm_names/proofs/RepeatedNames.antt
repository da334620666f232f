-- The first repeated name by lists is the first name in the text that is declared again.
use Rattle.std.proofs.Common.{◌≡◌, ℕ, inl, inr, ◌+◌, ◌≤◌, ◌<◌, Bool, true, false, ◌||◌, ◌&&◌, cond, nat_eq, List, [], ◌∷◌, ◌++◌, map, flat_map, Option, Some, None, option_map, refl, sym, ap, ap₂, ◌∙◌, append-nil, append_assoc, arith}
use Rattle.std.specs.List.{list_any}
use Rattle.std.specs.Option.{option_or}
use Rattle.std.specs.Str.{bytes_eq}
use Rattle.std.proofs.Math.Bool.{or_assoc}
use Rattle.std.proofs.lemmas.Bool.{ne_eqb}
use Rattle.std.proofs.lemmas.Bool.Decides.{eqb_tells}
use Rattle.std.proofs.lemmas.List.Folds.{list_any-append}
use Rattle.dm_stream.specs.declared.tokens.Span.{Span}
use Rattle.dm_stream.specs.declared.tokens.Ident.{Ident}
use Rattle.dm_ast.specs.Declarations.{FieldTree, FieldsTree, named, unnamed, unit, VariantTree, ShapeTree, struct_shape, enum_shape, union_shape, ParamTree, lifetime_param, type_param, const_param, Declaration}
use Rattle.dm_ast.specs.Names.{Scope, types, lifetimes, variants, fields, is_shared, Found, name_at, is_again, first_again, range_of, declared, found}
use Rattle.dm_repeats.specs.Repeats.{repeats, place_if, is_called, is_field_called, label_again, field_again, repeated_in_fields, is_variant_called, variant_again, is_lifetime_called, is_type_called, type_again, param_again, repeated_in_shape, repeated}
use Rattle.dm_names.proofs.OwnNames.{own_again, own_label, own_field, own_fields, own_variants, own_param, own_shape, own_found}

-- ---- one list after another

or_test : {A : Type 0} (b : Bool) (x : A) (o p : Option A) → cond b (Some x) (option_or o p) ≡ option_or (cond b (Some x) o) p
or_test true x o p = refl
or_test false x o p = refl

again_append : (earlier xs ys : List Found) →
    first_again is_again earlier (xs ++ ys) ≡ option_or (first_again is_again earlier xs) (first_again is_again (earlier ++ xs) ys)
again_append earlier [] ys = ap (λ zs. first_again is_again zs ys) (sym (append-nil earlier))
again_append earlier (x ∷ xs) ys =
    ap (λ r. cond (list_any (λ y. is_again y x) earlier) (Some x) r)
    (again_append (earlier ++ x ∷ []) xs ys ∙
    ap (λ zs. option_or (first_again is_again (earlier ++ x ∷ []) xs) (first_again is_again zs ys)) (append_assoc earlier (x ∷ []) xs)) ∙
    or_test (list_any (λ y. is_again y x) earlier) x (first_again is_again (earlier ++ x ∷ []) xs) (first_again is_again (earlier ++ x ∷ xs) ys)

place_or : (o p : Option Found) → option_map range_of (option_or o p) ≡ option_or (option_map range_of o) (option_map range_of p)
place_or None p = refl
place_or (Some f) p = refl

place_append : (earlier xs ys : List Found) →
    option_map range_of (first_again is_again earlier (xs ++ ys)) ≡
    option_or (option_map range_of (first_again is_again earlier xs)) (option_map range_of (first_again is_again (earlier ++ xs) ys))
place_append earlier xs ys =
    ap (option_map range_of) (again_append earlier xs ys) ∙ place_or (first_again is_again earlier xs) (first_again is_again (earlier ++ xs) ys)

place_once : (b : Bool) (f : Found) → option_map range_of (cond b (Some f) None) ≡ place_if b (range_of f)
place_once true f = refl
place_once false f = refl

-- what is found in the items of a list, the first of which has this number
abbrev each : {A : Type 0} → (ℕ → A → List Found) → ℕ → List A → List Found
each of n [] = []
each of n (x ∷ xs) = of n x ++ each of (n + 1) xs

-- `Before n earlier items` says what the search knows where the item with number n begins
module _ {A : Type 0} (of : ℕ → A → List Found) (again : List A → A → Option Span) (Before : ℕ → List Found → List A → Type 0)
    (here : (n : ℕ) (earlier : List Found) (items : List A) (x : A) → Before n earlier items →
    option_map range_of (first_again is_again earlier (of n x)) ≡ again items x)
    (next : (n : ℕ) (earlier : List Found) (items : List A) (x : A) → Before n earlier items → Before (n + 1) (earlier ++ of n x) (items ++ x ∷ [])) where
  by_items : (n : ℕ) (earlier : List Found) (items xs : List A) → Before n earlier items →
      option_map range_of (first_again is_again earlier (each of n xs)) ≡ repeats again items xs
  by_items n earlier items [] b = refl
  by_items n earlier items (x ∷ xs) b =
      place_append earlier (of n x) (each of (n + 1) xs) ∙
      ap₂ option_or (here n earlier items x b) (by_items (n + 1) (earlier ++ of n x) (items ++ x ∷ []) xs (next n earlier items x b))

-- ---- fields

-- whether one of these is this name
abbrev has : Scope → List ℕ → Span → List Found → Bool
has scope name range earlier = list_any (λ y. is_again y (name_at scope name range)) earlier

has-append : (scope : Scope) (name : List ℕ) (range : Span) (xs ys : List Found) →
    has scope name range (xs ++ ys) ≡ (has scope name range xs || has scope name range ys)
has-append scope name range xs ys = list_any-append (λ y. is_again y (name_at scope name range)) xs ys

same_number : (n : ℕ) → nat_eq n n ≡ true
same_number n = elim (eqb_tells n n) as (λ _. nat_eq n n ≡ true) [ inl h ↦ h.0 | inr h ↦ absurd (h.1 refl) ]

other_number : (m n : ℕ) → m < n → nat_eq m n ≡ false
other_number m n h = ne_eqb m n (λ e. absurd (omega (arith, e)))

abbrev FieldsBefore : ℕ → ℕ → List Found → List FieldTree → Type 0
FieldsBefore n k earlier items = (name : List ℕ) (range : Span) → has (fields n) name range earlier ≡ list_any (is_field_called name) items

field_here : (n : ℕ) (earlier : List Found) (items : List FieldTree) (i : Option Ident) → FieldsBefore n 0 earlier items →
    option_map range_of (first_again is_again earlier (own_label n i)) ≡ label_again items i
field_here n earlier items None b = refl
field_here n earlier items (Some i) b =
    place_once (has (fields n) i.name i.span earlier) (declared (fields n) i) ∙ ap (λ t. place_if t i.span) (b i.name i.span)

label_next : (n : ℕ) (i : Option Ident) (name : List ℕ) (range : Span) → has (fields n) name range (own_label n i) ≡ (is_called name i || false)
label_next n None name range = refl
label_next n (Some i) name range = ap (λ t. (t && bytes_eq i.name name) || false) (same_number n)

field_next : (n : ℕ) (earlier : List Found) (items : List FieldTree) (f : FieldTree) → FieldsBefore n 0 earlier items →
    FieldsBefore n 0 (earlier ++ own_field n f) (items ++ f ∷ [])
field_next n earlier items f b name range =
    has-append (fields n) name range earlier (own_field n f) ∙ ap₂ ◌||◌ (b name range) (label_next n f.ident name range) ∙
    sym (list_any-append (is_field_called name) items (f ∷ []))

each_field : (n k : ℕ) (fs : List FieldTree) → each (λ _ f. own_field n f) k fs ≡ flat_map (own_field n) fs
each_field n k [] = refl
each_field n k (f ∷ fs) = ap (λ zs. own_field n f ++ zs) (each_field n (k + 1) fs)

-- no field of this number stands before
abbrev NoFields : ℕ → List Found → Type 0
NoFields n earlier = (name : List ℕ) (range : Span) → has (fields n) name range earlier ≡ false

all_fields : (n : ℕ) (earlier : List Found) (fs : List FieldTree) → NoFields n earlier →
    option_map range_of (first_again is_again earlier (flat_map (own_field n) fs)) ≡ repeats field_again [] fs
all_fields n earlier fs b =
    ap (λ zs. option_map range_of (first_again is_again earlier zs)) (sym (each_field n 0 fs)) ∙
    by_items (λ _ f. own_field n f) field_again (FieldsBefore n) (λ k e items f. field_here n e items f.ident) (λ k e items f. field_next n e items f) 0 earlier [] fs b

in_fields_again : (n : ℕ) (earlier : List Found) (fs : FieldsTree) → NoFields n earlier →
    option_map range_of (first_again is_again earlier (own_fields n fs)) ≡ repeated_in_fields fs
in_fields_again n earlier (named fs) b = all_fields n earlier fs.items b
in_fields_again n earlier (unnamed fs) b = all_fields n earlier fs.items b
in_fields_again n earlier unit b = refl

-- ---- variants

other_label : (scope : Scope) (n : ℕ) (i : Option Ident) (name : List ℕ) (range : Span) → is_shared (fields n) scope ≡ false → has scope name range (own_label n i) ≡ false
other_label scope n None name range e = refl
other_label scope n (Some i) name range e = ap (λ t. (t && bytes_eq i.name name) || false) e

other_fields : (scope : Scope) (n : ℕ) (fs : List FieldTree) (name : List ℕ) (range : Span) → is_shared (fields n) scope ≡ false →
    has scope name range (flat_map (own_field n) fs) ≡ false
other_fields scope n [] name range e = refl
other_fields scope n (f ∷ fs) name range e =
    has-append scope name range (own_field n f) (flat_map (own_field n) fs) ∙
    ap₂ ◌||◌ (other_label scope n f.ident name range e) (other_fields scope n fs name range e)

other_in_fields : (scope : Scope) (n : ℕ) (fs : FieldsTree) (name : List ℕ) (range : Span) → is_shared (fields n) scope ≡ false →
    has scope name range (own_fields n fs) ≡ false
other_in_fields scope n (named fs) name range e = other_fields scope n fs.items name range e
other_in_fields scope n (unnamed fs) name range e = other_fields scope n fs.items name range e
other_in_fields scope n unit name range e = refl

abbrev own_variant : ℕ → VariantTree → List Found
own_variant n v = declared variants v.ident ∷ own_fields n v.fields

record VariantsBefore (n : ℕ) (earlier : List Found) (items : List VariantTree) : Type 0 where
  called : (name : List ℕ) (range : Span) → has variants name range earlier ≡ list_any (is_variant_called name) items
  later : (m : ℕ) → n ≤ m → NoFields m earlier

variant_here : (n : ℕ) (earlier : List Found) (items : List VariantTree) (v : VariantTree) → VariantsBefore n earlier items →
    option_map range_of (first_again is_again earlier (own_variant n v)) ≡ variant_again items v
variant_here n earlier items v b =
    place_append earlier (declared variants v.ident ∷ []) (own_fields n v.fields) ∙
    ap₂ option_or
    (place_once (has variants v.ident.name v.ident.span earlier) (declared variants v.ident) ∙
    ap (λ t. place_if t v.ident.span) (b.called v.ident.name v.ident.span))
    (in_fields_again n (earlier ++ declared variants v.ident ∷ []) v.fields
    (λ name range. has-append (fields n) name range earlier (declared variants v.ident ∷ []) ∙ ap (λ t. t || false) (b.later n (omega arith) name range)))

variant_next : (n : ℕ) (earlier : List Found) (items : List VariantTree) (v : VariantTree) → VariantsBefore n earlier items →
    VariantsBefore (n + 1) (earlier ++ own_variant n v) (items ++ v ∷ [])
variant_next n earlier items v b =
    record {
      called = λ name range.
          has-append variants name range earlier (own_variant n v) ∙
          ap₂ ◌||◌ (b.called name range) (ap (λ t. bytes_eq v.ident.name name || t) (other_in_fields variants n v.fields name range refl)) ∙
          sym (list_any-append (is_variant_called name) items (v ∷ []));
      later = λ m above name range.
          has-append (fields m) name range earlier (own_variant n v) ∙
          ap₂ ◌||◌ (b.later m (omega arith) name range) (other_in_fields (fields m) n v.fields name range (other_number n m (omega arith)));
    }

each_variant : (n : ℕ) (vs : List VariantTree) → each own_variant n vs ≡ own_variants n vs
each_variant n [] = refl
each_variant n (v ∷ vs) = ap (λ zs. declared variants v.ident ∷ (own_fields n v.fields ++ zs)) (each_variant (n + 1) vs)

all_variants : (earlier : List Found) (vs : List VariantTree) → VariantsBefore 0 earlier [] →
    option_map range_of (first_again is_again earlier (own_variants 0 vs)) ≡ repeats variant_again [] vs
all_variants earlier vs b =
    ap (λ zs. option_map range_of (first_again is_again earlier zs)) (sym (each_variant 0 vs)) ∙
    by_items own_variant variant_again VariantsBefore variant_here variant_next 0 earlier [] vs b

-- ---- parameters

record ParamsBefore (whole : Ident) (n : ℕ) (earlier : List Found) (items : List ParamTree) : Type 0 where
  a_lifetime : (name : List ℕ) (range : Span) → has lifetimes name range earlier ≡ list_any (is_lifetime_called name) items
  a_type : (name : List ℕ) (range : Span) → has types name range earlier ≡ (bytes_eq whole.name name || list_any (is_type_called name) items)

type_here : (whole : Ident) (earlier : List Found) (items : List ParamTree) (i : Ident) → ParamsBefore whole 0 earlier items →
    option_map range_of (first_again is_again earlier (declared types i ∷ [])) ≡ type_again whole items i
type_here whole earlier items i b =
    place_once (has types i.name i.span earlier) (declared types i) ∙ ap (λ t. place_if t i.span) (b.a_type i.name i.span)

param_here : (whole : Ident) (earlier : List Found) (items : List ParamTree) (p : ParamTree) → ParamsBefore whole 0 earlier items →
    option_map range_of (first_again is_again earlier (own_param p ∷ [])) ≡ param_again whole items p
param_here whole earlier items (lifetime_param attrs l bs) b =
    place_once (has lifetimes l.name l.span earlier) (name_at lifetimes l.name l.span) ∙ ap (λ t. place_if t l.span) (b.a_lifetime l.name l.span)
param_here whole earlier items (type_param attrs i bs default) b = type_here whole earlier items i b
param_here whole earlier items (const_param attrs i t default) b = type_here whole earlier items i b

lifetime_one : (p : ParamTree) (name : List ℕ) (range : Span) → has lifetimes name range (own_param p ∷ []) ≡ (is_lifetime_called name p || false)
lifetime_one (lifetime_param attrs l bs) name range = refl
lifetime_one (type_param attrs i bs default) name range = refl
lifetime_one (const_param attrs i t default) name range = refl

type_one : (p : ParamTree) (name : List ℕ) (range : Span) → has types name range (own_param p ∷ []) ≡ (is_type_called name p || false)
type_one (lifetime_param attrs l bs) name range = refl
type_one (type_param attrs i bs default) name range = refl
type_one (const_param attrs i t default) name range = refl

param_next : (whole : Ident) (earlier : List Found) (items : List ParamTree) (p : ParamTree) → ParamsBefore whole 0 earlier items →
    ParamsBefore whole 0 (earlier ++ own_param p ∷ []) (items ++ p ∷ [])
param_next whole earlier items p b =
    record {
      a_lifetime = λ name range.
          has-append lifetimes name range earlier (own_param p ∷ []) ∙ ap₂ ◌||◌ (b.a_lifetime name range) (lifetime_one p name range) ∙
          sym (list_any-append (is_lifetime_called name) items (p ∷ []));
      a_type = λ name range.
          has-append types name range earlier (own_param p ∷ []) ∙ ap₂ ◌||◌ (b.a_type name range) (type_one p name range) ∙
          or_assoc (bytes_eq whole.name name) (list_any (is_type_called name) items) (is_type_called name p || false) ∙
          ap (λ t. bytes_eq whole.name name || t) (sym (list_any-append (is_type_called name) items (p ∷ [])));
    }

each_param : (k : ℕ) (ps : List ParamTree) → each (λ _ p. own_param p ∷ []) k ps ≡ map own_param ps
each_param k [] = refl
each_param k (p ∷ ps) = ap (λ zs. own_param p ∷ zs) (each_param (k + 1) ps)

all_params : (whole : Ident) (ps : List ParamTree) →
    option_map range_of (first_again is_again (declared types whole ∷ []) (map own_param ps)) ≡ repeats (param_again whole) [] ps
all_params whole ps =
    ap (λ zs. option_map range_of (first_again is_again (declared types whole ∷ []) zs)) (sym (each_param 0 ps)) ∙
    by_items (λ _ p. own_param p ∷ []) (param_again whole) (λ k. ParamsBefore whole 0) (λ k e items p. param_here whole e items p) (λ k e items p. param_next whole e items p)
    0 (declared types whole ∷ []) [] ps (record { a_lifetime = λ name range. refl; a_type = λ name range. refl })

-- ---- declarations

no_field_param : (n : ℕ) (p : ParamTree) (name : List ℕ) (range : Span) → is_again (own_param p) (name_at (fields n) name range) ≡ false
no_field_param n (lifetime_param attrs l bs) name range = refl
no_field_param n (type_param attrs i bs default) name range = refl
no_field_param n (const_param attrs i t default) name range = refl

no_variant_param : (p : ParamTree) (name : List ℕ) (range : Span) → is_again (own_param p) (name_at variants name range) ≡ false
no_variant_param (lifetime_param attrs l bs) name range = refl
no_variant_param (type_param attrs i bs default) name range = refl
no_variant_param (const_param attrs i t default) name range = refl

no_field_params : (n : ℕ) (ps : List ParamTree) → NoFields n (map own_param ps)
no_field_params n [] name range = refl
no_field_params n (p ∷ ps) name range = ap₂ ◌||◌ (no_field_param n p name range) (no_field_params n ps name range)

no_variant_params : (ps : List ParamTree) (name : List ℕ) (range : Span) → has variants name range (map own_param ps) ≡ false
no_variant_params [] name range = refl
no_variant_params (p ∷ ps) name range = ap₂ ◌||◌ (no_variant_param p name range) (no_variant_params ps name range)

in_shape_again : (whole : Ident) (ps : List ParamTree) (s : ShapeTree) →
    option_map range_of (first_again is_again (declared types whole ∷ map own_param ps) (own_shape s)) ≡ repeated_in_shape s
in_shape_again whole ps (struct_shape range fs) = in_fields_again 0 (declared types whole ∷ map own_param ps) fs (no_field_params 0 ps)
in_shape_again whole ps (enum_shape range vs) =
    all_variants (declared types whole ∷ map own_param ps) vs.items (record { called = no_variant_params ps; later = λ m above. no_field_params m ps })
in_shape_again whole ps (union_shape range fs) = all_fields 0 (declared types whole ∷ map own_param ps) fs.items (no_field_params 0 ps)

pub repeated_is : (d : Declaration) → option_map range_of (first_again is_again [] (found d)) ≡ repeated d
repeated_is d =
    ap (option_map range_of) (own_again [] (found d) ∙ ap (first_again is_again []) (own_found d)) ∙
    place_append (declared types d.ident ∷ []) (map own_param d.generics.params.items) (own_shape d.shape) ∙
    ap₂ option_or (all_params d.ident d.generics.params.items) (in_shape_again d.ident d.generics.params.items d.shape)
