-- The names of a declaration that is read, and whose names may be declared, tell things apart.
use Rattle.std.proofs.Common.{◌≡◌, ℕ, zero, suc, ◌+◌, List, [], ◌∷◌, ◌++◌, Bool, true, false, ◌&&◌, ◌||◌, codes, Option, Some, None, map, slice_get, refl, sym, ap, subst, ◌∙◌, arith}
use Rattle.std.specs.Prelude.{All, AllPairs, flat_map, nat_eq}
use Rattle.std.specs.List.{starts_with}
use Rattle.std.specs.Str.{bytes_eq}
use Rattle.std.proofs.lemmas.Slice.Eq.{bytes_eq-Decides}
use Rattle.dm_stream.specs.declared.tokens.Ident.{Ident}
use Rattle.dm_stream.specs.declared.tokens.Span.{Span}
use Rattle.dm_stream.specs.Trees.{Trees}
use Rattle.dm_ast.specs.declared.plain.Attribute.{Attribute}
use Rattle.dm_ast.specs.Declarations.{Declaration, Listed, FieldTree, FieldsTree, named, unnamed, unit, VariantTree, ShapeTree, struct_shape, enum_shape, union_shape, PredicateTree, GenericsTree}
use Rattle.dm_ast.specs.Spelling.{Where, Marks, Spelling, items, items_left}
use Rattle.dm_ast.specs.DeclarationGrammar as grammar
use Rattle.dm_ast.specs.Runs.{run}
use Rattle.dm_ast.specs.Names.{Found, name_at, types, variants, fields, declared, is_again, is_reserved, in_some, in_type, in_param, in_where, in_field, in_fields, in_variants, in_shape, found}
use Rattle.dm_output.specs.Values.{Text, Case, case_of_variant, cases_of_shape}
use Rattle.dm_output.specs.Fits.{names_type, brace_fields}
use Rattle.dm_operands.specs.Sides.{field_ident}
use Rattle.dm_operands.specs.Named.{AreDistinct, HasName, case_name, field_name, AreFieldsNamed, AreNamed}
use Rattle.dm_operands.specs.Readable.{IsReadable}
use Rattle.dm_operands.proofs.NameLaws.{bytes_differ}
use Rattle.dm_operands.proofs.BindingLaws.{eqb-same}

-- ---- what holds of each item

abbrev Each : {A : Type 0} → (A → Type 0) → List A → Type 0
Each {A} P xs = (i : ℕ) (x : A) → slice_get xs i ≡ Some x → P x

each-none : {A : Type 0} (P : A → Type 0) → Each P []
each-none P i x at = absurd cc

each-cons : {A : Type 0} (P : A → Type 0) (x : A) (xs : List A) → P x → Each P xs → Each P (x ∷ xs)
each-cons P x xs here more zero y at = let e : x ≡ y = cc in subst P e here
each-cons P x xs here more (suc i) y at = more i y at

each-rest : {A : Type 0} (P : A → Type 0) (x : A) (xs : List A) → Each P (x ∷ xs) → Each P xs
each-rest P x xs h = λ i y at. h (suc i) y at

-- ---- the fields between braces have names, since they are spelled with them

abbrev IsFieldNamed : FieldTree → Type 0
IsFieldNamed f = HasName f.ident

abbrev AreAllNamed : FieldsTree → Type 0
AreAllNamed (named fs) = Each IsFieldNamed fs.items
AreAllNamed (unnamed fs) = Unit {0}
AreAllNamed unit = Unit {0}

abbrev IsVariantNamed : VariantTree → Type 0
IsVariantNamed v = AreAllNamed v.fields

-- of a union no field is looked at
abbrev IsShapeNamed : ShapeTree → Type 0
IsShapeNamed (struct_shape range fs) = AreAllNamed fs
IsShapeNamed (enum_shape range vs) = Each IsVariantNamed vs.items
IsShapeNamed (union_shape range fs) = Unit {0}

-- what follows of an item that is spelled holds of each item of a list that is
module _
    {A : Type 0} (P : A → Type 0) (item : A → Spelling) (one : (x : A) (ts others : Trees) (m : Marks) → item x ts others m → P x)
    (w : Where) (ends : Trees → Bool) where
  each-left : (xs : List A) (trailing : Bool) (ts others : Trees) (m : Marks) → items_left w 44 ends item xs trailing ts others m → Each P xs
  each-left [] trailing ts others m h = each-none P
  each-left (x ∷ xs) trailing ts others m h =
      each-cons P x xs (one x _ _ _ h.rest.first) (each-left xs trailing _ _ _ h.rest.rest)

  each-item : (xs : List A) (trailing : Bool) (ts others : Trees) (m : Marks) → items w 44 ends item xs trailing ts others m → Each P xs
  each-item [] trailing ts others m h = each-none P
  each-item (x ∷ xs) trailing ts others m h = each-cons P x xs (one x _ _ _ h.first) (each-left xs trailing _ _ _ h.rest)

name-there : (i : Option Ident) (w : Where) (ts others : Trees) (m : Marks) → grammar.field_name i w ts others m → HasName i
name-there None w ts others m h = absurd h.fact
name-there (Some i) w ts others m h = tt

field-named : (w : Where) (f : FieldTree) (ts others : Trees) (m : Marks) → grammar.named_field f w ts others m → IsFieldNamed f
field-named w f ts others m h = name-there f.ident w _ _ _ h.part.rest.rest.first

braced-named : (fs : Listed FieldTree) (w : Where) (ts others : Trees) (m : Marks) → grammar.braced fs w ts others m → Each IsFieldNamed fs.items
braced-named fs w ts others m h =
    let v : Where = record { level = w.level + 1; limit = h.closer.start } in
    each-item IsFieldNamed (λ f. grammar.named_field f v) (field-named v) v _ fs.items fs.trailing _ _ _ h.whole

variant_fields-named : (fs : FieldsTree) (w : Where) (ts others : Trees) (m : Marks) → grammar.variant_fields fs w ts others m → AreAllNamed fs
variant_fields-named (named fs) w ts others m h = braced-named fs w ts others m h
variant_fields-named (unnamed fs) w ts others m h = tt
variant_fields-named unit w ts others m h = tt

variant-named : (w : Where) (v : VariantTree) (ts others : Trees) (m : Marks) → grammar.variant run v w ts others m → IsVariantNamed v
variant-named w v ts others m h = variant_fields-named v.fields w _ _ _ h.part.rest.rest.rest.first

variants-named : (vs : Listed VariantTree) (w : Where) (ts others : Trees) (m : Marks) → grammar.variants run vs w ts others m → Each IsVariantNamed vs.items
variants-named vs w ts others m h =
    let v : Where = record { level = w.level + 1; limit = h.closer.start } in
    each-item IsVariantNamed (λ x. grammar.variant run x v) (variant-named v) v _ vs.items vs.trailing _ _ _ h.whole

struct_body-named : (fs : FieldsTree) (c : Option (Listed PredicateTree)) (w : Where) (ts others : Trees) (m : Marks) →
    grammar.struct_body fs c w ts others m → AreAllNamed fs
struct_body-named (named fs) c w ts others m h = braced-named fs w _ _ _ h.rest
struct_body-named (unnamed fs) c w ts others m h = tt
struct_body-named unit c w ts others m h = tt

shape-named : (s : ShapeTree) (i : Ident) (g : GenericsTree) (w : Where) (ts others : Trees) (m : Marks) → grammar.shape run s i g w ts others m → IsShapeNamed s
shape-named (struct_shape range fs) i g w ts others m h = struct_body-named fs g.where_clause w _ _ _ h.rest.rest.rest
shape-named (enum_shape range vs) i g w ts others m h = variants-named vs w _ _ _ h.rest.rest.rest.rest
shape-named (union_shape range fs) i g w ts others m h = tt

-- ---- what is declared, each with all behind it

abbrev IsOther : Found → Found → Type 0
IsOther f g = is_again f g ≡ false

abbrev Later : (Found → Type 0) → List Found → Type 0
Later P [] = Unit {0}
Later P (f ∷ fs) = P f × Later P fs

abbrev Apart : List Found → Type 0
Apart [] = Unit {0}
Apart (f ∷ fs) = Later (IsOther f) fs × Apart fs

later-all : (P : Found → Type 0) (fs : List Found) → All P fs → Later P fs
later-all P [] h = tt
later-all P (f ∷ fs) h = (h zero f (omega arith), later-all P fs (λ j d lt. h (suc j) d (omega arith)))

apart-pairs : (fs : List Found) → AllPairs IsOther fs → Apart fs
apart-pairs [] h = tt
apart-pairs (f ∷ fs) h = (
  later-all (IsOther f) fs (λ j d lt. h zero (suc j) d (omega arith) (omega arith)),
  apart-pairs fs (λ i j d below within. h (suc i) (suc j) d (omega arith) (omega arith)),
)

later-front : (P : Found → Type 0) (fs gs : List Found) → Later P (fs ++ gs) → Later P fs
later-front P [] gs h = tt
later-front P (f ∷ fs) gs h = (h.0, later-front P fs gs h.1)

later-back : (P : Found → Type 0) (fs gs : List Found) → Later P (fs ++ gs) → Later P gs
later-back P [] gs h = h
later-back P (f ∷ fs) gs h = later-back P fs gs h.1

apart-front : (fs gs : List Found) → Apart (fs ++ gs) → Apart fs
apart-front [] gs h = tt
apart-front (f ∷ fs) gs h = (later-front (IsOther f) fs gs h.0, apart-front fs gs h.1)

apart-back : (fs gs : List Found) → Apart (fs ++ gs) → Apart gs
apart-back [] gs h = h
apart-back (f ∷ fs) gs h = apart-back fs gs h.1

-- ---- names that differ from all behind them are distinct

not-same : (x y : Text) → bytes_eq x y ≡ false → x ≡ y → ⊥
not-same x y other e =
    let same : bytes_eq x y ≡ true = (bytes_eq-Decides x y).1 e in
    let both : true ≡ false = sym same ∙ other in
    cc

distinct-none : {A : Type 0} (name_of : A → Text) → AreDistinct name_of []
distinct-none name_of i j x y ax ay e = absurd cc

distinct-cons : {A : Type 0} (name_of : A → Text) (x : A) (xs : List A) → Each (λ y. bytes_eq (name_of x) (name_of y) ≡ false) xs →
    AreDistinct name_of xs → AreDistinct name_of (x ∷ xs)
distinct-cons name_of x xs first more zero zero y z ay az e = refl
distinct-cons name_of x xs first more zero (suc j) y z ay az e =
    let here : x ≡ y = cc in
    absurd (not-same (name_of x) (name_of z) (first j z az) (ap name_of here ∙ e))
distinct-cons name_of x xs first more (suc i) zero y z ay az e =
    let here : x ≡ z = cc in
    absurd (not-same (name_of x) (name_of y) (first i y ay) (ap name_of here ∙ sym e))
distinct-cons name_of x xs first more (suc i) (suc j) y z ay az e = ap suc (more i j y z ay az e)

-- ---- the type's own name, which isn't reserved

or-behind : (a b : Bool) → (a || b) ≡ false → b ≡ false
or-behind true b h = cc
or-behind false b h = h

foreign-type : (d : Declaration) → is_reserved (declared types d.ident) ≡ false → names_type d (codes "derive_more") ≡ false
foreign-type d h =
    let other : bytes_eq d.ident.name (codes "derive_more") ≡ false =
    or-behind (starts_with nat_eq d.ident.name (codes "__")) (bytes_eq d.ident.name (codes "derive_more")) h in
    bytes_differ (codes "derive_more") d.ident.name (λ e. not-same d.ident.name (codes "derive_more") other (sym e))

-- ---- variants

other-variants : (x : Text) (r : Span) (n : ℕ) (vs : List VariantTree) → Later (IsOther (name_at variants x r)) (in_variants n vs) →
    Each (λ c. bytes_eq x (case_name c) ≡ false) (map case_of_variant vs)
other-variants x r n [] h = each-none _
other-variants x r n (v ∷ vs) h =
    each-cons _ (case_of_variant v) (map case_of_variant vs) h.0
    (other-variants x r (n + 1) vs (later-back (IsOther (name_at variants x r)) (in_fields n v.fields) (in_variants (n + 1) vs) h.1))

distinct-variants : (n : ℕ) (vs : List VariantTree) → Apart (in_variants n vs) → AreDistinct case_name (map case_of_variant vs)
distinct-variants n [] h = distinct-none case_name
distinct-variants n (v ∷ vs) h =
    let later = later-back (IsOther (declared variants v.ident)) (in_fields n v.fields) (in_variants (n + 1) vs) h.0 in
    distinct-cons case_name (case_of_variant v) (map case_of_variant vs) (other-variants v.ident.name v.ident.span (n + 1) vs later)
    (distinct-variants (n + 1) vs (apart-back (in_fields n v.fields) (in_variants (n + 1) vs) h.1))

-- ---- fields

abbrev in_name : ℕ → Option Ident → List Found
in_name n i = in_some (λ x. declared (fields n) x ∷ []) i

other-name : (x : Text) (r : Span) (n : ℕ) (i : Option Ident) (more : List Found) → HasName i →
    Later (IsOther (name_at (fields n) x r)) (in_name n i ++ more) → bytes_eq x (field_ident i).name ≡ false
other-name x r n None more has h = absurd has
other-name x r n (Some i) more has h = ap (λ b. b && bytes_eq x i.name) (sym (eqb-same n)) ∙ h.0

other-fields : (x : Text) (r : Span) (n : ℕ) (fs : List FieldTree) → Later (IsOther (name_at (fields n) x r)) (flat_map (in_field n) fs) → Each IsFieldNamed fs →
    Each (λ f. bytes_eq x (field_name f) ≡ false) fs
other-fields x r n [] h has = each-none _
other-fields x r n (f ∷ fs) h has =
    let P : Found → Type 0 = IsOther (name_at (fields n) x r) in
    each-cons _ f fs (other-name x r n f.ident (in_type f.ty) (has zero f refl) (later-front P (in_field n f) (flat_map (in_field n) fs) h))
    (other-fields x r n fs (later-back P (in_field n f) (flat_map (in_field n) fs) h) (each-rest IsFieldNamed f fs has))

-- a field's name differs from all behind the field
first-name : (n : ℕ) (i : Option Ident) (inside more : List Found) → HasName i → Apart ((in_name n i ++ inside) ++ more) →
    (r : Span) × Later (IsOther (name_at (fields n) (field_ident i).name r)) more
first-name n None inside more has h = absurd has
first-name n (Some i) inside more has h = (i.span, later-back (IsOther (declared (fields n) i)) inside more h.0)

distinct-fields : (n : ℕ) (fs : List FieldTree) → Apart (flat_map (in_field n) fs) → Each IsFieldNamed fs → AreDistinct field_name fs
distinct-fields n [] h has = distinct-none field_name
distinct-fields n (f ∷ fs) h has =
    let first = first-name n f.ident (in_type f.ty) (flat_map (in_field n) fs) (has zero f refl) h in
    let rest : Each IsFieldNamed fs = each-rest IsFieldNamed f fs has in
    distinct-cons field_name f fs (other-fields (field_name f) first.0 n fs first.1 rest)
    (distinct-fields n fs (apart-back (in_field n f) (flat_map (in_field n) fs) h) rest)

-- ---- the fields of each variant

abbrev HasFieldsNamed : FieldsTree → Type 0
HasFieldsNamed fs = (gs : List FieldTree) → brace_fields fs ≡ Some gs → AreFieldsNamed gs

abbrev IsCaseNamed : Case → Type 0
IsCaseNamed c = HasFieldsNamed c.fields

fields-named : (n : ℕ) (fs : FieldsTree) → Apart (in_fields n fs) → AreAllNamed fs → HasFieldsNamed fs
fields-named n (named fs) h has gs at =
    let e : fs.items ≡ gs = cc in
    subst AreFieldsNamed e (record { named = has; distinct = distinct-fields n fs.items h has })
fields-named n (unnamed fs) h has gs at = absurd cc
fields-named n unit h has gs at = absurd cc

cases-named : (n : ℕ) (vs : List VariantTree) → Apart (in_variants n vs) → Each IsVariantNamed vs → Each IsCaseNamed (map case_of_variant vs)
cases-named n [] h has = each-none IsCaseNamed
cases-named n (v ∷ vs) h has =
    each-cons IsCaseNamed (case_of_variant v) (map case_of_variant vs)
    (fields-named n v.fields (apart-front (in_fields n v.fields) (in_variants (n + 1) vs) h.1) (has zero v refl))
    (cases-named (n + 1) vs (apart-back (in_fields n v.fields) (in_variants (n + 1) vs) h.1) (each-rest IsVariantNamed v vs has))

-- ---- the declaration

abbrev AreCasesNamed : List Case → Type 0
AreCasesNamed cs = AreDistinct case_name cs × Each IsCaseNamed cs

lone-case : (c : Case) → IsCaseNamed c → AreCasesNamed (c ∷ [])
lone-case c h = (distinct-cons case_name c [] (each-none _) (distinct-none case_name), each-cons IsCaseNamed c [] h (each-none IsCaseNamed))

are-cases : (attrs : List Attribute) (i : Ident) (s : ShapeTree) (c : Option (Listed PredicateTree)) → IsShapeNamed s → Apart (in_shape s c) →
    AreCasesNamed (cases_of_shape attrs i s)
are-cases attrs i (struct_shape range (named fs)) c has h =
    lone-case (record { attrs = attrs; ident = i; fields = named fs }) (fields-named 0 (named fs) (apart-back (in_where c) (in_fields 0 (named fs)) h) has)
are-cases attrs i (struct_shape range (unnamed fs)) c has h =
    lone-case (record { attrs = attrs; ident = i; fields = unnamed fs }) (fields-named 0 (unnamed fs) (apart-front (in_fields 0 (unnamed fs)) (in_where c) h) has)
are-cases attrs i (struct_shape range unit) c has h = lone-case (record { attrs = attrs; ident = i; fields = unit }) (λ gs at. absurd cc)
are-cases attrs i (enum_shape range vs) c has h =
    let inside : Apart (in_variants 0 vs.items) = apart-back (in_where c) (in_variants 0 vs.items) h in
    (distinct-variants 0 vs.items inside, cases-named 0 vs.items inside has)
are-cases attrs i (union_shape range fs) c has h = lone-case (record { attrs = attrs; ident = i; fields = unit }) (λ gs at. absurd cc)

-- the declaration of some trees, whose names may be declared, is named so
pub readable-named : (d : Declaration) → IsReadable d → AreNamed d
readable-named d h =
    let has : IsShapeNamed d.shape = shape-named d.shape d.ident d.generics _ _ _ _ h.spelled.spelled.rest.rest in
    let apart : Apart (found d) = apart-pairs (found d) h.named.distinct in
    let params : List Found = flat_map in_param d.generics.params.items in
    let inside : Apart (in_shape d.shape d.generics.where_clause) = apart-back params (in_shape d.shape d.generics.where_clause) apart.1 in
    let named = are-cases d.attrs d.ident d.shape d.generics.where_clause has inside in
    record {
      foreign = foreign-type d (h.named.none_reserved zero (declared types d.ident) (omega arith));
      distinct = named.0;
      fields = λ n c fs at braces. named.1 n c at fs braces;
    }
