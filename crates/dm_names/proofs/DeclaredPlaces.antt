-- Places in declarations: which scope a name has doesn't count, but for types.
use Rattle.std.proofs.Common.{◌≡◌, ℕ, ◌+◌, false, ◌&&◌, ◌||◌, nat_eq, if◌then◌else◌, List, [], ◌∷◌, ◌++◌, codes, flat_map, Option, Some, None, refl, sym, ap, ap₂, ◌∙◌}
use Rattle.std.specs.Str.{bytes_eq}
use Rattle.std.specs.List.{starts_with}
use Rattle.std.specs.Option.{option_or}
use Rattle.dm_stream.specs.declared.tokens.Span.{Span}
use Rattle.dm_stream.specs.declared.tokens.Ident.{Ident}
use Rattle.dm_names.specs.declared.places.Wanted.{Wanted}
use Rattle.dm_names.specs.declared.places.Wanted.TheVariants.{MacroType, Reserved, Either}
use Rattle.dm_ast.specs.Tree.{BoundTree, TypeTree, bounds_of}
use Rattle.dm_ast.specs.Declarations.{FieldTree, FieldsTree, named, unnamed, unit, VariantTree}
use Rattle.dm_ast.specs.Names.{Scope, types, variants, fields, bound, is_shared, Found, name_at, range_of, in_bound, in_bounds, in_type, in_some, declared, in_field, in_fields, in_variants}
use Rattle.dm_names.specs.NamePlaces.{is_wanted, first_place}
use Rattle.dm_names.proofs.NamePlaces.{place_steps, places_append, by_test}

pub bounds_flat : (bs : List BoundTree) → flat_map in_bound bs ≡ in_bounds (bounds_of bs)
bounds_flat [] = refl
bounds_flat (b ∷ bs) = ap (λ l. in_bound b ++ l) (bounds_flat bs)

-- what is found first, and the others
pub place_cons : (w : Wanted) (f : Found) (fs : List Found) → first_place w (f ∷ fs) ≡ option_or (first_place w (f ∷ [])) (first_place w fs)
place_cons w f fs = by_test (is_wanted w f) (range_of f) None (first_place w fs)

same_test : (w : Wanted) (scope : Scope) (n : List ℕ) (s : Span) → is_shared scope types ≡ false → is_wanted w (name_at scope n s) ≡ is_wanted w (name_at bound n s)
same_test MacroType scope n s e = refl
same_test Reserved scope n s e = ap (λ b. starts_with nat_eq n (codes "__") || (b && bytes_eq n (codes "derive_more"))) e
same_test Either scope n s e = ap (λ b. starts_with nat_eq n (codes "__") || (b && bytes_eq n (codes "derive_more"))) e

pub name_place : (w : Wanted) (scope : Scope) (n : List ℕ) (s : Span) (fs : List Found) → is_shared scope types ≡ false →
    first_place w (name_at scope n s ∷ fs) ≡ option_or (first_place w (name_at bound n s ∷ [])) (first_place w fs)
name_place w scope n s fs e =
    place_cons w (name_at scope n s) fs ∙ ap (λ b. option_or (if b then Some s else None) (first_place w fs)) (same_test w scope n s e)

-- ---- the number of a variant doesn't count

named_field_number : (w : Wanted) (n : ℕ) (i : Option Ident) (t : TypeTree) →
    first_place w (in_some (λ j. declared (fields n) j ∷ []) i ++ in_type t) ≡ first_place w (in_some (λ j. declared (fields 0) j ∷ []) i ++ in_type t)
named_field_number w n None t = refl
named_field_number w n (Some i) t = name_place w (fields n) i.name i.span (in_type t) refl ∙ sym (name_place w (fields 0) i.name i.span (in_type t) refl)

all_fields_number : (w : Wanted) (n : ℕ) (fs : List FieldTree) → first_place w (flat_map (in_field n) fs) ≡ first_place w (flat_map (in_field 0) fs)
all_fields_number w n [] = refl
all_fields_number w n (f ∷ fs) =
    places_append w (in_field n f) (flat_map (in_field n) fs) ∙ ap₂ option_or (named_field_number w n f.ident f.ty) (all_fields_number w n fs) ∙
    sym (places_append w (in_field 0 f) (flat_map (in_field 0) fs))

pub fields_number : (w : Wanted) (n : ℕ) (fs : FieldsTree) → first_place w (in_fields n fs) ≡ first_place w (in_fields 0 fs)
fields_number w n (named fs) = all_fields_number w n fs.items
fields_number w n (unnamed fs) = all_fields_number w n fs.items
fields_number w n unit = refl

variant_number : (w : Wanted) (n : ℕ) (v : VariantTree) (rest : List Found) →
    first_place w (declared variants v.ident ∷ (in_fields n v.fields ++ rest)) ≡
    option_or (first_place w (name_at bound v.ident.name v.ident.span ∷ [])) (option_or (first_place w (in_fields 0 v.fields)) (first_place w rest))
variant_number w n v rest =
    name_place w variants v.ident.name v.ident.span (in_fields n v.fields ++ rest) refl ∙
    ap (option_or (first_place w (name_at bound v.ident.name v.ident.span ∷ [])))
    (places_append w (in_fields n v.fields) rest ∙ ap (λ p. option_or p (first_place w rest)) (fields_number w n v.fields))

pub variants_number : (w : Wanted) (n : ℕ) (vs : List VariantTree) → first_place w (in_variants n vs) ≡ first_place w (in_variants 0 vs)
variants_number w n [] = refl
variants_number w n (v ∷ vs) =
    variant_number w n v (in_variants (n + 1) vs) ∙
    ap (λ r. option_or (first_place w (name_at bound v.ident.name v.ident.span ∷ [])) (option_or (first_place w (in_fields 0 v.fields)) r))
    (variants_number w (n + 1) vs ∙ sym (variants_number w 1 vs)) ∙ sym (variant_number w 0 v (in_variants 1 vs))

pub ruleset declared_steps = (place_steps, bounds_flat, place_cons, name_place, variants_number)
