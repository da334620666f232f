-- Places of what is found in parts, one after another.
use Rattle.std.proofs.Common.{◌≡◌, Bool, true, false, ◌||◌, if◌then◌else◌, List, [], ◌∷◌, ◌++◌, Option, Some, None, option_map, find, refl, ap, ◌∙◌}
use Rattle.std.specs.Option.{option_or}
use Rattle.dm_stream.specs.declared.tokens.Span.{Span}
use Rattle.dm_names.specs.declared.places.Wanted.{Wanted}
use Rattle.dm_names.specs.declared.places.Wanted.TheVariants.{MacroType, Reserved, Either}
use Rattle.dm_ast.specs.Names.{Found, range_of, is_macro, is_reserved}
use Rattle.dm_names.specs.NamePlaces.{is_wanted, first_place}
use Rattle.dm_ast.proofs.View.{view_steps}

pub by_test : (b : Bool) (s : Span) (a c : Option Span) → (if b then Some s else option_or a c) ≡ option_or (if b then Some s else a) c
by_test true s a c = refl
by_test false s a c = refl

pub places_append : (w : Wanted) (xs ys : List Found) → first_place w (xs ++ ys) ≡ option_or (first_place w xs) (first_place w ys)
places_append w [] ys = refl
places_append w (f ∷ xs) ys =
    ap (λ r. if is_wanted w f then Some (range_of f) else r) (places_append w xs ys) ∙ by_test (is_wanted w f) (range_of f) (first_place w xs) (first_place w ys)

pub or_none : (a : Option Span) → option_or a None ≡ a
or_none None = refl
or_none (Some s) = refl

no_place : (b c : Bool) (s : Span) (o : Option Span) → (if b || c then Some s else o) ≡ None → ((if b then Some s else o) ≡ None) × ((if c then Some s else o) ≡ None)
no_place true c s o e = absurd (cc)
no_place false true s o e = absurd (cc)
no_place false false s o e = (e, e)

-- behind what isn't found
later : (b : Bool) (s : Span) (o p : Option Span) → (if b then Some s else o) ≡ None → (o ≡ None → p ≡ None) → (if b then Some s else p) ≡ None
later true s o p e f = absurd (cc)
later false s o p e f = f e

-- where there is no place of either kind, there is none of one kind
pub neither : (w : Wanted) (fs : List Found) → first_place Either fs ≡ None → first_place w fs ≡ None
neither w [] e = refl
neither MacroType (f ∷ fs) e =
    later (is_macro f) (range_of f) (first_place Either fs) (first_place MacroType fs) (no_place (is_macro f) (is_reserved f) (range_of f) (first_place Either fs) e).0
    (neither MacroType fs)
neither Reserved (f ∷ fs) e =
    later (is_reserved f) (range_of f) (first_place Either fs) (first_place Reserved fs) (no_place (is_macro f) (is_reserved f) (range_of f) (first_place Either fs) e).1
    (neither Reserved fs)
neither Either (f ∷ fs) e = e

found_by : (b : Bool) (f : Found) (a : Option Span) (o : Option Found) → a ≡ option_map range_of o →
    (if b then Some (range_of f) else a) ≡ option_map range_of (if b then Some f else o)
found_by true f a o e = refl
found_by false f a o e = e

-- the place of what is found first
pub place_found : (w : Wanted) (fs : List Found) → first_place w fs ≡ option_map range_of (find (is_wanted w) fs)
place_found w [] = refl
place_found w (f ∷ fs) = found_by (is_wanted w f) f (first_place w fs) (find (is_wanted w) fs) (place_found w fs)

pub ruleset place_steps = (view_steps, places_append, or_none)
