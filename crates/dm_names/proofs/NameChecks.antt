-- The refusal of a declaration's names by the places where they may not stand.
use Rattle.std.proofs.Common.{◌≡◌, [], Option, Some, None, option_map, find, refl, sym, ap, ◌∙◌}
use Rattle.dm_stream.specs.declared.tokens.Span.{Span}
use Rattle.dm_stream.specs.declared.error.Refusal.{Refusal}
use Rattle.dm_stream.specs.declared.error.Kind.{Kind}
use Rattle.dm_stream.specs.declared.error.Kind.TheVariants.{Unsupported, DuplicateName, ReservedName}
use Rattle.dm_names.specs.declared.places.Wanted.TheVariants.{MacroType, Reserved}
use Rattle.dm_ast.specs.Declarations.{Declaration}
use Rattle.dm_ast.specs.Names.{Found, found, is_macro, is_again, is_reserved, first_again, range_of, refused_at, names_refusal, Named}
use Rattle.dm_names.specs.NamePlaces.{first_place}
use Rattle.dm_repeats.specs.Repeats.{repeated}
use Rattle.dm_names.proofs.NamePlaces.{place_found}
use Rattle.dm_names.proofs.NameRefusals.{named_by}
use Rattle.dm_names.proofs.RepeatedNames.{repeated_is}

refused_there : (kind : Kind) (o : Option Found) (other : Option Refusal) (s : Span) → option_map range_of o ≡ Some s →
    refused_at kind o other ≡ Some (record { kind = kind; span = s })
refused_there kind None other s e = absurd (cc)
refused_there kind (Some f) other s e = let here : range_of f ≡ s = cc in ap (λ t. Some (record { kind = kind; span = t })) here

refused_later : (kind : Kind) (o : Option Found) (other : Option Refusal) → option_map range_of o ≡ None → refused_at kind o other ≡ other
refused_later kind None other e = refl
refused_later kind (Some f) other e = absurd (cc)

abbrev third : Declaration → Option Refusal
third d = refused_at ReservedName (find is_reserved (found d)) None

abbrev second : Declaration → Option Refusal
second d = refused_at DuplicateName (first_again is_again [] (found d)) (third d)

no_macro : (d : Declaration) → first_place MacroType (found d) ≡ None → names_refusal d ≡ second d
no_macro d e = refused_later Unsupported (find is_macro (found d)) (second d) (sym (place_found MacroType (found d)) ∙ e)

none_again : (d : Declaration) → first_place MacroType (found d) ≡ None → repeated d ≡ None → names_refusal d ≡ third d
none_again d e f = no_macro d e ∙ refused_later DuplicateName (first_again is_again [] (found d)) (third d) (repeated_is d ∙ f)

pub macro_refused : (d : Declaration) (s : Span) → first_place MacroType (found d) ≡ Some s →
    names_refusal d ≡ Some (record { kind = Unsupported; span = s })
macro_refused d s e = refused_there Unsupported (find is_macro (found d)) (second d) s (sym (place_found MacroType (found d)) ∙ e)

pub again_refused : (d : Declaration) (s : Span) → first_place MacroType (found d) ≡ None → repeated d ≡ Some s →
    names_refusal d ≡ Some (record { kind = DuplicateName; span = s })
again_refused d s e f = no_macro d e ∙ refused_there DuplicateName (first_again is_again [] (found d)) (third d) s (repeated_is d ∙ f)

pub reserved_refused : (d : Declaration) (s : Span) → first_place MacroType (found d) ≡ None → repeated d ≡ None → first_place Reserved (found d) ≡ Some s →
    names_refusal d ≡ Some (record { kind = ReservedName; span = s })
reserved_refused d s e f g =
    none_again d e f ∙ refused_there ReservedName (find is_reserved (found d)) None s (sym (place_found Reserved (found d)) ∙ g)

pub names_stand : (d : Declaration) → first_place MacroType (found d) ≡ None → repeated d ≡ None → first_place Reserved (found d) ≡ None → Named d
names_stand d e f g =
    named_by d (none_again d e f ∙ refused_later ReservedName (find is_reserved (found d)) None (sym (place_found Reserved (found d)) ∙ g))
