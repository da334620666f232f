-- The first place among what is found where something of a kind stands.
use Rattle.std.specs.Prelude.{Bool, ◌||◌, if◌then◌else◌, List, [], ◌∷◌, Option, Some, None}
use Rattle.dm_stream.specs.declared.tokens.Span.{Span}
use Rattle.dm_names.specs.declared.places.Wanted.{Wanted}
use Rattle.dm_names.specs.declared.places.Wanted.TheVariants.{MacroType, Reserved, Either}
use Rattle.dm_ast.specs.Names.{Found, is_macro, is_reserved, range_of}

abbrev pub is_wanted : Wanted → Found → Bool
is_wanted MacroType f = is_macro f
is_wanted Reserved f = is_reserved f
is_wanted Either f = is_macro f || is_reserved f

abbrev pub first_place : Wanted → List Found → Option Span
first_place w [] = None
first_place w (f ∷ fs) = if is_wanted w f then Some (range_of f) else first_place w fs
