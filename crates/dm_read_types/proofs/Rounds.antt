-- One type without a comma in parentheses, and a tuple.
use Rattle.std.proofs.Common.{◌≡◌, ◌≢◌, Bool, true, false, List, [], ◌∷◌, ◌++◌, length, map, Some, refl, ap}
use Rattle.std.proofs.lemmas.Grind.{common_steps}
use Rattle.std.specs.Option.{option_to_list}
use Rattle.dm_ast.specs.declared.ty.Ty.{Ty}
use Rattle.dm_ast.specs.Tree.{paren, tuple, types_of, ty_view}
use Rattle.dm_read_paths.specs.TypeReaders.{round_by}
use Rattle.dm_read_paths.proofs.Bindings.{alone_is}

pub round_trailing : (l : List Ty) → round_by (types_of (map ty_view l)) true ≡ tuple (types_of (map ty_view l)) true
round_trailing [] = refl
round_trailing (x ∷ []) = refl
round_trailing (x ∷ y ∷ l) = refl

pub round_many : (l : List Ty) (b : Bool) → length l ≢ 1 → round_by (types_of (map ty_view l)) b ≡ tuple (types_of (map ty_view l)) b
round_many [] b n = refl
round_many (x ∷ []) b n = absurd (n refl)
round_many (x ∷ y ∷ l) b n = refl

pub round_paren : (l rest : List Ty) (t : Ty) → length l ≡ 1 → l ≡ rest ++ option_to_list (Some t) → round_by (types_of (map ty_view l)) false ≡ paren (ty_view t)
round_paren l rest t n e = ap (λ k. round_by (types_of (map ty_view k)) false) (alone_is l rest t n e)

pub ruleset round_steps = (common_steps, round_trailing, round_many, round_paren)
