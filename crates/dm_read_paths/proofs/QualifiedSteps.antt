-- Types like `<T as A::B>::C`.
use Rattle.std.proofs.Common.{◌≡◌, suc, List, [], ◌∷◌, length, map, refl, ap}
use Rattle.std.proofs.lemmas.List.{map-append}
use Rattle.std.proofs.lemmas.Grind.{common_steps}

pub length_map : {A B : Type 0} (f : A → B) (xs : List A) → length (map f xs) ≡ length xs
length_map f [] = refl
length_map f (x ∷ xs) = ap suc (length_map f xs)

pub ruleset qualified_steps = (common_steps, map-append, length_map)
