-- How many types there are.
use Rattle.std.proofs.Common.{◌≡◌, List, [], ◌∷◌, length, map, refl, arith}
use Rattle.std.proofs.lemmas.Grind.{common_steps}
use Rattle.dm_ast.specs.declared.ty.Ty.{Ty}
use Rattle.dm_ast.specs.Tree.{ty_view, types_of}
use Rattle.dm_ast.proofs.View.{view_steps}
use Rattle.dm_searches.specs.Tuples.{number_of}

pub number_of_types : (ts : List Ty) → number_of (types_of (map ty_view ts)) ≡ length ts
number_of_types [] = refl
number_of_types (t ∷ ts) = grind (arith, common_steps, number_of_types ts)

pub ruleset count_steps = (view_steps, number_of_types)
