use Rattle.std.proofs.Common.{◌≡◌, ◌==◌, [], ◌∷◌, true, map, drop}
use Rattle.dm_ast.specs.Declarations.{predicate_view}
use Rattle.dm_type_levels.specs.TypeLevels.{spaced_levels, predicate_levels}
use Rattle.dm_levels.specs.Behind.{seen}
use Rattle.dm_type_levels.specs.Passing.{pass, pass_then}
use Rattle.dm_levels.proofs.item.joined_predicates.Given as goal

abbrev pub invariant-loop-i : goal.invariant-loop-i
invariant-loop-i l =
    pass_then (spaced_levels (l.level ∷ []) (l.i == 0) (map (predicate_levels l.level) (map predicate_view (drop l.i l.all)))) (seen l.at) ≡
    pass (spaced_levels (l.level ∷ []) true (map (predicate_levels l.level) (map predicate_view l.all))) l.rest
