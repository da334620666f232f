use Rattle.std.proofs.Common.{◌≡◌, ◌==◌, [], ◌∷◌, map, drop, true}
use Rattle.dm_output.specs.Output.{patterns_of}
use Rattle.dm_output.specs.Views.{pattern_view}
use Rattle.dm_levels.specs.Behind.{seen}
use Rattle.dm_levels.specs.Levels.{each_pattern}
use Rattle.dm_type_levels.specs.Passing.{pass, pass_then}
use Rattle.dm_type_levels.specs.TypeLevels.{spaced_levels}
use Rattle.dm_levels.proofs.pattern.patterns.Given as goal

abbrev pub invariant-loop-i : goal.invariant-loop-i
invariant-loop-i l =
    pass_then (spaced_levels (l.level ∷ []) (l.i == 0) (each_pattern l.level (patterns_of (map pattern_view (drop l.i l.all))))) (seen l.at) ≡
    pass (spaced_levels (l.level ∷ []) true (each_pattern l.level (patterns_of (map pattern_view l.all)))) l.rest
