use Rattle.std.proofs.Common.{◌≡◌, ◌==◌, drop, true}
use Rattle.dm_type_levels.specs.Passing.{pass}
use Rattle.dm_type_levels.specs.TypeLevels.{two, spaced_levels, alone}
use Rattle.dm_type_levels.proofs.parts.names.Given as goal

abbrev pub invariant-loop-i : goal.invariant-loop-i
invariant-loop-i l =
    pass (spaced_levels (two l.level) (l.i == 0) (alone l.level (drop l.i l.all))) l.at.left.now ≡ pass (spaced_levels (two l.level) true (alone l.level l.all)) l.initial.rest
