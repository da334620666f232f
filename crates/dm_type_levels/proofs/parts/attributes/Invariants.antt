use Rattle.std.proofs.Common.{◌≡◌, drop}
use Rattle.dm_type_levels.specs.Passing.{pass}
use Rattle.dm_type_levels.specs.TypeLevels.{attributes_levels}
use Rattle.dm_type_levels.proofs.parts.attributes.Given as goal

abbrev pub invariant-loop-item : goal.invariant-loop-item
invariant-loop-item l = pass (attributes_levels l.level (drop l.item-index l.all)) l.at.left.now ≡ pass (attributes_levels l.level l.all) l.initial.rest
