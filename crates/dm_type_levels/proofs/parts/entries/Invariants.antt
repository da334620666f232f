use Rattle.std.proofs.Common.{◌≡◌, drop}
use Rattle.dm_type_levels.specs.Passing.{pass}
use Rattle.dm_type_levels.specs.TypeLevels.{entries_levels}
use Rattle.dm_type_levels.proofs.parts.entries.Given as goal

abbrev pub invariant-loop-entry : goal.invariant-loop-entry
invariant-loop-entry l = pass (entries_levels l.level (drop l.entry-index l.tokens)) l.at.left.now ≡ pass (entries_levels l.initial.level l.tokens) l.initial.rest
