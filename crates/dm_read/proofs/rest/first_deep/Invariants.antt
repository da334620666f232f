use Rattle.std.proofs.Common.{◌≡◌, drop}
use Rattle.dm_read.specs.Deep.{deep_entry}
use Rattle.dm_read.proofs.rest.first_deep.Given as goal

abbrev pub invariant-loop-entry : goal.invariant-loop-entry
invariant-loop-entry l = deep_entry l.level l.entries ≡ deep_entry l.at (drop l.entry-index l.entries)
