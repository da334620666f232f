use Rattle.std.proofs.Common.{◌≡◌, take}
use Rattle.dm_stream.proofs.copy.copy_entries.Given as goal

abbrev pub invariant-loop-entry : goal.invariant-loop-entry
invariant-loop-entry l = l.found.items ≡ take l.entry-index l.all
