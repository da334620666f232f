use Rattle.std.proofs.Common.{◌≡◌}
use Rattle.dm_stream.proofs.owned.own_entries.Given as goal

abbrev pub invariant-loop-entry : goal.invariant-loop-entry
invariant-loop-entry l = l.found.items ≡ l.yielded
