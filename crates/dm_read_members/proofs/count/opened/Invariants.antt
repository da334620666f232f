use Rattle.std.proofs.Common.{◌≡◌, ◌+◌, drop}
use Rattle.dm_read_members.specs.Rows.{opened}
use Rattle.dm_read_members.proofs.count.opened.Given as goal

abbrev pub invariant-loop-entry : goal.invariant-loop-entry
invariant-loop-entry l = l.count + opened (drop l.entry-index l.entries) ≡ opened l.entries
