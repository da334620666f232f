use Rattle.std.proofs.Common.{◌≡◌, take}
use Rattle.dm_stream.specs.Layout.{laid}
use Rattle.dm_layout.proofs.layout.Layout.entries.Given as goal

abbrev pub invariant-loop-entry : goal.invariant-loop-entry
invariant-loop-entry l = l.self ≡ laid l.fn.self (take l.entry-index l.all)
