use Rattle.std.proofs.Common.{◌≤◌, ◌-◌, take, length}
use Rattle.std.specs.Io.KnownBytes.{Appends}
use Rattle.dm_outside.specs.Transfers.{OffersAll}
use Rattle.dm_outside.proofs.transfer.write_all.Given as goal

abbrev pub decreases-turns : goal.decreases-turns
decreases-turns g l = length l.text - l.at

-- the text up to here is written, each write was offered all that was left, and the count hasn't fallen
abbrev pub invariant-turns : goal.invariant-turns
invariant-turns g l =
    record {
      within : l.at ≤ length l.text;
      put : Appends (g.K.Sink.written l.fn.sink) (g.K.Sink.written l.sink) (take l.at l.text);
      offers : OffersAll (g.K.Sink.offers l.fn.sink) (g.K.Sink.offers l.sink) l.text l.at;
      later : g.K.Sink.faults l.fn.sink ≤ g.K.Sink.faults l.sink;
    }
