use Rattle.std.proofs.Common.{[], ◌≤◌, ◌<◌, ◌-◌, length, vec_len}
use Rattle.std.specs.Io.KnownBytes.{Consumes}
use Rattle.dm_outside.specs.Transfers.{EachTook}
use Rattle.dm_outside.proofs.transfer.read_through.Given as goal

abbrev pub decreases-turns : goal.decreases-turns
decreases-turns g l = 1048577 - vec_len l.bytes

-- the buffer has room, the bytes so far came from the source, at least one at each turn, and its count hasn't fallen
abbrev pub invariant-turns : goal.invariant-turns
invariant-turns g l =
    record {
      room : 0 < length l.buf;
      taken : Consumes (g.S.Source.left l.fn.source) (g.S.Source.left l.source) l.bytes.items;
      turns : EachTook (g.S.Source.reads l.fn.source) (g.S.Source.reads l.source) [] (length l.bytes.items);
      later : g.S.Source.faults l.fn.source ≤ g.S.Source.faults l.source;
    }
