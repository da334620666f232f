use Rattle.std.proofs.Common.{◌≡◌, ◌<◌, take, length, arith, length-take}
use Rattle.std.proofs.KnownBytes.{Consumes-trans}
use Rattle.dm_outside.proofs.Turning.{took-some, took-grown, grown}
use Rattle.dm_outside.proofs.transfer.read_through.Goals as goal

pub returns-then-is_err-clause-turns : goal.returns-then-is_err-clause-turns
returns-then-is_err-clause-turns g c =
    let some : 0 < c.in-Ok.count = search arith in
    took-some _ _ _ (length c.turns.bytes.items) c.in-Ok.count c.turns.invariant.turns c.in-Ok.ensures.told some

pub turns-preserved : goal.turns-preserved
turns-preserved g c =
    let some : 0 < c.in-Ok.count = search arith in
    let whole = grown c.extend_from_slice.result c.is_err.result c.turns.bytes.items c.extend_from_slice.new.self.items (take c.in-Ok.count c.read.new.buf) c.extend_from_slice.ensures.items c.is_err.ensures.value c.if-is_err.false in
    let count : length (take c.in-Ok.count c.read.new.buf) ≡ c.in-Ok.count = grind (arith, length-take) in
    record {
      room = search arith;
      taken = rw whole (Consumes-trans _ _ _ c.turns.bytes.items (take c.in-Ok.count c.read.new.buf) c.turns.invariant.taken c.in-Ok.ensures.bytes.0);
      turns = took-grown _ _ _ c.turns.bytes.items _ _ c.in-Ok.count whole count c.turns.invariant.turns c.in-Ok.ensures.told some;
      later = search arith;
    }
