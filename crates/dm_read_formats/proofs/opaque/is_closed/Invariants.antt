use Rattle.std.proofs.Common.{◌≡◌}
use Rattle.dm_stream.specs.Cursors.{left, sound}
use Rattle.dm_stream.specs.Sizes.{size}
use Rattle.dm_reread.specs.RunLeaves.{is_closed}
use Rattle.dm_read_formats.proofs.opaque.is_closed.Given as goal

abbrev pub invariant-loop-rest : goal.invariant-loop-rest
invariant-loop-rest l = record { is_sound : sound l.at; reads : is_closed (left l.fn.c) ≡ is_closed (left l.at) }

abbrev pub decreases-loop-rest : goal.decreases-loop-rest
decreases-loop-rest l = size (left l.at)
