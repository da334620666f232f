use Rattle.std.proofs.Common.{length}
use denote.Text.{Utf8}
use denote.Shadow.{shadow}
use Rattle.dm_fmtstr.proofs.Arguments.{IsReadSoFar}
use Rattle.dm_fmtstr.proofs.argument.read_integer.Given as goal

abbrev pub invariant-loop-after : goal.invariant-loop-after
invariant-loop-after l = record { text : shadow (Utf8 l.rest); read : IsReadSoFar l.text l.rest l.value l.seen }

abbrev pub decreases-loop-after : goal.decreases-loop-after
decreases-loop-after l = length l.rest
