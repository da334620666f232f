use Rattle.std.proofs.Common.{length}
use denote.Text.{Utf8}
use denote.Shadow.{shadow}
use Rattle.std.specs.Str.{chars}
use Rattle.dm_fmtstr.specs.Parts.{formats_of}
use Rattle.dm_fmtstr.proofs.Strings.{AreReadSoFar}
use Rattle.dm_fmtstr.proofs.format.format_string.Given as goal

abbrev pub invariant-loop-c : goal.invariant-loop-c
invariant-loop-c l = record {
  text : shadow (Utf8 l.rest);
  read : AreReadSoFar (chars l.text) (chars l.rest) (formats_of l.formats);
}

abbrev pub decreases-loop-c : goal.decreases-loop-c
decreases-loop-c l = length (chars l.rest)
