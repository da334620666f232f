use Rattle.std.proofs.Common.{◌≡◌, ◌≤◌, ◌*◌, ◌++◌, drop}
use Rattle.dm_fmtstr.specs.Parts.{formats_of}
use Rattle.dm_fmtstr.specs.Positions.{placeholders_of, placeholders_from, placeholders}
use Rattle.dm_fmtstr.proofs.placeholder.numbered.Given as goal

abbrev pub invariant-loop-format : goal.invariant-loop-format
invariant-loop-format l = record {
  fits : l.next ≤ 2 * l.format-index;
  found : placeholders_of l.found ++ placeholders_from l.next (formats_of (drop l.format-index l.formats)) ≡ placeholders (formats_of l.formats);
}
