use Rattle.std.proofs.Common.{ap}
use Rattle.dm_fmtstr.specs.Parts.{formats_of}
use Rattle.dm_fmtstr.proofs.Placing.{placed}
use Rattle.dm_fmtstr.proofs.placeholder.Placeholder.parse_fmt_string.Goals as goal

pub returns-in-Some : goal.returns-in-Some
returns-in-Some c = placed _ _ _ _ (ap formats_of c.as_slice.ensures) (rw c.in-Some.is at c.in_ok-string.ensures) c.numbered.ensures
