use Rattle.dm_fmtstr.proofs.Strings.{formats-one}
use Rattle.dm_fmtstr.proofs.laws.one_reading.Goals as goal

pub returns : goal.returns
returns c = λ cs fs gs t u. formats-one gs t u
