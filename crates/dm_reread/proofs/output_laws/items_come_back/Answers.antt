use Rattle.dm_reread.proofs.ReadBack.{output_back, one_output}
use Rattle.dm_reread.proofs.output_laws.items_come_back.Goals as goal

pub returns : goal.returns
returns c = record { back = output_back; one = one_output }
