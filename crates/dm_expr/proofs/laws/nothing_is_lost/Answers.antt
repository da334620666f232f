use Rattle.dm_expr.proofs.Joining.{nothing-lost}
use Rattle.dm_expr.proofs.laws.nothing_is_lost.Goals as goal

pub returns : goal.returns
returns c = nothing-lost
