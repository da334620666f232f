use Rattle.dm_operators.proofs.Operations.{operation}
use Rattle.dm_operators.proofs.ValidLaws.{unrefused}
use Rattle.dm_operators.proofs.CoveringLaws.{operation-covers}
use Rattle.dm_operators.proofs.laws.operators_are_given.Goals as goal

pub returns : goal.returns
returns c = record { given = operation; refused = unrefused; covered = operation-covers }
