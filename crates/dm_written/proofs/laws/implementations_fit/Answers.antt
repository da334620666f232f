use Rattle.dm_written.proofs.FittedItems.{items_fit}
use Rattle.dm_written.proofs.laws.implementations_fit.Goals as goal

pub returns : goal.returns
returns c = items_fit
