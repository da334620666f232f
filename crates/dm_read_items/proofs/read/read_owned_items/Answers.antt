-- Why a text has no trees.
use Rattle.dm_read_items.proofs.ReadSteps.{lexed_unread}
use Rattle.dm_read_items.proofs.read.read_owned_items.Goals as goal

pub returns-in_err-stream-clause-unread : goal.returns-in_err-stream-clause-unread
returns-in_err-stream-clause-unread c =
    lexed_unread c.args.text.now c.in_err-stream.field-0.0 c.from_residual.result c.in_err-stream.ensures.refused c.from_residual.ensures.1
