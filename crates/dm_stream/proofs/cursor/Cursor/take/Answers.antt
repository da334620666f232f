use Rattle.dm_stream.proofs.Cuts.{cut-end}
use Rattle.dm_stream.proofs.cursor.Cursor.take.Goals as goal

pub returns-clause-gives : goal.returns-clause-gives
returns-clause-gives c =
    rw (c.split_at.ensures.front, c.split_at.ensures.back) (cut-end _ _ _ c.in_ok-at.ensures)
