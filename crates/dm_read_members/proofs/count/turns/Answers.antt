-- The number fits, as there are no more trees than entries.
use Rattle.std.proofs.Common.{length, ap, ◌∙◌, arith}
use Rattle.dm_read_members.proofs.CountSteps.{opened_fits}
use Rattle.dm_read_members.proofs.count.turns.Goals as goal

pub overflow_add-result : goal.overflow_add-result
overflow_add-result c =
    omega (arith, c.well_formed, c.opened.ensures, opened_fits c.entries.result.now, ap length (c.entries.ensures ∙ c.requires))
