use Rattle.dm_run.proofs.RunLemmas.{ran, turned}
use Rattle.dm_run.proofs.top.run.Goals as goal

pub returns-in-Ok-clause-ran : goal.returns-in-Ok-clause-ran
returns-in-Ok-clause-ran g c = ran _ _ _ _ _ c.respond.result c.in-Ok.ensures.all (rw c.as_slice.ensures.value at c.respond.ensures.responds)

pub returns-in-Ok-clause-turns : goal.returns-in-Ok-clause-turns
returns-in-Ok-clause-turns g c =
    turned _ _ _ _ _ _ c.respond.result c.in-Ok.ensures.all.few c.in-Ok.ensures.turns c.respond.ensures.responds
