use Rattle.dm_standard.proofs.words.collected.Goals as goal

pub returns-in-Ok-clause-all : goal.returns-in-Ok-clause-all
returns-in-Ok-clause-all c =
    let ran = c.in-Ok.ensures.ran in
    let last = ran.1.2 tt in
    rw ran.2.0 (last.0, (ran.1.0, ran.1.1, last.1))
