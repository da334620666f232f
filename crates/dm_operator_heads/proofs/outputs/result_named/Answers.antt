use Rattle.dm_operator_heads.proofs.outputs.result_named.Goals as goal

pub returns : goal.returns
returns c = rw c.in_ok-fixed.ensures at c.fixed-2.ensures
