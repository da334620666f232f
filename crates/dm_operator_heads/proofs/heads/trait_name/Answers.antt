use Rattle.dm_operator_heads.proofs.heads.trait_name.Goals as goal

pub returns : goal.returns
returns c = rw c.in_ok-fixed.ensures at c.word.ensures
