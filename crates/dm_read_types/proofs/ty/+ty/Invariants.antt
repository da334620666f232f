use Rattle.dm_read_types.proofs.ty.+ty.Given as goal

abbrev pub decreases-ty : goal.decreases-ty
decreases-ty l = l.depth
