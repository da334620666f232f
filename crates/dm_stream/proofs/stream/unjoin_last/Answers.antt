use Rattle.std.proofs.Common.{subst}
use Rattle.dm_stream.specs.LastAlone.{IsLastPunct}
use Rattle.dm_stream.proofs.LastAlone.{alone_flat, alone_trees}
use Rattle.dm_stream.proofs.stream.unjoin_last.Goals as goal

pub returns-in-Some-clause-flat : goal.returns-in-Some-clause-flat
returns-in-Some-clause-flat c =
    alone_flat _ _ _ c.requires (subst (λ es. IsLastPunct es c.in-Some.punct c.in-Some.at) c.as_slice.ensures.value c.in-Some.ensures)

pub returns-in-Some-clause-trees : goal.returns-in-Some-clause-trees
returns-in-Some-clause-trees c =
    alone_trees _ _ _ c.requires (subst (λ es. IsLastPunct es c.in-Some.punct c.in-Some.at) c.as_slice.ensures.value c.in-Some.ensures)
