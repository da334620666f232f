-- Trees that are gathered apart and then added at once.
use Rattle.std.proofs.lemmas.Grind.{common_steps}
use Rattle.dm_stream.specs.Trees.{join-no_trees, join_assoc}
use Rattle.dm_quote.proofs.Appending.{partly_none}

pub ruleset adding_steps = (common_steps, join-no_trees, join_assoc, partly_none)
