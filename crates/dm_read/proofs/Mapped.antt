-- Readers whose values are seen as they are.
use Rattle.std.proofs.Common.{map-id}
use Rattle.std.proofs.lemmas.Grind.{common_steps}

pub ruleset mapped_steps = (common_steps, map-id)
