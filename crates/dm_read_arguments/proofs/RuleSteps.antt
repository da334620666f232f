-- An expression alone, and what stands behind it.
use Rattle.std.proofs.lemmas.Grind.{common_steps}
use Rattle.dm_read_places.proofs.Expecting.{whole_open}

pub ruleset rule_steps = (common_steps, whole_open)
