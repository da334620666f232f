-- Steps that what is added to generics takes.
use Rattle.std.proofs.Common.{append_assoc}
use Rattle.dm_copy.proofs.Copies.{copy_steps}

pub ruleset addition_steps = (copy_steps, append_assoc)
