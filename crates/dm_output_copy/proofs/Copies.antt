-- What copies of implementations need besides the equations of the views: an attribute is its own shape.
use Rattle.std.proofs.lemmas.List.{map-id}
use Rattle.dm_output.proofs.View.{view_steps}

pub ruleset item_steps = (view_steps, map-id)
