use Rattle.std.proofs.Common.{rules, arith}
use Rattle.std.proofs.lemmas.Grind.{common_steps}
use Rattle.dm_input.specs.Inputs.{shallower}
use Rattle.dm_input.proofs.input.Input.up.Goals as goal

pub returns : goal.returns
unfolding shallower
returns c = first_of (search rules, grind (arith, common_steps))
