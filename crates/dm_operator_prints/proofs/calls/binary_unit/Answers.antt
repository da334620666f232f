use Rattle.dm_operators.specs.Bodies.{binary_unit}
use Rattle.dm_operator_prints.proofs.calls.binary_unit.Goals as goal

pub returns : goal.returns
unfolding binary_unit
returns c = rw (c.in_ok-quoted.ensures, c.in_ok-fixed-3.ensures, c.in_ok-fixed-2.ensures, c.in_ok-fixed.ensures) at c.fixed-4.ensures
