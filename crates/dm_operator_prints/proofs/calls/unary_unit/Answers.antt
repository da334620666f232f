use Rattle.dm_operators.specs.Bodies.{unary_unit}
use Rattle.dm_operator_prints.proofs.calls.unary_unit.Goals as goal

pub returns : goal.returns
unfolding unary_unit
returns c = rw (c.in_ok-quoted.ensures, c.in_ok-fixed-2.ensures, c.in_ok-fixed.ensures) at c.fixed-3.ensures
