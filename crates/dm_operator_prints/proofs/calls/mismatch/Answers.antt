use Rattle.dm_operators.specs.Bodies.{mismatch}
use Rattle.dm_operator_prints.proofs.calls.mismatch.Goals as goal

pub returns : goal.returns
unfolding mismatch
returns c = rw (c.in_ok-quoted.ensures, c.in_ok-fixed-3.ensures, c.in_ok-fixed-2.ensures, c.in_ok-fixed.ensures) at c.fixed-4.ensures
