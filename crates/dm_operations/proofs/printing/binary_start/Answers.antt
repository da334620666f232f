use Rattle.dm_output.specs.Tokens.{private_bounds, automatically_derived}
use Rattle.dm_operations.proofs.printing.binary_start.Goals as goal

pub returns : goal.returns
unfolding private_bounds automatically_derived
returns c = rw c.in_ok-fixed.ensures at c.fixed-2.ensures
