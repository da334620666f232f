use Rattle.dm_output.specs.Tokens.{deprecated, unreachable_code, automatically_derived}
use Rattle.dm_operations.proofs.printing.unary_start.Goals as goal

pub returns : goal.returns
unfolding deprecated unreachable_code automatically_derived
returns c = rw (c.in_ok-fixed-2.ensures, c.in_ok-fixed.ensures) at c.fixed-3.ensures
