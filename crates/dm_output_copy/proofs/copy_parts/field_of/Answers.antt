use native.Mathlib.Omega.{arith}
use Rattle.dm_output.proofs.View.{view-NamedExpr}
use Rattle.dm_output_copy.proofs.copy_parts.field_of.Goals as goal

pub returns : goal.returns
returns c = grind (arith, view-NamedExpr)
