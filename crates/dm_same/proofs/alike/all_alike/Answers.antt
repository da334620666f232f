use native.Mathlib.Omega.{arith}
use Rattle.dm_same.proofs.Comparing.{all_apart}
use Rattle.dm_same.proofs.alike.all_alike.Goals as goal

-- lists of other lengths
pub returns-then-a-b : goal.returns-then-a-b
returns-then-a-b g c = grind (arith, all_apart)
