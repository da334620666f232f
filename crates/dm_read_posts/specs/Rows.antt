-- Parts of the plain reader's rows of members and methods that functions of their own read.
use Rattle.std.specs.Prelude.{ℕ, not, false, Option, Some}
use Rattle.dm_stream.specs.Trees.{Trees}
use Rattle.dm_output.specs.Output.{ExprTree, ExprTrees}
use Rattle.dm_reread.specs.Leaves.{Answer}
use Rattle.dm_reread.specs.Reading.{then, provided, apply, read_args}
use Rattle.dm_read_places.specs.Turns.{rows}

-- arguments without a comma behind the last
abbrev pub plain_args : ℕ → Trees → Option ExprTrees
plain_args n ts = then (read_args (rows n) false ts) (λ a. provided (not a.1) (Some a.0))

-- a receiver with all that stands behind it
abbrev pub posts_behind : ℕ → ExprTree → Trees → Answer ExprTree
posts_behind n e ts = then ((rows n).posts ts) (λ s. Some (apply e s.0, s.1))
