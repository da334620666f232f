-- Parts of the plain reader's rows that functions of their own read.
use Rattle.std.specs.Prelude.{ℕ, true, Some, None}
use Rattle.dm_stream.specs.Trees.{Trees}
use Rattle.dm_output.specs.Output.{ArmTrees, StmtTree, let_stmt, ExprTree}
use Rattle.dm_reread.specs.Next.{Next, in_braces, next}
use Rattle.dm_reread.specs.Leaves.{Answer}
use Rattle.dm_reread.specs.Reading.{then, assigns_after}
use Rattle.dm_read_places.specs.Turns.{rows, declared_at}

-- arms in braces
abbrev pub braced_arms : ℕ → Next → Answer ArmTrees
braced_arms n (in_braces inside ts) = then ((rows n).arms inside) (λ s. Some (s, ts))
braced_arms n _ = None

-- ---- statements

-- `=` and an expression
abbrev pub assigned : ℕ → Trees → Answer ExprTree
assigned n ts = then (assigns_after (next ts)) (λ us. (rows n).expr true us)

-- a name and its value
abbrev pub named_let : ℕ → Trees → Answer StmtTree
named_let n ts = then (declared_at (next ts)) (λ s. then (assigned n s.1) (λ a. Some (let_stmt s.0 a.0, a.1)))
