-- The reader with fuel enough for its text.
use Rattle.std.specs.Prelude.{ℕ, suc, ◌+◌, ◌*◌, true, Option}
use Rattle.dm_stream.specs.Trees.{Trees, no_trees, token, group}
use Rattle.dm_output.specs.Output.{ExprTree, PatternTree, BlockTree}
use Rattle.dm_reread.specs.Leaves.{Answer, Leaves}
use Rattle.dm_reread.specs.Reading.{readers, whole}

abbrev pub size : Trees → ℕ
size no_trees = 0
size (token k rest) = suc (size rest)
size (group d from inside upto rest) = suc (size inside + size rest)

-- an expression in front
abbrev pub read_expr : Leaves → Trees → Answer ExprTree
read_expr l ts = (readers l (5 * size ts)).expr true ts

-- a pattern in front
abbrev pub read_pattern : Leaves → Trees → Answer PatternTree
read_pattern l ts = (readers l (5 * size ts)).pattern ts

-- an expression, and nothing behind it
abbrev pub read_whole : Leaves → Trees → Option ExprTree
read_whole l ts = whole (read_expr l ts)

-- the inside of a block, to its end
abbrev pub read_inside : Leaves → Trees → Option BlockTree
read_inside l ts = (readers l (1 + 5 * size ts)).block ts
