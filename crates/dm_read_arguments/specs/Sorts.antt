-- The sorts of expressions that stand in others.
use Rattle.dm_stream.specs.Trees.{Trees}
use Rattle.dm_output.specs.Output.{ExprTree}
use Rattle.dm_reread.specs.Leaves.{Answer}
use Rattle.dm_reread.specs.Reading.{Readers}
use Rattle.dm_read_arguments.specs.declared.sort.Sort.{Sort}
use Rattle.dm_read_arguments.specs.declared.sort.Sort.TheVariants as sort

-- a whole expression, or an operand; the truth value says whether a brace continues a path
abbrev pub sorted : Sort → Readers → Trees → Answer ExprTree
sorted (sort.Whole b) r = r.expr b
sorted (sort.Operand b) r = r.pre b
