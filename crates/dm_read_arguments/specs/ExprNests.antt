-- A function value that reads the expressions in expressions.
use Rattle.std.specs.Prelude.{ℕ, Result}
use denote.Ref.{MutBor}
use Rattle.dm_stream.specs.declared.error.Error.{Error}
use Rattle.dm_stream.specs.Trees.{Trees}
use Rattle.dm_output.specs.declared.expr.Expr.{Expr}
use Rattle.dm_output.specs.Views.{expr_view}
use Rattle.dm_read_places.specs.Reads.{Reads}
use Rattle.dm_read_places.specs.Turns.{rows}
use Rattle.dm_read_arguments.specs.declared.sort.Sort.{Sort}
use Rattle.dm_read_arguments.specs.declared.sort.Wanted.{Wanted}
use Rattle.dm_read_arguments.specs.Sorts.{sorted}

pub record ExprNests (room : ℕ) (pre : MutBor Trees → Wanted → Type 0) (post : MutBor Trees → Wanted → Result Expr Error → MutBor Trees → Type 0) : Type 0 where
  pub callable : (old : MutBor Trees) (fuel : ℕ) (sort : Sort) → pre old (record { fuel = fuel; room = room; sort = sort })
  pub reads : (old new : MutBor Trees) (fuel : ℕ) (sort : Sort) (r : Result Expr Error) →
      post old (record { fuel = fuel; room = room; sort = sort }) r new →
      Reads expr_view (sorted sort (rows fuel)) old.now r new.now
