-- A function value that reads the types of the next level, down to a depth.
use Rattle.std.specs.Prelude.{ℕ, Result}
use denote.Ref.{MutBor}
use Rattle.dm_stream.specs.declared.error.Error.{Error}
use Rattle.dm_read_paths.specs.declared.kind.Mode.{Mode}
use Rattle.dm_ast.specs.declared.ty.Ty.{Ty}
use Rattle.dm_ast.specs.Tree.{ty_view}
use Rattle.dm_input.specs.State.{State}
use Rattle.dm_input.specs.Inputs.{Reads}
use Rattle.dm_read_paths.specs.TypeReaders.{read_type}

pub record Nests (depth : ℕ) (pre : MutBor State → ℕ → Mode → Type 0) (post : MutBor State → ℕ → Mode → Result Ty Error → MutBor State → Type 0) : Type 0 where
  pub callable : (old : MutBor State) (mode : Mode) → pre old depth mode
  pub reads : (old new : MutBor State) (mode : Mode) (r : Result Ty Error) → post old depth mode r new → Reads ty_view (read_type depth mode) old.now r new.now
