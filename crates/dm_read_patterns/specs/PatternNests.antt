-- A function value that reads the patterns in patterns.
use Rattle.std.specs.Prelude.{ℕ, Result}
use denote.Ref.{MutBor}
use Rattle.dm_stream.specs.declared.error.Error.{Error}
use Rattle.dm_stream.specs.Trees.{Trees}
use Rattle.dm_output.specs.declared.pattern.Pattern.{Pattern}
use Rattle.dm_output.specs.Views.{pattern_view}
use Rattle.dm_read_places.specs.Reads.{Reads}
use Rattle.dm_read_places.specs.Turns.{rows}

pub record PatternNests (room : ℕ) (pre : MutBor Trees → ℕ → ℕ → Type 0) (post : MutBor Trees → ℕ → ℕ → Result Pattern Error → MutBor Trees → Type 0) : Type 0 where
  pub callable : (old : MutBor Trees) (fuel : ℕ) → pre old fuel room
  pub reads : (old new : MutBor Trees) (fuel : ℕ) (r : Result Pattern Error) → post old fuel room r new →
      Reads pattern_view (rows fuel).pattern old.now r new.now
