-- Readers that give the same.
use Rattle.std.proofs.Common.{◌≡◌, ◌∙◌, Result, Ok, Err}
use Rattle.dm_stream.specs.declared.error.Error.{Error}
use Rattle.dm_stream.specs.declared.error.Error.TheVariants as error
use Rattle.dm_stream.specs.Trees.{Trees}
use Rattle.dm_reread.specs.Leaves.{Answer}
use Rattle.dm_read_places.specs.Reads.{Reads}

-- what one reader reads, another reads that gives the same there
pub reads_as : {A X : Type 0} (view : X → A) (p q : Trees → Answer A) (old new : Trees) (r : Result X Error) → p old ≡ q old →
    Reads view q old r new →
    Reads view p old r new
reads_as view p q old new (Ok x) e h = e ∙ h
reads_as view p q old new (Err (error.Refused r)) e h = e ∙ h
reads_as view p q old new (Err error.NoMemory) e h = tt
