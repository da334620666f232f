-- What a reader of arguments answers.
use Rattle.std.specs.Prelude.{Result, Ok, Err}
use Rattle.dm_stream.specs.declared.error.Error.{Error}
use Rattle.dm_stream.specs.declared.error.Error.TheVariants as error
use Rattle.dm_stream.specs.declared.error.Refusal.{Refusal}

-- the answer is within the relation, want of memory aside
abbrev pub Within : {A : Type 0} → (Result A Refusal → Type 0) → Result A Error → Type 0
Within related (Ok x) = related (Ok x)
Within related (Err (error.Refused r)) = related (Err r)
Within related (Err error.NoMemory) = Unit {0}
