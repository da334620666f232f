-- What an answer is told as.
use Rattle.std.specs.Prelude.{◌≡◌, ℕ, List, ◌++◌, Result, Ok, Err, codes, String, string_bytes}
use Rattle.std.specs.declared.alloc.Global.{Global}
use Rattle.dm_stream.specs.Messages.{refusal_text}
use Rattle.dm_stream.specs.declared.error.Error.{Error}
use Rattle.dm_stream.specs.declared.error.Error.TheVariants.{NoMemory, Refused}

-- the text itself, or the line of the refusal; nothing tells of want of memory
abbrev pub Tells : Result (String Global) Error → List ℕ → Type 0
Tells (Ok text) told = told ≡ string_bytes text
Tells (Err NoMemory) told = ⊥
Tells (Err (Refused r)) told = told ≡ (refusal_text r ++ codes "\n")
