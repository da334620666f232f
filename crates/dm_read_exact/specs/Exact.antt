-- What has the tokens that were passed.
use Rattle.std.specs.Prelude.{List, Option, Some}
use Rattle.dm_stream.specs.declared.tokens.Entry.{Entry}
use Rattle.dm_stream.specs.Trees.{Trees}
use Rattle.dm_reread.specs.Reading.{provided}
use Rattle.dm_reread.specs.ExactLeaves.{has_entries}

-- what has these tokens and delimiters
abbrev pub only : {A : Type 0} → (A → Trees) → List Entry → A → Option A
only trees_of es x = provided (has_entries (trees_of x) es) (Some x)
