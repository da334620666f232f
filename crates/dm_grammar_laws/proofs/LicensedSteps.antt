-- What a reader's outcome says of the openers that it passed.
use Rattle.std.specs.Prelude.{ℕ, Ok, Err}
use Rattle.dm_stream.specs.Trees.{Trees}
use Rattle.dm_ast.specs.Spelling.{Where}
use Rattle.dm_ast.specs.Places.{IsBehind, IsRefusedAt}
use Rattle.dm_ast.specs.Readers.{Outcome}

-- an outcome that passes so many openers, or is refused only where it may be
abbrev pub Licensed : {A : Type 0} → ℕ → Where → Trees → Outcome A → Type 0
Licensed count w ts (Ok p) = IsBehind count ts p.1
Licensed count w ts (Err r) = IsRefusedAt w.level w.limit r ts
