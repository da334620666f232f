-- The levels of entries of a flat form.
use Rattle.std.specs.Prelude.{ℕ, ◌+◌, ◌-◌, if◌then◌else◌, nat_lt, List, [], ◌∷◌, Option, Some, None}
use Rattle.dm_stream.specs.declared.tokens.Span.{Span}
use Rattle.dm_stream.specs.declared.tokens.Entry.{Entry}
use Rattle.dm_stream.specs.declared.tokens.Entry.TheVariants as entry
use Rattle.dm_ast.specs.Spelling.{deepest}
use Rattle.dm_ast.specs.Readers.{entry_span}

-- where an entry stands, of which the one before left this level
abbrev pub level_at : ℕ → Entry → ℕ
level_at n (entry.Token k) = n
level_at n (entry.Open d from count) = n
level_at n (entry.Close d upto) = n - 1

abbrev pub level_after : ℕ → Entry → ℕ
level_after n (entry.Token k) = n
level_after n (entry.Open d from count) = n + 1
level_after n (entry.Close d upto) = n - 1

-- the range of the first entry that stands too deep
abbrev pub deep_entry : ℕ → List Entry → Option Span
deep_entry n [] = None
deep_entry n (e ∷ es) = if nat_lt deepest (level_at n e) then Some (entry_span e) else deep_entry (level_after n e) es
