-- An input seen as its state, and what is true of each.
use Rattle.std.specs.Prelude.{◌≤◌, ◌+◌}
use Rattle.dm_stream.specs.Cursors.{left, end_of, sound}
use Rattle.dm_ast.specs.Spelling.{deepest}
use Rattle.dm_input.specs.declared.input.Input.TheInside.{Inside}
use Rattle.dm_input.specs.State.{State}

abbrev pub state_of : Inside → State
state_of i = record { trees = left i.at; at = record { level = i.level; limit = end_of i.at } }

-- the cursor is sound, and its tokens stand at most one level deeper than tokens may
abbrev pub IsSound : Inside → Type 0
IsSound i = sound i.at × (i.level ≤ deepest + 1)
