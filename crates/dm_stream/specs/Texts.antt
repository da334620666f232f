use Rattle.std.specs.Prelude.{ℕ, List}
use Rattle.std.specs.String.{string_bytes}
use Rattle.dm_stream.specs.declared.text.Held.{Held}
use Rattle.dm_stream.specs.declared.text.Held.TheVariants.{Borrowed, Short, Owned}

-- the bytes of a text that is borrowed or owned
abbrev pub held_bytes : Held → List ℕ
held_bytes (Borrowed text) = text.now
held_bytes (Short text) = text.bytes
held_bytes (Owned text) = string_bytes text
