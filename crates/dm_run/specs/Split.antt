-- A trait's name on a line of its own, and a declaration below it.
use Rattle.std.specs.Prelude.{◌≡◌, ◌==◌, ℕ, Bool, List, Contains}
use Rattle.std.specs.List.{before_first, after_first}
use Rattle.std.specs.Str.{IsUtf8}
use Rattle.std.specs.Str.Lines.{strip_carriage_return}

abbrev pub is_line_feed : ℕ → Bool
is_line_feed b = b == 10

-- the bytes are a text that has a line feed
pub record HasLine (bytes : List ℕ) : Type 0 where
  pub utf8 : IsUtf8 bytes
  pub feed : Contains bytes 10

-- the name is the first line without one CR at its end, and the rest stands behind the line feed
pub record IsSplit (bytes name rest : List ℕ) : Type 0 where
  pub line : HasLine bytes
  pub before : name ≡ strip_carriage_return (before_first is_line_feed bytes)
  pub behind : rest ≡ after_first is_line_feed bytes
