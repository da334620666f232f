-- Levels of which none is too deep.
use Rattle.std.specs.Prelude.{ℕ, ◌≤◌, List, [], ◌∷◌, ⊤}
use Rattle.dm_ast.specs.Spelling.{deepest}

abbrev pub AllLow : List ℕ → Type 0
AllLow [] = ⊤
AllLow (l ∷ ls) = (l ≤ deepest) × AllLow ls
