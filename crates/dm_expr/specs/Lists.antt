-- Lists of expressions.
use Rattle.std.specs.Prelude.{◌≡◌, true, Some, List, [], ◌∷◌}
use Rattle.dm_stream.specs.declared.tokens.Token.{Token}
use Rattle.dm_stream.specs.Trees.{Trees, no_trees, token, join}
use Rattle.dm_expr.specs.Cuts.{is_char, run_at, split_at}

-- The trees are these runs with commas between, and perhaps one behind the last.
pub data Cuts : Trees → List Trees → Type 0 where
  cuts_none : Cuts no_trees []
  cuts_last : {ts run : Trees} → split_at (run_at true ts) ts ≡ Some (run, no_trees) → Cuts ts (run ∷ [])
  cuts_more : {ts run rest : Trees} {runs : List Trees} (comma : Token) →
      split_at (run_at true ts) ts ≡ Some (run, token comma rest) → is_char 44 comma ≡ true → Cuts rest runs → Cuts ts (run ∷ runs)

-- the trees are these runs, a comma between each two, perhaps one behind the last, and nothing else
pub data IsJoined : Trees → List Trees → Type 0 where
  joined_none : IsJoined no_trees []
  joined_last : (run : Trees) → IsJoined run (run ∷ [])
  joined_more : {ts run rest : Trees} {runs : List Trees} (comma : Token) → is_char 44 comma ≡ true → ts ≡ join run (token comma rest) →
      IsJoined rest runs → IsJoined ts (run ∷ runs)

-- no token of a list is lost
abbrev pub NothingIsLost : Type 0
NothingIsLost = (ts : Trees) (runs : List Trees) → Cuts ts runs → IsJoined ts runs
