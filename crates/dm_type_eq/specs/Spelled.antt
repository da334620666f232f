-- Types that are read somewhere.
use Rattle.std.specs.Prelude.{◌≡◌, Bool, None}
use Rattle.dm_stream.specs.Trees.{Trees}
use Rattle.dm_ast.specs.Tree.{TypeTree}
use Rattle.dm_ast.specs.Spelling.{Where, Marks, first_too_deep}
use Rattle.dm_ast.specs.TypeGrammar.{type_spelled}
use Rattle.dm_type_eq.specs.Unplaced.{unplaced_type}

-- some trees spell the type, or one that differs from it in ranges alone, within the deepest level, at whatever place, and whatever
-- follows it
pub record IsSpelled (t : TypeTree) : Type 0 where
  pub like : TypeTree
  pub same : unplaced_type like ≡ unplaced_type t
  pub single : Bool
  pub place : Where
  pub trees : Trees
  pub others : Trees
  pub marks : Marks
  pub spelled : type_spelled like single place trees others marks
  pub within : first_too_deep marks ≡ None
