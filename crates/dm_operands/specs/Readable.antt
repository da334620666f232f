-- The declarations that traits are derived for: what the reader gives, and the check of names lets pass.
use Rattle.std.specs.Prelude.{ℕ}
use Rattle.dm_stream.specs.Trees.{Trees}
use Rattle.dm_ast.specs.Declarations.{Declaration}
use Rattle.dm_ast.specs.Spelling.{Marks}
use Rattle.dm_ast.specs.Parsed.{SpelledBy}
use Rattle.dm_ast.specs.Names.{Named}

-- the declaration of some trees, whose names may be declared
pub record IsReadable (d : Declaration) : Type 0 where
  pub limit : ℕ
  pub trees : Trees
  pub marks : Marks
  pub spelled : SpelledBy d limit trees marks
  pub named : Named d
