-- The declarations that the reader gives of texts.
use Rattle.std.specs.Prelude.{◌≡◌, ℕ, None}
use Rattle.dm_stream.specs.Trees.{Trees}
use Rattle.dm_lexer.specs.Written.{AreWritable, AreShallow}
use Rattle.dm_ast.specs.Declarations.{Declaration}
use Rattle.dm_ast.specs.Spelling.{Marks, first_too_deep}
use Rattle.dm_ast.specs.Parsed.{SpelledBy}
use Rattle.dm_ast.specs.Names.{Named}

-- what the reader gives of a text: the declaration of trees that a text can have, with no token at a level over 128 or inside more groups than
-- are read, and whose names may be declared
pub record IsOfText (d : Declaration) : Type 0 where
  pub limit : ℕ
  pub trees : Trees
  pub marks : Marks
  pub spelled : SpelledBy d limit trees marks
  pub within : first_too_deep marks ≡ None
  pub writable : AreWritable trees
  pub shallow : AreShallow trees
  pub named : Named d
