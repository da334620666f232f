-- The reader of types, and which types it reads back.
use Rattle.std.specs.Prelude.{◌≡◌, Some, None, Ok, Err}
use Rattle.dm_stream.specs.Trees.{Trees}
use Rattle.dm_ast.specs.Tree.{TypeTree}
use Rattle.dm_ast.specs.Spelling.{Where}
use Rattle.dm_ast.specs.Readers.{Outcome}
use Rattle.dm_read_paths.specs.WholeReaders.{whole_type}
use Rattle.dm_type_eq.specs.Unplaced.{unplaced_type}
use Rattle.dm_type_eq.specs.Spelled.{IsSpelled}
use Rattle.dm_reread.specs.Leaves.{Answer}

-- the place of trees that no text has: all their ranges are 0..0
abbrev pub top : Where
top = record { level = 0; limit = 0 }

-- a refusal is no answer
abbrev pub answer_of : {A : Type 0} → Outcome A → Answer A
answer_of (Ok r) = Some r
answer_of (Err r) = None

-- the type in front, and the trees behind it
abbrev pub read_type : Trees → Answer TypeTree
read_type ts = answer_of (whole_type top ts)

-- a type without ranges, which some trees spell within the deepest level
pub record IsType (t : TypeTree) : Type 0 where
  pub unplaced : unplaced_type t ≡ t
  pub spelled : IsSpelled t
