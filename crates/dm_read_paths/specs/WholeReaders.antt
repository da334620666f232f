-- The readers of whole declarations: types nest as deep as their levels may go.
use Rattle.std.specs.Prelude.{◌≡◌, Result, Ok, Err}
use Rattle.dm_stream.specs.declared.error.Error.{Error}
use Rattle.dm_stream.specs.declared.error.Error.TheVariants as error
use Rattle.dm_stream.specs.declared.error.Refusal.{Refusal}
use Rattle.dm_ast.specs.declared.decl.DeriveInput.{DeriveInput}
use Rattle.dm_read_paths.specs.declared.kind.Mode.TheVariants.{Whole}
use Rattle.dm_ast.specs.Tree.{TypeTree, BoundTree}
use Rattle.dm_ast.specs.Declarations.{Declaration, declaration_view}
use Rattle.dm_ast.specs.Spelling.{Where}
use Rattle.dm_ast.specs.Readers.{Parser}
use Rattle.dm_read_paths.specs.TypeReaders.{read_type, read_bound, inner_path}
use Rattle.dm_read.specs.DeclarationReaders.{Parts, parts_of}
use Rattle.dm_ast.specs.Runs.{read_run}

unfoldable pub whole_type : Where → Parser TypeTree
whole_type w = read_type 129 Whole w

unfoldable pub whole_bound : Where → Parser BoundTree
whole_bound w = read_bound (read_type 129) (inner_path (read_type 129)) w

abbrev pub parts : Parts
parts = parts_of whole_type whole_bound read_run

-- the reader's outcome, unless memory fails
abbrev pub ReadsWhole : Result Declaration Refusal → Result DeriveInput Error → Type 0
ReadsWhole outcome (Ok d) = outcome ≡ Ok (declaration_view d)
ReadsWhole outcome (Err (error.Refused r)) = outcome ≡ Err r
ReadsWhole outcome (Err error.NoMemory) = Unit {0}
