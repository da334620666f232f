-- The names that most contracts of readers of types and declarations cite, passed on from one place. Declares nothing.
pub use Rattle.dm_ast.specs.Spelling.{deepest}
pub use Rattle.dm_ast.specs.Tree.{argument_view, arguments_view, bound_view, node_view, path_view, segment_view, ty_view}
pub use Rattle.dm_input.specs.Inputs.{Reads}
pub use Rattle.dm_read_paths.specs.Nests.{Nests}
pub use Rattle.dm_read_paths.specs.TypeReaders.{read_type}
