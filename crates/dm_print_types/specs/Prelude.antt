-- The names that most contracts of printers cite, passed on from one place. Declares nothing.
pub use Rattle.dm_ast.specs.Declarations.{declaration_view, param_view, predicate_view}
pub use Rattle.dm_ast.specs.Tree.{bound_view, path_view, ty_view}
pub use Rattle.dm_ast.specs.TypeTokens.{path_trees, type_trees}
pub use Rattle.dm_stream.specs.Layout.{nowhere}
pub use Rattle.dm_print_types.specs.Laying.{lay}
