-- The names that most contracts of readers of emitted code cite, passed on from one place. Declares nothing.
pub use Rattle.dm_ast.specs.Tree.{path_view, segment_view, ty_view}
pub use Rattle.dm_output.specs.Views.{arm_view, assoc_view, block_view, body_view, expr_view, fmt_arg_view, fmt_view, item_view, method_view, named_expr_view, named_view, opaque_view, pattern_view, stmt_view}
pub use Rattle.dm_reread.specs.Next.{next}
pub use Rattle.dm_read_places.specs.Reads.{Passes, Reads, ReadsWhole}
pub use Rattle.dm_read_places.specs.Turns.{rows}
