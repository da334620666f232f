-- Qualified paths.
use Rattle.std.specs.Prelude.{◌≡◌, ℕ, map}
use Rattle.std.proofs.Common.{ap, ◌∙◌}
use Rattle.dm_stream.specs.declared.tokens.Span.{Span}
use Rattle.dm_ast.specs.declared.ty.Path.{Path}
use Rattle.dm_ast.specs.declared.ty.QSelf.{QSelf}
use Rattle.dm_ast.specs.declared.ty.Bound.TheViews.{out-Path}
use Rattle.dm_ast.specs.Tree.{TypeTree, path, PathTree, path_tree, some_self, ty_view, self_view, path_view, segment_view, segments_of}
use Rattle.dm_ast.specs.TypeTokens.{node_trees, type_trees, qualified_trees, each_segment}
use Rattle.dm_ast.proofs.View.{view-Path, view-QSelf}
use Rattle.dm_print_types.proofs.Laying.{print_steps}

pub qualified_tokens : (s : Span) (q : QSelf) (p : Path) →
    node_trees s (path (some_self (self_view q).0 (self_view q).1) (path_view p)) ≡
    qualified_trees s (type_trees (ty_view q.ty)) q.position (out-Path p).leading_colon (each_segment s (segments_of (map segment_view (out-Path p).segments)))
qualified_tokens s q p =
    ap (λ (r : PathTree). node_trees s (path (some_self (self_view q).0 (self_view q).1) r)) (view-Path p) ∙
    ap (λ (r : TypeTree × ℕ). node_trees s (path (some_self r.0 r.1) (path_tree (out-Path p).leading_colon (segments_of (map segment_view (out-Path p).segments))))) (view-QSelf q)

pub ruleset qualified_steps = (print_steps, qualified_tokens)
