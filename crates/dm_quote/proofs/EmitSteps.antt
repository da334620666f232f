-- Steps of the functions that write tokens.
use Rattle.std.proofs.Common.{◌≡◌, ℕ, ◌-◌, map, Option, Some, ap, ◌∙◌}
use Rattle.std.specs.declared.boxed.Box.{Box}
use Rattle.std.specs.declared.alloc.Global.{Global}
use Rattle.dm_stream.specs.declared.seq.Punctuated.{Punctuated}
use Rattle.dm_stream.specs.declared.tokens.Span.{Span}
use Rattle.dm_stream.specs.declared.tokens.Ident.{Ident}
use Rattle.dm_stream.specs.Trees.{join, join-no_trees, join_assoc}
use Rattle.dm_ast.specs.declared.ty.Bound.{Bound}
use Rattle.dm_ast.specs.declared.ty.GenericArgument.{GenericArgument}
use Rattle.dm_ast.specs.declared.ty.GenericArgument.TheVariants as g
use Rattle.dm_ast.specs.declared.ty.TyNode.TheVariants as n
use Rattle.dm_ast.specs.declared.ty.Path.{Path}
use Rattle.dm_ast.specs.declared.ty.QSelf.{QSelf}
use Rattle.dm_ast.specs.declared.ty.Bound.TheViews.{out-Path}
use Rattle.dm_ast.specs.Tree.{TypeTree, some_self, path, bounds_of, segments_of, maybe_arguments_view, bound_view, argument_view, node_view, ty_view, segment_view, path_view}
use Rattle.dm_ast.specs.TypeTokens.{punct, name, listed, node_trees, type_trees, behind_self_trees, each_segment, each_bound, argument_trees, maybe_angle_trees}
use Rattle.dm_ast.proofs.Split.{take_more, take_none, drop_more, drop_none, drop_later}
use Rattle.dm_ast.proofs.View.{view_steps, view_TyNode-Path, view_GenericArgument-Constraint, view-QSelf, view-Path}

-- the tokens of a qualified path
pub qualified_tokens : (s : Span) (b : Box QSelf Global) (p : Path) →
    node_trees s (node_view (n.Path (Some b) p)) ≡
    join (punct 60 s) (join (type_trees (ty_view b.value.ty)) (behind_self_trees s b.value.position (out-Path p).leading_colon (each_segment s (segments_of (map segment_view (out-Path p).segments)))))
qualified_tokens s b p =
    ap (node_trees s) (view_TyNode-Path (Some b) p) ∙ ap (λ (q : TypeTree × ℕ). node_trees s (path (some_self q.0 q.1) (path_view p))) (view-QSelf b.value) ∙
    ap (λ q. node_trees s (path (some_self (ty_view b.value.ty) b.value.position) q)) (view-Path p)

pub constraint_tokens : (s : Span) (i : Ident) (gs : Option (Punctuated GenericArgument)) (bs : Punctuated Bound) →
    argument_trees s (argument_view (g.Constraint i gs bs)) ≡
    join (name i) (join (maybe_angle_trees s (maybe_arguments_view gs)) (join (punct 58 s) (listed 43 s (each_bound s (bounds_of (map bound_view bs.items))) bs.trailing)))
constraint_tokens s i gs bs = ap (argument_trees s) (view_GenericArgument-Constraint i gs bs)

pub ruleset emit_steps = (view_steps, join-no_trees, join_assoc, take_more, take_none, drop_more, drop_none, drop_later, qualified_tokens, constraint_tokens)
