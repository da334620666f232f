-- The views of nodes that a function builds at once.
use Rattle.std.proofs.Common.{◌≡◌, ℕ, map, Some, None, ap, ◌∙◌}
use Rattle.std.proofs.lemmas.Grind.{common_steps}
use Rattle.std.specs.declared.boxed.Box.{Box}
use Rattle.std.specs.declared.alloc.Global.{Global}
use Rattle.dm_stream.specs.declared.seq.Punctuated.{Punctuated}
use Rattle.dm_ast.specs.declared.ty.PathArguments.TheVariants as a
use Rattle.dm_ast.specs.declared.ty.TyNode.TheVariants as n
use Rattle.dm_ast.specs.declared.ty.Path.{Path}
use Rattle.dm_ast.specs.declared.ty.QSelf.{QSelf}
use Rattle.dm_ast.specs.declared.ty.Ty.{Ty}
use Rattle.dm_ast.specs.Tree.{TypeTree, path, some_self, parens, no_type, some_type, types_of, node_view, path_view, self_view, ty_view, arguments_view, PathTree}
use Rattle.dm_ast.proofs.View.{view_TyNode-Path, view_PathArguments-Paren, view-QSelf}

pub built_parens : (ts : Punctuated Ty) → arguments_view (a.Paren ts None) ≡ parens (types_of (map ty_view ts.items)) ts.trailing no_type
built_parens ts = view_PathArguments-Paren ts None

pub built_parens_with : (ts : Punctuated Ty) (b : Box Ty Global) (t : Ty) → b.value ≡ t →
    arguments_view (a.Paren ts (Some b)) ≡ parens (types_of (map ty_view ts.items)) ts.trailing (some_type (ty_view t))
built_parens_with ts b t e =
    view_PathArguments-Paren ts (Some b) ∙ ap (λ u. parens (types_of (map ty_view ts.items)) ts.trailing (some_type (ty_view u))) e

pub built_qualified : (b : Box QSelf Global) (q : QSelf) (p : Path) (t : PathTree) → b.value ≡ q → path_view p ≡ t →
    node_view (n.Path (Some b) p) ≡ path (some_self (ty_view q.ty) q.position) t
built_qualified b q p t e h =
    view_TyNode-Path (Some b) p ∙ ap (λ (x : TypeTree × ℕ). path (some_self x.0 x.1) (path_view p)) (ap self_view e ∙ view-QSelf q) ∙
    ap (λ y. path (some_self (ty_view q.ty) q.position) y) h

pub ruleset built_steps = (common_steps, built_parens, built_parens_with, built_qualified)
