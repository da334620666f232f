-- Parts of the rows of types and qualified paths that functions of their own read.
use Rattle.std.specs.Prelude.{nat_eq, ◌&&◌, Bool, Some}
use Rattle.dm_stream.specs.declared.tokens.Punct.{Punct}
use Rattle.dm_stream.specs.Trees.{Trees}
use Rattle.dm_stream.specs.Layout.{nowhere}
use Rattle.dm_expr.specs.Cuts.{split_at}
use Rattle.dm_ast.specs.Spelling.{is_joint}
use Rattle.dm_ast.specs.Tree.{TypeTree, type_tree, MaybeSelf, maybe_self_view, PathTree, path_view}
use Rattle.dm_ast.specs.TypeTokens.{type_trees}
use Rattle.dm_output.specs.declared.expr.PathExpr.{PathExpr}
use Rattle.dm_reread.specs.Leaves.{Answer}
use Rattle.dm_reread.specs.Reading.{then, whole}
use Rattle.dm_reread.specs.TypeLeaves.{read_type}
use Rattle.dm_reread.specs.PathLeaves.{path_at}
use Rattle.dm_reread.specs.ExactLeaves.{exactly}

-- whether two puncts are `::`
abbrev pub is_separated : Punct → Punct → Bool
is_separated p q = (nat_eq p.ch 58 && is_joint p.spacing) && nat_eq q.ch 58

abbrev pub path_expr_view : PathExpr → MaybeSelf × PathTree
path_expr_view p = (maybe_self_view p.qself, path_view p.path)

-- a type with no range of its own
abbrev pub unranged_type : TypeTree → TypeTree
unranged_type (type_tree n range) = type_tree n nowhere

-- the type that is cut out of the trees in front
abbrev pub cut_type : Trees → Answer TypeTree
cut_type ts = then (split_at (path_at ts) ts) (λ c. then (whole (read_type c.0)) (λ x. Some (unranged_type x, c.1)))

abbrev pub exact_cut : Trees → Answer TypeTree
exact_cut ts = exactly type_trees ts (cut_type ts)
