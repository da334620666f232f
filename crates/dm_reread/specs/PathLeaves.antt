-- The reader of a qualified path where an expression stands, `<T as A>::b`: it is cut out of the trees and read as a type, so that what
-- stands in parentheses behind it are the arguments of a call. And which paths it reads back.
use Rattle.std.specs.Prelude.{◌≡◌, ◌&&◌, nat_eq, cond, Option, Some, None}
use Rattle.dm_stream.specs.Layout.{nowhere}
use Rattle.dm_stream.specs.declared.tokens.Token.TheVariants as t
use Rattle.dm_stream.specs.Trees.{Trees, no_trees, token}
use Rattle.dm_stream.specs.Sizes.{size}
use Rattle.dm_ast.specs.Spelling.{is_joint}
use Rattle.dm_ast.specs.Tree.{TypeTree, type_tree, path, MaybeSelf, some_self, PathTree}
use Rattle.dm_output.specs.Tokens.{path_expr_trees}
use Rattle.dm_expr.specs.Cuts.{Front, after, and_then, pair_at, split_at}
use Rattle.dm_reread.specs.Leaves.{Answer}
use Rattle.dm_reread.specs.Reading.{then, whole}
use Rattle.dm_reread.specs.TypeLeaves.{read_type, IsType}

-- `::` and a name, as often as that stands there
abbrev pub names_at : Trees → Front
names_at (token (t.Punct a) (token (t.Punct b) (token (t.Ident i) ts))) =
    cond ((nat_eq a.ch 58 && is_joint a.spacing) && nat_eq b.ch 58) (after 3 (names_at ts))
    (Some (0, token (t.Punct a) (token (t.Punct b) (token (t.Ident i) ts))))
names_at ts = Some (0, ts)

-- `<..>` and the names behind it
abbrev pub path_at : Trees → Front
path_at ts = and_then (pair_at 60 62 ts) names_at

-- the qualified path that a type is
abbrev pub qualified_in : TypeTree → Option (MaybeSelf × PathTree)
qualified_in (type_tree (path (some_self t n) p) range) = Some (some_self t n, p)
qualified_in _ = None

-- the path in front, and the trees behind it
abbrev pub read_qualified : Trees → Answer (MaybeSelf × PathTree)
read_qualified ts = then (split_at (path_at ts) ts) (λ c. then (whole (read_type c.0)) (λ x. then (qualified_in x) (λ q. Some (q, c.1))))

-- a type, in which nothing but names stands behind the `>` that first closes the `<` in front
pub record IsQualified (q : MaybeSelf) (p : PathTree) : Type 0 where
  pub type : IsType (type_tree (path q p) nowhere)
  pub front : path_at (path_expr_trees q p) ≡ Some (size (path_expr_trees q p), no_trees)
