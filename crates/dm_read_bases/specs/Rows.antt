-- Parts of the rows of paths, groups and others that functions of their own read.
use Rattle.std.specs.Prelude.{ℕ, Bool, true, false, Option, Some, None}
use Rattle.dm_stream.specs.declared.tokens.Literal.{Literal}
use Rattle.dm_stream.specs.Trees.{Trees}
use Rattle.dm_ast.specs.Tree.{MaybeSelf, no_self, PathTree}
use Rattle.dm_output.specs.Output.{ExprTree, opaque_call, paren, tuple, path_expr, build_named, str_expr, ExprTrees, no_exprs, expr_then}
use Rattle.dm_reread.specs.Next.{Next, less, literal, in_parens, in_braces, next}
use Rattle.dm_reread.specs.Leaves.{Answer}
use Rattle.dm_reread.specs.Reading.{then, provided, whole, is_str, is_some_trees, called, read_args, after_path, path_base, qualified_base}
use Rattle.dm_read_places.specs.Turns.{rows}

-- a string
abbrev pub text : Literal → Option ExprTree
text l = provided (is_str l.kind) (Some (str_expr l))

-- a path, or braces with fields behind it
abbrev pub braced_path : ℕ → MaybeSelf → PathTree → Trees → Next → Answer ExprTree
braced_path n q p ts (in_braces inside us) = then ((rows n).named_exprs inside) (λ s. Some (build_named q p s, us))
braced_path n q p ts _ = Some (path_expr q p, ts)

-- a path, or what it is called with
abbrev pub behind_path : ℕ → Bool → MaybeSelf → PathTree → Trees → Next → Answer ExprTree
behind_path n b q p ts (in_parens inside us) = then (read_args (rows n) false inside) (λ a. Some (called q p a.0 a.1, us))
behind_path n true q p ts m = braced_path n q p ts m
behind_path n false q p ts m = Some (path_expr q p, ts)

-- what begins with a path
abbrev pub with_path : ℕ → Bool → PathTree → Trees → Answer ExprTree
with_path n b p ts = after_path (rows n) b no_self p ts (next ts)

-- parts by their number: one without a comma is in parentheses
abbrev pub tuple_only : Bool → ExprTrees → Option ExprTree
tuple_only last no_exprs = Some (tuple no_exprs)
tuple_only false (expr_then e no_exprs) = Some (paren e)
tuple_only false es = Some (tuple es)
tuple_only true es = None

abbrev pub parts : ℕ → Trees → Option ExprTree
parts n ts = then (read_args (rows n) false ts) (λ a. tuple_only a.1 a.0)

-- a group that isn't read, and an argument
abbrev pub opaque_called : ℕ → Trees → Trees → Option ExprTree
opaque_called n inside second = provided (is_some_trees inside) (then (whole ((rows n).expr true second)) (λ a. Some (opaque_call inside a)))

-- a string, or what begins with a path
abbrev pub leaf : ℕ → Bool → Trees → Next → Answer ExprTree
leaf n b ts (literal l us) = then (text l) (λ e. Some (e, us))
leaf n b ts (less us) = qualified_base (rows n) b ts
leaf n b ts m = path_base (rows n) b m
