-- What the reader takes from others: types, qualified paths, and the values of a format's arguments.
use Rattle.std.specs.Prelude.{◌≡◌, ℕ, Bool, true, false, Option, Some, T}
use Rattle.dm_stream.specs.Trees.{Trees, join}
use Rattle.dm_ast.specs.Tree.{TypeTree, PathTree, MaybeSelf, some_self}
use Rattle.dm_ast.specs.TypeTokens.{type_trees}
use Rattle.dm_output.specs.Tokens.{path_expr_trees}
use Rattle.dm_reread.specs.Next.{Next, ended, oror, andand, equals, differs, dot, asks, comma, semicolon, assigns, leads, in_parens, in_braces, next}

-- what is read, and the trees that are left
abbrev pub Answer : Type 0 → Type 0
Answer A = Option (A × Trees)

pub record Leaves : Type 0 where
  pub type : Trees → Answer TypeTree
  pub qualified : Trees → Answer (MaybeSelf × PathTree)
  pub run : Trees → Option (Trees × Trees)

-- which types, qualified paths and values are in the grammar
pub record LeafGrammar : Type 1 where
  pub IsType : TypeTree → Type 0
  pub IsQualified : MaybeSelf → PathTree → Type 0
  pub IsRun : Trees → Type 0

-- ---- what may stand behind each

abbrev pub ends_type : Next → Bool
ends_type ended = true
ends_type (comma ts) = true
ends_type (semicolon ts) = true
ends_type (assigns ts) = true
ends_type (in_braces i ts) = true
ends_type _ = false

-- behind a qualified path the expression goes on, or ends
abbrev pub ends_qualified : Next → Bool
ends_qualified ended = true
ends_qualified (comma ts) = true
ends_qualified (semicolon ts) = true
ends_qualified (leads ts) = true
ends_qualified (in_parens i ts) = true
ends_qualified (in_braces i ts) = true
ends_qualified (oror ts) = true
ends_qualified (andand ts) = true
ends_qualified (equals ts) = true
ends_qualified (differs ts) = true
ends_qualified (dot ts) = true
ends_qualified (asks ts) = true
ends_qualified _ = false

abbrev pub ends_run : Next → Bool
ends_run ended = true
ends_run (comma ts) = true
ends_run _ = false

-- the leaves read what is in the grammar as just that, and leave the rest
pub record LeafLaws (g : LeafGrammar) (l : Leaves) : Type 0 where
  pub type : (t : TypeTree) (rest : Trees) → g.IsType t → T (ends_type (next rest)) → l.type (join (type_trees t) rest) ≡ Some (t, rest)
  pub qualified : (t : TypeTree) (position : ℕ) (p : PathTree) (rest : Trees) → g.IsQualified (some_self t position) p →
      T (ends_qualified (next rest)) →
      l.qualified (join (path_expr_trees (some_self t position) p) rest) ≡ Some ((some_self t position, p), rest)
  pub run : (v rest : Trees) → g.IsRun v → T (ends_run (next rest)) → l.run (join v rest) ≡ Some (v, rest)
