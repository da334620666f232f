-- The grammar as a test that looks at no range, over tests of types, qualified paths, values of formats and heads.
use Rattle.std.specs.Prelude.{◌≡◌, ℕ, Bool, true, false, not, ◌&&◌, List, [], ◌∷◌, Option, Some, None, is_none, Decides}
use Rattle.dm_stream.specs.Trees.{Trees}
use Rattle.dm_stream.specs.declared.tokens.Ident.{Ident}
use Rattle.dm_lexer.specs.Written.{unplaced}
use Rattle.dm_ast.specs.Keywords.{is_name}
use Rattle.dm_ast.specs.TypeGrammar.{is_path_word}
use Rattle.dm_ast.specs.Tree.{TypeTree, MaybeSelf, no_self, some_self, PathTree, path_tree, segment, SegmentTrees, no_segments, segment_then, absent}
use Rattle.dm_output.specs.declared.expr.Member.{Member}
use Rattle.dm_output.specs.declared.expr.Member.TheVariants as m
use Rattle.dm_output.specs.Output.{FmtArgTree, FmtTree, PatternTree, wild, bind, str_pattern, path_pattern, tuple_pattern, named_pattern, pair_pattern, PatternTrees, no_patterns, pattern_then, NamedPatterns, no_named, named_then, ExprTree, return_expr, or_expr, and_expr, equal, unequal, ref_opaque, ref_expr, deref, member, method_call, map_expr, map_err, question, path_expr, call, build, build_named, paren, tuple, opaque_call, str_expr, bool, match_expr, unsafe_expr, write_expr, format_args, ExprTrees, no_exprs, expr_then, NamedExprs, no_named_exprs, named_expr_then, MaybeExpr, no_expr, some_expr, ArmTrees, no_arms, arm_then, ArmBodyTree, block_body, expr_body, StmtTree, let_stmt, check_stmt, import_stmt, do_stmt, const_stmt, StmtTrees, no_stmts, stmt_then, BlockTree, block, AssocTree, ParamOfMethod, MethodTree, ItemTree}
use Rattle.dm_type_eq.specs.Unplaced.{unplaced_path, unplaced_type}
use Rattle.dm_reread.specs.BareReading.{bare_head}
use Rattle.dm_reread.specs.Leaves.{LeafGrammar}
use Rattle.dm_reread.specs.Reading.{is_int, is_str, is_some_trees, alias_of}
use Rattle.dm_reread.specs.Grammar.{Level, at_or, at_and, at_cmp, at_pre, at_post, fits, is_group, is_some_segment, is_two, is_one, is_any, may_take, is_single, is_some_pattern}
use Rattle.dm_reread.specs.Items.{HeadTree, head_of}
use Rattle.dm_reread.specs.ItemGrammar.{ItemGrammar}

-- tests of types, qualified paths and values
pub record LeafTests : Type 0 where
  pub is_type : TypeTree → Bool
  pub is_qualified : MaybeSelf → PathTree → Bool
  pub is_run : Trees → Bool

-- and of what stands between `impl` and the brace
pub record ItemTests : Type 0 where
  pub parts : LeafTests
  pub is_head : HeadTree → Bool

-- the tests hold of just what is in the grammar
pub record LeafDecisions (g : LeafGrammar) (t : LeafTests) : Type 0 where
  pub type : (x : TypeTree) → Decides (t.is_type x) (g.IsType x)
  pub qualified : (x : TypeTree) (position : ℕ) (p : PathTree) →
      Decides (t.is_qualified (some_self x position) p) (g.IsQualified (some_self x position) p)
  pub run : (v : Trees) → Decides (t.is_run v) (g.IsRun v)

pub record ItemDecisions (g : ItemGrammar) (t : ItemTests) : Type 0 where
  pub parts : LeafDecisions g.parts t.parts
  pub head : (h : HeadTree) → Decides (t.is_head h) (g.IsHead h)

-- the tests look at no range
pub record NaturalTests (t : LeafTests) : Type 0 where
  pub type : (x : TypeTree) → t.is_type (unplaced_type x) ≡ t.is_type x
  pub qualified : (x : TypeTree) (position : ℕ) (p : PathTree) →
      t.is_qualified (some_self (unplaced_type x) position) (unplaced_path p) ≡ t.is_qualified (some_self x position) p
  pub run : (v : Trees) → t.is_run (unplaced v) ≡ t.is_run v

pub record NaturalItemTests (t : ItemTests) : Type 0 where
  pub parts : NaturalTests t.parts
  pub head : (h : HeadTree) → t.is_head (bare_head h) ≡ t.is_head h

-- ---- paths, members and formats

-- words without arguments
abbrev pub are_plain : SegmentTrees → Bool
are_plain no_segments = true
are_plain (segment_then (segment i absent) ss) = is_path_word i && are_plain ss
are_plain (segment_then (segment i gs) ss) = false

-- a path of words
abbrev pub is_plain_path : PathTree → Bool
is_plain_path (path_tree leading ss) = is_some_segment ss && are_plain ss

-- the same, or a qualified path
abbrev pub is_path : LeafTests → MaybeSelf → PathTree → Bool
is_path t no_self p = is_plain_path p
is_path t (some_self x position) p = t.is_qualified (some_self x position) p

-- a name or an integer
abbrev pub is_member : Member → Bool
is_member (m.Named i) = is_name i
is_member (m.Index l) = is_int l.kind

-- a value, with a name in front, or such that no name and `=` seem to stand there
abbrev pub is_fmt_arg : LeafTests → Option Ident → Trees → Bool
is_fmt_arg t None v = t.is_run v && is_none (alias_of v)
is_fmt_arg t (Some i) v = t.is_run v && is_name i

-- all arguments of a format
abbrev pub are_fmt_args : LeafTests → List FmtArgTree → Bool
are_fmt_args t [] = true
are_fmt_args t (a ∷ as') = is_fmt_arg t a.alias a.value && are_fmt_args t as'

-- a format
abbrev pub is_fmt : LeafTests → FmtTree → Bool
is_fmt t f = are_fmt_args t f.args

-- ---- patterns, row by row as `IsPattern`

abbrev mutual
  pub is_pattern : PatternTree → Bool
  is_pattern wild = true
  is_pattern (bind how i) = is_name i
  is_pattern (str_pattern l) = is_str l.kind
  is_pattern (path_pattern p) = is_plain_path p && not (is_single p)
  is_pattern (tuple_pattern p ps) = is_plain_path p && are_patterns ps
  is_pattern (named_pattern p ps rest) = is_plain_path p && are_named ps
  is_pattern (pair_pattern a c) = is_pattern a && is_pattern c

  pub are_patterns : PatternTrees → Bool
  are_patterns no_patterns = true
  are_patterns (pattern_then p ps) = is_pattern p && are_patterns ps

  pub are_named : NamedPatterns → Bool
  are_named no_named = true
  are_named (named_then i p ps) = is_name i && (is_pattern p && are_named ps)

-- ---- expressions and blocks

-- what a constant begins with
abbrev pub is_base : Option Trees → Bool
is_base None = true
is_base (Some o) = is_some_trees o

-- row by row as `IsExpr`
abbrev mutual
  pub is_expr : LeafTests → Bool → ExprTree → Bool
  is_expr t b (return_expr a) = is_expr t b a
  is_expr t b (or_expr es) = is_two es && each t at_and b es
  is_expr t b (and_expr es) = is_two es && each t at_cmp b es
  is_expr t b (equal a c) = (is_expr t b a && fits at_pre a) && (is_expr t b c && fits at_pre c)
  is_expr t b (unequal a c) = (is_expr t b a && fits at_pre a) && (is_expr t b c && fits at_pre c)
  is_expr t b (ref_opaque o) = is_some_trees o
  is_expr t b (ref_expr w a) = (is_expr t b a && fits at_pre a) && not (is_group a)
  is_expr t b (deref a) = is_expr t b a && fits at_pre a
  is_expr t b (member a x) = (is_expr t b a && fits at_post a) && is_member x
  is_expr t b (method_call a i es) = (is_expr t b a && fits at_post a) && ((is_name i && may_take i es) && each t at_or true es)
  is_expr t b (map_expr a e) = (is_expr t b a && fits at_post a) && is_expr t true e
  is_expr t b (map_err a o) = (is_expr t b a && fits at_post a) && is_some_trees o
  is_expr t b (question a) = is_expr t b a && fits at_post a
  is_expr t b (path_expr q p) = is_path t q p
  is_expr t b (call q p es) = is_path t q p && each t at_or true es
  is_expr t b (build q p es) = is_path t q p && (is_any es && each t at_or true es)
  is_expr t b (build_named q p es) = b && (is_path t q p && each_named t es)
  is_expr t b (paren a) = is_expr t true a
  is_expr t b (tuple es) = not (is_one es) && each t at_or true es
  is_expr t b (opaque_call o a) = is_some_trees o && is_expr t true a
  is_expr t b (str_expr l) = is_str l.kind
  is_expr t b (bool v) = true
  is_expr t b (match_expr a arms) = is_expr t false a && are_arms t arms
  is_expr t b (unsafe_expr a) = is_expr t true a
  is_expr t b (write_expr i f) = is_name i && is_fmt t f
  is_expr t b (format_args f) = is_fmt t f

  pub each : LeafTests → Level → Bool → ExprTrees → Bool
  each t l b no_exprs = true
  each t l b (expr_then e es) = (is_expr t b e && fits l e) && each t l b es

  pub each_named : LeafTests → NamedExprs → Bool
  each_named t no_named_exprs = true
  each_named t (named_expr_then i e es) = is_name i && (is_expr t true e && each_named t es)

  pub is_maybe : LeafTests → MaybeExpr → Bool
  is_maybe t no_expr = true
  is_maybe t (some_expr e) = is_expr t true e

  pub are_arms : LeafTests → ArmTrees → Bool
  are_arms t no_arms = true
  are_arms t (arm_then ps guard body more) =
      ((is_some_pattern ps && are_patterns ps) && (is_maybe t guard && is_body t body)) && are_arms t more

  pub is_body : LeafTests → ArmBodyTree → Bool
  is_body t (block_body d) = is_block t d
  is_body t (expr_body e) = is_expr t true e

  pub is_stmt : LeafTests → StmtTree → Bool
  is_stmt t (let_stmt i e) = is_name i && is_expr t true e
  is_stmt t (check_stmt x) = t.is_type x
  is_stmt t (import_stmt p) = is_plain_path p
  is_stmt t (do_stmt e) = is_expr t true e
  is_stmt t (const_stmt i x base l) = (is_name i && t.is_type x) && (is_base base && is_int l.kind)

  pub are_stmts : LeafTests → StmtTrees → Bool
  are_stmts t no_stmts = true
  are_stmts t (stmt_then s ss) = is_stmt t s && are_stmts t ss

  pub is_block : LeafTests → BlockTree → Bool
  is_block t (block ss e) = are_stmts t ss && is_maybe t e

-- ---- implementations

-- an associated type
abbrev pub is_assoc : LeafTests → AssocTree → Bool
is_assoc t a = is_name a.name && t.is_type a.ty

-- all of them
abbrev pub are_assocs : LeafTests → List AssocTree → Bool
are_assocs t [] = true
are_assocs t (a ∷ as') = is_assoc t a && are_assocs t as'

-- a parameter, where there is one
abbrev pub is_param : LeafTests → Option ParamOfMethod → Bool
is_param t None = true
is_param t (Some p) = is_name p.name && t.is_type p.ty

-- what a method gives, where it says so
abbrev pub is_output : LeafTests → Option TypeTree → Bool
is_output t None = true
is_output t (Some x) = t.is_type x

-- a method
abbrev pub is_method : LeafTests → MethodTree → Bool
is_method t x = (is_name x.name && is_param t x.param) && (is_output t x.output && is_block t x.body)

-- all methods
abbrev pub are_methods : LeafTests → List MethodTree → Bool
are_methods t [] = true
are_methods t (x ∷ xs) = is_method t x && are_methods t xs

-- an implementation
abbrev pub is_item : ItemTests → ItemTree → Bool
is_item t i = t.is_head (head_of i) && (are_assocs t.parts i.assocs && are_methods t.parts i.methods)

-- all implementations
abbrev pub are_items : ItemTests → List ItemTree → Bool
are_items t [] = true
are_items t (i ∷ is) = is_item t i && are_items t is
