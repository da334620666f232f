-- The trees of the grammar, and what may stand behind them. Each condition keeps apart trees that would have the same tokens, or tokens
-- that would be read as something else.
use Rattle.std.specs.Prelude.{◌≡◌, Bool, true, false, not, ◌&&◌, T, IsTrue, List, [], ◌∷◌, Option, Some, None}
use Rattle.dm_stream.specs.Trees.{Trees}
use Rattle.dm_stream.specs.declared.tokens.Ident.{Ident}
use Rattle.dm_stream.specs.declared.tokens.LitKind.TheVariants.{Int, Str}
use Rattle.dm_ast.specs.Keywords.{is_name}
use Rattle.dm_ast.specs.TypeGrammar.{is_path_word}
use Rattle.dm_ast.specs.Tree.{MaybeSelf, no_self, some_self, PathTree, path_tree, segment, SegmentTrees, no_segments, segment_then, absent}
use Rattle.dm_output.specs.declared.expr.Member.{Member}
use Rattle.dm_output.specs.declared.expr.Member.TheVariants as m
use Rattle.dm_output.specs.Output.{FmtArgTree, FmtTree, PatternTree, wild, bind, str_pattern, path_pattern, tuple_pattern, named_pattern, pair_pattern, PatternTrees, no_patterns, pattern_then, NamedPatterns, no_named, named_then, ExprTree, return_expr, or_expr, and_expr, equal, unequal, ref_opaque, ref_expr, deref, member, method_call, map_expr, map_err, question, path_expr, call, build, build_named, paren, tuple, opaque_call, str_expr, bool, match_expr, unsafe_expr, write_expr, format_args, ExprTrees, no_exprs, expr_then, NamedExprs, no_named_exprs, named_expr_then, MaybeExpr, no_expr, some_expr, ArmTrees, no_arms, arm_then, ArmBodyTree, block_body, expr_body, StmtTree, let_stmt, check_stmt, import_stmt, do_stmt, const_stmt, StmtTrees, no_stmts, stmt_then, BlockTree, block}
use Rattle.dm_reread.specs.Next.{k_if, k_let, k_use, k_const, Next, ended, oror, andand, equals, differs, dot, asks, bar, comma, semicolon, leads, in_braces, a_word}
use Rattle.dm_reread.specs.Leaves.{LeafGrammar}
use Rattle.dm_reread.specs.Reading.{is_some_trees, is_map_err, alias_of}

-- the rows whose operands may stand at a place: what is left to read behind one is that of the rows above
pub data Level : Type 0 where
  at_or : Level
  at_and : Level
  at_cmp : Level
  at_pre : Level
  at_post : Level

-- whether what comes next continues no expression of this row; `b` says whether a brace continues a path
abbrev pub stops : Level → Bool → Next → Bool
stops l b ended = true
stops l b (comma ts) = true
stops l b (semicolon ts) = true
stops l b (leads ts) = true
stops l b (in_braces i ts) = not b
stops at_or b (oror ts) = false
stops l b (oror ts) = true
stops at_cmp b (andand ts) = true
stops at_pre b (andand ts) = true
stops at_pre b (equals ts) = true
stops at_pre b (differs ts) = true
stops at_post b (andand ts) = true
stops at_post b (equals ts) = true
stops at_post b (differs ts) = true
stops at_post b (dot ts) = true
stops at_post b (asks ts) = true
stops l b _ = false

abbrev pub Stops : Level → Bool → Next → Type 0
Stops l b n = T (stops l b n)

-- whether an expression is of this row or one below: `*` before `==`, `==` before `&&`, `&&` before `||`, and `.` before `*`, with no
-- parentheses; `return` takes all that follows
abbrev pub fits : Level → ExprTree → Bool
fits at_or e = true
fits at_and (or_expr es) = false
fits at_and (return_expr a) = false
fits at_and e = true
fits at_cmp (or_expr es) = false
fits at_cmp (and_expr es) = false
fits at_cmp (return_expr a) = false
fits at_cmp e = true
fits at_pre (or_expr es) = false
fits at_pre (and_expr es) = false
fits at_pre (equal a c) = false
fits at_pre (unequal a c) = false
fits at_pre (return_expr a) = false
fits at_pre e = true
fits at_post (or_expr es) = false
fits at_post (and_expr es) = false
fits at_post (equal a c) = false
fits at_post (unequal a c) = false
fits at_post (return_expr a) = false
fits at_post (deref a) = false
fits at_post (ref_opaque o) = false
fits at_post (ref_expr w a) = false
fits at_post e = true

abbrev pub Fits : Level → ExprTree → Type 0
Fits l e = T (fits l e)

-- the operand of `&` is no group: that is `&` and what is not read
abbrev pub is_group : ExprTree → Bool
is_group (paren a) = true
is_group (tuple es) = true
is_group _ = false

-- ---- names and paths

-- a name: `self.true` or a binding `_` would be read as keywords
abbrev pub IsName : Ident → Type 0
IsName i = IsTrue (is_name i)

abbrev pub ArePlain : SegmentTrees → Type 0
ArePlain no_segments = Unit {0}
ArePlain (segment_then (segment i absent) ss) = IsTrue (is_path_word i) × ArePlain ss
ArePlain (segment_then (segment i g) ss) = ⊥

abbrev pub is_some_segment : SegmentTrees → Bool
is_some_segment no_segments = false
is_some_segment (segment_then s ss) = true

-- a path of words, without arguments: `true` is no path
abbrev pub IsPlainPath : PathTree → Type 0
IsPlainPath (path_tree leading ss) = T (is_some_segment ss) × ArePlain ss

abbrev pub IsPath : LeafGrammar → MaybeSelf → PathTree → Type 0
IsPath g no_self p = IsPlainPath p
IsPath g (some_self t position) p = g.IsQualified (some_self t position) p

-- ---- lists

-- a chain has two parts or more: one alone would be that part
abbrev pub is_two : ExprTrees → Bool
is_two (expr_then e (expr_then e' es)) = true
is_two _ = false

-- a tuple does not have one part: that would be parentheses
abbrev pub is_one : ExprTrees → Bool
is_one (expr_then e no_exprs) = true
is_one _ = false

-- a constructor has an argument: without any it would be a call
abbrev pub is_any : ExprTrees → Bool
is_any no_exprs = false
is_any _ = true

-- what no expression begins with
abbrev pub no_start : Next → Bool
no_start ended = true
no_start (in_braces i ts) = true
no_start (bar ts) = true
no_start (a_word k_let ts) = true
no_start (a_word k_use ts) = true
no_start (a_word k_const ts) = true
no_start _ = false

-- ---- what is not read

-- between parentheses stands something: `()` would be a tuple, or no argument
abbrev pub IsOpaque : Trees → Type 0
IsOpaque o = T (is_some_trees o)

-- ---- members and methods

-- behind `.` stands a name or an integer
abbrev pub IsMember : Member → Type 0
IsMember (m.Named i) = IsName i
IsMember (m.Index l) = l.kind ≡ Int

-- a method named `map_err` has no argument: with one it takes what is not read
abbrev pub may_take : Ident → ExprTrees → Bool
may_take i es = not (is_map_err i && is_any es)

-- ---- formats

-- without a name an argument does not begin with a name and `=`
abbrev pub IsFmtArg : LeafGrammar → Option Ident → Trees → Type 0
IsFmtArg g None v = g.IsRun v × (alias_of v ≡ None)
IsFmtArg g (Some i) v = g.IsRun v × IsName i

abbrev pub AreFmtArgs : LeafGrammar → List FmtArgTree → Type 0
AreFmtArgs g [] = Unit {0}
AreFmtArgs g (a ∷ as') = IsFmtArg g a.alias a.value × AreFmtArgs g as'

abbrev pub IsFmt : LeafGrammar → FmtTree → Type 0
IsFmt g f = AreFmtArgs g f.args

-- ---- patterns

abbrev pub ends_pattern : Next → Bool
ends_pattern ended = true
ends_pattern (comma ts) = true
ends_pattern (bar ts) = true
ends_pattern (leads ts) = true
ends_pattern (a_word k_if ts) = true
ends_pattern _ = false

abbrev pub EndsPattern : Next → Type 0
EndsPattern n = T (ends_pattern n)

-- a single name binds, and is no path
abbrev pub is_single : PathTree → Bool
is_single (path_tree false (segment_then (segment i absent) no_segments)) = is_name i
is_single _ = false

abbrev pub is_some_pattern : PatternTrees → Bool
is_some_pattern no_patterns = false
is_some_pattern _ = true

abbrev mutual
  pub IsPattern : PatternTree → Type 0
  IsPattern wild = Unit {0}
  IsPattern (bind how i) = IsName i
  IsPattern (str_pattern l) = l.kind ≡ Str
  IsPattern (path_pattern p) = IsPlainPath p × (is_single p ≡ false)
  IsPattern (tuple_pattern p ps) = IsPlainPath p × ArePatterns ps
  IsPattern (named_pattern p ps rest) = IsPlainPath p × AreNamedPatterns ps
  IsPattern (pair_pattern a c) = IsPattern a × IsPattern c

  pub ArePatterns : PatternTrees → Type 0
  ArePatterns no_patterns = Unit {0}
  ArePatterns (pattern_then p ps) = IsPattern p × ArePatterns ps

  pub AreNamedPatterns : NamedPatterns → Type 0
  AreNamedPatterns no_named = Unit {0}
  AreNamedPatterns (named_then i p ps) = IsName i × (IsPattern p × AreNamedPatterns ps)

-- ---- expressions and blocks

-- a constant begins with what is not read, or with 0
abbrev pub IsBase : Option Trees → Type 0
IsBase None = Unit {0}
IsBase (Some o) = IsOpaque o

-- In a scrutinee, where `b` is false, no path with braces stands outside of groups: the braces would be the arms. A literal alone is a
-- string: numbers stand behind `.` and in constants.
abbrev mutual
  pub IsExpr : LeafGrammar → Bool → ExprTree → Type 0
  IsExpr g b (return_expr a) = IsExpr g b a
  IsExpr g b (or_expr es) = T (is_two es) × Each g at_and b es
  IsExpr g b (and_expr es) = T (is_two es) × Each g at_cmp b es
  IsExpr g b (equal a c) = (IsExpr g b a × Fits at_pre a) × (IsExpr g b c × Fits at_pre c)
  IsExpr g b (unequal a c) = (IsExpr g b a × Fits at_pre a) × (IsExpr g b c × Fits at_pre c)
  IsExpr g b (ref_opaque o) = IsOpaque o
  IsExpr g b (ref_expr w a) = (IsExpr g b a × Fits at_pre a) × T (not (is_group a))
  IsExpr g b (deref a) = IsExpr g b a × Fits at_pre a
  IsExpr g b (member a x) = (IsExpr g b a × Fits at_post a) × IsMember x
  IsExpr g b (method_call a i es) = (IsExpr g b a × Fits at_post a) × ((IsName i × T (may_take i es)) × Each g at_or true es)
  IsExpr g b (map_expr a e) = (IsExpr g b a × Fits at_post a) × IsExpr g true e
  IsExpr g b (map_err a o) = (IsExpr g b a × Fits at_post a) × IsOpaque o
  IsExpr g b (question a) = IsExpr g b a × Fits at_post a
  IsExpr g b (path_expr q p) = IsPath g q p
  IsExpr g b (call q p es) = IsPath g q p × Each g at_or true es
  IsExpr g b (build q p es) = IsPath g q p × (T (is_any es) × Each g at_or true es)
  IsExpr g b (build_named q p es) = T b × (IsPath g q p × EachNamed g es)
  IsExpr g b (paren a) = IsExpr g true a
  IsExpr g b (tuple es) = T (not (is_one es)) × Each g at_or true es
  IsExpr g b (opaque_call o a) = IsOpaque o × IsExpr g true a
  IsExpr g b (str_expr l) = l.kind ≡ Str
  IsExpr g b (bool v) = Unit {0}
  IsExpr g b (match_expr a arms) = IsExpr g false a × AreArms g arms
  IsExpr g b (unsafe_expr a) = IsExpr g true a
  IsExpr g b (write_expr i f) = IsName i × IsFmt g f
  IsExpr g b (format_args f) = IsFmt g f

  pub Each : LeafGrammar → Level → Bool → ExprTrees → Type 0
  Each g l b no_exprs = Unit {0}
  Each g l b (expr_then e es) = (IsExpr g b e × Fits l e) × Each g l b es

  pub EachNamed : LeafGrammar → NamedExprs → Type 0
  EachNamed g no_named_exprs = Unit {0}
  EachNamed g (named_expr_then i e es) = IsName i × (IsExpr g true e × EachNamed g es)

  pub IsMaybe : LeafGrammar → MaybeExpr → Type 0
  IsMaybe g no_expr = Unit {0}
  IsMaybe g (some_expr e) = IsExpr g true e

  pub AreArms : LeafGrammar → ArmTrees → Type 0
  AreArms g no_arms = Unit {0}
  AreArms g (arm_then ps guard body more) =
      ((T (is_some_pattern ps) × ArePatterns ps) × (IsMaybe g guard × IsBody g body)) × AreArms g more

  pub IsBody : LeafGrammar → ArmBodyTree → Type 0
  IsBody g (block_body d) = IsBlock g d
  IsBody g (expr_body e) = IsExpr g true e

  pub IsStmt : LeafGrammar → StmtTree → Type 0
  IsStmt g (let_stmt i e) = IsName i × IsExpr g true e
  IsStmt g (check_stmt t) = g.IsType t
  IsStmt g (import_stmt p) = IsPlainPath p
  IsStmt g (do_stmt e) = IsExpr g true e
  IsStmt g (const_stmt i t base l) = (IsName i × g.IsType t) × (IsBase base × (l.kind ≡ Int))

  pub AreStmts : LeafGrammar → StmtTrees → Type 0
  AreStmts g no_stmts = Unit {0}
  AreStmts g (stmt_then s ss) = IsStmt g s × AreStmts g ss

  pub IsBlock : LeafGrammar → BlockTree → Type 0
  IsBlock g (block ss e) = AreStmts g ss × IsMaybe g e
