-- The fuel that a tree wants.
use Rattle.std.specs.Prelude.{ℕ, suc, ◌+◌, List, [], ◌∷◌}
use Rattle.dm_ast.specs.Tree.{MaybeSelf, no_self, some_self, PathTree, path_tree, SegmentTrees, no_segments, segment_then}
use Rattle.dm_output.specs.Output.{FmtArgTree, PatternTree, wild, bind, str_pattern, path_pattern, tuple_pattern, named_pattern, pair_pattern, PatternTrees, no_patterns, pattern_then, NamedPatterns, no_named, named_then, ExprTree, return_expr, or_expr, and_expr, equal, unequal, ref_opaque, ref_expr, deref, member, method_call, map_expr, map_err, question, path_expr, call, build, build_named, paren, tuple, opaque_call, str_expr, bool, match_expr, unsafe_expr, write_expr, format_args, ExprTrees, no_exprs, expr_then, NamedExprs, no_named_exprs, named_expr_then, MaybeExpr, no_expr, some_expr, ArmTrees, no_arms, arm_then, ArmBodyTree, block_body, expr_body, StmtTree, let_stmt, check_stmt, import_stmt, do_stmt, const_stmt, StmtTrees, no_stmts, stmt_then, BlockTree, block}

abbrev pub segments_need : SegmentTrees → ℕ
segments_need no_segments = 1
segments_need (segment_then s ss) = suc (segments_need ss)

abbrev pub path_need : PathTree → ℕ
path_need (path_tree leading ss) = segments_need ss

abbrev pub any_path_need : MaybeSelf → PathTree → ℕ
any_path_need no_self p = path_need p
any_path_need (some_self t position) p = 0

abbrev pub fmt_args_need : List FmtArgTree → ℕ
fmt_args_need [] = 1
fmt_args_need (a ∷ as') = suc (fmt_args_need as')

abbrev mutual
  pub pattern_need : PatternTree → ℕ
  pattern_need wild = 1
  pattern_need (bind how i) = 2
  pattern_need (str_pattern l) = 1
  pattern_need (path_pattern p) = suc (path_need p)
  pattern_need (tuple_pattern p ps) = suc (path_need p + patterns_need ps)
  pattern_need (named_pattern p ps rest) = suc (path_need p + named_patterns_need ps)
  pattern_need (pair_pattern a c) = suc (pattern_need a + pattern_need c)

  pub patterns_need : PatternTrees → ℕ
  patterns_need no_patterns = 1
  patterns_need (pattern_then p ps) = suc (pattern_need p + patterns_need ps)

  pub named_patterns_need : NamedPatterns → ℕ
  named_patterns_need no_named = 1
  named_patterns_need (named_then i p ps) = suc (pattern_need p + named_patterns_need ps)

abbrev mutual
  pub need : ExprTree → ℕ
  need (return_expr a) = suc (need a)
  need (or_expr es) = suc (needs es)
  need (and_expr es) = suc (needs es)
  need (equal a c) = suc (need a + need c)
  need (unequal a c) = suc (need a + need c)
  need (ref_opaque o) = 1
  need (ref_expr w a) = suc (need a)
  need (deref a) = suc (need a)
  need (member a x) = suc (suc (need a))
  need (method_call a i es) = suc (suc (need a + needs es))
  need (map_expr a e) = suc (suc (need a + need e))
  need (map_err a o) = suc (suc (need a))
  need (question a) = suc (suc (need a))
  need (path_expr q p) = suc (suc (any_path_need q p))
  need (call q p es) = suc (suc (any_path_need q p + needs es))
  need (build q p es) = suc (suc (any_path_need q p + needs es))
  need (build_named q p es) = suc (suc (any_path_need q p + named_need es))
  need (paren a) = suc (suc (suc (need a)))
  need (tuple es) = suc (suc (needs es))
  need (opaque_call o a) = suc (suc (need a))
  need (str_expr l) = 2
  need (bool v) = 2
  need (match_expr a arms) = suc (suc (need a + arms_need arms))
  need (unsafe_expr a) = suc (suc (need a))
  need (write_expr i f) = 6 + fmt_args_need f.args
  need (format_args f) = 6 + fmt_args_need f.args

  pub needs : ExprTrees → ℕ
  needs no_exprs = 1
  needs (expr_then e es) = suc (need e + needs es)

  pub named_need : NamedExprs → ℕ
  named_need no_named_exprs = 1
  named_need (named_expr_then i e es) = suc (need e + named_need es)

  pub maybe_need : MaybeExpr → ℕ
  maybe_need no_expr = 0
  maybe_need (some_expr e) = need e

  pub arms_need : ArmTrees → ℕ
  arms_need no_arms = 1
  arms_need (arm_then ps guard body more) = suc (patterns_need ps + (maybe_need guard + (body_need body + arms_need more)))

  pub body_need : ArmBodyTree → ℕ
  body_need (block_body d) = block_need d
  body_need (expr_body e) = need e

  pub stmt_need : StmtTree → ℕ
  stmt_need (let_stmt i e) = need e
  stmt_need (check_stmt t) = 0
  stmt_need (import_stmt p) = path_need p
  stmt_need (do_stmt e) = need e
  stmt_need (const_stmt i t base l) = 0

  pub stmts_need : StmtTrees → ℕ
  stmts_need no_stmts = 1
  stmts_need (stmt_then s ss) = suc (stmt_need s + stmts_need ss)

  pub block_need : BlockTree → ℕ
  block_need (block ss e) = stmts_need ss + maybe_need e
