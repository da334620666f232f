-- The levels of patterns, expressions and blocks without ranges are their levels.
use Rattle.std.specs.Prelude.{◌≡◌, ℕ, ◌+◌, ◌++◌, [], ◌∷◌, false, Option, option_map, Some, None, refl}
use Rattle.std.proofs.Common.{ap, ap₂}
use Rattle.dm_stream.specs.declared.tokens.Ident.{Ident}
use Rattle.dm_stream.specs.Trees.{Trees}
use Rattle.dm_lexer.specs.Written.{unplaced}
use Rattle.dm_output.specs.Output.{FmtArgTree, FmtTree, PatternTree, wild, bind, str_pattern, path_pattern, tuple_pattern, named_pattern, pair_pattern, PatternTrees, no_patterns, pattern_then, NamedPatterns, no_named, named_then, ExprTree, return_expr, or_expr, and_expr, equal, unequal, ref_opaque, ref_expr, deref, member, method_call, map_expr, map_err, question, path_expr, call, build, build_named, paren, tuple, opaque_call, str_expr, bool, match_expr, unsafe_expr, write_expr, format_args, ExprTrees, no_exprs, expr_then, NamedExprs, no_named_exprs, named_expr_then, MaybeExpr, no_expr, some_expr, ArmTrees, no_arms, arm_then, ArmBodyTree, block_body, expr_body, StmtTree, let_stmt, check_stmt, import_stmt, do_stmt, const_stmt, StmtTrees, no_stmts, stmt_then, BlockTree, block}
use Rattle.dm_type_levels.specs.TypeLevels.{spaced_levels}
use Rattle.dm_levels.specs.Levels.{opaque_levels, pattern_levels, each_pattern, each_named, alias_levels, fmt_arg_levels, fmt_levels, macro_levels, base_levels, expr_levels, each_expr, each_named_expr, maybe_expr_levels, guard_levels, arms_levels, body_levels, stmt_levels, stmts_levels, inside_levels, block_levels}
use Rattle.dm_type_eq.specs.Unplaced.{unplaced_ident}
use Rattle.dm_reread.specs.Bare.{bare_fmt_arg, bare_fmt, bare_pattern, bare_patterns, bare_named, bare_expr, bare_exprs, bare_named_exprs, bare_maybe, bare_arms, bare_body, bare_stmt, bare_stmts, bare_block}
use Rattle.dm_level_laws.proofs.BareTypeLevels.{map_same, trees_same, type_same, path_same, path_expr_same}

-- ---- formats and tokens that are not read

pub opaque_same : (k : ℕ) (o : Trees) → opaque_levels k (unplaced o) ≡ opaque_levels k o
opaque_same k o = simp (trees_same (k + 1) o)

alias_same : (k : ℕ) (i : Option Ident) → alias_levels k (option_map unplaced_ident i) ≡ alias_levels k i
alias_same k None = refl
alias_same k (Some i) = refl

fmt_arg_same : (k : ℕ) (a : FmtArgTree) → fmt_arg_levels k (bare_fmt_arg a) ≡ fmt_arg_levels k a
fmt_arg_same k a = simp (alias_same k a.alias, trees_same k a.value)

pub fmt_same : (k : ℕ) (f : FmtTree) → fmt_levels k (bare_fmt f) ≡ fmt_levels k f
fmt_same k f =
    ap (λ ls. k ∷ spaced_levels (k ∷ []) false ls) (map_same (fmt_arg_levels k) bare_fmt_arg (fmt_arg_same k) f.args)

base_same : (k : ℕ) (base : Option Trees) → base_levels k (option_map unplaced base) ≡ base_levels k base
base_same k None = refl
base_same k (Some o) = opaque_same k o

-- ---- patterns

mutual
  pub pattern_same : (k : ℕ) (p : PatternTree) → pattern_levels k (bare_pattern p) ≡ pattern_levels k p
  pattern_same k wild = refl
  pattern_same k (bind how i) = refl
  pattern_same k (str_pattern l) = refl
  pattern_same k (path_pattern p) = path_same k p
  pattern_same k (tuple_pattern p ps) = simp (path_same k p, patterns_same (k + 1) ps)
  pattern_same k (named_pattern p ps rest) = simp (path_same k p, named_same (k + 1) ps)
  pattern_same k (pair_pattern a c) = simp (pattern_same (k + 1) a, pattern_same (k + 1) c)

  pub patterns_same : (k : ℕ) (ps : PatternTrees) → each_pattern k (bare_patterns ps) ≡ each_pattern k ps
  patterns_same k no_patterns = refl
  patterns_same k (pattern_then p ps) = ap₂ (λ l ls. l ∷ ls) (pattern_same k p) (patterns_same k ps)

  pub named_same : (k : ℕ) (ps : NamedPatterns) → each_named k (bare_named ps) ≡ each_named k ps
  named_same k no_named = refl
  named_same k (named_then i p ps) = ap₂ (λ l ls. (k ∷ k ∷ l) ∷ ls) (pattern_same k p) (named_same k ps)

-- ---- expressions and blocks

mutual
  pub expr_same : (k : ℕ) (e : ExprTree) → expr_levels k (bare_expr e) ≡ expr_levels k e
  expr_same k (return_expr a) = simp (expr_same (k + 1) a)
  expr_same k (or_expr es) = simp (exprs_same k es)
  expr_same k (and_expr es) = simp (exprs_same k es)
  expr_same k (equal a c) = simp (expr_same k a, expr_same k c)
  expr_same k (unequal a c) = simp (expr_same k a, expr_same k c)
  expr_same k (ref_opaque o) = ap (λ ls. k ∷ ls) (opaque_same (k + 1) o)
  expr_same k (ref_expr is_mut a) = simp (expr_same (k + 1) a)
  expr_same k (deref a) = simp (expr_same (k + 1) a)
  expr_same k (member a x) = simp (expr_same k a)
  expr_same k (method_call a i es) = simp (expr_same k a, exprs_same (k + 1) es)
  expr_same k (map_expr a e) = simp (expr_same k a, expr_same (k + 1) e)
  expr_same k (map_err a o) = simp (expr_same k a, trees_same (k + 1) o)
  expr_same k (question a) = simp (expr_same k a)
  expr_same k (path_expr q p) = path_expr_same k q p
  expr_same k (call q p es) = simp (path_expr_same k q p, exprs_same (k + 1) es)
  expr_same k (build q p es) = simp (path_expr_same k q p, exprs_same (k + 1) es)
  expr_same k (build_named q p es) = simp (path_expr_same k q p, named_exprs_same (k + 1) es)
  expr_same k (paren a) = simp (expr_same (k + 1) a)
  expr_same k (tuple es) = simp (exprs_same (k + 1) es)
  expr_same k (opaque_call o a) = simp (trees_same (k + 1) o, expr_same (k + 1) a)
  expr_same k (str_expr l) = refl
  expr_same k (bool v) = refl
  expr_same k (match_expr a arms) = simp (expr_same k a, arms_same (k + 1) arms)
  expr_same k (unsafe_expr a) = simp (expr_same (k + 1) a)
  expr_same k (write_expr i f) = ap (λ ls. macro_levels k ((k + 1) ∷ (k + 1) ∷ ls)) (fmt_same (k + 1) f)
  expr_same k (format_args f) = ap (macro_levels k) (fmt_same (k + 1) f)

  pub exprs_same : (k : ℕ) (es : ExprTrees) → each_expr k (bare_exprs es) ≡ each_expr k es
  exprs_same k no_exprs = refl
  exprs_same k (expr_then e es) = ap₂ (λ l ls. l ∷ ls) (expr_same k e) (exprs_same k es)

  pub named_exprs_same : (k : ℕ) (es : NamedExprs) → each_named_expr k (bare_named_exprs es) ≡ each_named_expr k es
  named_exprs_same k no_named_exprs = refl
  named_exprs_same k (named_expr_then i e es) = ap₂ (λ l ls. (k ∷ k ∷ l) ∷ ls) (expr_same k e) (named_exprs_same k es)

  pub maybe_expr_same : (k : ℕ) (x : MaybeExpr) → maybe_expr_levels k (bare_maybe x) ≡ maybe_expr_levels k x
  maybe_expr_same k no_expr = refl
  maybe_expr_same k (some_expr e) = expr_same k e

  pub guard_same : (k : ℕ) (x : MaybeExpr) → guard_levels k (bare_maybe x) ≡ guard_levels k x
  guard_same k no_expr = refl
  guard_same k (some_expr e) = ap (λ ls. k ∷ ls) (expr_same k e)

  pub arms_same : (k : ℕ) (as' : ArmTrees) → arms_levels k (bare_arms as') ≡ arms_levels k as'
  arms_same k no_arms = refl
  arms_same k (arm_then ps guard body more) =
      simp (patterns_same k ps, guard_same k guard, body_same k body, arms_same k more)

  pub body_same : (k : ℕ) (d : ArmBodyTree) → body_levels k (bare_body d) ≡ body_levels k d
  body_same k (block_body d) = simp (inside_same (k + 1) d)
  body_same k (expr_body e) = expr_same k e

  pub stmt_same : (k : ℕ) (x : StmtTree) → stmt_levels k (bare_stmt x) ≡ stmt_levels k x
  stmt_same k (let_stmt i e) = simp (expr_same k e)
  stmt_same k (check_stmt t) = simp (type_same k t)
  stmt_same k (import_stmt p) = simp (path_same k p)
  stmt_same k (do_stmt e) = simp (expr_same k e)
  stmt_same k (const_stmt i t base l) = simp (type_same k t, base_same k base)

  pub stmts_same : (k : ℕ) (ss : StmtTrees) → stmts_levels k (bare_stmts ss) ≡ stmts_levels k ss
  stmts_same k no_stmts = refl
  stmts_same k (stmt_then x ss) = ap₂ (λ l ls. l ++ ls) (stmt_same k x) (stmts_same k ss)

  pub inside_same : (k : ℕ) (d : BlockTree) → inside_levels k (bare_block d) ≡ inside_levels k d
  inside_same k (block ss e) = ap₂ (λ l ls. l ++ ls) (stmts_same k ss) (maybe_expr_same k e)

pub block_same : (k : ℕ) (d : BlockTree) → block_levels k (bare_block d) ≡ block_levels k d
block_same k d = simp (inside_same (k + 1) d)
