-- The tokens of expressions, patterns and blocks without ranges are their tokens, without ranges.
use Rattle.std.specs.Prelude.{◌≡◌, List, [], ◌∷◌, map, true, false, Option, option_map, Some, None, refl}
use Rattle.std.proofs.Common.{ap₂}
use Rattle.dm_stream.specs.declared.tokens.Ident.{Ident}
use Rattle.dm_stream.specs.Layout.{nowhere}
use Rattle.dm_stream.specs.Trees.{Trees}
use Rattle.dm_lexer.specs.Written.{unplaced}
use Rattle.dm_ast.specs.Tree.{path, MaybeSelf, no_self, some_self, PathTree, path_tree}
use Rattle.dm_output.specs.declared.pattern.Binding.{Binding}
use Rattle.dm_output.specs.declared.pattern.Binding.TheVariants as binding
use Rattle.dm_output.specs.declared.expr.Member.{Member}
use Rattle.dm_output.specs.declared.expr.Member.TheVariants as m
use Rattle.dm_output.specs.Output.{FmtArgTree, FmtTree, PatternTree, wild, bind, str_pattern, path_pattern, tuple_pattern, named_pattern, pair_pattern, PatternTrees, no_patterns, pattern_then, NamedPatterns, no_named, named_then, ExprTree, return_expr, or_expr, and_expr, equal, unequal, ref_opaque, ref_expr, deref, member, method_call, map_expr, map_err, question, path_expr, call, build, build_named, paren, tuple, opaque_call, str_expr, bool, match_expr, unsafe_expr, write_expr, format_args, ExprTrees, no_exprs, expr_then, NamedExprs, no_named_exprs, named_expr_then, MaybeExpr, no_expr, some_expr, ArmTrees, no_arms, arm_then, ArmBodyTree, block_body, expr_body, StmtTree, let_stmt, check_stmt, import_stmt, do_stmt, const_stmt, StmtTrees, no_stmts, stmt_then, BlockTree, block}
use Rattle.dm_output.specs.Tokens.{ended, in_turn, binding_trees, pattern_trees, each_pattern, each_named, path_expr_trees, alias_trees, fmt_arg_trees, fmt_trees, member_trees, base_trees, expr_trees, each_expr, each_named_expr, maybe_trees, guard_trees, arms_trees, body_trees, stmt_trees, stmts_trees, inside_trees}
use Rattle.dm_type_eq.specs.Unplaced.{unplaced_ident, unplaced_path, unplaced_self}
use Rattle.dm_reread.specs.Bare.{bare_fmt_arg, bare_fmt, bare_member, bare_pattern, bare_patterns, bare_named, bare_expr, bare_exprs, bare_named_exprs, bare_maybe, bare_arms, bare_body, bare_stmt, bare_stmts, bare_block}
use Rattle.dm_type_eq.proofs.BareTypeTokens.{unplaced-join, unplaced-given, unplaced-spaced, type-bare, path-bare, node-bare}

pub unplaced-ended : (xs : List Trees) → unplaced (ended xs) ≡ ended (map unplaced xs)
unplaced-ended [] = refl
unplaced-ended (ts ∷ more) = simp (unplaced-ended more, unplaced-join)

pub unplaced-turn : (xs : List Trees) → unplaced (in_turn xs) ≡ in_turn (map unplaced xs)
unplaced-turn [] = refl
unplaced-turn (ts ∷ more) = simp (unplaced-turn more, unplaced-join)

pub ruleset unplaced_parts = (unplaced-join, unplaced-given, unplaced-spaced, unplaced-ended, unplaced-turn)

-- ---- paths, formats and members

pub path-expr-bare : (q : MaybeSelf) (p : PathTree) → unplaced (path_expr_trees q p) ≡ path_expr_trees (unplaced_self q) (unplaced_path p)
path-expr-bare no_self p = path-bare nowhere p
path-expr-bare (some_self t position) (path_tree leading ss) = node-bare nowhere (path (some_self t position) (path_tree leading ss))

alias-bare : (i : Option Ident) → unplaced (alias_trees i) ≡ alias_trees (option_map unplaced_ident i)
alias-bare None = refl
alias-bare (Some i) = refl

fmt-args-bare : (as' : List FmtArgTree) → map unplaced (map fmt_arg_trees as') ≡ map fmt_arg_trees (map bare_fmt_arg as')
fmt-args-bare [] = refl
fmt-args-bare (a ∷ as') = simp (alias-bare, fmt-args-bare as', unplaced-join)

fmt-bare : (f : FmtTree) → unplaced (fmt_trees f) ≡ fmt_trees (bare_fmt f)
fmt-bare f = simp (fmt-args-bare, unplaced_parts)

member-bare : (x : Member) → unplaced (member_trees x) ≡ member_trees (bare_member x)
member-bare (m.Named i) = refl
member-bare (m.Index l) = refl

base-bare : (base : Option Trees) → unplaced (base_trees base) ≡ base_trees (option_map unplaced base)
base-bare None = refl
base-bare (Some o) = refl

-- ---- patterns

binding-bare : (b : Binding) → unplaced (binding_trees b) ≡ binding_trees b
binding-bare binding.Plain = refl
binding-bare binding.Ref = refl
binding-bare binding.RefMut = refl

mutual
  pub pattern-bare : (p : PatternTree) → unplaced (pattern_trees p) ≡ pattern_trees (bare_pattern p)
  pattern-bare wild = refl
  pattern-bare (bind how i) = simp (binding-bare, unplaced-join)
  pattern-bare (str_pattern l) = refl
  pattern-bare (path_pattern p) = path-bare nowhere p
  pattern-bare (tuple_pattern p ps) = simp (path-bare, patterns-bare ps, unplaced_parts)
  pattern-bare (named_pattern p ps rest) = simp (path-bare, named-bare ps, unplaced_parts)
  pattern-bare (pair_pattern a c) = simp (pattern-bare a, pattern-bare c, unplaced_parts)

  patterns-bare : (ps : PatternTrees) → map unplaced (each_pattern ps) ≡ each_pattern (bare_patterns ps)
  patterns-bare no_patterns = refl
  patterns-bare (pattern_then p ps) = ap₂ (λ x xs. x ∷ xs) (pattern-bare p) (patterns-bare ps)

  named-bare : (ps : NamedPatterns) → map unplaced (each_named ps) ≡ each_named (bare_named ps)
  named-bare no_named = refl
  named-bare (named_then i p ps) = simp (pattern-bare p, named-bare ps)

-- ---- expressions and blocks

mutual
  pub expr-bare : (e : ExprTree) → unplaced (expr_trees e) ≡ expr_trees (bare_expr e)
  expr-bare (return_expr a) = simp (expr-bare a)
  expr-bare (or_expr es) = simp (exprs-bare es, unplaced_parts)
  expr-bare (and_expr es) = simp (exprs-bare es, unplaced_parts)
  expr-bare (equal a c) = simp (expr-bare a, expr-bare c, unplaced_parts)
  expr-bare (unequal a c) = simp (expr-bare a, expr-bare c, unplaced_parts)
  expr-bare (ref_opaque o) = refl
  expr-bare (ref_expr true a) = simp (expr-bare a)
  expr-bare (ref_expr false a) = simp (expr-bare a)
  expr-bare (deref a) = simp (expr-bare a)
  expr-bare (member a x) = simp (expr-bare a, member-bare, unplaced_parts)
  expr-bare (method_call a i es) = simp (expr-bare a, exprs-bare es, unplaced_parts)
  expr-bare (map_expr a e) = simp (expr-bare a, expr-bare e, unplaced_parts)
  expr-bare (map_err a o) = simp (expr-bare a, unplaced_parts)
  expr-bare (question a) = simp (expr-bare a, unplaced_parts)
  expr-bare (path_expr q p) = path-expr-bare q p
  expr-bare (call q p es) = simp (path-expr-bare, exprs-bare es, unplaced_parts)
  expr-bare (build q p es) = simp (path-expr-bare, exprs-bare es, unplaced_parts)
  expr-bare (build_named q p es) = simp (path-expr-bare, named-exprs-bare es, unplaced_parts)
  expr-bare (paren a) = simp (expr-bare a)
  expr-bare (tuple es) = simp (exprs-bare es, unplaced_parts)
  expr-bare (opaque_call o a) = simp (expr-bare a)
  expr-bare (str_expr l) = refl
  expr-bare (bool v) = refl
  expr-bare (match_expr a arms) = simp (expr-bare a, arms-bare arms, unplaced_parts)
  expr-bare (unsafe_expr a) = simp (expr-bare a)
  expr-bare (write_expr i f) = simp (fmt-bare f)
  expr-bare (format_args f) = simp (fmt-bare f)

  exprs-bare : (es : ExprTrees) → map unplaced (each_expr es) ≡ each_expr (bare_exprs es)
  exprs-bare no_exprs = refl
  exprs-bare (expr_then e es) = ap₂ (λ x xs. x ∷ xs) (expr-bare e) (exprs-bare es)

  named-exprs-bare : (es : NamedExprs) → map unplaced (each_named_expr es) ≡ each_named_expr (bare_named_exprs es)
  named-exprs-bare no_named_exprs = refl
  named-exprs-bare (named_expr_then i e es) = simp (expr-bare e, named-exprs-bare es)

  maybe-bare : (x : MaybeExpr) → unplaced (maybe_trees x) ≡ maybe_trees (bare_maybe x)
  maybe-bare no_expr = refl
  maybe-bare (some_expr e) = expr-bare e

  guard-bare : (x : MaybeExpr) → unplaced (guard_trees x) ≡ guard_trees (bare_maybe x)
  guard-bare no_expr = refl
  guard-bare (some_expr e) = simp (expr-bare e)

  arms-bare : (as' : ArmTrees) → unplaced (arms_trees as') ≡ arms_trees (bare_arms as')
  arms-bare no_arms = refl
  arms-bare (arm_then ps guard body more) =
      simp (patterns-bare ps, guard-bare guard, body-bare body, arms-bare more, unplaced_parts)

  body-bare : (d : ArmBodyTree) → unplaced (body_trees d) ≡ body_trees (bare_body d)
  body-bare (block_body d) = simp (block-bare d)
  body-bare (expr_body e) = expr-bare e

  stmt-bare : (x : StmtTree) → unplaced (stmt_trees x) ≡ stmt_trees (bare_stmt x)
  stmt-bare (let_stmt i e) = simp (expr-bare e, unplaced_parts)
  stmt-bare (check_stmt t) = simp (type-bare, unplaced_parts)
  stmt-bare (import_stmt p) = simp (path-bare, unplaced_parts)
  stmt-bare (do_stmt e) = simp (expr-bare e, unplaced_parts)
  stmt-bare (const_stmt i t base l) = simp (type-bare, base-bare, unplaced_parts)

  stmts-bare : (ss : StmtTrees) → unplaced (stmts_trees ss) ≡ stmts_trees (bare_stmts ss)
  stmts-bare no_stmts = refl
  stmts-bare (stmt_then x ss) = simp (stmt-bare x, stmts-bare ss, unplaced_parts)

  pub block-bare : (d : BlockTree) → unplaced (inside_trees d) ≡ inside_trees (bare_block d)
  block-bare (block ss e) = simp (stmts-bare ss, maybe-bare e, unplaced_parts)
