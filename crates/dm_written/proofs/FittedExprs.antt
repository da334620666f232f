-- Patterns, expressions and blocks fit in a text where their parts do.
use Rattle.std.specs.Prelude.{◌≡◌, ℕ, ◌-◌, ◌<◌, Bool, true, false, cond, List, map, codes, Option, Some, None, refl}
use Rattle.dm_stream.specs.declared.tokens.Delim.TheVariants.{Paren, Brace}
use Rattle.dm_stream.specs.declared.tokens.Ident.{Ident}
use Rattle.dm_stream.specs.declared.tokens.LitKind.TheVariants.{Int}
use Rattle.dm_stream.specs.Layout.{nowhere}
use Rattle.dm_stream.specs.Trees.{Trees, join}
use Rattle.dm_lexer.proofs.WritableLiterals.{int-spellable}
use Rattle.dm_ast.specs.TypeTokens.{name}
use Rattle.dm_output.specs.Output.{FmtArgTree, FmtTree, PatternTree, wild, bind, str_pattern, path_pattern, tuple_pattern, named_pattern, pair_pattern, PatternTrees, no_patterns, pattern_then, NamedPatterns, no_named, named_then, ExprTree, return_expr, or_expr, and_expr, equal, unequal, ref_opaque, ref_expr, deref, member, method_call, map_expr, map_err, question, path_expr, call, build, build_named, paren, tuple, opaque_call, str_expr, bool, match_expr, unsafe_expr, write_expr, format_args, ExprTrees, no_exprs, expr_then, NamedExprs, no_named_exprs, named_expr_then, MaybeExpr, no_expr, some_expr, ArmTrees, no_arms, arm_then, ArmBodyTree, block_body, expr_body, StmtTree, let_stmt, check_stmt, import_stmt, do_stmt, const_stmt, StmtTrees, no_stmts, stmt_then, BlockTree, block}
use Rattle.dm_output.specs.Tokens.{word, punct, colon, binding_trees, pattern_trees, each_pattern, each_named, alias_trees, fmt_arg_trees, fmt_trees, macro_trees, member_trees, base_trees, expr_trees, each_expr, each_named_expr, maybe_trees, guard_trees, arms_trees, body_trees, stmt_trees, stmts_trees, inside_trees}
use Rattle.dm_output.specs.declared.pattern.Binding.{Binding}
use Rattle.dm_output.specs.declared.pattern.Binding.TheVariants as binding
use Rattle.dm_output.specs.declared.expr.Member.{Member}
use Rattle.dm_output.specs.declared.expr.Member.TheVariants as m
use Rattle.dm_lexer.proofs.Writables.{is_ascii_word}
use Rattle.dm_written.specs.Fitting.{Fits, Each, IfThere, NameFits, PatternFits, PatternsFit, NamedPatternsFit, MemberFits, FmtArgFits, FmtFits, BaseFits, ExprFits, ExprsFit, NamedExprsFit, MaybeFits, ArmsFit, BodyFits, StmtFits, StmtsFit, BlockFits}
use Rattle.dm_written.proofs.Fitted.{none_fits, join_fits, group_fits, name_fits, literal_fits, word_fits, punct_fits, comma_fits, colon_fits, semicolon_fits, assigns_fits, joint_fits, colons_fit, given_fits, spaced_fits, listed_fits, ended_fits, map_fits}

-- ---- patterns

binding_fits : (n : ℕ) (how : Binding) → Fits n (binding_trees how)
binding_fits n binding.Plain = none_fits n
binding_fits n binding.Ref = word_fits n (codes "ref") refl
binding_fits n binding.RefMut = join_fits (word_fits n (codes "ref") refl) (word_fits n (codes "mut") refl)

-- a name and a colon before trees
labelled_fits : {n : ℕ} {ts : Trees} (i : Ident) → NameFits i → Fits n ts → Fits n (join (name i) (join colon ts))
labelled_fits {n} i h k = join_fits (name_fits n i h) (join_fits (colon_fits n) k)

mutual
  pub pattern_fits : (n : ℕ) (p : PatternTree) → PatternFits n p → Fits n (pattern_trees p)
  pattern_fits n wild h = word_fits n (codes "_") refl
  pattern_fits n (bind how i) h = join_fits (binding_fits n how) (name_fits n i h)
  pattern_fits n (str_pattern l) h = literal_fits n l h
  pattern_fits n (path_pattern p) h = h
  pattern_fits n (tuple_pattern p ps) h =
      join_fits h.0 (group_fits n Paren h.1 (ended_fits (n - 1) (each_pattern ps) (patterns_fit (n - 1) ps h.2)))
  pattern_fits n (named_pattern p ps rest) h =
      join_fits h.0
      (group_fits n Brace h.1
      (join_fits (ended_fits (n - 1) (each_named ps) (named_patterns_fit (n - 1) ps h.2))
      (given_fits rest (joint_fits (n - 1) 46 46 refl refl refl))))
  pattern_fits n (pair_pattern a b) h =
      group_fits n Paren h.0 (join_fits (pattern_fits (n - 1) a h.1) (join_fits (comma_fits (n - 1)) (pattern_fits (n - 1) b h.2)))

  pub patterns_fit : (n : ℕ) (ps : PatternTrees) → PatternsFit n ps → Each (Fits n) (each_pattern ps)
  patterns_fit n no_patterns h = tt
  patterns_fit n (pattern_then p ps) h = (pattern_fits n p h.0, patterns_fit n ps h.1)

  pub named_patterns_fit : (n : ℕ) (ps : NamedPatterns) → NamedPatternsFit n ps → Each (Fits n) (each_named ps)
  named_patterns_fit n no_named h = tt
  named_patterns_fit n (named_then i p ps) h = (labelled_fits i h.0 (pattern_fits n p h.1), named_patterns_fit n ps h.2)

-- ---- parts of expressions

pub member_fits : (n : ℕ) (x : Member) → MemberFits x → Fits n (member_trees x)
member_fits n (m.Named i) h = name_fits n i h
member_fits n (m.Index l) h = literal_fits n l h

alias_fits : (n : ℕ) (i : Option Ident) → IfThere NameFits i → Fits n (alias_trees i)
alias_fits n None h = none_fits n
alias_fits n (Some i) h = join_fits (name_fits n i h) (assigns_fits n)

pub fmt_arg_fits : (n : ℕ) (a : FmtArgTree) → FmtArgFits n a → Fits n (fmt_arg_trees a)
fmt_arg_fits n a h = join_fits (alias_fits n a.alias h.0) h.1

pub fmt_fits : (n : ℕ) (f : FmtTree) → FmtFits n f → Fits n (fmt_trees f)
fmt_fits n f h =
    join_fits (literal_fits n f.lit h.0)
    (spaced_fits false (map fmt_arg_trees f.args) (comma_fits n) (map_fits n (FmtArgFits n) fmt_arg_trees (fmt_arg_fits n) f.args h.1))

macro_fits : (n : ℕ) (called : List ℕ) {inside : Trees} → is_ascii_word called ≡ true → 0 < n → Fits (n - 1) inside →
    Fits n (macro_trees called inside)
macro_fits n called w some h =
    join_fits (word_fits n (codes "derive_more") refl)
    (join_fits (colons_fit n)
    (join_fits (word_fits n (codes "core") refl)
    (join_fits (colons_fit n) (join_fits (word_fits n called w) (join_fits (punct_fits n 33 refl) (group_fits n Paren some h))))))

pub base_fits : (n : ℕ) (base : Option Trees) → IfThere (BaseFits n) base → Fits n (base_trees base)
base_fits n None h = literal_fits n (record { kind = Int; text = codes "0"; span = nowhere }) (int-spellable (codes "0") nowhere refl refl)
base_fits n (Some o) h = group_fits n Paren h.0 h.1

truth_fits : (n : ℕ) (b : Bool) → Fits n (word (cond b (codes "true") (codes "false")))
truth_fits n true = word_fits n (codes "true") refl
truth_fits n false = word_fits n (codes "false") refl

dot_fits : (n : ℕ) → Fits n (punct 46)
dot_fits n = punct_fits n 46 refl

bar_fits : (n : ℕ) → Fits n (punct 124)
bar_fits n = punct_fits n 124 refl

-- ---- expressions and blocks

mutual
  pub expr_fits : (n : ℕ) (e : ExprTree) → ExprFits n e → Fits n (expr_trees e)
  expr_fits n (return_expr a) h = join_fits (word_fits n (codes "return") refl) (expr_fits n a h)
  expr_fits n (or_expr es) h = spaced_fits true (each_expr es) (joint_fits n 124 124 refl refl refl) (exprs_fit n es h)
  expr_fits n (and_expr es) h = spaced_fits true (each_expr es) (joint_fits n 38 38 refl refl refl) (exprs_fit n es h)
  expr_fits n (equal a b) h = join_fits (expr_fits n a h.0) (join_fits (joint_fits n 61 61 refl refl refl) (expr_fits n b h.1))
  expr_fits n (unequal a b) h = join_fits (expr_fits n a h.0) (join_fits (joint_fits n 33 61 refl refl refl) (expr_fits n b h.1))
  expr_fits n (ref_opaque o) h = join_fits (punct_fits n 38 refl) (group_fits n Paren h.0 h.1)
  expr_fits n (ref_expr is_mut a) h =
      join_fits (punct_fits n 38 refl) (join_fits (given_fits is_mut (word_fits n (codes "mut") refl)) (expr_fits n a h))
  expr_fits n (deref a) h = join_fits (punct_fits n 42 refl) (expr_fits n a h)
  expr_fits n (member a x) h = join_fits (expr_fits n a h.0) (join_fits (dot_fits n) (member_fits n x h.1))
  expr_fits n (method_call a i es) h =
      join_fits (expr_fits n a h.0)
      (join_fits (dot_fits n)
      (join_fits (name_fits n i h.1) (group_fits n Paren h.2 (listed_fits (n - 1) (each_expr es) (exprs_fit (n - 1) es h.3)))))
  expr_fits n (map_expr a e) h =
      join_fits (expr_fits n a h.0)
      (join_fits (dot_fits n)
      (join_fits (word_fits n (codes "map") refl)
      (group_fits n Paren h.1
      (join_fits (bar_fits (n - 1))
      (join_fits (word_fits (n - 1) (codes "v") refl) (join_fits (bar_fits (n - 1)) (expr_fits (n - 1) e h.2)))))))
  expr_fits n (map_err a o) h =
      join_fits (expr_fits n a h.0) (join_fits (dot_fits n) (join_fits (word_fits n (codes "map_err") refl) (group_fits n Paren h.1 h.2)))
  expr_fits n (question a) h = join_fits (expr_fits n a h) (punct_fits n 63 refl)
  expr_fits n (path_expr q p) h = h
  expr_fits n (call q p es) h = join_fits h.0 (group_fits n Paren h.1 (listed_fits (n - 1) (each_expr es) (exprs_fit (n - 1) es h.2)))
  expr_fits n (build q p es) h = join_fits h.0 (group_fits n Paren h.1 (ended_fits (n - 1) (each_expr es) (exprs_fit (n - 1) es h.2)))
  expr_fits n (build_named q p es) h =
      join_fits h.0 (group_fits n Brace h.1 (ended_fits (n - 1) (each_named_expr es) (named_exprs_fit (n - 1) es h.2)))
  expr_fits n (paren a) h = group_fits n Paren h.0 (expr_fits (n - 1) a h.1)
  expr_fits n (tuple es) h = group_fits n Paren h.0 (listed_fits (n - 1) (each_expr es) (exprs_fit (n - 1) es h.1))
  expr_fits n (opaque_call o a) h = join_fits (group_fits n Paren h.0 h.1) (group_fits n Paren h.0 (expr_fits (n - 1) a h.2))
  expr_fits n (str_expr l) h = literal_fits n l h
  expr_fits n (bool b) h = truth_fits n b
  expr_fits n (match_expr a arms) h =
      join_fits (word_fits n (codes "match") refl) (join_fits (expr_fits n a h.0) (group_fits n Brace h.1 (arms_fit (n - 1) arms h.2)))
  expr_fits n (unsafe_expr a) h = join_fits (word_fits n (codes "unsafe") refl) (group_fits n Brace h.0 (expr_fits (n - 1) a h.1))
  expr_fits n (write_expr i f) h =
      macro_fits n (codes "write") refl h.0 (join_fits (name_fits (n - 1) i h.1) (join_fits (comma_fits (n - 1)) (fmt_fits (n - 1) f h.2)))
  expr_fits n (format_args f) h = macro_fits n (codes "format_args") refl h.0 (fmt_fits (n - 1) f h.1)

  pub exprs_fit : (n : ℕ) (es : ExprTrees) → ExprsFit n es → Each (Fits n) (each_expr es)
  exprs_fit n no_exprs h = tt
  exprs_fit n (expr_then e es) h = (expr_fits n e h.0, exprs_fit n es h.1)

  pub named_exprs_fit : (n : ℕ) (es : NamedExprs) → NamedExprsFit n es → Each (Fits n) (each_named_expr es)
  named_exprs_fit n no_named_exprs h = tt
  named_exprs_fit n (named_expr_then i e es) h = (labelled_fits i h.0 (expr_fits n e h.1), named_exprs_fit n es h.2)

  pub maybe_fits : (n : ℕ) (e : MaybeExpr) → MaybeFits n e → Fits n (maybe_trees e)
  maybe_fits n no_expr h = none_fits n
  maybe_fits n (some_expr e) h = expr_fits n e h

  pub guard_fits : (n : ℕ) (e : MaybeExpr) → MaybeFits n e → Fits n (guard_trees e)
  guard_fits n no_expr h = none_fits n
  guard_fits n (some_expr e) h = join_fits (word_fits n (codes "if") refl) (expr_fits n e h)

  pub arms_fit : (n : ℕ) (arms : ArmTrees) → ArmsFit n arms → Fits n (arms_trees arms)
  arms_fit n no_arms h = none_fits n
  arms_fit n (arm_then ps guard body more) h =
      join_fits
      (join_fits (spaced_fits true (each_pattern ps) (bar_fits n) (patterns_fit n ps h.0))
      (join_fits (guard_fits n guard h.1)
      (join_fits (joint_fits n 61 62 refl refl refl) (join_fits (body_fits n body h.2) (comma_fits n)))))
      (arms_fit n more h.3)

  pub body_fits : (n : ℕ) (body : ArmBodyTree) → BodyFits n body → Fits n (body_trees body)
  body_fits n (block_body b) h = group_fits n Brace h.0 (block_fits (n - 1) b h.1)
  body_fits n (expr_body e) h = expr_fits n e h

  pub stmt_fits : (n : ℕ) (s : StmtTree) → StmtFits n s → Fits n (stmt_trees s)
  stmt_fits n (let_stmt i e) h =
      join_fits (word_fits n (codes "let") refl)
      (join_fits (name_fits n i h.0) (join_fits (assigns_fits n) (join_fits (expr_fits n e h.1) (semicolon_fits n))))
  stmt_fits n (check_stmt x) h =
      join_fits (word_fits n (codes "let") refl)
      (join_fits (word_fits n (codes "_") refl) (join_fits (colon_fits n) (join_fits h (semicolon_fits n))))
  stmt_fits n (import_stmt p) h =
      join_fits (word_fits n (codes "use") refl)
      (join_fits h (join_fits (word_fits n (codes "as") refl) (join_fits (word_fits n (codes "_") refl) (semicolon_fits n))))
  stmt_fits n (do_stmt e) h = join_fits (expr_fits n e h) (semicolon_fits n)
  stmt_fits n (const_stmt i x base l) h =
      join_fits (word_fits n (codes "const") refl)
      (join_fits (name_fits n i h.0)
      (join_fits (colon_fits n)
      (join_fits h.1
      (join_fits (assigns_fits n)
      (join_fits (base_fits n base h.2) (join_fits (punct_fits n 43 refl) (join_fits (literal_fits n l h.3) (semicolon_fits n))))))))

  pub stmts_fit : (n : ℕ) (ss : StmtTrees) → StmtsFit n ss → Fits n (stmts_trees ss)
  stmts_fit n no_stmts h = none_fits n
  stmts_fit n (stmt_then s ss) h = join_fits (stmt_fits n s h.0) (stmts_fit n ss h.1)

  pub block_fits : (n : ℕ) (b : BlockTree) → BlockFits n b → Fits n (inside_trees b)
  block_fits n (block ss e) h = join_fits (stmts_fit n ss h.0) (maybe_fits n e h.1)
