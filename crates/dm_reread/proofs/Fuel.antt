-- The fuel that a text brings is enough.
use Rattle.std.specs.Prelude.{◌≡◌, suc, ◌+◌, ◌*◌, ◌≤◌, Bool, true, false, List, [], ◌∷◌}
use Rattle.std.proofs.Common.{ap}
use native.Mathlib.Omega.{arith}
use Rattle.dm_stream.specs.Layout.{nowhere}
use Rattle.dm_stream.specs.Trees.{Trees, no_trees, token, group, join}
use Rattle.dm_ast.specs.Tree.{MaybeSelf, no_self, some_self, PathTree, path_tree, SegmentTrees, no_segments, segment_then, segment, absent}
use Rattle.dm_ast.specs.TypeTokens.{given, path_trees}
use Rattle.dm_output.specs.declared.pattern.Binding.TheVariants as binding
use Rattle.dm_output.specs.declared.expr.Member.TheVariants as m
use Rattle.dm_output.specs.Output.{FmtArgTree, PatternTree, wild, bind, str_pattern, path_pattern, tuple_pattern, named_pattern, pair_pattern, PatternTrees, no_patterns, pattern_then, NamedPatterns, no_named, named_then, ExprTree, return_expr, or_expr, and_expr, equal, unequal, ref_opaque, ref_expr, deref, member, method_call, map_expr, map_err, question, path_expr, call, build, build_named, paren, tuple, opaque_call, str_expr, bool, match_expr, unsafe_expr, write_expr, format_args, ExprTrees, no_exprs, expr_then, NamedExprs, no_named_exprs, named_expr_then, MaybeExpr, no_expr, some_expr, ArmTrees, no_arms, arm_then, ArmBodyTree, block_body, expr_body, StmtTree, let_stmt, check_stmt, import_stmt, do_stmt, const_stmt, StmtTrees, no_stmts, stmt_then, BlockTree, block}
use Rattle.dm_output.specs.Tokens as k
use Rattle.dm_output.specs.Tokens.{expr_trees, each_expr, ended, each_named_expr, maybe_trees, arms_trees, guard_trees, body_trees, stmt_trees, stmts_trees, inside_trees, pattern_trees, each_pattern, each_named, path_expr_trees, alias_trees}
use Rattle.dm_reread.specs.Leaves.{LeafGrammar}
use Rattle.dm_reread.specs.Grammar.{Level, at_or, at_and, at_cmp, ArePlain, IsPlainPath, IsPath, IsExpr, Each, IsPattern, ArePatterns, AreNamedPatterns, EachNamed, IsMaybe, AreArms, IsBody, IsStmt, AreStmts, IsBlock}
use Rattle.dm_reread.specs.Need.{need, needs, segments_need, path_need, any_path_need, fmt_args_need, named_need, maybe_need, arms_need, body_need, stmt_need, stmts_need, block_need, pattern_need, patterns_need, named_patterns_need}
use Rattle.dm_reread.specs.Whole.{size}
use Rattle.dm_reread.proofs.Laws.{tail, colons_tail, fmt_tail, bars_tail}
use Rattle.dm_reread.proofs.ArmRows.{arm-shape}

pub size-join : (ts us : Trees) → size (join ts us) ≡ size ts + size us
size-join no_trees us = omega arith
size-join (token t rest) us = omega (arith, size-join rest us)
size-join (group d from inside upto rest) us = omega (arith, size-join rest us)

-- ---- paths and formats

segments-size : (ss : SegmentTrees) → ArePlain ss → segments_need ss ≤ 1 + size (colons_tail ss)
segments-size no_segments p = omega arith
segments-size (segment_then (segment i absent) ss) p = omega (arith, segments-size ss p.1)
segments-size (segment_then (segment i x) ss) p = absurd p

path-size : (p : PathTree) → IsPlainPath p → path_need p ≤ 1 + size (path_trees nowhere p)
path-size (path_tree leading no_segments) p = absurd p.0
path-size (path_tree true (segment_then (segment i absent) ss)) p = omega (arith, segments-size ss p.1.1)
path-size (path_tree false (segment_then (segment i absent) ss)) p = omega (arith, segments-size ss p.1.1)
path-size (path_tree leading (segment_then (segment i x) ss)) p = absurd p.1

path-some : (p : PathTree) → IsPlainPath p → 1 ≤ size (path_trees nowhere p)
path-some (path_tree leading no_segments) p = absurd p.0
path-some (path_tree true (segment_then (segment i absent) ss)) p = omega arith
path-some (path_tree false (segment_then (segment i absent) ss)) p = omega arith
path-some (path_tree leading (segment_then (segment i x) ss)) p = absurd p.1

any-path-size : (g : LeafGrammar) (q : MaybeSelf) (p : PathTree) → IsPath g q p → any_path_need q p ≤ 1 + size (path_expr_trees q p)
any-path-size g no_self p h = path-size p h
any-path-size g (some_self t position) p h = omega arith

any-path-some : (g : LeafGrammar) (q : MaybeSelf) (p : PathTree) → IsPath g q p → 1 ≤ size (path_expr_trees q p)
any-path-some g no_self p h = path-some p h
any-path-some g (some_self t position) (path_tree leading ss) h = omega arith

fmt-args-size : (as' : List FmtArgTree) → fmt_args_need as' ≤ 1 + size (fmt_tail as')
fmt-args-size [] = omega arith
fmt-args-size (a ∷ as') = omega (arith, size-join (join (alias_trees a.alias) a.value) (fmt_tail as'), fmt-args-size as')

-- ---- patterns

mutual
  pub pattern-size : (p : PatternTree) → IsPattern p → pattern_need p ≤ 5 * size (pattern_trees p)
  pattern-size wild h = omega arith
  pattern-size (bind binding.Plain i) h = omega arith
  pattern-size (bind binding.Ref i) h = omega arith
  pattern-size (bind binding.RefMut i) h = omega arith
  pattern-size (str_pattern l) h = omega arith
  pattern-size (path_pattern p) h = omega (arith, path-size p h.0, path-some p h.0)
  pattern-size (tuple_pattern p ps) h = omega (arith, size-join, path-size p h.0, path-some p h.0, patterns-size ps h.1)
  pattern-size (named_pattern p ps more) h =
      omega (
        arith,
        size-join,
        size-join (ended (each_named ps)) (given more (k.joint 46 46)),
        path-size p h.0,
        path-some p h.0,
        named-patterns-size ps h.1,
      )
  pattern-size (pair_pattern a c) h = omega (arith, size-join, pattern-size a h.0, pattern-size c h.1)

  pub patterns-size : (ps : PatternTrees) → ArePatterns ps → patterns_need ps ≤ 1 + 5 * size (ended (each_pattern ps))
  patterns-size no_patterns h = omega arith
  patterns-size (pattern_then p ps) h = omega (arith, size-join, pattern-size p h.0, patterns-size ps h.1)

  pub named-patterns-size : (ps : NamedPatterns) → AreNamedPatterns ps → named_patterns_need ps ≤ 1 + 5 * size (ended (each_named ps))
  named-patterns-size no_named h = omega arith
  named-patterns-size (named_then i p ps) h =
      omega (arith, size-join (pattern_trees p) (join k.comma (ended (each_named ps))), pattern-size p h.1.0, named-patterns-size ps h.1.1)

bars-size : (ps : PatternTrees) → ArePatterns ps → patterns_need ps ≤ 1 + 5 * size (bars_tail ps)
bars-size no_patterns h = omega arith
bars-size (pattern_then p ps) h = omega (arith, size-join, pattern-size p h.0, bars-size ps h.1)

-- ---- expressions and blocks

bool-some : (v : Bool) → 1 ≤ size (expr_trees (bool v))
bool-some true = omega arith
bool-some false = omega arith

-- two expressions and more, with a sign between
chain-size : (sign : Trees) (e e' : ExprTree) (es : ExprTrees) → 1 ≤ size sign → need e ≤ 5 * size (expr_trees e) →
    need e' ≤ 5 * size (expr_trees e') → needs es ≤ 1 + 5 * size (tail sign es) →
    suc (needs (expr_then e (expr_then e' es))) ≤ 5 * size (join (expr_trees e) (tail sign (expr_then e' es)))
chain-size sign e e' es s a b c =
    omega (
      arith,
      size-join (expr_trees e) (tail sign (expr_then e' es)),
      size-join sign (join (expr_trees e') (tail sign es)),
      size-join (expr_trees e') (tail sign es),
      s,
      a,
      b,
      c,
    )

arm-size : (p : PatternTree) (ps : PatternTrees) (x : MaybeExpr) (d : ArmBodyTree) (more : ArmTrees) →
    pattern_need p ≤ 5 * size (pattern_trees p) →
    patterns_need ps ≤ 1 + 5 * size (bars_tail ps) → maybe_need x ≤ 5 * size (guard_trees x) →
    body_need d ≤ 5 * size (body_trees d) → arms_need more ≤ 1 + 5 * size (arms_trees more) →
    arms_need (arm_then (pattern_then p ps) x d more) ≤ 1 + 5 * size (arms_trees (arm_then (pattern_then p ps) x d more))
arm-size p ps x d more a b c e f =
    let last : Trees = join k.comma (arms_trees more) in
    let bodied : Trees = join (body_trees d) last in
    let guarded : Trees = join (guard_trees x) (join (k.joint 61 62) bodied) in
    let barred : Trees = join (bars_tail ps) guarded in
    omega (
      arith,
      ap size (arm-shape p ps x d more),
      size-join (pattern_trees p) barred,
      size-join (bars_tail ps) guarded,
      size-join (guard_trees x) (join (k.joint 61 62) bodied),
      size-join (body_trees d) last,
      a,
      b,
      c,
      e,
      f,
    )

mutual
  pub expr-size : (g : LeafGrammar) (b : Bool) (e : ExprTree) → IsExpr g b e → need e ≤ 5 * size (expr_trees e)
  expr-size g b (return_expr a) h = omega (arith, expr-size g b a h)
  expr-size g b (or_expr no_exprs) h = absurd h.0
  expr-size g b (or_expr (expr_then e no_exprs)) h = absurd h.0
  expr-size g b (or_expr (expr_then e (expr_then e' es))) h =
      chain-size (k.joint 124 124) e e' es (omega arith) (expr-size g b e h.1.0.0) (expr-size g b e' h.1.1.0.0)
      (tail-size g (k.joint 124 124) at_and b es (omega arith) h.1.1.1)
  expr-size g b (and_expr no_exprs) h = absurd h.0
  expr-size g b (and_expr (expr_then e no_exprs)) h = absurd h.0
  expr-size g b (and_expr (expr_then e (expr_then e' es))) h =
      chain-size (k.joint 38 38) e e' es (omega arith) (expr-size g b e h.1.0.0) (expr-size g b e' h.1.1.0.0)
      (tail-size g (k.joint 38 38) at_cmp b es (omega arith) h.1.1.1)
  expr-size g b (equal a c) h = omega (arith, size-join, expr-size g b a h.0.0, expr-size g b c h.1.0)
  expr-size g b (unequal a c) h = omega (arith, size-join, expr-size g b a h.0.0, expr-size g b c h.1.0)
  expr-size g b (ref_opaque o) h = omega arith
  expr-size g b (ref_expr true a) h = omega (arith, expr-size g b a h.0.0)
  expr-size g b (ref_expr false a) h = omega (arith, expr-size g b a h.0.0)
  expr-size g b (deref a) h = omega (arith, expr-size g b a h.0)
  expr-size g b (member a (m.Named i)) h = omega (arith, size-join, expr-size g b a h.0.0)
  expr-size g b (member a (m.Index l)) h = omega (arith, size-join, expr-size g b a h.0.0)
  expr-size g b (method_call a i no_exprs) h = omega (arith, size-join, expr-size g b a h.0.0)
  expr-size g b (method_call a i (expr_then e es)) h =
      omega (
        arith,
        size-join,
        size-join (expr_trees e) (tail k.comma es),
        expr-size g b a h.0.0,
        expr-size g true e h.1.1.0.0,
        tail-size g k.comma at_or true es (omega arith) h.1.1.1,
      )
  expr-size g b (map_expr a e) h = omega (arith, size-join, expr-size g b a h.0.0, expr-size g true e h.1)
  expr-size g b (map_err a o) h = omega (arith, size-join, expr-size g b a h.0.0)
  expr-size g b (question a) h = omega (arith, size-join, expr-size g b a h.0)
  expr-size g b (path_expr q p) h = omega (arith, any-path-size g q p h, any-path-some g q p h)
  expr-size g b (call q p no_exprs) h = omega (arith, size-join, any-path-size g q p h.0, any-path-some g q p h.0)
  expr-size g b (call q p (expr_then e es)) h =
      omega (
        arith,
        size-join,
        size-join (expr_trees e) (tail k.comma es),
        any-path-size g q p h.0,
        any-path-some g q p h.0,
        expr-size g true e h.1.0.0,
        tail-size g k.comma at_or true es (omega arith) h.1.1,
      )
  expr-size g b (build q p es) h = omega (arith, size-join, any-path-size g q p h.0, any-path-some g q p h.0, ended-size g es h.1.1)
  expr-size g b (build_named q p es) h =
      omega (arith, size-join, any-path-size g q p h.1.0, any-path-some g q p h.1.0, named-size g es h.1.1)
  expr-size g b (paren a) h = omega (arith, expr-size g true a h)
  expr-size g b (tuple no_exprs) h = omega arith
  expr-size g b (tuple (expr_then e es)) h =
      omega (
        arith,
        size-join (expr_trees e) (tail k.comma es),
        expr-size g true e h.1.0.0,
        tail-size g k.comma at_or true es (omega arith) h.1.1,
      )
  expr-size g b (opaque_call o a) h = omega (arith, expr-size g true a h.1)
  expr-size g b (str_expr l) h = omega arith
  expr-size g b (bool v) h = omega (arith, bool-some v)
  expr-size g b (match_expr a arms) h = omega (arith, size-join, expr-size g false a h.0, arms-size g arms h.1)
  expr-size g b (unsafe_expr a) h = omega (arith, expr-size g true a h)
  expr-size g b (write_expr i f) h = omega (arith, fmt-args-size f.args)
  expr-size g b (format_args f) h = omega (arith, fmt-args-size f.args)

  named-size : (g : LeafGrammar) (es : NamedExprs) → EachNamed g es → named_need es ≤ 1 + 5 * size (ended (each_named_expr es))
  named-size g no_named_exprs h = omega arith
  named-size g (named_expr_then i e es) h =
      omega (arith, size-join (expr_trees e) (join k.comma (ended (each_named_expr es))), expr-size g true e h.1.0, named-size g es h.1.1)

  maybe-size : (g : LeafGrammar) (x : MaybeExpr) → IsMaybe g x → maybe_need x ≤ 5 * size (maybe_trees x)
  maybe-size g no_expr h = omega arith
  maybe-size g (some_expr e) h = expr-size g true e h

  guard-size : (g : LeafGrammar) (x : MaybeExpr) → IsMaybe g x → maybe_need x ≤ 5 * size (guard_trees x)
  guard-size g no_expr h = omega arith
  guard-size g (some_expr e) h = omega (arith, expr-size g true e h)

  body-size : (g : LeafGrammar) (d : ArmBodyTree) → IsBody g d → body_need d ≤ 5 * size (body_trees d)
  body-size g (block_body d) h = omega (arith, block-size g d h)
  body-size g (expr_body e) h = expr-size g true e h

  stmt-size : (g : LeafGrammar) (x : StmtTree) → IsStmt g x → 1 + stmt_need x ≤ 5 * size (stmt_trees x)
  stmt-size g (let_stmt i e) h = omega (arith, size-join (expr_trees e) k.semicolon, expr-size g true e h.1)
  stmt-size g (check_stmt t) h = omega arith
  stmt-size g (import_stmt p) h = omega (arith, size-join (path_trees nowhere p), path-size p h)
  stmt-size g (do_stmt e) h = omega (arith, size-join (expr_trees e) k.semicolon, expr-size g true e h)
  stmt-size g (const_stmt i t base l) h = omega arith

  stmts-size : (g : LeafGrammar) (ss : StmtTrees) → AreStmts g ss → stmts_need ss ≤ 1 + 5 * size (stmts_trees ss)
  stmts-size g no_stmts h = omega arith
  stmts-size g (stmt_then x ss) h = omega (arith, size-join (stmt_trees x) (stmts_trees ss), stmt-size g x h.0, stmts-size g ss h.1)

  pub block-size : (g : LeafGrammar) (d : BlockTree) → IsBlock g d → block_need d ≤ 1 + 5 * size (inside_trees d)
  block-size g (block ss e) h = omega (arith, size-join (stmts_trees ss) (maybe_trees e), stmts-size g ss h.0, maybe-size g e h.1)

  arms-size : (g : LeafGrammar) (as' : ArmTrees) → AreArms g as' → arms_need as' ≤ 1 + 5 * size (arms_trees as')
  arms-size g no_arms h = omega arith
  arms-size g (arm_then no_patterns x d more) h = absurd h.0.0.0
  arms-size g (arm_then (pattern_then p ps) x d more) h =
      arm-size p ps x d more (pattern-size p h.0.0.1.0) (bars-size ps h.0.0.1.1) (guard-size g x h.0.1.0) (body-size g d h.0.1.1) (arms-size g more h.1)

  tail-size : (g : LeafGrammar) (sep : Trees) (l : Level) (b : Bool) (es : ExprTrees) → 1 ≤ size sep → Each g l b es →
      needs es ≤ 1 + 5 * size (tail sep es)
  tail-size g sep l b no_exprs s h = omega arith
  tail-size g sep l b (expr_then e es) s h = omega (arith, size-join, expr-size g b e h.0.0, tail-size g sep l b es s h.1)

  ended-size : (g : LeafGrammar) (es : ExprTrees) → Each g at_or true es → needs es ≤ 1 + 5 * size (ended (each_expr es))
  ended-size g no_exprs h = omega arith
  ended-size g (expr_then e es) h = omega (arith, size-join, expr-size g true e h.0.0, ended-size g es h.1)
