-- Rows of statements, arms and fields give the same of the same tokens, ranges aside, over readers that do; and so do readers of any fuel.
use Rattle.std.specs.Prelude.{◌≡◌, ℕ, zero, suc, ◌+◌, ◌*◌, true, option_map, Some, refl}
use Rattle.std.proofs.Common.{ap, ◌∙◌}
use Rattle.dm_stream.specs.declared.tokens.Ident.{Ident}
use Rattle.dm_stream.specs.Trees.{Trees, no_trees, token, group}
use Rattle.dm_lexer.specs.Written.{unplaced}
use Rattle.dm_ast.specs.Keywords.{is_name}
use Rattle.dm_output.specs.Output.{PatternTrees, pattern_then, ExprTree, expr_body, StmtTree, let_stmt, check_stmt, import_stmt, do_stmt, const_stmt, BlockTree, block}
use Rattle.dm_type_eq.specs.Unplaced.{unplaced_ident}
use Rattle.dm_reread.specs.Bare.{bare_patterns, bare_expr, bare_named_exprs, bare_maybe, bare_arms, bare_body, bare_stmt, bare_block}
use Rattle.dm_reread.specs.BareReading.{bare_next, bare_answer, NaturalLeaves}
use Rattle.dm_reread.specs.Next.{k_let, k_use, k_const, k_if, k_wild, Next, ended, colon, semicolon, assigns, in_parens, in_braces, literal, a_name, a_word, next}
use Rattle.dm_reread.specs.Leaves.{Leaves}
use Rattle.dm_reread.specs.Reading.{Readers, then, whole, stmt_first, stmt_ended, let_is, check_from, let_from, use_from, base_from, const_is, const_from, after_stmt, read_block, read_guard, read_body, arm_from, some_arm, read_arms, named_value, read_named_exprs, step, refuses, readers}
use Rattle.dm_reread.specs.Whole.{size, read_expr, read_whole, read_inside}
use Rattle.dm_reread.proofs.BareNext.{next-bare, size-bare, some-bare, passing, map-cond, chained, provided-bare, whole-bare, comma-bare, leads-bare, assigns-bare, colon-bare, plus-bare, as-bare, wild-bare, int-bare}
use Rattle.dm_reread.proofs.BareRows.{Natural, more-segments-bare, plain-path-bare, more-args-bare, more-fmt-args-bare, pattern-bare, patterns-bare, named-patterns-bare, bars-bare}
use Rattle.dm_reread.proofs.BareExprRows.{posts-bare, pre-bare, or-bare, more-ands-bare, more-ors-bare}

first-bare : (x : StmtTree) (d : BlockTree) → bare_block (stmt_first x d) ≡ stmt_first (bare_stmt x) (bare_block d)
first-bare x (block ss e) = refl

base-bare : (n : Next) → base_from (bare_next n) ≡ bare_answer (option_map unplaced) (base_from n)
base-bare (in_parens inside ts) = simp (some-bare, map-cond)
base-bare (literal l ts) = simp map-cond
base-bare _ = refl

module _ (r : Readers) (N : Natural r) where
  -- ---- statements and blocks

  ended-bare : (x : StmtTree) (n : Next) → stmt_ended r (bare_stmt x) (bare_next n) ≡ option_map bare_block (stmt_ended r x n)
  ended-bare x (semicolon ts) = simp (N.block, first-bare, passing)
  ended-bare x _ = refl

  -- what stands behind a statement
  behind-bare : (x : StmtTree) (ts : Trees) →
      stmt_ended r (bare_stmt x) (next (unplaced ts)) ≡ option_map bare_block (stmt_ended r x (next ts))
  behind-bare x ts = rw (next-bare ts) (ended-bare x (next ts))

  let-is-bare : (i : Ident) (n : Next) → let_is r (unplaced_ident i) (bare_next n) ≡ option_map bare_block (let_is r i n)
  let-is-bare i (assigns ts) = chained _ _ _ _ _ _ (N.expr true ts) (λ a. behind-bare (let_stmt i a.0) a.1)
  let-is-bare i _ = refl

  check-bare : (n : Next) → check_from r (bare_next n) ≡ option_map bare_block (check_from r n)
  check-bare (colon ts) = chained _ _ _ _ _ _ (N.leaves.type ts) (λ a. behind-bare (check_stmt a.0) a.1)
  check-bare _ = refl

  let-bare : (n : Next) → let_from r (bare_next n) ≡ option_map bare_block (let_from r n)
  let-bare (a_name i ts) = provided-bare _ (is_name i) _ _ (rw (next-bare ts) (let-is-bare i (next ts)))
  let-bare (a_word k_wild ts) = rw (next-bare ts) (check-bare (next ts))
  let-bare _ = refl

  use-bare : (n : Next) → use_from r (bare_next n) ≡ option_map bare_block (use_from r n)
  use-bare n =
      chained _ _ _ _ _ _ (plain-path-bare r N n) (λ p. rw (next-bare p.1) (chained _ _ _ _ _ _ (as-bare (next p.1)) (λ us.
      rw (next-bare us) (chained _ _ _ _ _ _ (wild-bare (next us)) (λ vs. behind-bare (import_stmt p.0) vs)))))

  const-is-bare : (i : Ident) (ts : Trees) → const_is r (unplaced_ident i) (unplaced ts) ≡ option_map bare_block (const_is r i ts)
  const-is-bare i ts =
      chained _ _ _ _ _ _ (N.leaves.type ts) (λ a. rw (next-bare a.1) (chained _ _ _ _ _ _ (assigns-bare (next a.1)) (λ us.
      rw (next-bare us) (chained _ _ _ _ _ _ (base-bare (next us)) (λ o.
      rw (next-bare o.1) (chained _ _ _ _ _ _ (plus-bare (next o.1)) (λ vs.
      rw (next-bare vs) (chained _ _ _ _ _ _ (int-bare (next vs)) (λ l. behind-bare (const_stmt i a.0 o.0 l.0) l.1)))))))))

  const-bare : (n : Next) → const_from r (bare_next n) ≡ option_map bare_block (const_from r n)
  const-bare (a_name i ts) =
      provided-bare _ (is_name i) _ _ (rw (next-bare ts) (chained _ _ _ _ _ _ (colon-bare (next ts)) (λ us. const-is-bare i us)))
  const-bare _ = refl

  after-bare : (e : ExprTree) (n : Next) → after_stmt r (bare_expr e) (bare_next n) ≡ option_map bare_block (after_stmt r e n)
  after-bare e ended = refl
  after-bare e n = ended-bare (do_stmt e) n

  do-bare : (ts : Trees) →
      then (r.expr true (unplaced ts)) (λ a. after_stmt r a.0 (next a.1)) ≡
      option_map bare_block (then (r.expr true ts) (λ a. after_stmt r a.0 (next a.1)))
  do-bare ts = simp (N.expr, after-bare, passing)

  block-bare : (ts : Trees) (n : Next) → read_block r (unplaced ts) (bare_next n) ≡ option_map bare_block (read_block r ts n)
  block-bare ts ended = refl
  block-bare ts (a_word k_let us) = rw (next-bare us) (let-bare (next us))
  block-bare ts (a_word k_use us) = rw (next-bare us) (use-bare (next us))
  block-bare ts (a_word k_const us) = rw (next-bare us) (const-bare (next us))
  block-bare ts _ = do-bare ts

  -- ---- arms

  guard-bare : (ts : Trees) (n : Next) → read_guard r (unplaced ts) (bare_next n) ≡ bare_answer bare_maybe (read_guard r ts n)
  guard-bare ts (a_word k_if us) = simp (N.expr, passing)
  guard-bare ts _ = refl

  expr-body-bare : (ts : Trees) →
      then (r.expr true (unplaced ts)) (λ a. Some (expr_body a.0, a.1)) ≡
      bare_answer bare_body (then (r.expr true ts) (λ a. Some (expr_body a.0, a.1)))
  expr-body-bare ts = simp (N.expr, passing)

  body-bare : (ts : Trees) (n : Next) → read_body r (unplaced ts) (bare_next n) ≡ bare_answer bare_body (read_body r ts n)
  body-bare ts (in_braces inside us) = simp (N.block, passing)
  body-bare ts _ = expr-body-bare ts

  arm-from-bare : (ps : PatternTrees) (ts : Trees) → arm_from r (bare_patterns ps) (unplaced ts) ≡ option_map bare_arms (arm_from r ps ts)
  arm-from-bare ps ts = simp (guard-bare, leads-bare, body-bare, comma-bare, N.arms, passing)

  some-arm-bare : (ts : Trees) → some_arm r (unplaced ts) ≡ option_map bare_arms (some_arm r ts)
  some-arm-bare ts =
      chained _ _ _ _ _ _ (N.pattern ts) (λ a. chained _ _ _ _ _ _ (N.bars a.1) (λ s. arm-from-bare (pattern_then a.0 s.0) s.1))

  arms-bare : (ts : Trees) → read_arms r (unplaced ts) ≡ option_map bare_arms (read_arms r ts)
  arms-bare no_trees = refl
  arms-bare (token k ts) = some-arm-bare (token k ts)
  arms-bare (group d from inside upto ts) = some-arm-bare (group d from inside upto ts)

  -- ---- fields with values

  named-value-bare : (i : Ident) (n : Next) → named_value r (unplaced_ident i) (bare_next n) ≡ option_map bare_named_exprs (named_value r i n)
  named-value-bare i (colon ts) = simp (N.expr, N.named_exprs, comma-bare, passing)
  named-value-bare i _ = refl

  named-exprs-bare : (n : Next) → read_named_exprs r (bare_next n) ≡ option_map bare_named_exprs (read_named_exprs r n)
  named-exprs-bare ended = refl
  named-exprs-bare (a_name i ts) = provided-bare _ (is_name i) _ _ (rw (next-bare ts) (named-value-bare i (next ts)))
  named-exprs-bare _ = refl

  -- ---- with more fuel

  natural-step : Natural (step r)
  natural-step = record {
    leaves = N.leaves;
    expr = or-bare r N;
    pre = λ b ts. rw (next-bare ts) (pre-bare r N b ts (next ts));
    ors = λ b ts. rw (next-bare ts) (more-ors-bare r N b ts (next ts));
    ands = λ b ts. rw (next-bare ts) (more-ands-bare r N b ts (next ts));
    args = λ ts. rw (next-bare ts) (more-args-bare r N (next ts));
    segments = λ ts. rw (next-bare ts) (more-segments-bare r N ts (next ts));
    posts = λ ts. rw (next-bare ts) (posts-bare r N ts (next ts));
    fmt_args = λ ts. rw (next-bare ts) (more-fmt-args-bare r N (next ts));
    named_exprs = λ ts. rw (next-bare ts) (named-exprs-bare (next ts));
    arms = arms-bare;
    block = λ ts. rw (next-bare ts) (block-bare ts (next ts));
    pattern = λ ts. rw (next-bare ts) (pattern-bare r N (next ts));
    bars = λ ts. rw (next-bare ts) (bars-bare r N ts (next ts));
    patterns = patterns-bare r N;
    named_patterns = λ ts. rw (next-bare ts) (named-patterns-bare r N (next ts));
  }

natural-none : (l : Leaves) → NaturalLeaves l → Natural (refuses l)
natural-none l N = record {
  leaves = N;
  expr = λ b ts. refl;
  pre = λ b ts. refl;
  ors = λ b ts. refl;
  ands = λ b ts. refl;
  args = λ ts. refl;
  segments = λ ts. refl;
  posts = λ ts. refl;
  fmt_args = λ ts. refl;
  named_exprs = λ ts. refl;
  arms = λ ts. refl;
  block = λ ts. refl;
  pattern = λ ts. refl;
  bars = λ ts. refl;
  patterns = λ ts. refl;
  named_patterns = λ ts. refl;
}

-- readers of any fuel give the same of the same tokens, ranges aside
pub natural-readers : (l : Leaves) → NaturalLeaves l → (n : ℕ) → Natural (readers l n)
unfolding readers
natural-readers l N zero = natural-none l N
natural-readers l N (suc n) = natural-step (readers l n) (natural-readers l N n)

-- with the fuel of the text

pub read-expr-bare : (l : Leaves) → NaturalLeaves l → (ts : Trees) → read_expr l (unplaced ts) ≡ bare_answer bare_expr (read_expr l ts)
read-expr-bare l N ts =
    ap (λ n. (readers l (5 * n)).expr true (unplaced ts)) (size-bare ts) ∙ (natural-readers l N (5 * size ts)).expr true ts

pub read-whole-bare : (l : Leaves) → NaturalLeaves l → (ts : Trees) → read_whole l (unplaced ts) ≡ option_map bare_expr (read_whole l ts)
read-whole-bare l N ts = ap whole (read-expr-bare l N ts) ∙ whole-bare bare_expr (read_expr l ts)

pub read-inside-bare : (l : Leaves) → NaturalLeaves l → (ts : Trees) →
    read_inside l (unplaced ts) ≡ option_map bare_block (read_inside l ts)
read-inside-bare l N ts =
    ap (λ n. (readers l (1 + 5 * n)).block (unplaced ts)) (size-bare ts) ∙ (natural-readers l N (1 + 5 * size ts)).block ts
