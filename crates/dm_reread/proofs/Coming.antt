-- Every tree of the grammar comes back from its tokens: the induction over fuel.
use Rattle.std.specs.Prelude.{ℕ, zero, suc, ◌≤◌, List, [], refl}
use native.Mathlib.Omega.{arith}
use Rattle.dm_ast.specs.Tree.{SegmentTrees, no_segments}
use Rattle.dm_output.specs.Output.{FmtArgTree, ExprTree, or_expr, ExprTrees, no_exprs, NamedExprs, no_named_exprs, ArmTrees, no_arms, StmtTrees, no_stmts, BlockTree, block, PatternTree, wild, PatternTrees, no_patterns, NamedPatterns, no_named}
use Rattle.dm_reread.specs.Leaves.{LeafGrammar, Leaves, LeafLaws}
use Rattle.dm_reread.specs.Reading.{Readers, readers, refuses, step, Posts, no_posts}
use Rattle.dm_reread.specs.Need.{need, needs, segments_need, fmt_args_need, named_need, arms_need, stmts_need, block_need, pattern_need, patterns_need, named_patterns_need}
use Rattle.dm_reread.proofs.Posts.{posts_need}
use Rattle.dm_reread.proofs.Laws.{Laws}
use Rattle.dm_reread.proofs.PathRows.{more-segments-row, args-row, ended-row, fmt-args-row}
use Rattle.dm_reread.proofs.PostRows.{posts-row}
use Rattle.dm_reread.proofs.OperatorRows.{pre-row, ands-row, ors-row, or-row}
use Rattle.dm_reread.proofs.PatternRows.{pattern-row, bars-row, patterns-row, named-patterns-row}
use Rattle.dm_reread.proofs.BlockRows.{refuses-row, block-row}
use Rattle.dm_reread.proofs.ArmRows.{named-exprs-row, arms-row}

-- each tree wants fuel
no-expr : (e : ExprTree) → need e ≤ 0 → ⊥
no-expr (or_expr es) m = omega arith
no-expr _ m = omega arith

no-exprs : (es : ExprTrees) → needs es ≤ 0 → ⊥
no-exprs no_exprs m = omega arith
no-exprs _ m = omega arith

no-segments : (ss : SegmentTrees) → segments_need ss ≤ 0 → ⊥
no-segments no_segments m = omega arith
no-segments _ m = omega arith

no-fmt-args : (as' : List FmtArgTree) → fmt_args_need as' ≤ 0 → ⊥
no-fmt-args [] m = omega arith
no-fmt-args _ m = omega arith

no-named : (x : NamedExprs) → named_need x ≤ 0 → ⊥
no-named no_named_exprs m = omega arith
no-named _ m = omega arith

no-posts : (x : Posts) → posts_need x ≤ 0 → ⊥
no-posts no_posts m = omega arith
no-posts _ m = omega arith

no-arms : (x : ArmTrees) → arms_need x ≤ 0 → ⊥
no-arms no_arms m = omega arith
no-arms _ m = omega arith

stmts-some : (x : StmtTrees) → 1 ≤ stmts_need x
stmts-some no_stmts = omega arith
stmts-some _ = omega arith

no-block : (x : BlockTree) → block_need x ≤ 0 → ⊥
no-block (block ss e) m = omega (arith, m, stmts-some ss)

no-pattern : (x : PatternTree) → pattern_need x ≤ 0 → ⊥
no-pattern wild m = omega arith
no-pattern _ m = omega arith

no-patterns : (x : PatternTrees) → patterns_need x ≤ 0 → ⊥
no-patterns no_patterns m = omega arith
no-patterns _ m = omega arith

no-named-patterns : (x : NamedPatterns) → named_patterns_need x ≤ 0 → ⊥
no-named-patterns no_named m = omega arith
no-named-patterns _ m = omega arith

start : (g : LeafGrammar) (l : Leaves) → LeafLaws g l → Laws g (refuses l) 0
start g l L = record {
  leaf = L;
  expr = λ b e rest h m s. absurd (no-expr e m);
  pre = λ b e rest h f m s. absurd (no-expr e m);
  ors = λ b es rest h m s. absurd (no-exprs es m);
  ands = λ b es rest h m s. absurd (no-exprs es m);
  args = λ es h m. absurd (no-exprs es m);
  ended_args = λ es h m. absurd (no-exprs es m);
  segments = λ ss rest h m s. absurd (no-segments ss m);
  posts = λ b ps rest h m s. absurd (no-posts ps m);
  fmt_args = λ as' h m. absurd (no-fmt-args as' m);
  empty = refl;
  refuses = λ ts h. refl;
  named_exprs = λ es h m. absurd (no-named es m);
  arms = λ as' h m. absurd (no-arms as' m);
  block = λ d h m. absurd (no-block d m);
  pattern = λ p rest h m s. absurd (no-pattern p m);
  bars = λ ps rest h m s. absurd (no-patterns ps m);
  patterns = λ ps h m. absurd (no-patterns ps m);
  named_patterns = λ ps more h m. absurd (no-named-patterns ps m);
  no_pattern = refl;
}

further : (g : LeafGrammar) (r : Readers) (n : ℕ) → Laws g r n → Laws g (step r) (suc n)
further g r n L = record {
  leaf = L.leaf;
  expr = or-row g r n L;
  pre = pre-row g r n L;
  ors = ors-row g r n L;
  ands = ands-row g r n L;
  args = args-row g r n L;
  ended_args = ended-row g r n L;
  segments = more-segments-row g r n L;
  posts = posts-row g r n L;
  fmt_args = fmt-args-row g r n L;
  empty = refl;
  refuses = refuses-row r;
  named_exprs = named-exprs-row g r n L;
  arms = arms-row g r n L;
  block = block-row g r n L;
  pattern = pattern-row g r n L;
  bars = bars-row g r n L;
  patterns = patterns-row g r n L;
  named_patterns = named-patterns-row g r n L;
  no_pattern = refl;
}

pub laws : (g : LeafGrammar) (l : Leaves) → LeafLaws g l → (n : ℕ) → Laws g (readers l n) n
unfolding readers
laws g l L zero = start g l L
laws g l L (suc n) = further g (readers l n) n (laws g l L n)
