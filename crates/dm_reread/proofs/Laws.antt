-- What readers with a given fuel give.
use Rattle.std.specs.Prelude.{◌≡◌, ℕ, ◌≤◌, Bool, true, false, T, List, map, Some, None}
use Rattle.dm_stream.specs.Layout.{nowhere}
use Rattle.dm_stream.specs.Trees.{Trees, no_trees, join}
use Rattle.dm_ast.specs.Tree.{SegmentTrees}
use Rattle.dm_ast.specs.TypeTokens as syntax
use Rattle.dm_ast.specs.TypeTokens.{given, spaced, each_segment}
use Rattle.dm_output.specs.Output.{FmtArgTree, ExprTree, ExprTrees, NamedExprs, ArmTrees, BlockTree, PatternTree, PatternTrees, NamedPatterns}
use Rattle.dm_output.specs.Tokens as k
use Rattle.dm_output.specs.Tokens.{expr_trees, each_expr, ended, each_named_expr, arms_trees, inside_trees, pattern_trees, each_pattern, each_named, fmt_arg_trees}
use Rattle.dm_reread.specs.Next.{next}
use Rattle.dm_reread.specs.Leaves.{LeafGrammar, LeafLaws}
use Rattle.dm_reread.specs.Reading.{Posts, Readers}
use Rattle.dm_reread.specs.Grammar.{at_or, at_and, at_cmp, at_pre, Stops, Fits, ArePlain, IsExpr, Each, no_start, EndsPattern, IsPattern, ArePatterns, AreNamedPatterns, AreFmtArgs, EachNamed, AreArms, IsBlock}
use Rattle.dm_reread.specs.Need.{need, needs, segments_need, named_need, arms_need, block_need, pattern_need, patterns_need, named_patterns_need, fmt_args_need}
use Rattle.dm_reread.proofs.Passing.{EndsPath, ends_bars}
use Rattle.dm_reread.proofs.Posts.{posts_trees, ArePosts, posts_need}

abbrev pub tail : Trees → ExprTrees → Trees
tail between es = spaced between false (each_expr es)

abbrev pub colons_tail : SegmentTrees → Trees
colons_tail ss = spaced (syntax.colons nowhere) false (each_segment nowhere ss)

abbrev pub fmt_tail : List FmtArgTree → Trees
fmt_tail as' = spaced k.comma false (map fmt_arg_trees as')

abbrev pub bars_tail : PatternTrees → Trees
bars_tail ps = spaced (k.punct 124) false (each_pattern ps)

pub record Laws (g : LeafGrammar) (r : Readers) (n : ℕ) : Type 0 where
  pub leaf : LeafLaws g r.leaves
  pub expr : (b : Bool) (e : ExprTree) (rest : Trees) → IsExpr g b e → need e ≤ n → Stops at_or b (next rest) →
      r.expr b (join (expr_trees e) rest) ≡ Some (e, rest)
  pub pre : (b : Bool) (e : ExprTree) (rest : Trees) → IsExpr g b e → Fits at_pre e → need e ≤ n → Stops at_pre b (next rest) →
      r.pre b (join (expr_trees e) rest) ≡ Some (e, rest)
  pub ors : (b : Bool) (es : ExprTrees) (rest : Trees) → Each g at_and b es → needs es ≤ n → Stops at_or b (next rest) →
      r.ors b (join (tail (k.joint 124 124) es) rest) ≡ Some (es, rest)
  pub ands : (b : Bool) (es : ExprTrees) (rest : Trees) → Each g at_cmp b es → needs es ≤ n → Stops at_and b (next rest) →
      r.ands b (join (tail (k.joint 38 38) es) rest) ≡ Some (es, rest)
  pub args : (es : ExprTrees) → Each g at_or true es → needs es ≤ n → r.args (tail k.comma es) ≡ Some (es, false)
  pub ended_args : (es : ExprTrees) → Each g at_or true es → needs es ≤ n → r.args (join k.comma (ended (each_expr es))) ≡ Some (es, true)
  pub segments : (ss : SegmentTrees) (rest : Trees) → ArePlain ss → segments_need ss ≤ n → EndsPath (next rest) →
      r.segments (join (colons_tail ss) rest) ≡ Some (ss, rest)
  pub posts : (b : Bool) (ps : Posts) (rest : Trees) → ArePosts g ps → posts_need ps ≤ n → Stops at_pre b (next rest) →
      r.posts (join (posts_trees ps) rest) ≡ Some (ps, rest)
  pub fmt_args : (as' : List FmtArgTree) → AreFmtArgs g as' → fmt_args_need as' ≤ n → r.fmt_args (fmt_tail as') ≡ Some as'
  pub empty : r.expr true no_trees ≡ None
  pub refuses : (ts : Trees) → T (no_start (next ts)) → r.expr true ts ≡ None
  pub named_exprs : (es : NamedExprs) → EachNamed g es → named_need es ≤ n → r.named_exprs (ended (each_named_expr es)) ≡ Some es
  pub arms : (as' : ArmTrees) → AreArms g as' → arms_need as' ≤ n → r.arms (arms_trees as') ≡ Some as'
  pub block : (d : BlockTree) → IsBlock g d → block_need d ≤ n → r.block (inside_trees d) ≡ Some d
  pub pattern : (p : PatternTree) (rest : Trees) → IsPattern p → pattern_need p ≤ n → EndsPattern (next rest) →
      r.pattern (join (pattern_trees p) rest) ≡ Some (p, rest)
  pub bars : (ps : PatternTrees) (rest : Trees) → ArePatterns ps → patterns_need ps ≤ n → T (ends_bars (next rest)) →
      r.bars (join (bars_tail ps) rest) ≡ Some (ps, rest)
  pub patterns : (ps : PatternTrees) → ArePatterns ps → patterns_need ps ≤ n → r.patterns (ended (each_pattern ps)) ≡ Some ps
  pub named_patterns : (ps : NamedPatterns) (more : Bool) → AreNamedPatterns ps → named_patterns_need ps ≤ n →
      r.named_patterns (join (ended (each_named ps)) (given more (k.joint 46 46))) ≡ Some (ps, more)
  pub no_pattern : r.pattern no_trees ≡ None
