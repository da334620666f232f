-- What holds of readers whose answers are in the grammar and have the tokens that were read.
use Rattle.std.specs.Prelude.{◌≡◌, Bool, true, false, List, Some}
use Rattle.dm_stream.specs.Trees.{Trees, join}
use Rattle.dm_ast.specs.Tree.{SegmentTrees}
use Rattle.dm_output.specs.Output.{FmtArgTree, ExprTree, ExprTrees, NamedExprs, ArmTrees, BlockTree, PatternTree, PatternTrees, NamedPatterns}
use Rattle.dm_output.specs.Tokens as k
use Rattle.dm_ast.specs.TypeTokens.{given}
use Rattle.dm_output.specs.Tokens.{expr_trees, each_expr, ended, each_named_expr, arms_trees, inside_trees, pattern_trees, each_pattern, each_named}
use Rattle.dm_reread.specs.Leaves.{LeafGrammar}
use Rattle.dm_reread.specs.Reading.{Posts, Readers}
use Rattle.dm_reread.specs.Grammar.{at_or, at_and, at_cmp, at_pre, Fits, ArePlain, IsExpr, Each, IsPattern, ArePatterns, AreNamedPatterns, AreFmtArgs, EachNamed, AreArms, IsBlock}
use Rattle.dm_reread.proofs.Posts.{posts_trees, ArePosts}
use Rattle.dm_reread.proofs.Laws.{tail, colons_tail, fmt_tail, bars_tail}
use Rattle.dm_read_laws.specs.Sound.{IsBare, Spells, SoundLeaves}

-- arguments behind the first, and whether a comma ends them
abbrev pub args_tail : ExprTrees → Bool → Trees
args_tail es false = tail k.comma es
args_tail es true = join k.comma (ended (each_expr es))

pub record Sound (g : LeafGrammar) (r : Readers) : Type 0 where
  pub leaf : SoundLeaves g r.leaves
  pub expr : (b : Bool) (ts us : Trees) (e : ExprTree) → IsBare ts → r.expr b ts ≡ Some (e, us) → IsExpr g b e × Spells (expr_trees e) ts us
  pub pre : (b : Bool) (ts us : Trees) (e : ExprTree) → IsBare ts → r.pre b ts ≡ Some (e, us) →
      (IsExpr g b e × Fits at_pre e) × Spells (expr_trees e) ts us
  pub ors : (b : Bool) (ts us : Trees) (es : ExprTrees) → IsBare ts → r.ors b ts ≡ Some (es, us) →
      Each g at_and b es × Spells (tail (k.joint 124 124) es) ts us
  pub ands : (b : Bool) (ts us : Trees) (es : ExprTrees) → IsBare ts → r.ands b ts ≡ Some (es, us) →
      Each g at_cmp b es × Spells (tail (k.joint 38 38) es) ts us
  pub args : (ts : Trees) (es : ExprTrees) (last : Bool) → IsBare ts → r.args ts ≡ Some (es, last) →
      Each g at_or true es × (ts ≡ args_tail es last)
  pub segments : (ts us : Trees) (ss : SegmentTrees) → IsBare ts → r.segments ts ≡ Some (ss, us) → ArePlain ss × Spells (colons_tail ss) ts us
  pub posts : (ts us : Trees) (ps : Posts) → IsBare ts → r.posts ts ≡ Some (ps, us) → ArePosts g ps × Spells (posts_trees ps) ts us
  pub fmt_args : (ts : Trees) (as' : List FmtArgTree) → IsBare ts → r.fmt_args ts ≡ Some as' → AreFmtArgs g as' × (ts ≡ fmt_tail as')
  pub named_exprs : (ts : Trees) (es : NamedExprs) → IsBare ts → r.named_exprs ts ≡ Some es →
      EachNamed g es × (ts ≡ ended (each_named_expr es))
  pub arms : (ts : Trees) (as' : ArmTrees) → IsBare ts → r.arms ts ≡ Some as' → AreArms g as' × (ts ≡ arms_trees as')
  pub block : (ts : Trees) (d : BlockTree) → IsBare ts → r.block ts ≡ Some d → IsBlock g d × (ts ≡ inside_trees d)
  pub pattern : (ts us : Trees) (p : PatternTree) → IsBare ts → r.pattern ts ≡ Some (p, us) → IsPattern p × Spells (pattern_trees p) ts us
  pub bars : (ts us : Trees) (ps : PatternTrees) → IsBare ts → r.bars ts ≡ Some (ps, us) → ArePatterns ps × Spells (bars_tail ps) ts us
  pub patterns : (ts : Trees) (ps : PatternTrees) → IsBare ts → r.patterns ts ≡ Some ps → ArePatterns ps × (ts ≡ ended (each_pattern ps))
  pub named_patterns : (ts : Trees) (ps : NamedPatterns) (more : Bool) → IsBare ts → r.named_patterns ts ≡ Some (ps, more) →
      AreNamedPatterns ps × (ts ≡ join (ended (each_named ps)) (given more (k.joint 46 46)))
