-- Leaves that read just what is in the grammar, of trees without ranges.
use Rattle.std.specs.Prelude.{◌≡◌, Bool, true, false, T, Some}
use Rattle.dm_stream.specs.Trees.{Trees, join}
use Rattle.dm_lexer.specs.Written.{unplaced}
use Rattle.dm_ast.specs.Tree.{TypeTree, MaybeSelf, no_self, some_self, PathTree}
use Rattle.dm_ast.specs.TypeTokens.{type_trees}
use Rattle.dm_output.specs.Tokens.{path_expr_trees}
use Rattle.dm_reread.specs.Leaves.{Leaves, LeafGrammar}
use Rattle.dm_reread.specs.Items.{HeadTree, between_trees, ItemLeaves}
use Rattle.dm_reread.specs.ItemGrammar.{ItemGrammar}

-- trees without ranges
abbrev pub IsBare : Trees → Type 0
IsBare ts = unplaced ts ≡ ts

-- the first trees are these, and the others are left
abbrev pub Spells : Trees → Trees → Trees → Type 0
Spells own ts us = ts ≡ join own us

abbrev pub is_qualified : MaybeSelf → Bool
is_qualified no_self = false
is_qualified (some_self t position) = true

-- what the leaves read is in the grammar, and has the tokens that were read
pub record SoundLeaves (g : LeafGrammar) (l : Leaves) : Type 0 where
  pub type : (ts us : Trees) (t : TypeTree) → IsBare ts → l.type ts ≡ Some (t, us) → g.IsType t × Spells (type_trees t) ts us
  pub qualified : (ts us : Trees) (q : MaybeSelf) (p : PathTree) → IsBare ts → l.qualified ts ≡ Some ((q, p), us) →
      (T (is_qualified q) × g.IsQualified q p) × Spells (path_expr_trees q p) ts us
  pub run : (ts us v : Trees) → IsBare ts → l.run ts ≡ Some (v, us) → g.IsRun v × Spells v ts us

pub record SoundItems (g : ItemGrammar) (l : ItemLeaves) : Type 0 where
  pub parts : SoundLeaves g.parts l.parts
  pub head : (ts us : Trees) (h : HeadTree) → IsBare ts → l.head ts ≡ Some (h, us) → g.IsHead h × Spells (between_trees h) ts us
