-- Trees of the grammar with given tokens: what a reading answers.
use Rattle.std.specs.Prelude.{◌≡◌, true, List, map}
use Rattle.dm_stream.specs.Trees.{Trees}
use Rattle.dm_output.specs.Output.{ExprTree, BlockTree, ItemTree}
use Rattle.dm_output.specs.Tokens.{expr_trees, inside_trees, in_turn, item_trees}
use Rattle.dm_reread.specs.Leaves.{LeafGrammar}
use Rattle.dm_reread.specs.Grammar.{IsExpr, IsBlock}
use Rattle.dm_reread.specs.ItemGrammar.{ItemGrammar, AreItems}

pub record IsRead (g : LeafGrammar) (e : ExprTree) (ts : Trees) : Type 0 where
  pub is_expr : IsExpr g true e
  pub spells : expr_trees e ≡ ts

-- the inside of a block
pub record IsInside (g : LeafGrammar) (d : BlockTree) (ts : Trees) : Type 0 where
  pub is_block : IsBlock g d
  pub spells : inside_trees d ≡ ts

-- implementations, one behind the other
pub record AreReadItems (g : ItemGrammar) (is : List ItemTree) (ts : Trees) : Type 0 where
  pub are_items : AreItems g is
  pub spell : in_turn (map item_trees is) ≡ ts
