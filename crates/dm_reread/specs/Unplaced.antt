-- Implementations of the grammar with given tokens, ranges aside: what a reading answers of a text, whose tokens have ranges.
use Rattle.std.specs.Prelude.{◌≡◌, List, map, Option, Some, None}
use Rattle.dm_stream.specs.Trees.{Trees}
use Rattle.dm_lexer.specs.Written.{unplaced}
use Rattle.dm_output.specs.Output.{ItemTree}
use Rattle.dm_output.specs.Tokens.{in_turn, item_trees}
use Rattle.dm_reread.specs.Bare.{bare_item}
use Rattle.dm_reread.specs.ItemGrammar.{ItemGrammar, AreItems}

-- all of them without ranges
abbrev pub bare_items : List ItemTree → List ItemTree
bare_items is = map bare_item is

-- the implementations, one behind the other, have these tokens, ranges aside
abbrev pub HasTokens : List ItemTree → Trees → Type 0
HasTokens is ts = in_turn (map item_trees (bare_items is)) ≡ unplaced ts

-- and are of the grammar
pub record AreItemsOf (g : ItemGrammar) (is : List ItemTree) (ts : Trees) : Type 0 where
  pub are_items : AreItems g (bare_items is)
  pub has_tokens : HasTokens is ts

-- the only implementations of the grammar with these tokens, or nothing where there are none
abbrev pub IsAnswer : ItemGrammar → Trees → Option (List ItemTree) → Type 0
IsAnswer g ts None = (js : List ItemTree) → AreItemsOf g js ts → ⊥
IsAnswer g ts (Some is) = AreItemsOf g is ts × ((js : List ItemTree) → AreItemsOf g js ts → bare_items js ≡ bare_items is)
