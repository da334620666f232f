-- The output language, and its reader: the implementations of the grammar, read from their tokens.
use Rattle.std.specs.Prelude.{◌≡◌, List, map, Option, Some}
use Rattle.dm_stream.specs.Trees.{Trees}
use Rattle.dm_output.specs.Output.{ItemTree}
use Rattle.dm_output.specs.Tokens.{in_turn, item_trees}
use Rattle.dm_reread.specs.Leaves.{Leaves, LeafGrammar}
use Rattle.dm_reread.specs.Items.{ItemLeaves, read_items}
use Rattle.dm_reread.specs.ItemGrammar.{ItemGrammar, IsItem, AreItems}
use Rattle.dm_reread.specs.TypeLeaves.{IsType}
use Rattle.dm_reread.specs.PathLeaves.{IsQualified}
use Rattle.dm_reread.specs.RunLeaves.{IsRun}
use Rattle.dm_reread.specs.HeadLeaves.{IsHead}
use Rattle.dm_reread.specs.ExactLeaves.{exact_type, exact_qualified, exact_head, closed_run}

-- the readers of types, qualified paths and values
abbrev pub leaves : Leaves
leaves = record { type = exact_type; qualified = exact_qualified; run = closed_run }

-- and of heads
abbrev pub item_leaves : ItemLeaves
item_leaves = record { parts = leaves; head = exact_head }

-- the types, paths and values of the grammar
abbrev pub leaf_grammar : LeafGrammar
leaf_grammar = record { IsType = IsType; IsQualified = IsQualified; IsRun = IsRun }

-- and its heads
abbrev pub item_grammar : ItemGrammar
item_grammar = record { parts = leaf_grammar; IsHead = IsHead }

-- an implementation of the output language, and several
abbrev pub IsOutputItem : ItemTree → Type 0
IsOutputItem i = IsItem item_grammar i

abbrev pub AreOutputItems : List ItemTree → Type 0
AreOutputItems is = AreItems item_grammar is

-- their tokens, one implementation behind the other
abbrev pub items_trees : List ItemTree → Trees
items_trees is = in_turn (map item_trees is)

-- implementations, to the end of the trees
abbrev pub read_output : Trees → Option (List ItemTree)
read_output ts = read_items item_leaves ts

-- implementations are read from their tokens
abbrev pub ItemsComeBack : Type 0
ItemsComeBack = (is : List ItemTree) → AreOutputItems is → read_output (items_trees is) ≡ Some is

-- no others have these tokens
abbrev pub OneReading : Type 0
OneReading = (is js : List ItemTree) → AreOutputItems is → AreOutputItems js → items_trees is ≡ items_trees js → is ≡ js
