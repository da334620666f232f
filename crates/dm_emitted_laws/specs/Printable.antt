-- What it takes that an implementation comes back from its text, and is never refused there but for want of memory.
use Rattle.std.specs.Prelude.{[], ◌∷◌, map}
use Rattle.dm_lexer.specs.Written.{AllAreWritable, AreShallow}
use Rattle.dm_output.specs.Output.{ItemTree}
use Rattle.dm_output.specs.Tokens.{in_turn, item_trees}
use Rattle.dm_levels.specs.Levels.{items_levels}
use Rattle.dm_levels.specs.Low.{AllLow}
use Rattle.dm_reread.specs.Bare.{bare_item}
use Rattle.dm_reread.specs.ReadBack.{AreOutputItems}

-- it is of the output language, ranges aside; a text can have its tokens; none of them stands inside more groups than are read, nor at a level
-- over 128
pub record IsPrintable (i : ItemTree) : Type 0 where
  pub is_item : AreOutputItems (bare_item i ∷ [])
  pub writable : AllAreWritable (map item_trees (i ∷ []))
  pub shallow : AreShallow (in_turn (map item_trees (i ∷ [])))
  pub low : AllLow (items_levels (i ∷ []))
