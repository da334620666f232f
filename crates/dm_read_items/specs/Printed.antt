-- What reading the text of implementations answers.
use Rattle.std.specs.Prelude.{◌≡◌, List, map, Option, Some}
use Rattle.dm_stream.specs.declared.error.Error.{Error}
use Rattle.dm_stream.specs.declared.error.Error.TheVariants.{NoMemory}
use Rattle.dm_lexer.specs.Written.{AllAreWritable, AreShallow}
use Rattle.dm_output.specs.Output.{ItemTree}
use Rattle.dm_output.specs.Tokens.{in_turn, item_trees, printed}
use Rattle.dm_levels.specs.Levels.{items_levels}
use Rattle.dm_reread.specs.Unplaced.{bare_items}
use Rattle.dm_reread.specs.ReadBack.{AreOutputItems}
use Rattle.dm_levels.specs.Low.{AllLow}
use Rattle.dm_read_items.specs.Reading.{IsAnswerTo, IsUnread}

-- implementations of the language whose tokens have texts of their own
pub record ArePrinted (is : List ItemTree) : Type 0 where
  pub are_items : AreOutputItems (bare_items is)
  pub writable : AllAreWritable (map item_trees is)

-- the answer has them, ranges aside
pub record IsReadAs (is : List ItemTree) (o : Option (List ItemTree)) : Type 0 where
  pub read : List ItemTree
  pub answered : o ≡ Some read
  pub same : bare_items read ≡ bare_items is

-- they are what their text is read as
abbrev pub PrintedReadsBack : Type 0
PrintedReadsBack = (is : List ItemTree) → ArePrinted is → (o : Option (List ItemTree)) → IsAnswerTo (printed is) o → IsReadAs is o

-- where no token of it stands inside more groups than are read, nor at a level over 128, it is refused for want of memory alone
abbrev pub PrintedIsRead : Type 0
PrintedIsRead =
    (is : List ItemTree) → ArePrinted is → AreShallow (in_turn (map item_trees is)) → AllLow (items_levels is) → (e : Error) →
    IsUnread (printed is) e → e ≡ NoMemory
