-- What the plain reader of the output language answers to any trees.
use Rattle.dm_stream.specs.Trees.{Trees}
use Rattle.dm_reread.specs.Unplaced.{IsAnswer}
use Rattle.dm_reread.specs.ReadBack.{item_grammar, read_output}

-- the only implementations of the grammar with the tokens of these trees, ranges aside, or nothing where there are none
abbrev pub ReadingAnswers : Type 0
ReadingAnswers = (ts : Trees) → IsAnswer item_grammar ts (read_output ts)
