use Rattle.dm_lexer.proofs.RowSteps.{word-found}
use Rattle.dm_lexer.proofs.rows.word_row.Goals as goal

pub returns-in-Some : goal.returns-in-Some
returns-in-Some c = rw c.word_of.ensures (word-found _ _ _ c.utf8.text c.requires.some c.in-Some.ensures)
