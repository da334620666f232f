use Rattle.dm_lexer.proofs.RowSteps.{char-found}
use Rattle.dm_lexer.proofs.rows.tick_of.Goals as goal

pub returns-in-Some : goal.returns-in-Some
returns-in-Some c = rw c.literal_of.ensures (char-found _ _ _ c.utf8.text c.requires.some c.requires.begins c.in-Some.ensures)
