use Rattle.dm_lexer.proofs.RowSteps.{quoted-found, quoted-refused}
use Rattle.dm_lexer.proofs.rows.quoted_of.Goals as goal

pub returns-in-Some : goal.returns-in-Some
returns-in-Some c =
    rw c.literal_of.ensures (quoted-found _ _ _ _ c.utf8.text c.requires.some c.requires.begins c.in-Some.ensures)

pub returns-in-None : goal.returns-in-None
returns-in-None c = quoted-refused _ _ _ c.utf8.text c.requires.begins c.in-None.ensures
