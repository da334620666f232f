use Rattle.dm_lexer.proofs.RowSteps.{lifetime-found, tick-refused, no-tick}
use Rattle.dm_lexer.proofs.rows.lifetime_of.Goals as goal

pub returns-in_default : goal.returns-in_default
returns-in_default c = tick-refused _ _ c.utf8.text c.requires.begins c.requires.no_char c.in_default.ensures

pub returns-in_default-first_char : goal.returns-in_default-first_char
returns-in_default-first_char c = absurd (no-tick _ c.in_default-first_char.ensures.chars c.requires.begins)

pub returns : goal.returns
returns c =
    rw c.lifetime_word.ensures
    (lifetime-found _ _ _ _ _ _ c.utf8.text c.in-Some-first_char.ensures.bytes c.in-Some-first_char.ensures.chars c.requires.begins c.requires.no_char
    c.in-Some.ensures c.run_size-size.ensures)
