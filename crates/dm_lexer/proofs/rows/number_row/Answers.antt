use Rattle.std.proofs.Common.{◌≡◌, true}
use Rattle.std.specs.Str.{chars}
use Rattle.dm_lexer.specs.Numbers.{begins_digit}
use Rattle.dm_lexer.proofs.RowSteps.{number-found}
use Rattle.dm_lexer.proofs.rows.number_row.Goals as goal

pub returns-in-Some : goal.returns-in-Some
returns-in-Some c =
    let b : begins_digit (chars c.args.text.now) ≡ true = cc in
    rw c.literal_of.ensures (number-found _ _ _ c.utf8.text c.requires.some b c.in-Some.ensures)
