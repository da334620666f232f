use Rattle.dm_lexer.proofs.Valued.{strings-valued}
use Rattle.dm_lexer.proofs.laws.strings_have_values.Goals as goal

pub returns : goal.returns
returns c = strings-valued
