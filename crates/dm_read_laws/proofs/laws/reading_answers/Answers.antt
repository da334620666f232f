-- The plain reader answers by the grammar.
use Rattle.dm_read_laws.proofs.ReadingAnswers.{answers}
use Rattle.dm_read_laws.proofs.laws.reading_answers.Goals as goal

pub returns : goal.returns
returns c = answers
