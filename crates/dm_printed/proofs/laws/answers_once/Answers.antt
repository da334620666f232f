use Rattle.dm_printed.proofs.Deriving.{read-one, text-once, answers-once}
use Rattle.dm_printed.proofs.laws.answers_once.Goals as goal

pub returns-clause-declaration : goal.returns-clause-declaration
returns-clause-declaration c = read-one

pub returns-clause-text : goal.returns-clause-text
returns-clause-text c = text-once

pub returns-clause-answer : goal.returns-clause-answer
returns-clause-answer c = answers-once
