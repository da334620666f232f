use Rattle.dm_replace.proofs.Twice.{twice_is_once}
use Rattle.dm_replace.proofs.SpelledParams.{spelled_twice_is_once}
use Rattle.dm_replace.proofs.laws.replaced_once.Goals as goal

pub returns-clause-other : goal.returns-clause-other
returns-clause-other c = twice_is_once

pub returns-clause-spelled : goal.returns-clause-spelled
returns-clause-spelled c = spelled_twice_is_once
