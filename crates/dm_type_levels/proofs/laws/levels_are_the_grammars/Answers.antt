-- The levels are the marks'.
use Rattle.dm_type_levels.proofs.Marked.{levels_are_marks, param_levels_are_marks, predicate_levels_are_marks}
use Rattle.dm_type_levels.proofs.laws.levels_are_the_grammars.Goals as goal

pub returns : goal.returns
returns c = record { types = levels_are_marks; params = param_levels_are_marks; predicates = predicate_levels_are_marks }
