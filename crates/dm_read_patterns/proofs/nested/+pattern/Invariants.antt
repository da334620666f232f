use Rattle.dm_read_patterns.proofs.nested.+pattern.Given as goal

abbrev pub decreases-pattern : goal.decreases-pattern
decreases-pattern l = l.room
