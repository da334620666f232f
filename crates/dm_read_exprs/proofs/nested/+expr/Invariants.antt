use Rattle.dm_read_exprs.proofs.nested.+expr.Given as goal

abbrev pub decreases-expr : goal.decreases-expr
decreases-expr l = l.wanted.room
