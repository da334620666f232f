-- The predicates that stand for what the program lends.
use Rattle.dm_ast.specs.Tree.{ty_view}
use Rattle.dm_ast.specs.Declarations.{PredicateTree, predicate_view}
use Rattle.dm_bounds.specs.Needed.{Asking, bounded}
use Rattle.dm_bounds.specs.RightSide.{right_copies}
use Rattle.dm_where_clauses.specs.declared.needed.Predicate.{Predicate}
use Rattle.dm_where_clauses.specs.declared.needed.Predicate.TheVariants.{Declared, Needed, RightCopies}

-- where this is asked for
abbrev pub shown : Asking → Predicate → PredicateTree
shown a (Declared p) = predicate_view p.now
shown a (Needed t) = bounded (a.path (ty_view t.now)) (ty_view t.now)
shown a RightCopies = right_copies
