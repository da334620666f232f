use Rattle.std.proofs.Common.{sym, subst}
use Rattle.dm_ast.specs.Implementors.{predicates_of}
use Rattle.dm_bounds.specs.Needed.{needed}
use Rattle.dm_bounds.specs.Covering.{Covers}
use Rattle.dm_bounds.proofs.CoveringLaws.{needed-covers, covers-behind}
use Rattle.dm_partial_eq.specs.Heads.{partial_eq_path}
use Rattle.dm_partial_eq.proofs.laws.predicates_cover_calls.Goals as goal

pub returns : goal.returns
returns c = λ d item h.
    subst (Covers partial_eq_path d) (sym h.predicates) (covers-behind partial_eq_path d (predicates_of d) (needed partial_eq_path d) (needed-covers partial_eq_path d))
