-- What stands behind a qualified path.
use Rattle.dm_read_leaves.specs.Leaves.{path_expr_view}
use Rattle.dm_read_bases.proofs.BaseSteps.{qualified_reads}
use Rattle.dm_read_bases.proofs.bases.Bases.qualified_base.Goals as goal

pub returns : goal.returns
returns g c =
    qualified_reads c.args.self.now.parts.fuel c.args.braces c.args.place.now c.qualified.new.place c.behind_path.new.place
    (path_expr_view c.in_ok-found.found) c.behind_path.result c.in_ok-found.ensures c.behind_path.ensures
