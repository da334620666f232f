-- What begins with a path that no `!` stands behind.
use Rattle.std.proofs.Common.{subst}
use Rattle.dm_ast.specs.Tree.{path_view}
use Rattle.dm_read_places.specs.declared.front.Sign.TheVariants as sign
use Rattle.dm_read_places.specs.Fronts.{is_sign, sign_next}
use Rattle.dm_read_places.specs.Reads.{Takes}
use Rattle.dm_read_leaves.specs.Leaves.{path_expr_view}
use Rattle.dm_read_bases.proofs.BaseSteps.{path_reads}
use Rattle.dm_read_bases.proofs.bases.Bases.with_path.Goals as goal

pub returns : goal.returns
returns g c =
    let old = c.args.place.now in
    let stays = subst (λ b. Takes (is_sign sign.Bangs) (sign_next sign.Bangs) old b c.take.new.self) c.if-take.false c.take.ensures in
    path_reads c.args.self.now.parts.fuel c.args.braces (path_view c.args.path) old c.take.new.self c.behind_path.new.place
    (path_expr_view c.plain_path.result) c.behind_path.result stays.0 stays.1 c.plain_path.ensures c.behind_path.ensures
