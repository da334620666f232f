use Rattle.dm_type_levels.proofs.TypePasses.{qualified_passes, qualified_fails}
use Rattle.dm_type_levels.proofs.ty.path_expr.Goals as goal

pub returns-in_err-rest-in-Some : goal.returns-in_err-rest-in-Some
returns-in_err-rest-in-Some c =
    rw c.in-Some.is
    (qualified_fails c.args.level c.in-Some.qself c.args.path.now c.deref.result.now c.args.rest.now c.in_err-rest-in-Some.field-0.0
    c.from_residual.result c.deref.ensures c.in_err-rest-in-Some.ensures.gives c.from_residual.ensures.1)

pub returns-in_ok-rest-in-Some : goal.returns-in_ok-rest-in-Some
returns-in_ok-rest-in-Some c =
    rw c.in-Some.is
    (qualified_passes c.args.level c.in-Some.qself c.args.path.now c.deref.result.now c.as_slice-all.result.now c.args.rest.now
    c.in_ok-rest-in-Some.rest.now c.behind_self.result c.deref.ensures c.as_slice-all.ensures c.in_ok-rest-in-Some.ensures.gives
    (rw c.deref-in-Some.ensures at c.behind_self.ensures))
