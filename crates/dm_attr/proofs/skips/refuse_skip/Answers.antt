use Rattle.dm_attr.specs.Skips.{skip_in}
use Rattle.dm_attr.proofs.OnceSteps.{none_given, none_passed}
use Rattle.dm_attr.proofs.skips.refuse_skip.Goals as goal

pub returns-in_err-found : goal.returns-in_err-found
returns-in_err-found c =
    none_passed skip_in c.args.name.now c.args.attrs.now c.in_err-found.field-0.0 c.in_err-found.ensures c.from_residual.result
    c.from_residual.ensures.1

pub returns : goal.returns
returns c =
    none_given skip_in c.args.name.now c.args.attrs.now c.in_ok-found.found c.refuse_found.result c.in_ok-found.ensures
    c.refuse_found.ensures
