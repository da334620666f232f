use Rattle.std.proofs.Common.{[]}
use Rattle.std.proofs.lemmas.Result.{IfOk-at_ok}
use Rattle.dm_ast.specs.declared.decl.LifetimeParam.{LifetimeParam}
use Rattle.dm_copy.proofs.Copies.{maybe_listed_same}
use Rattle.dm_copy.proofs.Parts.{lifetime_param_made}
use Rattle.dm_generics.proofs.parameters.bare_lifetime.Goals as goal

pub returns : goal.returns
returns c =
    let lifetime = IfOk-at_ok _ c.in_ok-lifetime.ensures.0 c.clone_in-lifetime.ensures in
    let bounds = maybe_listed_same _ _ (IfOk-at_ok _ c.in_ok-lifetime.ensures.1 c.clone_in.ensures) in
    let kept : LifetimeParam = record { attrs = []; lifetime = c.args.param.now.lifetime; bounds = c.args.param.now.bounds } in
    lifetime_param_made kept _ _ _ c.new.ensures lifetime bounds
