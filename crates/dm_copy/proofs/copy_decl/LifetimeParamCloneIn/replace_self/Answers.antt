use Rattle.std.proofs.lemmas.Result.{IfOk-at_ok}
use Rattle.dm_copy.proofs.Copies.{halves, same_list, maybe_listed_same}
use Rattle.dm_copy.proofs.Parts.{lifetime_param_made}
use Rattle.dm_copy.proofs.copy_decl.LifetimeParamCloneIn.replace_self.Goals as goal

pub returns : goal.returns
returns c =
    let head = halves _ _ _ _ c.in_ok-attrs.ensures.0 c.both.ensures c.clone_in-attrs.ensures c.clone_in-lifetime.ensures in
    let bounds = IfOk-at_ok _ c.in_ok-attrs.ensures.1 c.clone_in-bounds.ensures in
    lifetime_param_made c.args.self.now _ _ _ (same_list _ _ head.0) head.1 (maybe_listed_same _ _ bounds)
