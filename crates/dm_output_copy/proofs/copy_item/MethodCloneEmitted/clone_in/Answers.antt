-- A method.
use Rattle.std.proofs.lemmas.Result.{IfOk-at_ok}
use Rattle.dm_copy.proofs.Copies.{halves, same_list}
use Rattle.dm_output_copy.proofs.ItemCopies.{method_made}
use Rattle.dm_output_copy.proofs.copy_item.MethodCloneEmitted.clone_in.Goals as goal

pub returns : goal.returns
returns c =
    let all = c.in_ok-attrs.ensures in
    let front = halves _ _ _ _ all.0 c.both-front.ensures c.clone_in.ensures c.clone_in-2.ensures in
    let rest = IfOk-at_ok _ all.1 c.both-rest.ensures in
    let signature = halves _ _ _ _ rest.0 c.both-signature.ensures c.clone_in-3.ensures c.clone_in-4.ensures in
    method_made c.args.self.now _ _ _ _ _ (same_list _ _ front.0) front.1 signature.0 signature.1 (IfOk-at_ok _ rest.1 c.clone_in-5.ensures)
