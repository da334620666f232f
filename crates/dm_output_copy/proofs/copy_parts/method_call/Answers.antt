-- The call of a method.
use Rattle.dm_output_copy.proofs.CallCopies.{call_copied}
use Rattle.dm_output_copy.proofs.copy_parts.method_call.Goals as goal

pub returns : goal.returns
returns c =
    call_copied c.args.inner.now.value c.args.name.now c.args.all.now c.args.receiver c.clone_in.result c.args.arguments c.made_of_three.result
    c.made_of_three.ensures c.requires.receiver c.clone_in.ensures c.requires.arguments
