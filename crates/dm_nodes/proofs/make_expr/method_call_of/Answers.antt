-- The call of a method.
use Rattle.dm_nodes.proofs.MethodCalls.{called}
use Rattle.dm_nodes.proofs.make_expr.method_call_of.Goals as goal

pub returns : goal.returns
returns c =
    called c.new.result c.into_box.result c.args.name c.into_trees.result c.args.receiver c.args.args c.new.ensures c.into_box.ensures
    c.into_trees.ensures
