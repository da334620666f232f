use Rattle.dm_run.proofs.Sampling.{one_operator_more, all_operators}
use Rattle.dm_run.proofs.summary.add_operators.Goals as goal

pub loop-operator-preserved : goal.loop-operator-preserved
loop-operator-preserved c =
    one_operator_more _ _ _ _ _ _ _ _ c.loop-operator-test.true c.loop-operator.invariant c.in_ok-add_answer.ensures

pub returns : goal.returns
returns c = all_operators _ _ _ _ _ c.loop-operator-test.false c.loop-operator.invariant
