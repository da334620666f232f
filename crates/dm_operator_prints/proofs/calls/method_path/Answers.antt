use Rattle.dm_operator_prints.proofs.calls.method_path.Goals as goal

pub returns : goal.returns
returns c = rw (c.in_ok-joint.ensures, c.in_ok-word.ensures, c.in_ok-fixed.ensures) at c.word-2.ensures
