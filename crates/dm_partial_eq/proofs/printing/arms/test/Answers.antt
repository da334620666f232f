use Rattle.dm_partial_eq.proofs.PrintLaws.{test-laid}
use Rattle.dm_partial_eq.proofs.printing.arms.test.Goals as goal

pub returns : goal.returns
returns c =
    rw (c.in_ok-sign.ensures, c.in_ok-numbered.ensures, test-laid c.args.out.now c.args.comparing c.args.n) at c.numbered-2.ensures
