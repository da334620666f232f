use Rattle.dm_operands.specs.CaseViews.{case_view}
use Rattle.dm_partial_eq.proofs.PrintLaws.{tests-laid, keeps}
use Rattle.dm_partial_eq.proofs.printing.arms.tested.Goals as goal

pub returns : goal.returns
returns c =
    rw (c.as_slice.ensures.value, tests-laid c.args.out.now c.args.comparing 0 (case_view c.args.case.now).fields (keeps (case_view c.args.case.now) c.requires)) at c.tests.ensures
