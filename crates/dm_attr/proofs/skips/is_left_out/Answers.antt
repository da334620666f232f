use Rattle.std.proofs.Common.{codes, Ok, subst}
use Rattle.dm_attr.specs.SkipRefusals.{IsSkipUnder}
use Rattle.dm_attr.proofs.SkipSteps.{first_passed, by_first, by_second}
use Rattle.dm_attr.proofs.skips.is_left_out.Goals as goal

pub returns-in_err-is_skipped_under : goal.returns-in_err-is_skipped_under
returns-in_err-is_skipped_under c =
    first_passed c.args.attrs.now c.in_err-is_skipped_under.field-0.0 c.in_err-is_skipped_under.ensures c.from_residual.result c.from_residual.ensures.1

pub returns-then-branch : goal.returns-then-branch
returns-then-branch c =
    by_first c.args.attrs.now (subst (λ b. IsSkipUnder (codes "partial_eq") c.args.attrs.now (Ok b)) c.if-branch.true c.in_ok-is_skipped_under.ensures)

pub returns : goal.returns
returns c =
    by_second c.args.attrs.now c.is_skipped_under-2.result
    (subst (λ b. IsSkipUnder (codes "partial_eq") c.args.attrs.now (Ok b)) c.if-branch.false c.in_ok-is_skipped_under.ensures)
    c.is_skipped_under-2.ensures
