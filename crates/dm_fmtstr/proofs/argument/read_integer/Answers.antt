use Rattle.std.proofs.Common.{rules}
use Rattle.dm_fmtstr.proofs.Arguments.{read-next, read-too_big}
use Rattle.dm_fmtstr.proofs.argument.read_integer.Goals as goal

pub returns-in_default-with_digit : goal.returns-in_default-with_digit
returns-in_default-with_digit c = read-too_big _ _ _ _ _ _ c.loop-after.invariant.read c.in-Some.ensures.digit c.in_default-with_digit.ensures

pub loop-after-preserved : goal.loop-after-preserved
loop-after-preserved c = record {
  text = search rules;
  read = read-next _ _ _ _ _ _ _ c.loop-after.invariant.read c.in-Some.ensures.digit c.in-Some-with_digit.ensures.0 c.in-Some-with_digit.ensures.1;
}
