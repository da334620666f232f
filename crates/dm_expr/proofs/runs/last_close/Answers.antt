use Rattle.std.proofs.Common.{arith}
use Rattle.dm_stream.proofs.Sizes.{size-entries}
use Rattle.dm_expr.proofs.Reaching.{further_zero}
use Rattle.dm_expr.proofs.Counting.{size_after_tree}
use Rattle.dm_expr.proofs.runs.last_close.Goals as goal

pub loop-rest-init : goal.loop-rest-init
loop-rest-init c = record { is_sound = c.requires; reads = further_zero _; counts = omega arith; few = omega arith }

pub overflow_add-passed : goal.overflow_add-passed
overflow_add-passed c =
    omega (arith, c.well_formed, size-entries _ c.requires, c.loop-rest.invariant.counts, size_after_tree _ _ _ c.in-Some.ensures.gives)
