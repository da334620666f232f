use Rattle.std.proofs.Common.{arith}
use Rattle.dm_stream.proofs.Sizes.{size-entries}
use Rattle.dm_expr.proofs.units.args_sep_size.Goals as goal

pub overflow_add-result : goal.overflow_add-result
overflow_add-result c =
    omega (arith, c.well_formed, size-entries _ c.requires.sound, c.in_ok-front.ensures.counts, c.in_ok-back.ensures.counts)
