use Rattle.dm_print.proofs.format.format_call.Goals as goal

pub returns : goal.returns
returns c = rw (c.in_ok-formatted.ensures, c.in_ok-fixed.ensures) at c.close.ensures
