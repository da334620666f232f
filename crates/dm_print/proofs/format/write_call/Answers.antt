use Rattle.dm_print.proofs.format.write_call.Goals as goal

pub returns : goal.returns
returns c = rw (c.in_ok-formatted.ensures, c.in_ok-punct.ensures, c.in_ok-name.ensures, c.in_ok-fixed.ensures) at c.close.ensures
