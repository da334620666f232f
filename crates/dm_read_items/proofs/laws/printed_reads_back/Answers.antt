-- What is printed is read back.
use Rattle.dm_read_items.proofs.PrintedBack.{reads_back, is_read}
use Rattle.dm_read_items.proofs.laws.printed_reads_back.Goals as goal

pub returns-clause-back : goal.returns-clause-back
returns-clause-back c = reads_back

pub returns-clause-read : goal.returns-clause-read
returns-clause-read c = is_read
