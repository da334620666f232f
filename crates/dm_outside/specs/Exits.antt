-- How a run ends, as a process tells it.
use Rattle.std.specs.Prelude.{ℕ}
use Rattle.dm_outside.specs.declared.exit.Status.{Status}
use Rattle.dm_outside.specs.declared.exit.Status.TheVariants.{Done, Refused, BadInput, ReadFault, WriteFault, NoMemory, Usage}

-- the status that a process ends with
abbrev pub exit_code : Status → ℕ
exit_code Done = 0
exit_code Refused = 1
exit_code BadInput = 2
exit_code ReadFault = 3
exit_code WriteFault = 4
exit_code NoMemory = 5
exit_code Usage = 6
