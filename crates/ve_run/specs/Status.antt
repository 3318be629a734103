-- How a run ends.
use Rattle.std.specs.Prelude.{ℕ, List, codes}
use Rattle.ve_run.specs.declared.stop.Stop.{Stop}
use Rattle.ve_run.specs.declared.stop.Stop.TheVariants as stop
use Rattle.ve_run.specs.declared.status.Status.{Status}
use Rattle.ve_run.specs.declared.status.Status.TheVariants.{Done, Usage, ReadFault, WriteFault, InputTooLong, Memory, Help}

abbrev pub usage_line : List ℕ
usage_line = codes "usage: vemodel run | make | soak [--start N] [--edits N]\n"

-- the number that the program ends with
abbrev pub exit_number : Status → ℕ
exit_number Done = 0
exit_number Usage = 2
exit_number ReadFault = 3
exit_number WriteFault = 4
exit_number InputTooLong = 5
exit_number Memory = 6
exit_number Help = 0

-- the status of a run that stopped
abbrev pub status_of : Stop → Status
status_of stop.Memory = Memory
status_of stop.ReadFault = ReadFault
status_of stop.WriteFault = WriteFault
status_of stop.InputTooLong = InputTooLong
