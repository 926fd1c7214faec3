-- The exit codes.
use Rattle.std.specs.Prelude.{ℕ}
use Rattle.cedar_runs.specs.declared.status.Status.{Status}
use Rattle.cedar_runs.specs.declared.status.Status.TheVariants.{Done, Refused, Usage, ReadFault, WriteFault}
use Rattle.cedar_runs.specs.declared.status.Status.TheVariants.{NotText, TooLong, Memory}

-- 0 to 7, in the order of the statuses
abbrev pub code_of : Status → ℕ
code_of Done = 0
code_of Refused = 1
code_of Usage = 2
code_of ReadFault = 3
code_of WriteFault = 4
code_of NotText = 5
code_of TooLong = 6
code_of Memory = 7
