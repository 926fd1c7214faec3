-- How a run over several inputs ends.
use Rattle.std.specs.Prelude.{ℕ, List, codes}
use Rattle.cedar_files.specs.declared.fault.FileFault.{FileFault}
use Rattle.cedar_files.specs.declared.fault.FileFault.TheVariants as fault
use Rattle.cedar_runs.specs.declared.status.Status.{Status}
use Rattle.cedar_runs.specs.declared.status.Status.TheVariants.{Done, ReadFault, TooLong, Memory}

-- what is said of an input that is not read
abbrev pub fault_words : FileFault → List ℕ
fault_words fault.Missing = codes "there is no such file"
fault_words fault.Denied = codes "permission denied"
fault_words fault.TooLong = codes "the input is longer than 16777216 bytes"
fault_words fault.System = codes "reading failed"
fault_words fault.Memory = codes "out of memory"

-- the status where an input is not read
abbrev pub fault_status : FileFault → Status
fault_status fault.Missing = ReadFault
fault_status fault.Denied = ReadFault
fault_status fault.TooLong = TooLong
fault_status fault.System = ReadFault
fault_status fault.Memory = Memory

-- the status after one input more: that of the first that is not fine
abbrev pub joined_status : Status → Status → Status
joined_status Done next = next
joined_status status next = status
