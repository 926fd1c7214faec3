-- What a run of the program did.
use Rattle.std.specs.Prelude.{ℕ, List, Option}
use Rattle.cedar_files.specs.Files.{Contents, Keeps}
use Rattle.cedar_runs.specs.Reports.{Report}
use Rattle.cedar_runs.specs.Runs.{Device, IsDelivered}
use Rattle.cedar_runs.specs.declared.status.Status.{Status}
use Rattle.cedar_runs.specs.declared.status.Status.TheVariants.{Memory}
use Rattle.cedar_schema_cli_words.specs.Words.{Reading, asked_in, asks}
use Rattle.cedar_schema_cli_words.specs.Readings.{reading_of_fault}
use Rattle.cedar_schema_cli_words.specs.declared.asked.Command.TheVariants.{Check, Format}
use Rattle.cedar_schema_cli_words.specs.declared.asked.Options.{Options}
use Rattle.cedar_schema_cli_words.specs.declared.fault.WordFault.{WordFault}
use Rattle.cedar_schema_cli_inputs.specs.Inputs.{Given, IsStandardGiven}
use Rattle.cedar_schema_cli_check.specs.Checks.{IsCheckReport}
use Rattle.cedar_schema_cli_format.specs.Formats.{IsFormatReport}
use Rattle.cedar_schema_cli.specs.Usage.{usage_report}

-- what is reported for what was asked, and what files hold after, given what they hold before and what the standard
-- input gives
pub data IsReportOn (files after : Option Contents) (source : Device) : Reading → Report → Type 0 where
  wrong : (fault : WordFault) → source.Same → Keeps files after
      → IsReportOn files after source (reading_of_fault fault) (usage_report fault)
  check : {options : Options} {names : List (List ℕ)} {standard : Given} → IsStandardGiven names source standard
      → {report : Report} → IsCheckReport files standard options names report → Keeps files after
      → IsReportOn files after source (asks Check options names) report
  format : {options : Options} {names : List (List ℕ)} {standard : Given} → IsStandardGiven names source standard
      → {report : Report} → IsFormatReport files standard options names after report
      → IsReportOn files after source (asks Format options names) report

-- the run: what is reported for its words was written, or a device failed; or memory was out before the first write, to
-- the outputs and to files alike
pub data IsCliRun (words : List (List ℕ)) (files after : Option Contents) (source out err : Device)
    : Status → Type 0 where
  delivered : {report : Report} → IsReportOn files after source (asked_in words) report → {status : Status}
      → IsDelivered out err report status → IsCliRun words files after source out err status
  wanted_memory : Keeps files after → out.Same → err.Same → IsCliRun words files after source out err Memory
