-- What a run of the program did.
use Rattle.std.specs.Prelude.{◌≡◌, ℕ, List}
use Rattle.std.specs.Str.{encode_utf8_all}
use Rattle.cedar_io.specs.Outside.{IsEnd, Appends}
use Rattle.cedar_io.specs.Input.{HadLeft}
use Rattle.cedar_runs.specs.declared.status.Status.{Status}
use Rattle.cedar_runs.specs.Runs.{Device, AsksToRead, IsRun}
use Rattle.schema_assist_offers.specs.Offers.{Known}
use Rattle.schema_assist.specs.Assistance.{IsAssistance}
use Rattle.schema_assist.specs.Lines.{assistance_lines}
use Rattle.schema_assist.specs.Plans.{Asks, Reads, IsKnownFrom, IsAssistPlan}
use Rattle.schema_assist.specs.declared.assistance.Assistance.{Assistance}
use Rattle.schema_assist.specs.declared.run.AssistAt.{AssistAt}

-- the run, by its cause: what is planned for the words and the input was written, or a device failed, or memory was out
-- before the first write
abbrev pub IsAssistRun : List (List ℕ) → Device → Device → Device → Status → Type 0
IsAssistRun words source out err status = IsRun (AsksToRead Asks Reads words) (IsAssistPlan words) source out err status

-- The whole input was read and no read failed, and the output took a line for each kind and each name that may stand at
-- the place, and nothing else. The error output stands as before.
pub record AssistedWhole (words : List (List ℕ)) (source out err : Device) : Type 0 where
  pub command : AssistAt
  pub asks : Asks words command
  pub text : List ℕ
  pub known : Known
  pub assistance : Assistance
  pub read : HadLeft source.before text
  pub end : IsEnd source.after
  pub steady : source.faults_after ≡ source.faults_before
  pub names_known : IsKnownFrom text command.table known
  pub stands : IsAssistance text command.place known command.table assistance
  pub written : Appends out.before (encode_utf8_all (assistance_lines assistance)) out.after
  pub silent : err.Same
