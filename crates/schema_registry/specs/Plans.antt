-- What a registry is to do, for its words and its input.
use Rattle.std.specs.Prelude.{◌≡◌, ◌<◌, ◌≤◌, ℕ, List, [], codes, length, ⊤}
use Rattle.std.specs.Str.{encode_utf8_all}
use Rattle.cedar_io.specs.Input.{max_input, HadLeft}
use Rattle.cedar_io.specs.Outside.{IsEnd, Appends}
use Rattle.cedar_messages.specs.Messages.{AreMessages}
use Rattle.cedar_names.specs.declared.extension_table.ExtensionTable.{ExtensionTable}
use Rattle.cedar_runs.specs.declared.status.Status.{Status}
use Rattle.cedar_runs.specs.declared.status.Status.TheVariants.{Done, Refused, Usage}
use Rattle.cedar_runs.specs.Reports.{Report, too_long_report}
use Rattle.cedar_runs.specs.Runs.{Device, AsksToRead, IsRun}
use Rattle.cedar_schema_core.specs.Commands.{AsksForTable}
use Rattle.schema_registry.specs.Replies.{AreAllReplies}
use Rattle.schema_registry.specs.declared.run.Register.{Register}

-- the words ask for a registry under this table
abbrev pub Asks : List (List ℕ) → Register → Type 0
Asks words c = AsksForTable (codes "register") (codes "register-with") words c.table

-- the command reads the input
abbrev pub Reads : Register → Type 0
Reads c = ⊤

abbrev pub usage_report : Report
usage_report =
    record { status = Usage; out = []; err = codes "usage: schema_registry register|register-with [NAME..]\n" }

-- the input ends inside a message, or inside its length
abbrev pub cut_short_report : Report
cut_short_report = record { status = Refused; out = []; err = codes "error: the last message is cut short\n" }

abbrev pub done_report : List ℕ → Report
done_report out = record { status = Done; out = encode_utf8_all out; err = [] }

-- what is answered to an input: a line for each message, where it is whole messages
pub data IsRegistryAnswer (table : ExtensionTable) (bytes : List ℕ) : Report → Type 0 where
  too_long : max_input < length bytes → IsRegistryAnswer table bytes too_long_report
  cut_short : length bytes ≤ max_input → ((messages : List (List ℕ)) → AreMessages bytes messages → ⊥)
      → IsRegistryAnswer table bytes cut_short_report
  done : length bytes ≤ max_input → (out : List ℕ) → AreAllReplies table bytes out
      → IsRegistryAnswer table bytes (done_report out)

-- the report for these words and this input, where no read fails
pub data IsRegistryPlan (words : List (List ℕ)) (bytes : List ℕ) : Report → Type 0 where
  usage : ((c : Register) → Asks words c → ⊥) → IsRegistryPlan words bytes usage_report
  asked : (c : Register) → Asks words c → {report : Report} → IsRegistryAnswer c.table bytes report
      → IsRegistryPlan words bytes report

-- the run, by its cause: what is planned for the words and the input was written, or a device failed, or memory was out
-- before the first write
abbrev pub IsRegistryRun : List (List ℕ) → Device → Device → Device → Status → Type 0
IsRegistryRun words source out err status =
    IsRun (AsksToRead Asks Reads words) (IsRegistryPlan words) source out err status

-- The whole input was read and no read failed, it is messages, and the output took the reply to each and nothing else.
-- The error output stands as before.
pub record RepliedToAll (words : List (List ℕ)) (source out err : Device) : Type 0 where
  pub command : Register
  pub asks : Asks words command
  pub bytes : List ℕ
  pub lines : List ℕ
  pub read : HadLeft source.before bytes
  pub end : IsEnd source.after
  pub steady : source.faults_after ≡ source.faults_before
  pub replies : AreAllReplies command.table bytes lines
  pub written : Appends out.before (encode_utf8_all lines) out.after
  pub silent : err.Same
