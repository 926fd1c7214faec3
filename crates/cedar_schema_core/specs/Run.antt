-- What a run of the program did.
use Rattle.std.specs.Prelude.{◌≡◌, ◌↔◌, ℕ, List, [], MatchOption}
use Rattle.std.specs.List.{flat_map}
use Rattle.cedar_io.specs.Outside.{IsEnd, Appends}
use Rattle.cedar_runs.specs.declared.status.Status.{Status}
use Rattle.cedar_runs.specs.Runs.{Device, AsksToRead, IsRun}
use Rattle.cedar_io.specs.Input.{HadLeft}
use Rattle.std.specs.Str.{encode_utf8_all}
use Rattle.cedar_names.specs.Meaning.{SchemaMeaning}
use Rattle.schema_convert_errors.specs.declared.warnings.SchemaWarning.{SchemaWarning}
use Rattle.cedar_names.specs.declared.extension_table.ExtensionTable.{ExtensionTable}
use Rattle.cedar_schema_core.specs.declared.command.Command.{Command}
use Rattle.cedar_schema_core.specs.declared.command.Command.TheVariants.{Recover, Check, ToJson, FromJson, Generate}
use Rattle.cedar_schema_core.specs.declared.json_texts.JsonForm.{JsonForm}
use Rattle.laws_build.specs.Closure.HalfFilled.{IsHalfFilled}
use Rattle.cedar_schema_core.specs.Json.{JsonMeaning}
use Rattle.cedar_schema_core.specs.Meanings.{TextMeaning}
use Rattle.cedar_schema_core.specs.Commands.{Asks, own_text, ReadsInput}
use Rattle.cedar_schema_core.specs.Answers.{IsWrittenBy}
use Rattle.cedar_schema_core.specs.Plan.{IsPlan, warning_line}

-- the words ask for a command that reads the input
abbrev pub AsksForInput : List (List ℕ) → Type 0
AsksForInput words = AsksToRead Asks ReadsInput words

-- the run of the program, by its cause: what is planned for the words and the input was written, or a device failed, or
-- memory was out before the first write
abbrev pub IsToolRun : List (List ℕ) → Device → Device → Device → Status → Type 0
IsToolRun words source out err status = IsRun (AsksForInput words) (IsPlan words) source out err status

-- the whole input was read, nothing is left, and no read failed
pub record ReadWhole (source : Device) (bytes : List ℕ) : Type 0 where
  pub read : HadLeft source.before bytes
  pub end : IsEnd source.after
  pub steady : source.faults_after ≡ source.faults_before

-- what the command works on: the whole input, or its own text, where the source stands as before
abbrev pub WorksOn : Command → Device → List ℕ → Type 0
WorksOn c source bytes =
    MatchOption (own_text c) (ReadWhole source bytes) (λ own. (own ≡ bytes) × source.Same)

-- what the command writes of what it works on was written and nothing else, with a line for each warning to the error
-- output
pub record Completed (c : Command) (source out err : Device) : Type 0 where
  pub bytes : List ℕ
  pub text : List ℕ
  pub warnings : List SchemaWarning
  pub works : WorksOn c source bytes
  pub writes : IsWrittenBy c bytes text warnings
  pub written : Appends out.before text out.after
  pub warned : Appends err.before (encode_utf8_all (flat_map warning_line warnings)) err.after
  pub silent : warnings ≡ [] → err.Same

-- The whole input was read and means something, and what was written of it is a text that means the same.
pub record Recovers (table : ExtensionTable) (source out : Device) : Type 0 where
  pub bytes : List ℕ
  pub meaning : SchemaMeaning
  pub text : List ℕ
  pub read : HadLeft source.before bytes
  pub means : TextMeaning bytes table meaning
  pub written : Appends out.before text out.after
  pub keeps : TextMeaning text table meaning

-- The whole input was read and means something, and what was written of it is a text that means the same exactly where
-- that is not half filled.
pub record RecoversJson (form : JsonForm) (table : ExtensionTable) (source out : Device) : Type 0 where
  pub bytes : List ℕ
  pub meaning : SchemaMeaning
  pub text : List ℕ
  pub read : HadLeft source.before bytes
  pub means : JsonMeaning form bytes table meaning
  pub written : Appends out.before text out.after
  pub keeps : TextMeaning text table meaning ↔ (¬ IsHalfFilled meaning)

-- what a recovery wrote means what the input means; the other commands write another form, or no schema
abbrev pub KeepsMeaning : Command → Device → Device → Type 0
KeepsMeaning (Recover table) source out = Recovers table source out
KeepsMeaning (Check table) source out = Unit {0}
KeepsMeaning (ToJson table) source out = Unit {0}
KeepsMeaning (FromJson form table) source out = RecoversJson form table source out
KeepsMeaning (Generate size table) source out = Unit {0}
