-- What the comparison is to do, for its words and its input.
use Rattle.std.specs.Prelude.{◌≡◌, ◌≢◌, ◌<◌, ◌≤◌, ◌++◌, ℕ, List, [], ◌∷◌, codes, length, Option, Some, None, IsUtf8, ⊤}
use Rattle.std.specs.Option.{option_map}
use Rattle.std.specs.Str.{encode_utf8_all}
use Rattle.cedar_io.specs.Input.{max_input, HadLeft}
use Rattle.cedar_io.specs.Outside.{IsEnd, Appends}
use Rattle.cedar_messages.specs.Messages.{AreMessages}
use Rattle.cedar_names.specs.declared.extension_table.ExtensionTable.{ExtensionTable}
use Rattle.cedar_runs.specs.declared.status.Status.{Status}
use Rattle.cedar_runs.specs.declared.status.Status.TheVariants.{Done, Refused, Usage}
use Rattle.cedar_runs.specs.Reports.{Report, too_long_report}
use Rattle.cedar_runs.specs.Runs.{Device, AsksToRead, IsRun}
use Rattle.cedar_schema_core.specs.Commands.{AsksForTable}
use Rattle.schema_build.specs.TextErrorTexts.{text_error_text}
use Rattle.schema_build.specs.Texts.{IsTextError}
use Rattle.schema_build.specs.declared.text_errors.CedarSchemaError.{CedarSchemaError}
use Rattle.schema_build.specs.declared.text_errors.CedarSchemaError.TheVariants as refused
use Rattle.schema_inclusion_values.specs.Admits.{SchemaValue}
use Rattle.schema_inclusion_check.specs.Subjects.{Subject, subject}
use Rattle.schema_inclusion_texts.specs.Inclusions.{IsInclusionAnswer, HasMeaning}
use Rattle.schema_inclusion.specs.Answers.{subject_text}
use Rattle.schema_inclusion.specs.declared.run.Include.{Include}

-- the words ask for a comparison under this table
abbrev pub Asks : List (List ℕ) → Include → Type 0
Asks words c = AsksForTable (codes "include") (codes "include-with") words c.table

-- the command reads the input
abbrev pub Reads : Include → Type 0
Reads c = ⊤

-- the words are none that the program takes, and the line says which it takes
abbrev pub usage_report : Report
usage_report =
    record { status = Usage; out = []; err = codes "usage: schema_inclusion include|include-with [NAME..]\n" }

-- the input is two messages, and both are texts in UTF-8
pub record AreTwoTexts (bytes old new : List ℕ) : Type 0 where
  pub messages : AreMessages bytes (old ∷ new ∷ [])
  pub old_utf8 : IsUtf8 old
  pub new_utf8 : IsUtf8 new

-- the report on an input that is not two texts
abbrev pub two_texts_report : Report
two_texts_report = record { status = Refused; out = []; err = codes "error: two schema texts are needed\n" }

-- the report on a text that is no schema: what its refusal says goes to the error output
abbrev pub refused_report : CedarSchemaError → Report
refused_report e = record {
  status = Refused;
  out = [];
  err = encode_utf8_all (codes "error: " ++ (text_error_text e ++ codes "\n"));
}

-- what is written where nothing is found, or of what the value that is found is about
abbrev pub answer_text : Option Subject → List ℕ
answer_text None = codes "included\n"
answer_text (Some s) = codes "not included: " ++ (subject_text s ++ codes "\n")

-- the comparison is done, and its answer is written
abbrev pub done_report : Option Subject → Report
done_report found = record { status = Done; out = encode_utf8_all (answer_text found); err = [] }

-- what is answered to two texts: what is found between them, or the refusal of the old one, or else of the new one
pub data IsTextsReport (table : ExtensionTable) (old new : List ℕ) : Report → Type 0 where
  compared : (found : Option SchemaValue) → IsInclusionAnswer old new table found
      → IsTextsReport table old new (done_report (option_map subject found))
  old_refused : (e : CedarSchemaError) → e ≢ refused.Memory → IsTextError old table e
      → IsTextsReport table old new (refused_report e)
  new_refused : (e : CedarSchemaError) → e ≢ refused.Memory → HasMeaning old table → IsTextError new table e
      → IsTextsReport table old new (refused_report e)

-- what is answered to an input
pub data IsInclusionReport (table : ExtensionTable) (bytes : List ℕ) : Report → Type 0 where
  too_long : max_input < length bytes → IsInclusionReport table bytes too_long_report
  not_two : length bytes ≤ max_input → ((old new : List ℕ) → AreTwoTexts bytes old new → ⊥)
      → IsInclusionReport table bytes two_texts_report
  two : length bytes ≤ max_input → (old new : List ℕ) → AreTwoTexts bytes old new → {report : Report}
      → IsTextsReport table old new report → IsInclusionReport table bytes report

-- the report for these words and this input, where no read fails
pub data IsInclusionPlan (words : List (List ℕ)) (bytes : List ℕ) : Report → Type 0 where
  usage : ((c : Include) → Asks words c → ⊥) → IsInclusionPlan words bytes usage_report
  asked : (c : Include) → Asks words c → {report : Report} → IsInclusionReport c.table bytes report
      → IsInclusionPlan words bytes report

-- the run, by its cause: what is planned for the words and the input was written, or a device failed, or memory was out
-- before the first write
abbrev pub IsInclusionRun : List (List ℕ) → Device → Device → Device → Status → Type 0
IsInclusionRun words source out err status =
    IsRun (AsksToRead Asks Reads words) (IsInclusionPlan words) source out err status

-- The whole input was read and no read failed, it is two texts that mean something, and the output took whether the new
-- one admits all that the old one does, or what the first value is about that it does not admit. The error output
-- stands as before.
pub record ComparedBoth (words : List (List ℕ)) (source out err : Device) : Type 0 where
  pub command : Include
  pub asks : Asks words command
  pub bytes : List ℕ
  pub old_text : List ℕ
  pub new_text : List ℕ
  pub found : Option SchemaValue
  pub read : HadLeft source.before bytes
  pub end : IsEnd source.after
  pub steady : source.faults_after ≡ source.faults_before
  pub texts : AreTwoTexts bytes old_text new_text
  pub answer : IsInclusionAnswer old_text new_text command.table found
  pub written : Appends out.before (encode_utf8_all (answer_text (option_map subject found))) out.after
  pub silent : err.Same
