-- What a call hands out, and under which status.
use Rattle.std.specs.Prelude.{◌≡◌, ◌<◌, ◌≤◌, ◌⊎◌, ℕ, List, [], length, map}
use Rattle.std.specs.List.{All}
use Rattle.std.specs.Str.{IsUtf8}
use Rattle.cedar_io.specs.Input.{max_input}
use Rattle.cedar_names.specs.declared.extension_table.ExtensionTable.{ExtensionTable}
use Rattle.cedar_runs.specs.Reports.{Report, too_long_report, not_text_report}
use Rattle.cedar_runs.specs.Statuses.{code_of}
use Rattle.cedar_schema_core.specs.Commands.{IsStandard}
use Rattle.cedar_schema_core.specs.Plan.{IsPlan}
use Rattle.cedar_schema_c.specs.declared.answer.Answer.{Answer}
use Rattle.cedar_schema_c.specs.declared.calls.Word.{Word}

-- the bytes of both outputs
abbrev pub outputs_of : Answer → List ℕ × List ℕ
outputs_of answer = (answer.out.now, answer.err.now)

-- the status of a call where memory is out
abbrev pub memory_code : ℕ
memory_code = 7

-- the status of a call whose input is nested too deep
abbrev pub deep_code : ℕ
deep_code = 8

-- a planned report is handed out, under the code of its status
pub record IsHanded (Planned : Report → Type 0) (code : ℕ) (answer : Answer) : Type 0 where
  pub report : Report
  pub planned : Planned report
  pub status : code ≡ code_of report.status
  pub outputs : outputs_of answer ≡ (report.out, report.err)

-- the report on two texts, by what two texts are answered: one case for each cause
pub data IsTwoTextsReport (Answer : List ℕ → List ℕ → Report → Type 0) (first second : List ℕ) : Report → Type 0 where
  too_long : (max_input < length first) ⊎ (max_input < length second)
      → IsTwoTextsReport Answer first second too_long_report
  not_text : length first ≤ max_input → length second ≤ max_input → (IsUtf8 first → IsUtf8 second → ⊥)
      → IsTwoTextsReport Answer first second not_text_report
  answered : length first ≤ max_input → length second ≤ max_input → IsUtf8 first → IsUtf8 second → {report : Report}
      → Answer first second report → IsTwoTextsReport Answer first second report

-- the report on two inputs, by what two texts are answered under the table of all extension types that Cedar has
pub record IsTwoInputsReport (Answer : ExtensionTable → List ℕ → List ℕ → Report → Type 0) (first second : List ℕ)
    (report : Report) : Type 0 where
  pub table : ExtensionTable
  pub standard : IsStandard table
  pub says : IsTwoTextsReport (Answer table) first second report

-- the bytes of the words
abbrev pub words_of : List Word → List (List ℕ)
words_of words = map (λ w. w.text.now) words

-- the report of `cedar_schema_tool` for words that are bytes: words of which one is not UTF-8 ask for no command, and
-- are answered as no words are
pub data IsWordsPlan (words : List (List ℕ)) (bytes : List ℕ) : Report → Type 0 where
  texts : All IsUtf8 words → {report : Report} → IsPlan words bytes report → IsWordsPlan words bytes report
  no_texts : (All IsUtf8 words → ⊥) → {report : Report} → IsPlan [] bytes report → IsWordsPlan words bytes report
