-- What the program is to do, for its words and its input.
use Rattle.std.specs.Prelude.{◌≡◌, ℕ, List, [], ◌∷◌, ◌++◌, codes, ⊤}
use Rattle.std.specs.Str.{encode_utf8_all}
use Rattle.cedar_names.specs.declared.extension_table.ExtensionTable.{ExtensionTable}
use Rattle.cedar_runs.specs.declared.status.Status.TheVariants.{Done, Refused, Usage}
use Rattle.cedar_runs.specs.Reports.{Report, IsTextReport}
use Rattle.cedar_schema_core.specs.Commands.{IsStandard}
use Rattle.schema_build.specs.Texts.{IsFragmentOf, IsParseRefusal}
use Rattle.schema_convert_errors.specs.declared.error_list.CedarSchemaParseErrors.{CedarSchemaParseErrors}
use Rattle.schema_syntax_errors.specs.FaultTexts.{parse_error_text}
use Rattle.schema_syntax_errors.specs.declared.parse_error.ParseError.{ParseError}
use Rattle.schema_assist_offers.specs.Offers.{Known}
use Rattle.schema_assist_words.specs.Refusals.{IsAssistRefusal}
use Rattle.schema_assist_words.specs.declared.text_before.AssistError.TheVariants.{BadPlace, Syntax}
use Rattle.schema_assist.specs.Assistance.{IsAssistance}
use Rattle.schema_assist.specs.Lines.{assistance_lines}
use Rattle.schema_assist.specs.Words.{IsPlaceWord}
use Rattle.schema_assist.specs.declared.assistance.Assistance.{Assistance}
use Rattle.schema_assist.specs.declared.run.AssistAt.{AssistAt}

-- the words are `at` and the place; the extension types are all that Cedar has
pub record Asks (words : List (List ℕ)) (c : AssistAt) : Type 0 where
  pub word : List ℕ
  pub are : words ≡ codes "at" ∷ word ∷ []
  pub place : IsPlaceWord word c.place
  pub table : IsStandard c.table

-- the command reads the input
abbrev pub Reads : AssistAt → Type 0
Reads c = ⊤

-- the report on words that are no command
abbrev pub usage_report : Report
usage_report = record { status = Usage; out = []; err = codes "usage: schema_assist at PLACE\n" }

-- the report where the text has no such place
abbrev pub no_place_report : Report
no_place_report = record { status = Refused; out = []; err = codes "error: no such place\n" }

-- the report where the text before the place has this fault
abbrev pub fault_report : ParseError → Report
fault_report error = record {
  status = Refused;
  out = [];
  err = encode_utf8_all (codes "error: " ++ (parse_error_text error ++ codes "\n"));
}

-- the report of a line for each kind and each name that may stand
abbrev pub done_report : Assistance → Report
done_report a = record { status = Done; out = encode_utf8_all (assistance_lines a); err = [] }

-- the fragment that declares nothing
abbrev pub no_names : Known
no_names = record { 0 = [] }

-- What is known of names from a text: the fragment to which it is translated, or no names where it has a fault.
pub data IsKnownFrom (text : List ℕ) (table : ExtensionTable) : Known → Type 0 where
  its_own : (known : Known) → IsFragmentOf text table known → IsKnownFrom text table known
  nothing : (errors : CedarSchemaParseErrors) → IsParseRefusal text errors → IsKnownFrom text table no_names

-- What is answered to a text: what may stand at the place, with the names known from the text itself; or that it has no
-- such place; or the fault of the text before it.
pub data IsAssistAnswer (place : ℕ) (table : ExtensionTable) (text : List ℕ) : Report → Type 0 where
  done : (known : Known) (a : Assistance) → IsKnownFrom text table known → IsAssistance text place known table a
      → IsAssistAnswer place table text (done_report a)
  no_place : IsAssistRefusal text place BadPlace → IsAssistAnswer place table text no_place_report
  fault : (error : ParseError) → IsAssistRefusal text place (Syntax error)
      → IsAssistAnswer place table text (fault_report error)

-- what is answered to a place and an input, with all extension types that Cedar has
pub record IsPlaceReport (place : ℕ) (bytes : List ℕ) (report : Report) : Type 0 where
  pub table : ExtensionTable
  pub standard : IsStandard table
  pub says : IsTextReport (IsAssistAnswer place table) bytes report

-- the report for these words and this input, where no read fails
pub data IsAssistPlan (words : List (List ℕ)) (bytes : List ℕ) : Report → Type 0 where
  usage : ((c : AssistAt) → Asks words c → ⊥) → IsAssistPlan words bytes usage_report
  asked : (c : AssistAt) → Asks words c → {report : Report}
      → IsTextReport (IsAssistAnswer c.place c.table) bytes report → IsAssistPlan words bytes report
