-- What the formatter is to do, for its words and its input.
use Rattle.std.specs.Prelude.{◌≡◌, ℕ, List, [], ◌∷◌, ◌++◌, codes, ⊤}
use Rattle.std.specs.Str.{encode_utf8_all}
use Rattle.cedar_runs.specs.declared.status.Status.TheVariants.{Done, Refused, Usage}
use Rattle.cedar_runs.specs.Reports.{Report, IsTextReport}
use Rattle.schema_syntax_errors.specs.FaultTexts.{first_error_text}
use Rattle.schema_syntax_errors.specs.declared.parse_errors.ParseErrors.{ParseErrors}
use Rattle.schema_syntax_errors.specs.declared.parse_schema_error.ParseSchemaError.TheVariants.{Errors}
use Rattle.schema_syntax.specs.ParseAnswers.{IsRefusalOf}
use Rattle.schema_layout_pieces.specs.LaidOut.{IsLaidOut}
use Rattle.schema_layout_texts.specs.Answers.{HasTree}
use Rattle.schema_layout.specs.declared.run.LayOut.{LayOut}

-- the one word is `layout`
abbrev pub Asks : List (List ℕ) → LayOut → Type 0
Asks words c = words ≡ codes "layout" ∷ []

-- the command reads the input
abbrev pub Reads : LayOut → Type 0
Reads c = ⊤

abbrev pub usage_report : Report
usage_report = record { status = Usage; out = []; err = codes "usage: schema_layout layout\n" }

-- the report on a text that is no schema: its fault goes to the error output
abbrev pub refused_report : ParseErrors → Report
refused_report errors = record {
  status = Refused;
  out = [];
  err = encode_utf8_all (codes "error: " ++ (first_error_text errors.errors ++ codes "\n"));
}

-- the text laid out, and nothing is told
abbrev pub done_report : List ℕ → Report
done_report out = record { status = Done; out = out; err = [] }

-- what is answered to a text: it is laid out, or it is no schema for this fault
pub data IsLayoutAnswer (text : List ℕ) : Report → Type 0 where
  done : (out : List ℕ) → HasTree text → IsLaidOut text out → IsLayoutAnswer text (done_report out)
  refused : (errors : ParseErrors) → IsRefusalOf text (Errors errors) → IsLayoutAnswer text (refused_report errors)

-- the report for these words and this input, where no read fails
pub data IsLayoutPlan (words : List (List ℕ)) (bytes : List ℕ) : Report → Type 0 where
  usage : ((c : LayOut) → Asks words c → ⊥) → IsLayoutPlan words bytes usage_report
  asked : (c : LayOut) → Asks words c → {report : Report} → IsTextReport IsLayoutAnswer bytes report
      → IsLayoutPlan words bytes report
