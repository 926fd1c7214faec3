-- Reports in one line each, as characters.
use Rattle.std.specs.Prelude.{ℕ, ◌+◌, List, [], ◌∷◌, ◌++◌, codes, decimal, Option, Some, None}
use Rattle.std.specs.List.{flat_map}
use Rattle.cedar_data.specs.declared.severity.Severity.{Severity}
use Rattle.cedar_data.specs.declared.severity.Severity.TheVariants.{Error, Warning}
use Rattle.schema_report.specs.declared.place.Place.{Place}
use Rattle.schema_report.specs.declared.report.Report.{Report}
use Rattle.schema_report.specs.declared.report.ReportPlace.{ReportPlace}
use Rattle.schema_report.specs.Escapes.{on_screen}

-- the text as a terminal shows it
abbrev pub shown : List ℕ → List ℕ
shown text = flat_map on_screen text

-- what a severity is called
abbrev pub severity_word : Severity → List ℕ
severity_word Error = codes "error"
severity_word Warning = codes "warning"

-- the name of the rule in brackets
abbrev pub rule_words : Option (List ℕ) → List ℕ
rule_words None = []
rule_words (Some rule) = codes "[" ++ (shown rule ++ codes "]")

-- the line and the column of a place, from 1
abbrev pub line_and_column : Place → List ℕ
line_and_column place = codes ":" ++ (decimal (place.line + 1) ++ (codes ":" ++ decimal (place.column + 1)))

-- those of the first place
abbrev pub place_words : List ReportPlace → List ℕ
place_words [] = []
place_words (p ∷ ps) = line_and_column p.start

-- `path:line:column: error: message`
abbrev pub short_line : List ℕ → Report → List ℕ
short_line path report = shown path ++ (place_words report.places ++ (codes ": " ++ (severity_word report.severity
    ++ (rule_words report.rule ++ (codes ": " ++ (shown report.message ++ codes "\n"))))))
