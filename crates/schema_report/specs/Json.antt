-- Reports as JSON values, with their texts as bytes. Bytes count from 0, and lines and columns from 1.
use Rattle.std.specs.Prelude.{ℕ, ◌+◌, List, ◌∷◌, ◌++◌, map, codes, Option, Some, None}
use Rattle.std.specs.Str.{encode_utf8_all}
use Rattle.serde_json.specs.Data.{unsigned, Data, null, number, string, array, object, no_members, member}
use Rattle.serde_json.specs.View.{items_of}
use Rattle.serde_json.specs.Written.{compact_text}
use Rattle.cedar_data.specs.declared.severity.Severity.{Severity}
use Rattle.cedar_data.specs.declared.severity.Severity.TheVariants.{Error, Warning}
use Rattle.schema_report.specs.declared.place.Place.{Place}
use Rattle.schema_report.specs.declared.report.Report.{Report}
use Rattle.schema_report.specs.declared.report.ReportPlace.{ReportPlace}

-- a text as a string
abbrev pub text_value : List ℕ → Data
text_value text = string (encode_utf8_all text)

-- a text, or null where there is none
abbrev pub optional_value : Option (List ℕ) → Data
optional_value None = null
optional_value (Some text) = text_value text

-- a count as a number
abbrev pub number_value : ℕ → Data
number_value n = number (unsigned n)

-- what a severity is called
abbrev pub severity_value : Severity → Data
severity_value Error = string (codes "error")
severity_value Warning = string (codes "warning")

-- where a place begins or ends
abbrev pub position_value : Place → Data
position_value place = object
    (member (codes "byte") (number_value place.byte)
    (member (codes "column") (number_value (place.column + 1))
    (member (codes "line") (number_value (place.line + 1))
    (member (codes "utf16") (number_value (place.utf16 + 1)) no_members))))

-- a place with what is said there
abbrev pub place_value : ReportPlace → Data
place_value place = object
    (member (codes "end") (position_value place.end)
    (member (codes "start") (position_value place.start)
    (member (codes "text") (optional_value place.text) no_members)))

-- the list of the places
abbrev pub places_value : List ReportPlace → Data
places_value places = array (items_of (map place_value places))

-- the value of a report on the text at this path
abbrev pub report_value : List ℕ → Report → Data
report_value path report = object
    (member (codes "help") (optional_value report.help)
    (member (codes "message") (text_value report.message)
    (member (codes "path") (string path)
    (member (codes "places") (places_value report.places)
    (member (codes "rule") (optional_value report.rule)
    (member (codes "severity") (severity_value report.severity) no_members))))))

-- a place behind another
abbrev pub later_place : ReportPlace → List ℕ
later_place place = 44 ∷ compact_text (place_value place)

-- a report on the text at this path, as a line of JSON
abbrev pub json_line : List ℕ → Report → List ℕ
json_line path report = compact_text (report_value path report) ++ codes "\n"
