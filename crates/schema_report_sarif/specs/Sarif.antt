-- Reports as a log of SARIF 2.1.0, with texts as bytes. Lines and columns count from 1, columns in characters.
use Rattle.std.specs.Prelude.{ℕ, ◌+◌, List, [], ◌∷◌, ◌++◌, map, codes, Option, Some, None}
use Rattle.serde_json.specs.Data.{Data, string, array, object, Members, no_members, member, no_items, item}
use Rattle.serde_json.specs.View.{items_of}
use Rattle.serde_json.specs.Written.{compact_text}
use Rattle.schema_report.specs.declared.place.Place.{Place}
use Rattle.schema_report.specs.declared.report.Report.{Report}
use Rattle.schema_report.specs.declared.report.ReportPlace.{ReportPlace}
use Rattle.schema_report.specs.Json.{text_value, number_value, severity_value}
use Rattle.schema_report_sarif.specs.declared.sarif.Found.{Found}
use Rattle.schema_report_sarif.specs.Uris.{path_uri}

-- a text as a message
abbrev pub message_value : List ℕ → Data
message_value text = object (member (codes "text") (text_value text) no_members)

-- a message, and its advice in a line of its own
abbrev pub said_value : List ℕ → Option (List ℕ) → Data
said_value message None = message_value message
said_value message (Some help) = message_value (message ++ (codes "\nhelp: " ++ help))

-- the range between two places
abbrev pub region_value : Place → Place → Data
region_value start end = object
    (member (codes "endColumn") (number_value (end.column + 1))
    (member (codes "endLine") (number_value (end.line + 1))
    (member (codes "startColumn") (number_value (start.column + 1))
    (member (codes "startLine") (number_value (start.line + 1)) no_members))))

-- the file at this path
abbrev pub artifact_value : List ℕ → Data
artifact_value path = object (member (codes "uri") (string (path_uri path)) no_members)

-- the range of a place in the file at this path
abbrev pub physical_value : List ℕ → ReportPlace → Data
physical_value path place = object
    (member (codes "artifactLocation") (artifact_value path)
    (member (codes "region") (region_value place.start place.end) no_members))

-- these members, behind a message where there is one
abbrev pub behind_message : Option (List ℕ) → Members → Members
behind_message None members = members
behind_message (Some text) members = member (codes "message") (message_value text) members

-- this range of a file, with what is said there
abbrev pub placed_value : Option (List ℕ) → Data → Data
placed_value text physical = object (behind_message text (member (codes "physicalLocation") physical no_members))

-- a place in the file at this path, with what is said there
abbrev pub location_value : List ℕ → ReportPlace → Data
location_value path place = placed_value place.text (physical_value path place)

-- the file at this path, whole
abbrev pub whole_value : List ℕ → Data
whole_value path = object (member (codes "artifactLocation") (artifact_value path) no_members)

-- the file at this path as a place
abbrev pub file_value : List ℕ → Data
file_value path = object (member (codes "physicalLocation") (whole_value path) no_members)

-- the first of the places, or the file where there is none
abbrev pub main_value : List ℕ → List ReportPlace → Data
main_value path [] = file_value path
main_value path (p ∷ ps) = location_value path p

-- the list of it
abbrev pub locations_value : List ℕ → List ReportPlace → Data
locations_value path places = array (item (main_value path places) no_items)

-- the list of these places
abbrev pub list_value : List ℕ → List ReportPlace → Data
list_value path places = array (items_of (map (location_value path) places))

-- the list of the places behind the first
abbrev pub related_value : List ℕ → List ReportPlace → Data
related_value path [] = list_value path []
related_value path (p ∷ ps) = list_value path ps

-- a place behind another
abbrev pub later_location : List ℕ → ReportPlace → List ℕ
later_location path place = 44 ∷ compact_text (location_value path place)

-- the name of the rule, where there is one
abbrev pub rule_member : Option (List ℕ) → Members
rule_member None = no_members
rule_member (Some rule) = member (codes "ruleId") (text_value rule) no_members

-- a report on the text at this path
abbrev pub result_value : List ℕ → Report → Data
result_value path report = object
    (member (codes "level") (severity_value report.severity)
    (member (codes "locations") (locations_value path report.places)
    (member (codes "message") (said_value report.message report.help)
    (member (codes "relatedLocations") (related_value path report.places) (rule_member report.rule)))))

-- a report on the text of a file
abbrev pub found_value : Found → Data
found_value found = result_value found.path.now found.report.now

-- the list of the reports
abbrev pub results_value : List Found → Data
results_value found = array (items_of (map found_value found))

-- a report behind another
abbrev pub later_result : Found → List ℕ
later_result found = 44 ∷ compact_text (found_value found)

-- the name and the version of the program that found them
abbrev pub driver_value : List ℕ → Data
driver_value version = object
    (member (codes "name") (string (codes "cedar-schema"))
    (member (codes "version") (string version) no_members))

-- the program that found them
abbrev pub tool_value : List ℕ → Data
tool_value version = object (member (codes "driver") (driver_value version) no_members)

-- one run of the program
abbrev pub run_value : List ℕ → List Found → Data
run_value version found = object
    (member (codes "columnKind") (string (codes "unicodeCodePoints"))
    (member (codes "results") (results_value found)
    (member (codes "tool") (tool_value version) no_members)))

-- the list of it
abbrev pub runs_value : List ℕ → List Found → Data
runs_value version found = array (item (run_value version found) no_items)

-- the whole log
abbrev pub log_value : List ℕ → List Found → Data
log_value version found = object
    (member (codes "$schema") (string (codes "https://json.schemastore.org/sarif-2.1.0.json"))
    (member (codes "runs") (runs_value version found)
    (member (codes "version") (string (codes "2.1.0")) no_members)))
