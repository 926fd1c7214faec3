-- Reports of many texts as they are written. Paths and what is written are bytes.
use Rattle.std.specs.Prelude.{ℕ, ◌-◌, Bool, if◌then◌else◌, List, [], ◌∷◌, ◌++◌, codes, decimal, length, map, take}
use Rattle.std.specs.Prelude.{nat_lt, None}
use Rattle.std.specs.List.{flat_map}
use Rattle.std.specs.Str.{chars, encode_utf8_all}
use Rattle.cedar_data.specs.declared.severity.Severity.TheVariants.{Error}
use Rattle.schema_report.specs.GitHub.{github_line}
use Rattle.schema_report.specs.Human.{human_text}
use Rattle.schema_report.specs.Json.{json_line}
use Rattle.schema_report.specs.Lines.{TextLines}
use Rattle.schema_report.specs.Short.{short_line}
use Rattle.schema_report.specs.declared.human.Colour.TheVariants.{Plain}
use Rattle.schema_report.specs.declared.report.Report.{Report}
use Rattle.cedar_schema_cli_words.specs.declared.asked.Form.{Form}
use Rattle.cedar_schema_cli_words.specs.declared.asked.Form.TheVariants.{Human, Short, Json, GitHub}

-- a report on the text with these lines at this path
pub record Item : Type 0 where
  pub path : List ℕ
  pub lines : TextLines
  pub report : Report

-- the reports on one text
abbrev pub items_of : List ℕ → TextLines → List Report → List Item
items_of path lines reports = map (λ report. record { path = path; lines = lines; report = report }) reports

-- the lines of no text
abbrev pub no_lines : TextLines
no_lines = record { text = []; starts = 0 ∷ [] }

-- the report that says this and points to no place
abbrev pub plain_report : List ℕ → Report
plain_report words = record { severity = Error; rule = None; message = words; help = None; places = [] }

-- the report of an input without a text
abbrev pub fault_item : List ℕ → List ℕ → Item
fault_item path words = record { path = path; lines = no_lines; report = plain_report words }

-- a report in a form
abbrev pub item_text : Form → Item → List ℕ
item_text Human item = encode_utf8_all (human_text Plain (chars item.path) item.lines item.report)
item_text Short item = encode_utf8_all (short_line (chars item.path) item.report)
item_text Json item = json_line item.path item.report
item_text GitHub item = encode_utf8_all (github_line (chars item.path) item.report)

-- the reports that are written: all, or the first 100
abbrev pub shown_items : Bool → List Item → List Item
shown_items all items = if all then items else take 100 items

-- how many of so many are not
abbrev pub hidden_of : Bool → ℕ → ℕ
hidden_of all count = if all then 0 else count - 100

-- the words around that count
abbrev pub count_text : Form → ℕ → List ℕ
count_text Human count = codes "and " ++ (decimal count ++ codes " more\n")
count_text Short count = codes "and " ++ (decimal count ++ codes " more\n")
count_text Json count = codes "{\"more\":" ++ (decimal count ++ codes "}\n")
count_text GitHub count = codes "::notice::and " ++ (decimal count ++ codes " more\n")

-- the line that counts the reports which are not written, where there are such
abbrev pub hidden_text : Form → ℕ → List ℕ
hidden_text form count = if nat_lt 0 count then count_text form count else []

-- these reports in a form, all or the first 100 of them
abbrev pub sheet_text : Form → Bool → List Item → List ℕ
sheet_text form all items =
    flat_map (item_text form) (shown_items all items) ++ hidden_text form (hidden_of all (length items))
