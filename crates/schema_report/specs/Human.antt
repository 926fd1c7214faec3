-- Reports as people read them in a terminal, as characters.
use Rattle.std.specs.Prelude.{ℕ, ◌+◌, ◌-◌, max, false, ◌==◌, if◌then◌else◌, nat_lt, List, [], ◌∷◌, ◌++◌, length}
use Rattle.std.specs.Prelude.{take, drop, codes, decimal, replicate, Option, Some, None}
use Rattle.std.specs.List.{flat_map, fold}
use Rattle.std.specs.Str.{chars}
use Rattle.unicode_width.specs.Width.{str_width}
use Rattle.cedar_data.specs.declared.severity.Severity.{Severity}
use Rattle.cedar_data.specs.declared.severity.Severity.TheVariants.{Error, Warning}
use Rattle.schema_report.specs.declared.human.Colour.{Colour}
use Rattle.schema_report.specs.declared.human.Colour.TheVariants.{Plain, Ansi}
use Rattle.schema_report.specs.declared.place.Place.{Place}
use Rattle.schema_report.specs.declared.report.Report.{Report}
use Rattle.schema_report.specs.declared.report.ReportPlace.{ReportPlace}
use Rattle.schema_report.specs.Lines.{TextLines, line_in}
use Rattle.schema_report.specs.Short.{shown, severity_word, rule_words, line_and_column}

-- ---- colours, as the codes that a terminal takes

-- the code where colours are wanted
abbrev pub coloured : Colour → List ℕ → List ℕ
coloured Plain code = []
coloured Ansi code = 27 ∷ code

abbrev pub frame_code : List ℕ
frame_code = codes "[1;34m"

abbrev pub message_code : List ℕ
message_code = codes "[1m"

abbrev pub plain_code : List ℕ
plain_code = codes "[0m"

-- errors are red, and warnings yellow
abbrev pub severity_code : Severity → List ℕ
severity_code Error = codes "[1;31m"
severity_code Warning = codes "[1;33m"

-- words in a colour
abbrev pub painted : Colour → List ℕ → List ℕ → List ℕ
painted colour code words = coloured colour code ++ (words ++ coloured colour plain_code)

-- a part of the frame around source lines
abbrev pub framed : Colour → List ℕ → List ℕ
framed colour words = painted colour frame_code words

-- so many spaces
abbrev pub space_row : ℕ → List ℕ
space_row n = replicate n 32

-- ---- what is shown of a source line

-- how many characters are left out at the front of a line, so that at most 100 stand ahead of the place
abbrev pub skipped : ReportPlace → ℕ
skipped place = place.start.column - 100

-- the characters of the line behind those, and at most 300 of them
abbrev pub window : List ℕ → ReportPlace → List ℕ
window line place = take 300 (drop (skipped place) line)

-- the part of the window ahead of the place
abbrev pub ahead_text : List ℕ → ReportPlace → List ℕ
ahead_text line place = take (place.start.column - skipped place) (window line place)

-- how many characters of its first line a place has: to its end, or to that of the window
abbrev pub mark_len : ReportPlace → ℕ
mark_len place = if place.start.line == place.end.line then place.end.column - place.start.column else 300

-- the part of the window at the place
abbrev pub mark_text : List ℕ → ReportPlace → List ℕ
mark_text line place = take (mark_len place) (drop (place.start.column - skipped place) (window line place))

-- dots stand for what is left out
abbrev pub dots : List ℕ → List ℕ
dots [] = []
dots (c ∷ cs) = codes "..."

-- dots for so many characters
abbrev pub dots_for : ℕ → List ℕ
dots_for count = if nat_lt 0 count then codes "..." else []

-- the room that those dots take
abbrev pub room_for : ℕ → List ℕ
room_for count = if nat_lt 0 count then codes "   " else []

-- how many columns of a terminal a text takes
abbrev pub columns_of : List ℕ → ℕ
columns_of text = str_width false (shown text)

-- ---- the lines of a report

-- `error[rule]: message`
abbrev pub head_line : Colour → Report → List ℕ
head_line colour report = coloured colour (severity_code report.severity) ++ (severity_word report.severity
    ++ (rule_words report.rule ++ (coloured colour plain_code ++ (coloured colour message_code ++ (codes ": "
    ++ (shown report.message ++ (coloured colour plain_code ++ codes "\n")))))))

-- `  --> path:line:column`
abbrev pub where_line : Colour → ℕ → List ℕ → List ℕ → Place → List ℕ
where_line colour gutter arrow path place = space_row gutter ++ (framed colour arrow ++ (shown path
    ++ (line_and_column place ++ codes "\n")))

-- `   |`
abbrev pub gutter_line : Colour → ℕ → List ℕ
gutter_line colour gutter = space_row gutter ++ (framed colour (codes " |") ++ codes "\n")

-- ` 7 | `
abbrev pub line_number : Colour → ℕ → ℕ → List ℕ
line_number colour gutter line = space_row (gutter - length (decimal (line + 1)))
    ++ (coloured colour frame_code ++ (decimal (line + 1) ++ (codes " | " ++ coloured colour plain_code)))

-- the source line around a place
abbrev pub line_shown : List ℕ → ReportPlace → List ℕ
line_shown line place = dots_for (skipped place) ++ (shown (window line place)
    ++ (dots (drop 300 (drop (skipped place) line)) ++ codes "\n"))

-- ` 7 | the source line`
abbrev pub code_line : Colour → ℕ → List ℕ → ReportPlace → List ℕ
code_line colour gutter line place = line_number colour gutter place.start.line ++ line_shown line place

-- what is said at a place
abbrev pub said_at : Option (List ℕ) → List ℕ
said_at None = []
said_at (Some text) = codes " " ++ shown text

-- `(up to line 9)`
abbrev pub up_to : ℕ → List ℕ
up_to line = codes " (up to line " ++ (decimal (line + 1) ++ codes ")")

-- where a place ends that has several lines
abbrev pub last_line : ReportPlace → List ℕ
last_line place = if nat_lt place.start.line place.end.line then up_to place.end.line else []

-- `   |     `
abbrev pub mark_indent : Colour → ℕ → ReportPlace → ℕ → List ℕ
mark_indent colour gutter place room =
    space_row gutter ++ (framed colour (codes " | ") ++ (room_for (skipped place) ++ space_row room))

-- `^^^^ what is said there`
abbrev pub carets : Colour → Severity → ReportPlace → ℕ → List ℕ
carets colour severity place count = coloured colour (severity_code severity) ++ (replicate count 94
    ++ (said_at place.text ++ (last_line place ++ (coloured colour plain_code ++ codes "\n"))))

-- `   |     ^^^^ what is said there`
abbrev pub mark_line : Colour → ℕ → Severity → List ℕ → ReportPlace → List ℕ
mark_line colour gutter severity line place = mark_indent colour gutter place (columns_of (ahead_text line place))
    ++ carets colour severity place (max (columns_of (mark_text line place)) 1)

-- the source line of a place, where the text has it
abbrev pub snippet : Colour → ℕ → Severity → ReportPlace → Option (List ℕ) → List ℕ
snippet colour gutter severity place None = []
snippet colour gutter severity place (Some line) = gutter_line colour gutter
    ++ (code_line colour gutter (chars line) place ++ mark_line colour gutter severity (chars line) place)

-- a place with its source line
abbrev pub place_block : Colour → ℕ → Severity → List ℕ → TextLines → List ℕ → ReportPlace → List ℕ
place_block colour gutter severity path lines arrow place = where_line colour gutter arrow path place.start
    ++ snippet colour gutter severity place (line_in lines place.start.line)

-- `  --> path`
abbrev pub path_line : Colour → ℕ → List ℕ → List ℕ
path_line colour gutter path = space_row gutter ++ (framed colour (codes "--> ") ++ (shown path ++ codes "\n"))

-- the places, one after another, or the path alone
abbrev pub place_blocks : Colour → ℕ → Severity → List ℕ → TextLines → List ReportPlace → List ℕ
place_blocks colour gutter severity path lines [] = path_line colour gutter path
place_blocks colour gutter severity path lines (p ∷ ps) =
    place_block colour gutter severity path lines (codes "--> ") p
    ++ flat_map (place_block colour gutter severity path lines (codes "::: ")) ps

-- `   = help: the advice`
abbrev pub advice : Colour → ℕ → List ℕ → List ℕ
advice colour gutter help =
    space_row gutter ++ (framed colour (codes " = ") ++ (codes "help: " ++ (shown help ++ codes "\n")))

-- the advice, where there is any
abbrev pub help_lines : Colour → ℕ → Option (List ℕ) → List ℕ
help_lines colour gutter None = []
help_lines colour gutter (Some help) = advice colour gutter help

-- the columns that the numbers of the lines take
abbrev pub gutter_of : List ReportPlace → ℕ
gutter_of places = length (decimal (fold (λ most p. max most p.start.line) 0 places + 1))

-- the report with these colours, of the text with these lines at this path
abbrev pub human_text : Colour → List ℕ → TextLines → Report → List ℕ
human_text colour path lines report = head_line colour report
    ++ (place_blocks colour (gutter_of report.places) report.severity path lines report.places
    ++ help_lines colour (gutter_of report.places) report.help)
