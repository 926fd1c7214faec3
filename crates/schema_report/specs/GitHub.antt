-- Reports as workflow commands of GitHub, as characters.
use Rattle.std.specs.Prelude.{ℕ, ◌+◌, List, [], ◌∷◌, ◌++◌, codes, decimal, Option, Some, None}
use Rattle.std.specs.List.{flat_map}
use Rattle.schema_report.specs.declared.place.Place.{Place}
use Rattle.schema_report.specs.declared.report.Report.{Report}
use Rattle.schema_report.specs.declared.report.ReportPlace.{ReportPlace}
use Rattle.schema_report.specs.Escapes.{in_message, in_property}
use Rattle.schema_report.specs.Short.{severity_word}

-- where a place begins and ends, from 1
abbrev pub range_properties : Place → Place → List ℕ
range_properties start end = codes ",line=" ++ (decimal (start.line + 1) ++ (codes ",col="
    ++ (decimal (start.column + 1) ++ (codes ",endLine=" ++ (decimal (end.line + 1) ++ (codes ",endColumn="
    ++ decimal (end.column + 1)))))))

-- those of the first place
abbrev pub region_properties : List ReportPlace → List ℕ
region_properties [] = []
region_properties (p ∷ ps) = range_properties p.start p.end

-- the name of the rule as the title
abbrev pub title_property : Option (List ℕ) → List ℕ
title_property None = []
title_property (Some rule) = codes ",title=" ++ flat_map in_property rule

-- the advice in a line of its own
abbrev pub help_words : Option (List ℕ) → List ℕ
help_words None = []
help_words (Some help) = codes "%0Ahelp: " ++ flat_map in_message help

-- `::error file=path,line=1,col=2,endLine=1,endColumn=5::message`
abbrev pub github_line : List ℕ → Report → List ℕ
github_line path report = codes "::" ++ (severity_word report.severity ++ (codes " file=" ++ (flat_map in_property path
    ++ (region_properties report.places ++ (title_property report.rule ++ (codes "::"
    ++ (flat_map in_message report.message ++ (help_words report.help ++ codes "\n"))))))))
