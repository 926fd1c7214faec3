-- What is reported of a fault of a text.
use Rattle.std.specs.Prelude.{ℕ, Bool, ◌&&◌, ◌||◌, if◌then◌else◌, nat_lt, nat_le, List, [], ◌∷◌, length, slice_index}
use Rattle.std.specs.Prelude.{Option}
use Rattle.std.specs.List.{flat_map}
use Rattle.cedar_data.specs.declared.label.Label.{Label}
use Rattle.cedar_data.specs.declared.severity.Severity.{Severity}
use Rattle.schema_report.specs.declared.report.Report.{Report}
use Rattle.schema_report.specs.declared.report.ReportPlace.{ReportPlace}
use Rattle.schema_report.specs.Places.{place_at}

-- whether a character of the text begins at the byte, or the text ends there
abbrev pub is_between_chars : List ℕ → ℕ → Bool
is_between_chars text byte = nat_le byte (length text) && (nat_le (length text) byte
    || (nat_lt (slice_index text byte) 128 || nat_le 192 (slice_index text byte)))

-- the place that a label points to, and none where it is no range of characters of the text
abbrev pub label_places : List ℕ → Label → List ReportPlace
label_places text label = if is_between_chars text label.span.start && is_between_chars text label.span.end
    then record {
      start = place_at text label.span.start;
      end = place_at text label.span.end;
      text = label.text;
    } ∷ []
    else []

-- the report of a fault that has this severity, says this, and has this help and these labels
abbrev pub reported : {T : Type 0} → (T → Severity) → (T → List ℕ) → (T → List ℕ → Option (List ℕ)) → (T → List Label)
    → Option (List ℕ) → List ℕ → T → Report
reported severity said help labels rule text fault = record {
  severity = severity fault;
  rule = rule;
  message = said fault;
  help = help fault text;
  places = flat_map (label_places text) (labels fault);
}
