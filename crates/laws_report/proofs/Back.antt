-- The value of a report tells the report.
use Rattle.std.proofs.Common.{◌≡◌, ℕ, zero, suc, ◌+◌, ◌-◌, List, [], ◌∷◌, Option, Some, None, map, refl, sym, ap, ap₂}
use Rattle.std.proofs.Common.{◌∙◌, arith, codes, ◌==◌, if◌then◌else◌}
use Rattle.std.specs.Prelude.{All}
use Rattle.std.specs.Str.{chars}
use Rattle.std.proofs.lemmas.List.{append_cancel_right}
use Rattle.std.proofs.lemmas.List.Elements.{All-head, All-tail}
use Rattle.std.proofs.lemmas.Str.{chars-encodes}
use Rattle.json.proofs.Found.{Some_inj}
use Rattle.serde_json.specs.Data.{unsigned, negative, float, Data, null, boolean, number, string, array, object}
use Rattle.serde_json.specs.Data.{Items, no_items, item, Members, no_members, member}
use Rattle.serde_json.specs.Read.{read}
use Rattle.serde_json.specs.View.{items_of}
use Rattle.serde_json.specs.Written.{compact_text}
use Rattle.cedar_data.specs.declared.severity.Severity.{Severity}
use Rattle.cedar_data.specs.declared.severity.Severity.TheVariants.{Error, Warning}
use Rattle.schema_report.specs.declared.place.Place.{Place}
use Rattle.schema_report.specs.declared.report.Report.{Report}
use Rattle.schema_report.specs.declared.report.ReportPlace.{ReportPlace}
use Rattle.schema_report.specs.Json.{optional_value, severity_value, position_value, place_value, report_value}
use Rattle.schema_report.specs.Json.{json_line}
use Rattle.laws_report.specs.Counted.{IsCounted, IsSomeText, HasTexts}
use Rattle.laws_report.proofs.Values.{report_read}

-- ---- what values tell

abbrev count_in : Data → ℕ
count_in null = 0
count_in (boolean b) = 0
count_in (number (unsigned n)) = n
count_in (number (negative z)) = 0
count_in (number (float x)) = 0
count_in (string s) = 0
count_in (array ds) = 0
count_in (object ms) = 0

abbrev bytes_in : Data → List ℕ
bytes_in null = []
bytes_in (boolean b) = []
bytes_in (number n) = []
bytes_in (string s) = s
bytes_in (array ds) = []
bytes_in (object ms) = []

abbrev optional_in : Data → Option (List ℕ)
optional_in null = None
optional_in (boolean b) = None
optional_in (number n) = None
optional_in (string s) = Some (chars s)
optional_in (array ds) = None
optional_in (object ms) = None

abbrev severity_in : List ℕ → Severity
severity_in [] = Error
severity_in (b ∷ bs) = if b == 101 then Error else Warning

abbrev items_in : Data → Items
items_in null = no_items
items_in (boolean b) = no_items
items_in (number n) = no_items
items_in (string s) = no_items
items_in (array ds) = ds
items_in (object ms) = no_items

abbrev members_in : Data → Members
members_in null = no_members
members_in (boolean b) = no_members
members_in (number n) = no_members
members_in (string s) = no_members
members_in (array ds) = no_members
members_in (object ms) = ms

abbrev nth : ℕ → Members → Data
nth n no_members = null
nth zero (member k d ms) = d
nth (suc n) (member k d ms) = nth n ms

abbrev place_in : Members → Place
place_in ms = record {
  byte = count_in (nth 0 ms);
  line = count_in (nth 2 ms) - 1;
  column = count_in (nth 1 ms) - 1;
  utf16 = count_in (nth 3 ms) - 1;
}

abbrev range_in : Members → ReportPlace
range_in ms = record {
  start = place_in (members_in (nth 1 ms));
  end = place_in (members_in (nth 0 ms));
  text = optional_in (nth 2 ms);
}

abbrev ranges_in : Items → List ReportPlace
ranges_in no_items = []
ranges_in (item d ds) = range_in (members_in d) ∷ ranges_in ds

abbrev report_in : Members → Report
report_in ms = record {
  severity = severity_in (bytes_in (nth 5 ms));
  rule = optional_in (nth 4 ms);
  message = chars (bytes_in (nth 1 ms));
  help = optional_in (nth 0 ms);
  places = ranges_in (items_in (nth 3 ms));
}

-- ---- what they tell is what was written

optional_back : (text : Option (List ℕ)) → IsSomeText text → optional_in (optional_value text) ≡ text
optional_back None h = refl
optional_back (Some text) h = ap Some (chars-encodes text h)

severity_back : (s : Severity) → severity_in (bytes_in (severity_value s)) ≡ s
severity_back Error = refl
severity_back Warning = refl

less_one : (n : ℕ) → n + 1 - 1 ≡ n
less_one n = omega arith

place_back : (p : Place) → place_in (members_in (position_value p)) ≡ p
place_back p = rw (less_one p.line, less_one p.column, less_one p.utf16) refl

range_back : (p : ReportPlace) → IsSomeText p.text → range_in (members_in (place_value p)) ≡ p
range_back p h = rw (place_back p.start, place_back p.end, optional_back p.text h) refl

ranges_back : (ps : List ReportPlace) → All (λ p. IsSomeText p.text) ps
    → ranges_in (items_of (map place_value ps)) ≡ ps
ranges_back [] all = refl
ranges_back (p ∷ ps) all = ap₂ (λ q qs. q ∷ qs) (range_back p (All-head (λ p. IsSomeText p.text) p ps all))
    (ranges_back ps (All-tail (λ p. IsSomeText p.text) p ps all))

report_back : (path : List ℕ) (r : Report) → HasTexts r → report_in (members_in (report_value path r)) ≡ r
report_back path r h = rw (
  severity_back r.severity,
  optional_back r.rule h.rule,
  chars-encodes r.message h.message,
  optional_back r.help h.help,
  ranges_back r.places h.places,
) refl

-- ---- the line

same_value : (path other : List ℕ) (r s : Report) → IsCounted r → IsCounted s
    → json_line path r ≡ json_line other s → report_value path r ≡ report_value other s
same_value path other r s h k e =
    let texts : compact_text (report_value path r) ≡ compact_text (report_value other s)
    = append_cancel_right (compact_text (report_value path r)) (compact_text (report_value other s)) (codes "\n") e in
    Some_inj (report_value path r) (report_value other s)
    (sym (report_read path r h) ∙ ap read texts ∙ report_read other s k)

pub one_line : (path other : List ℕ) (r s : Report) → IsCounted r → IsCounted s → HasTexts r → HasTexts s
    → json_line path r ≡ json_line other s → (path ≡ other) × (r ≡ s)
one_line path other r s h k t u e =
    let same = same_value path other r s h k e in (
      ap (λ d. bytes_in (nth 2 (members_in d))) same,
      sym (report_back path r t) ∙ ap (λ d. report_in (members_in d)) same ∙ report_back other s u,
    )
