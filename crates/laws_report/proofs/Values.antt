-- The value of a report is tidy and shallow.
use Rattle.std.proofs.Common.{◌≡◌, ℕ, suc, ◌≤◌, max, List, Option, Some, None, map, refl, arith}
use Rattle.serde_json.specs.Data.{depth, items_depth}
use Rattle.serde_json.specs.Read.{read, max_depth}
use Rattle.serde_json.specs.View.{items_of}
use Rattle.serde_json.specs.Written.{compact_text}
use Rattle.cedar_data.specs.declared.severity.Severity.{Severity}
use Rattle.cedar_data.specs.declared.severity.Severity.TheVariants.{Error, Warning}
use Rattle.schema_report.specs.declared.place.Place.{Place}
use Rattle.schema_report.specs.declared.report.Report.{Report}
use Rattle.schema_report.specs.declared.report.ReportPlace.{ReportPlace}
use Rattle.schema_report.specs.Json.{optional_value, severity_value, position_value, place_value, report_value}
use Rattle.laws_report.specs.Counted.{IsPlaceCounted, IsRangeCounted, IsCounted}
use Rattle.laws_report.proofs.Lists.{items_tidy, items_shallow}
use Rattle.laws_report.proofs.Tidy.{Tidy, text_read}

pub optional_tidy : (text : Option (List ℕ)) → Tidy (optional_value text)
optional_tidy None = tt
optional_tidy (Some text) = tt

pub severity_tidy : (s : Severity) → Tidy (severity_value s)
severity_tidy Error = tt
severity_tidy Warning = tt

position_tidy : (p : Place) → IsPlaceCounted p → Tidy (position_value p)
position_tidy p h = (h.byte, (refl, (h.column, (refl, (h.line, (refl, (h.utf16, (tt, tt))))))))

place_tidy : (p : ReportPlace) → IsRangeCounted p → Tidy (place_value p)
place_tidy p h = (
  position_tidy p.end h.end,
  (
    refl,
    (
      position_tidy p.start h.start,
      (
        refl,
        (
          optional_tidy p.text,
          (tt, tt),
        ),
      ),
    ),
  ),
)

report_tidy : (path : List ℕ) (r : Report) → IsCounted r → Tidy (report_value path r)
report_tidy path r h = (
  optional_tidy r.help,
  (
    refl,
    (
      tt,
      (
        refl,
        (
          tt,
          (
            refl,
            (
              items_tidy place_value r.places (λ i p is. place_tidy _ (h i p is)),
              (
                refl,
                (
                  optional_tidy r.rule,
                  (
                    refl,
                    (severity_tidy r.severity, (tt, tt)),
                  ),
                ),
              ),
            ),
          ),
        ),
      ),
    ),
  ),
)

pub optional_flat : (text : Option (List ℕ)) → depth (optional_value text) ≡ 0
optional_flat None = refl
optional_flat (Some text) = refl

pub severity_flat : (s : Severity) → depth (severity_value s) ≡ 0
severity_flat Error = refl
severity_flat Warning = refl

place_shallow : (p : ReportPlace) → depth (place_value p) ≤ 2
place_shallow p = by (depth (optional_value p.text)) (optional_flat p.text)
  where
    by : (t : ℕ) → t ≡ 0 → suc (max 1 (max 1 (max t 0))) ≤ 2
    by t h = omega (arith, h)

report_shallow : (path : List ℕ) (r : Report) → depth (report_value path r) ≤ max_depth
report_shallow path r =
    by (depth (optional_value r.help)) (items_depth (items_of (map place_value r.places)))
    (depth (optional_value r.rule)) (depth (severity_value r.severity)) (optional_flat r.help)
    (items_shallow place_value 2 place_shallow r.places) (optional_flat r.rule) (severity_flat r.severity)
  where
    by : (help places rule severity : ℕ) → help ≡ 0 → places ≤ 2 → rule ≡ 0 → severity ≡ 0
        → suc (max help (max 0 (max 0 (max (suc places) (max rule (max severity 0)))))) ≤ 127
    by help places rule severity h p r s = omega (arith, h, p, r, s)

pub report_read : (path : List ℕ) (r : Report) → IsCounted r
    → read (compact_text (report_value path r)) ≡ Some (report_value path r)
report_read path r h = text_read (report_value path r) (report_tidy path r h) (report_shallow path r)
