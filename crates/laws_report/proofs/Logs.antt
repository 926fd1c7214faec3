-- The value of a SARIF log is tidy and shallow.
use Rattle.std.proofs.Common.{◌≡◌, ℕ, suc, ◌≤◌, max, List, [], ◌∷◌, Option, Some, None, map, refl, arith, codes, get_or}
use Rattle.std.specs.Prelude.{All}
use Rattle.std.proofs.lemmas.List.Elements.{All-head, All-tail}
use Rattle.serde_json.specs.Data.{Data, depth, items_depth, members_depth}
use Rattle.serde_json.specs.Read.{read, max_depth}
use Rattle.serde_json.specs.View.{items_of}
use Rattle.serde_json.specs.Written.{compact_text}
use Rattle.schema_report.specs.declared.place.Place.{Place}
use Rattle.schema_report.specs.declared.report.Report.{Report}
use Rattle.schema_report.specs.declared.report.ReportPlace.{ReportPlace}
use Rattle.schema_report.specs.Json.{severity_value}
use Rattle.schema_report_sarif.specs.declared.sarif.Found.{Found}
use Rattle.schema_report_sarif.specs.Sarif.{said_value, region_value, physical_value, placed_value, location_value}
use Rattle.schema_report_sarif.specs.Sarif.{main_value, related_value, rule_member, result_value, found_value}
use Rattle.schema_report_sarif.specs.Sarif.{log_value}
use Rattle.schema_report_sarif.specs.Sarif.{driver_value, run_value}
use Rattle.laws_report.specs.Counted.{IsPlaceCounted, IsRangeCounted, IsCounted}
use Rattle.laws_report.proofs.Lists.{items_tidy, items_shallow}
use Rattle.laws_report.proofs.Tidy.{Tidy, MembersTidy, IsBelow, text_read}
use Rattle.laws_report.proofs.Values.{severity_tidy, severity_flat}

said_tidy : (message : List ℕ) (help : Option (List ℕ)) → Tidy (said_value message help)
said_tidy message None = (tt, (tt, tt))
said_tidy message (Some help) = (tt, (tt, tt))

region_tidy : (start end : Place) → IsPlaceCounted start → IsPlaceCounted end → Tidy (region_value start end)
region_tidy start end h k = (k.column, (refl, (k.line, (refl, (h.column, (refl, (h.line, (tt, tt))))))))

physical_tidy : (path : List ℕ) (p : ReportPlace) → IsRangeCounted p → Tidy (physical_value path p)
physical_tidy path p h = ((tt, (tt, tt)), (refl, (region_tidy p.start p.end h.start h.end, (tt, tt))))

placed_tidy : (text : Option (List ℕ)) (d : Data) → Tidy d → Tidy (placed_value text d)
placed_tidy None d h = (h, (tt, tt))
placed_tidy (Some text) d h = ((tt, (tt, tt)), (refl, (h, (tt, tt))))

location_tidy : (path : List ℕ) (p : ReportPlace) → IsRangeCounted p → Tidy (location_value path p)
location_tidy path p h = placed_tidy p.text (physical_value path p) (physical_tidy path p h)

main_tidy : (path : List ℕ) (ps : List ReportPlace) → All IsRangeCounted ps → Tidy (main_value path ps)
main_tidy path [] all = (((tt, (tt, tt)), (tt, tt)), (tt, tt))
main_tidy path (p ∷ ps) all = location_tidy path p (All-head IsRangeCounted p ps all)

related_tidy : (path : List ℕ) (ps : List ReportPlace) → All IsRangeCounted ps → Tidy (related_value path ps)
related_tidy path [] all = tt
related_tidy path (p ∷ ps) all =
    items_tidy (location_value path) ps
    (λ i q is. location_tidy path _ (All-tail IsRangeCounted p ps all i q is))

rule_tidy : (rule : Option (List ℕ)) → IsBelow (codes "relatedLocations") (rule_member rule)
    × MembersTidy (rule_member rule)
rule_tidy None = (tt, tt)
rule_tidy (Some rule) = (refl, (tt, (tt, tt)))

result_tidy : (path : List ℕ) (r : Report) → IsCounted r → Tidy (result_value path r)
result_tidy path r h = (
  severity_tidy r.severity,
  (
    refl,
    (
      (main_tidy path r.places h, tt),
      (
        refl,
        (said_tidy r.message r.help, (refl, (related_tidy path r.places h, rule_tidy r.rule))),
      ),
    ),
  ),
)

found_tidy : (f : Found) → IsCounted f.report.now → Tidy (found_value f)
found_tidy f h = result_tidy f.path.now f.report.now h

log_tidy : (version : List ℕ) (found : List Found) → All (λ f. IsCounted f.report.now) found
    → Tidy (log_value version found)
log_tidy version found all =
    let results = items_tidy found_value found (λ i f is. found_tidy (get_or found i f) (all i f is)) in
    let driver : Tidy (driver_value version) = (tt, (refl, (tt, (tt, tt)))) in
    let run : Tidy (run_value version found)
    = (tt, (refl, (results, (refl, ((driver, (tt, tt)), (tt, tt)))))) in
    (tt, (refl, ((run, tt), (refl, (tt, (tt, tt))))))

-- ---- how deep it is

said_shallow : (message : List ℕ) (help : Option (List ℕ)) → depth (said_value message help) ≡ 1
said_shallow message None = refl
said_shallow message (Some help) = refl

placed_shallow : (text : Option (List ℕ)) (d : Data) → depth d ≤ 2 → depth (placed_value text d) ≤ 3
placed_shallow None d h = omega (arith, h)
placed_shallow (Some text) d h = omega (arith, h)

location_shallow : (path : List ℕ) (p : ReportPlace) → depth (location_value path p) ≤ 3
location_shallow path p = placed_shallow p.text (physical_value path p) (omega arith)

main_shallow : (path : List ℕ) (ps : List ReportPlace) → depth (main_value path ps) ≤ 3
main_shallow path [] = omega arith
main_shallow path (p ∷ ps) = location_shallow path p

related_shallow : (path : List ℕ) (ps : List ReportPlace) → depth (related_value path ps) ≤ 4
related_shallow path [] = omega arith
related_shallow path (p ∷ ps) = up (items_depth (items_of (map (location_value path) ps)))
    (items_shallow (location_value path) 3 (location_shallow path) ps)
  where
    up : (n : ℕ) → n ≤ 3 → suc n ≤ 4
    up n h = omega (arith, h)

rule_shallow : (rule : Option (List ℕ)) → members_depth (rule_member rule) ≡ 0
rule_shallow None = refl
rule_shallow (Some rule) = refl

result_shallow : (path : List ℕ) (r : Report) → depth (result_value path r) ≤ 5
result_shallow path r =
    by (depth (severity_value r.severity)) (depth (main_value path r.places)) (depth (said_value r.message r.help))
    (depth (related_value path r.places)) (members_depth (rule_member r.rule)) (severity_flat r.severity)
    (main_shallow path r.places) (said_shallow r.message r.help) (related_shallow path r.places) (rule_shallow r.rule)
  where
    by : (severity main said related rule : ℕ) → severity ≡ 0 → main ≤ 3 → said ≡ 1 → related ≤ 4 → rule ≡ 0
        → suc (max severity (max (suc (max main 0)) (max said (max related rule)))) ≤ 5
    by severity main said related rule s m t r u = omega (arith, s, m, t, r, u)

log_shallow : (version : List ℕ) (found : List Found) → depth (log_value version found) ≤ max_depth
log_shallow version found =
    by (items_depth (items_of (map found_value found)))
    (items_shallow found_value 5 (λ f. result_shallow f.path.now f.report.now) found)
  where
    by : (results : ℕ) → results ≤ 5
        → suc (max 0 (max (suc (max (suc (max 0 (max (suc results) (max 2 0)))) 0)) (max 0 0))) ≤ 127
    by results h = omega (arith, h)

pub log_read : (version : List ℕ) (found : List Found) → All (λ f. IsCounted f.report.now) found
    → read (compact_text (log_value version found)) ≡ Some (log_value version found)
log_read version found all = text_read (log_value version found) (log_tidy version found all)
    (log_shallow version found)
