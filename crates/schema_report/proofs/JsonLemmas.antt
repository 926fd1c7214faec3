-- The list of the places of a report as JSON.
use Rattle.std.proofs.Common.{◌≡◌, true, List, [], ◌∷◌, ◌++◌, map, refl, sym, ap, ◌∙◌, append_assoc}
use Rattle.std.specs.List.{flat_map}
use Rattle.serde_json.specs.View.{items_of}
use Rattle.serde_json.specs.Written.{compact_text, items_text}
use Rattle.schema_report.specs.declared.report.ReportPlace.{ReportPlace}
use Rattle.schema_report.specs.Json.{place_value, places_value, later_place}

later_items : (ps : List ReportPlace) → items_text true (items_of (map place_value ps)) ≡ flat_map later_place ps
    ++ 93 ∷ []
later_items [] = refl
later_items (p ∷ ps) = ap (λ rest. 44 ∷ (compact_text (place_value p) ++ rest)) (later_items ps)
    ∙ sym (append_assoc (later_place p) (flat_map later_place ps) (93 ∷ []))

pub some_places : (p : ReportPlace) (ps : List ReportPlace)
    → 91 ∷ (compact_text (place_value p) ++ (flat_map later_place ps ++ 93 ∷ [])) ≡ compact_text (places_value (p ∷
    ps))
some_places p ps = ap (λ rest. 91 ∷ (compact_text (place_value p) ++ rest)) (sym (later_items ps))
