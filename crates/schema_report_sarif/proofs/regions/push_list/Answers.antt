use Rattle.std.proofs.Common.{◌≡◌, ◌∷◌, ◌++◌, ap, sym, ◌∙◌, string_bytes}
use Rattle.std.proofs.lemmas.Result.{on_ok_weaker}
use Rattle.serde_json.specs.Written.{compact_text}
use Rattle.schema_report_sarif.specs.Sarif.{location_value, list_value}
use Rattle.schema_report_sarif.proofs.ListLemmas.{later_items}
use Rattle.schema_report_sarif.proofs.regions.push_list.Goals as goal

pub returns-in-Some : goal.returns-in-Some
returns-in-Some c =
    let path = c.args.path.now in
    let first = c.in-Some.first.now in
    let others = c.in-Some.others.now in
    let whole : c.args.places.now ≡ first ∷ others = c.in-Some.ensures.cases.0 in
    on_ok_weaker c.push_some.result
    (λ e. e ∙ ap (λ rest. string_bytes c.args.out.now ++ 91 ∷ (compact_text (location_value path first) ++ rest))
    (sym (later_items (location_value path) others))
    ∙ ap (λ places. string_bytes c.args.out.now ++ compact_text (list_value path places)) (sym whole))
    c.push_some.ensures
