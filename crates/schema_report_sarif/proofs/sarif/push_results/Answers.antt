use Rattle.std.proofs.Common.{◌≡◌, ◌∷◌, ◌++◌, ap, sym, ◌∙◌, string_bytes}
use Rattle.std.proofs.lemmas.Result.{on_ok_weaker}
use Rattle.serde_json.specs.Written.{compact_text}
use Rattle.schema_report_sarif.specs.Sarif.{found_value, results_value}
use Rattle.schema_report_sarif.proofs.ListLemmas.{later_items}
use Rattle.schema_report_sarif.proofs.sarif.push_results.Goals as goal

pub returns-in-Some : goal.returns-in-Some
returns-in-Some c =
    let first = c.in-Some.first in
    let others = c.in-Some.others.now in
    let whole : c.args.found.now ≡ first.now ∷ others = c.in-Some.ensures.cases.0 in
    on_ok_weaker c.push_some.result
    (λ e. e ∙ ap (λ rest. string_bytes c.args.out.now ++ 91 ∷ (compact_text (found_value first.now) ++ rest))
    (sym (later_items found_value others))
    ∙ ap (λ found. string_bytes c.args.out.now ++ compact_text (results_value found)) (sym whole))
    c.push_some.ensures
