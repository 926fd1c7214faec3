use Rattle.std.proofs.Common.{◌≡◌, ◌∷◌, ◌++◌, ap, sym, ◌∙◌, string_bytes}
use Rattle.std.proofs.lemmas.Result.{on_ok_weaker}
use Rattle.serde_json.specs.Written.{compact_text}
use Rattle.schema_report.specs.Json.{places_value}
use Rattle.schema_report.proofs.JsonLemmas.{some_places}
use Rattle.schema_report.proofs.json_lines.push_places.Goals as goal

pub returns-in-Some : goal.returns-in-Some
returns-in-Some c =
    let first = c.in-Some.first.now in
    let others = c.in-Some.others.now in
    let whole : c.args.places.now ≡ first ∷ others = c.in-Some.ensures.cases.0 in
    on_ok_weaker c.push_some.result
    (λ e. e ∙ ap (λ text. string_bytes c.args.out.now ++ text)
    (some_places first others ∙ ap (λ ps. compact_text (places_value ps)) (sym whole))) c.push_some.ensures
