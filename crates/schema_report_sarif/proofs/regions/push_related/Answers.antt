use Rattle.std.proofs.Common.{◌++◌, ap, sym, ◌∙◌, string_bytes}
use Rattle.std.proofs.lemmas.Result.{on_ok_weaker}
use Rattle.serde_json.specs.Written.{compact_text}
use Rattle.schema_report_sarif.specs.Sarif.{related_value}
use Rattle.schema_report_sarif.proofs.regions.push_related.Goals as goal

pub returns-in-Some : goal.returns-in-Some
returns-in-Some c =
    on_ok_weaker c.push_list.result
    (λ e. e ∙ ap (λ places. string_bytes c.args.out.now ++ compact_text (related_value c.args.path.now places))
    (sym c.in-Some.ensures.cases.0)) c.push_list.ensures
