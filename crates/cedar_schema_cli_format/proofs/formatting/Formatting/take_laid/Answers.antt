use Rattle.std.proofs.Common.{◌∙◌, ap, refl, subst}
use Rattle.std.specs.Str.{encode_utf8_all}
use Rattle.schema_json_quotes.specs.Adds.{Adds}
use Rattle.cedar_schema_cli_check.specs.Statuses.{joined_status}
use Rattle.cedar_schema_cli_format.specs.Plans.{laid, printed, counted}
use Rattle.cedar_schema_cli_format.proofs.Outcomes.{on_ok}
use Rattle.cedar_schema_cli_format.proofs.Taken.{laid_taken}
use Rattle.cedar_schema_cli_format.proofs.formatting.Formatting.take_laid.Goals as goal

pub returns : goal.returns
returns c =
    let run = c.args.self.now in
    let name = c.args.name.now in
    let text = c.args.old.now in
    let out = subst (λ t. Adds run.out c.push_printed.new.out (printed run.mode name (laid text t)))
    c.as_str.ensures.bytes c.in_ok-push_printed.ensures in
    let status = c.joined_status-self.ensures ∙ ap (joined_status run.status)
    (c.counted.ensures ∙ ap (λ t. counted run.mode (laid text t)) c.as_str-2.ensures.bytes) in
    on_ok c.push_change.result _ _
    (λ changes. laid_taken name text (encode_utf8_all c.args.new) run _ refl refl out status changes)
    c.push_change.ensures
