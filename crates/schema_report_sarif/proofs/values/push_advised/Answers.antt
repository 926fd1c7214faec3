use Rattle.std.proofs.Common.{◌≡◌, ◌++◌, codes, refl, ap, ◌∙◌, append_assoc, string_bytes}
use Rattle.std.proofs.lemmas.Result.{on_ok_weaker}
use Rattle.std.specs.Str.{chars}
use Rattle.cedar_data.proofs.Ascii.{chars-from_test}
use Rattle.serde_json.specs.Written.{compact_text}
use Rattle.schema_report_sarif.specs.Sarif.{message_value}
use Rattle.schema_report_sarif.proofs.values.push_advised.Goals as goal

pub returns : goal.returns
returns c =
    let message = c.args.message.now in
    let help = c.args.help.now in
    let advice = codes "\nhelp: " in
    let first : c.push_text.new.self ≡ message
    = c.in_ok-push_text.ensures.ok ∙ ap (λ front. front ++ message) c.new-said.ensures in
    let second : c.push_str.new.self ≡ message ++ advice
    = c.in_ok-push_str.ensures.ok ∙ ap (λ front. front ++ chars advice) first
    ∙ ap (λ more. message ++ more) (chars-from_test advice refl) in
    let whole : c.push_text-2.new.self ≡ message ++ (advice ++ help)
    = c.in_ok-push_text-2.ensures.ok ∙ ap (λ front. front ++ help) second ∙ append_assoc message advice help in
    on_ok_weaker c.push_message.result
    (λ e. e ∙ ap (λ said. string_bytes c.args.out.now ++ compact_text (message_value said)) whole)
    c.push_message.ensures
