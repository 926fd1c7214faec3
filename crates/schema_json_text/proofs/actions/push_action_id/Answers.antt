use Rattle.std.proofs.Common.{◌++◌, ap, sym, ◌∙◌, codes, string_bytes}
use Rattle.std.specs.Str.{encode_utf8_all}
use Rattle.std.proofs.lemmas.Result.{on_ok_weaker}
use Rattle.json.specs.Print.{quoted}
use Rattle.serde_json.specs.Data.{object, string, no_members, put}
use Rattle.serde_json.specs.Written.{compact_text}
use Rattle.schema_json_values.specs.FragmentValues.{with_type}
use Rattle.schema_json_text.proofs.ActionTexts.{id_untyped, id_typed}
use Rattle.schema_json_text.proofs.actions.push_action_id.Goals as goal

pub returns-in_ok-push_name-in-Some : goal.returns-in_ok-push_name-in-Some
returns-in_ok-push_name-in-Some g c =
    let names = g.N.NameText.components in
    let old = string_bytes c.args.out.now in
    let id = encode_utf8_all c.args.action.now.id in
    let n1 = string_bytes c.push.new.out in
    let said = c.in_ok-push_quoted.ensures ∙ ap (λ s. n1 ++ quoted s) c.as_str.ensures.bytes in
    let last = put (codes "id") (string id) no_members in
    on_ok_weaker c.push_char.result
    (λ e. id_typed names id c.in-Some.ty old n1 (string_bytes c.push_quoted.new.out)
    (string_bytes c.push-in-Some.new.out) (string_bytes c.push_name.new.out) (string_bytes c.push_char.new.out)
    c.in_ok-push.ensures said c.in_ok-push-in-Some.ensures c.in_ok-push_name-in-Some.ensures e
    ∙ ap (λ ty. old ++ compact_text (object (with_type names ty last))) (sym c.in-Some.is))
    c.push_char.ensures

pub returns-in-None : goal.returns-in-None
returns-in-None g c =
    let names = g.N.NameText.components in
    let old = string_bytes c.args.out.now in
    let id = encode_utf8_all c.args.action.now.id in
    let n1 = string_bytes c.push.new.out in
    let said = c.in_ok-push_quoted.ensures ∙ ap (λ s. n1 ++ quoted s) c.as_str.ensures.bytes in
    let last = put (codes "id") (string id) no_members in
    on_ok_weaker c.push_char-in-None.result
    (λ e. id_untyped names id old n1 (string_bytes c.push_quoted.new.out) (string_bytes c.push_char-in-None.new.out)
    c.in_ok-push.ensures said e
    ∙ ap (λ ty. old ++ compact_text (object (with_type names ty last))) (sym c.in-None.is))
    c.push_char-in-None.ensures
