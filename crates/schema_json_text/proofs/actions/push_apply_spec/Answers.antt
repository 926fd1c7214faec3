use Rattle.std.proofs.Common.{◌++◌, ap, ◌∙◌, string_bytes}
use Rattle.std.proofs.lemmas.Result.{on_ok_weaker}
use Rattle.serde_json.specs.Written.{compact_text}
use Rattle.schema_json_values.specs.FragmentValues.{names_value}
use Rattle.schema_json_text.proofs.ActionTexts.{apply_spec_written}
use Rattle.schema_json_text.proofs.actions.push_apply_spec.Goals as goal

pub returns : goal.returns
returns g c =
    let names = g.N.NameText.components in
    let n3 = string_bytes c.push.new.out in
    let n5 = string_bytes c.push-2.new.out in
    let principals = c.in_ok-push_names.ensures
    ∙ ap (λ ns. n3 ++ compact_text (names_value names ns)) c.as_slice.ensures in
    let resources = c.in_ok-push_names-2.ensures
    ∙ ap (λ ns. n5 ++ compact_text (names_value names ns)) c.as_slice-2.ensures in
    on_ok_weaker c.push_char-2.result
    (λ e. apply_spec_written names c.args.applies_to.now (string_bytes c.args.out.now)
    (string_bytes c.push_char.new.out) (string_bytes c.push_context.new.out) n3 (string_bytes c.push_names.new.out) n5
    (string_bytes c.push_names-2.new.out) (string_bytes c.push_char-2.new.out) c.in_ok-push_char.ensures
    c.in_ok-push_context.ensures c.in_ok-push.ensures principals c.in_ok-push-2.ensures resources e)
    c.push_char-2.ensures
