use Rattle.std.proofs.Common.{◌++◌, ap, sym, ◌∙◌, append-nil, codes, string_bytes}
use Rattle.std.proofs.lemmas.Result.{on_ok_weaker}
use Rattle.schema_json_values.specs.TypeValues.{type_value}
use Rattle.schema_json_text.specs.Members.{ahead, shape_value}
use Rattle.schema_json_text.proofs.Slots.{ahead_whole}
use Rattle.schema_json_text.proofs.Presence.{bare_key, key_context, shape_none, shape_some}
use Rattle.schema_json_text.proofs.actions.push_context.Goals as goal

pub returns-then-is_empty_record : goal.returns-then-is_empty_record
returns-then-is_empty_record g c =
    let names = g.N.NameText.components in
    let old = string_bytes c.args.out.now in
    let none = shape_none names c.args.context.now (sym c.is_empty_record.ensures ∙ c.if-is_empty_record.true) in
    sym (append-nil old) ∙ ap (λ o. old ++ ahead (codes "context") o) (sym none)

pub returns : goal.returns
returns g c =
    let names = g.N.NameText.components in
    let old = string_bytes c.args.out.now in
    let some = shape_some names c.args.context.now (sym c.is_empty_record.ensures ∙ c.if-is_empty_record.false) in
    on_ok_weaker c.push_char.result
    (λ e. ahead_whole (codes "context") (shape_value names c.args.context.now) (type_value names c.args.context.now) old
    (string_bytes c.push.new.out) (string_bytes c.push_type.new.out) (string_bytes c.push_char.new.out)
    (bare_key (codes "context")) some c.in_ok-push.ensures key_context c.in_ok-push_type.ensures e)
    c.push_char.ensures
