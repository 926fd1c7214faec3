use Rattle.std.proofs.Common.{◌++◌, ap, ◌∙◌, codes, string_bytes}
use Rattle.serde_json.specs.Written.{compact_text}
use Rattle.schema_json_values.specs.TypeValues.{type_value}
use Rattle.schema_json_text.specs.Members.{tags_value}
use Rattle.schema_json_text.proofs.Slots.{adds_none, adds_some}
use Rattle.schema_json_text.proofs.Presence.{bare_key, key_tags}
use Rattle.schema_json_text.proofs.entity_types.push_tags.Goals as goal

pub returns-in-None : goal.returns-in-None
returns-in-None g c =
    let names = g.N.NameText.components in
    adds_none c.args.later (codes "tags") (tags_value names c.args.tags.now) (string_bytes c.args.out.now)
    (ap (tags_value names) c.in-None.is)

pub returns-in_ok-push_type-in-Some : goal.returns-in_ok-push_type-in-Some
returns-in_ok-push_type-in-Some g c =
    let names = g.N.NameText.components in
    let mid = string_bytes c.push_later.new.out in
    adds_some c.args.later (codes "tags") (tags_value names c.args.tags.now) (type_value names c.in-Some.ty)
    (string_bytes c.args.out.now) mid (string_bytes c.push_type.new.out) (bare_key (codes "tags"))
    (ap (tags_value names) c.in-Some.is) c.in_ok-push_later-in-Some.ensures key_tags
    (c.in_ok-push_type-in-Some.ensures ∙ ap (λ t. mid ++ compact_text (type_value names t)) c.get.ensures)
