use Rattle.std.proofs.Common.{◌∙◌, sym, codes, string_bytes}
use Rattle.schema_json_values.specs.TypeValues.{type_value}
use Rattle.schema_json_text.specs.Members.{shape_value}
use Rattle.schema_json_text.proofs.Slots.{adds_none, adds_some}
use Rattle.schema_json_text.proofs.Presence.{bare_key, key_shape, shape_none, shape_some}
use Rattle.schema_json_text.proofs.entity_types.push_shape.Goals as goal

pub returns-then-is_empty_record : goal.returns-then-is_empty_record
returns-then-is_empty_record g c =
    let names = g.N.NameText.components in
    adds_none c.args.later (codes "shape") (shape_value names c.args.shape.now) (string_bytes c.args.out.now)
    (shape_none names c.args.shape.now (sym c.is_empty_record.ensures ∙ c.if-is_empty_record.true))

pub returns : goal.returns
returns g c =
    let names = g.N.NameText.components in
    adds_some c.args.later (codes "shape") (shape_value names c.args.shape.now) (type_value names c.args.shape.now)
    (string_bytes c.args.out.now) (string_bytes c.push_later.new.out) (string_bytes c.push_type.new.out)
    (bare_key (codes "shape"))
    (shape_some names c.args.shape.now (sym c.is_empty_record.ensures ∙ c.if-is_empty_record.false))
    c.in_ok-push_later.ensures key_shape c.in_ok-push_type.ensures
