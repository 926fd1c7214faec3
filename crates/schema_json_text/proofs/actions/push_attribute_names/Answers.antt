use Rattle.std.proofs.Common.{◌++◌, ap, ◌∙◌, map, codes, string_bytes}
use Rattle.serde_json.specs.Written.{compact_text}
use Rattle.schema_json_values.specs.TypeValues.{object_of}
use Rattle.schema_json_values.specs.FragmentValues.{attribute_name_entry}
use Rattle.schema_json_text.specs.Members.{nulls_value}
use Rattle.schema_json_text.proofs.Slots.{adds_none, adds_some}
use Rattle.schema_json_text.proofs.Presence.{bare_key, key_attributes}
use Rattle.schema_json_text.proofs.actions.push_attribute_names.Goals as goal

pub returns-in-None : goal.returns-in-None
returns-in-None c =
    adds_none c.args.later (codes "attributes") (nulls_value c.args.attributes.now) (string_bytes c.args.out.now)
    (ap nulls_value c.in-None.is)

pub returns-in_ok-push_nulls-in-Some : goal.returns-in_ok-push_nulls-in-Some
returns-in_ok-push_nulls-in-Some c =
    let mid = string_bytes c.push_later.new.out in
    adds_some c.args.later (codes "attributes") (nulls_value c.args.attributes.now)
    (object_of (map attribute_name_entry c.in-Some.names)) (string_bytes c.args.out.now) mid
    (string_bytes c.push_nulls.new.out) (bare_key (codes "attributes")) (ap nulls_value c.in-Some.is)
    c.in_ok-push_later-in-Some.ensures key_attributes
    (c.in_ok-push_nulls-in-Some.ensures
    ∙ ap (λ ts. mid ++ compact_text (object_of (map attribute_name_entry ts))) c.as_slice.ensures.items)
