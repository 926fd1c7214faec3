use Rattle.std.proofs.Common.{refl, map, true, Some, codes, string_bytes}
use Rattle.std.proofs.lemmas.Result.{on_ok_weaker}
use Rattle.schema_json_values.specs.FragmentValues.{choice_value, list_of}
use Rattle.schema_json_text.proofs.Slots.{adds_some}
use Rattle.schema_json_text.proofs.Presence.{bare_key, key_enum}
use Rattle.schema_json_text.proofs.EntityTexts.{enum_written}
use Rattle.schema_json_text.proofs.entity_types.push_enum.Goals as goal

pub returns : goal.returns
returns c =
    let d = list_of (map choice_value c.args.choices.now) in
    let old = string_bytes c.args.out.now in
    let n1 = string_bytes c.push_choices.new.out in
    let first = adds_some c.args.later (codes "enum") (Some d) d old (string_bytes c.push_later.new.out) n1
    (bare_key (codes "enum")) refl c.in_ok-push_later.ensures key_enum c.in_ok-push_choices.ensures in
    on_ok_weaker c.push_char.result
    (λ e. enum_written c.args.later c.in_ok-_later._later true true true true old n1
    (string_bytes c.push_external.new.out) old old old (string_bytes c.push_char.new.out) c.args.external d first
    c.in_ok-_later.ensures e)
    c.push_char.ensures
