use Rattle.std.proofs.Common.{◌++◌, ap, ◌∙◌, map, codes, string_bytes}
use Rattle.serde_json.specs.Written.{compact_text}
use Rattle.schema_json_values.specs.FragmentValues.{action_id_value, list_of}
use Rattle.schema_json_text.specs.Members.{parents_value}
use Rattle.schema_json_text.proofs.Slots.{adds_none, adds_some}
use Rattle.schema_json_text.proofs.Presence.{bare_key, key_member_of}
use Rattle.schema_json_text.proofs.actions.push_parents.Goals as goal

pub returns-in-None : goal.returns-in-None
returns-in-None g c =
    let names = g.N.NameText.components in
    adds_none c.args.later (codes "memberOf") (parents_value names c.args.parents.now) (string_bytes c.args.out.now)
    (ap (parents_value names) c.in-None.is)

pub returns-in_ok-push_action_ids-in-Some : goal.returns-in_ok-push_action_ids-in-Some
returns-in_ok-push_action_ids-in-Some g c =
    let names = g.N.NameText.components in
    let mid = string_bytes c.push_later.new.out in
    adds_some c.args.later (codes "memberOf") (parents_value names c.args.parents.now)
    (list_of (map (action_id_value names) c.in-Some.actions)) (string_bytes c.args.out.now) mid
    (string_bytes c.push_action_ids.new.out) (bare_key (codes "memberOf")) (ap (parents_value names) c.in-Some.is)
    c.in_ok-push_later-in-Some.ensures key_member_of
    (c.in_ok-push_action_ids-in-Some.ensures
    ∙ ap (λ ids. mid ++ compact_text (list_of (map (action_id_value names) ids))) c.as_slice.ensures)
