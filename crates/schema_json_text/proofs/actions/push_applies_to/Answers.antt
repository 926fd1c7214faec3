use Rattle.std.proofs.Common.{ap, codes, string_bytes}
use Rattle.schema_json_values.specs.FragmentValues.{applies_to_value}
use Rattle.schema_json_text.specs.Members.{applies_value}
use Rattle.schema_json_text.proofs.Slots.{adds_none, adds_some}
use Rattle.schema_json_text.proofs.Presence.{bare_key, key_applies}
use Rattle.schema_json_text.proofs.actions.push_applies_to.Goals as goal

pub returns-in-None : goal.returns-in-None
returns-in-None g c =
    let names = g.N.NameText.components in
    adds_none c.args.later (codes "appliesTo") (applies_value names c.args.applies_to.now)
    (string_bytes c.args.out.now) (ap (applies_value names) c.in-None.is)

pub returns-in_ok-push_apply_spec-in-Some : goal.returns-in_ok-push_apply_spec-in-Some
returns-in_ok-push_apply_spec-in-Some g c =
    let names = g.N.NameText.components in
    adds_some c.args.later (codes "appliesTo") (applies_value names c.args.applies_to.now)
    (applies_to_value names c.in-Some.applies_to) (string_bytes c.args.out.now) (string_bytes c.push_later.new.out)
    (string_bytes c.push_apply_spec.new.out) (bare_key (codes "appliesTo")) (ap (applies_value names) c.in-Some.is)
    c.in_ok-push_later-in-Some.ensures key_applies c.in_ok-push_apply_spec-in-Some.ensures
