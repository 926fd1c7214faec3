use Rattle.std.proofs.Common.{refl, sym, subst}
use Rattle.std.specs.Prelude.{codes}
use Rattle.serde_json.specs.View.{view, members_view}
use Rattle.schema_json_shapes.specs.Walk.{AllMet, keys, demands}
use Rattle.schema_json_shapes.specs.Shapes.{AreKeys}
use Rattle.schema_json_shapes.proofs.Objects.{an_object, no_object, no_members_asked}
use Rattle.schema_json_shapes.proofs.actions.read_attributes.Goals as goal

pub returns-in_ok-read_keys-in-Some : goal.returns-in_ok-read_keys-in-Some
returns-in_ok-read_keys-in-Some c =
    let ms = members_view c.in-Some.members.now.entries in
    let is = an_object (view c.args.value.now) ms c.in-Some.ensures in (
      subst (λ d. AllMet (demands keys (codes "attributes") d)) is (subst AllMet (sym (no_members_asked ms)) tt),
      subst (λ d. AreKeys d c.in_ok-read_keys-in-Some.field-0) is c.in_ok-read_keys-in-Some.ensures,
    )

pub returns-in-None : goal.returns-in-None
returns-in-None c = no_object keys (codes "attributes")
    (record { on_null = refl; on_flag = refl; on_number = refl; on_string = λ s. refl; on_array = refl })
    (view c.args.value.now) c.wrong_type.result c.in-None.ensures c.wrong_type.ensures
