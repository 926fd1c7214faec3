use Rattle.std.proofs.Common.{◌<◌, length, codes, sym, ap, ◌∙◌, arith}
use Rattle.std.proofs.lemmas.Result.{on_ok_weaker}
use Rattle.serde_json.specs.Data.{put}
use Rattle.serde_json.specs.View.{members_view}
use Rattle.schema_json_values.specs.FragmentValues.{name_value}
use Rattle.schema_json_values.proofs.Presence.{list_put}
use Rattle.schema_json_values.proofs.entity_types.put_parents.Goals as goal

pub returns : goal.returns
returns g c =
    let f = name_value g.N.NameText.components in
    let key = codes "memberOfTypes" in
    let ms = members_view c.args.members.now.entries in
    let some : 0 < length c.args.parents.now = omega (arith, c.if-parents-eq0.false) in
    on_ok_weaker c.put.result (λ e. e ∙ ap (λ d. put key d ms) c.in_ok-value.ensures
    ∙ sym (list_put f key c.args.parents.now ms some)) c.put.ensures.ok
