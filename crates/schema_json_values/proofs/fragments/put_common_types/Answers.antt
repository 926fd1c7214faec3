use Rattle.std.proofs.lemmas.Grind.{common_steps}
use Rattle.std.proofs.Common.{◌<◌, length, codes, sym, ap, ◌∙◌, arith}
use Rattle.std.proofs.lemmas.Result.{on_ok_weaker}
use Rattle.serde_json.specs.Data.{object, put}
use Rattle.serde_json.specs.View.{members_view}
use Rattle.serde_json.proofs.Views.{view-Object}
use Rattle.schema_json_values.specs.FragmentValues.{common_entry}
use Rattle.schema_json_values.proofs.Presence.{object_put}
use Rattle.schema_json_values.proofs.fragments.put_common_types.Goals as goal

pub returns : goal.returns
returns g c =
    let f = common_entry g.N.NameText.components in
    let key = codes "commonTypes" in
    let ms = members_view c.args.members.now.entries in
    let some : 0 < length c.args.entries.now = omega (arith, c.if-entries-eq0.false) in
    let value = view-Object c.in_ok-common.common ∙ ap object c.in_ok-common.ensures in
    on_ok_weaker c.put.result (λ e. e ∙ ap (λ d. put key d ms) value
    ∙ sym (object_put f key c.args.entries.now ms some)) c.put.ensures.ok

pub returns-then-entries-eq0 : goal.returns-then-entries-eq0
returns-then-entries-eq0 g c = grind (arith, common_steps)
