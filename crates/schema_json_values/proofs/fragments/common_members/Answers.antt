use Rattle.std.proofs.Common.{◌∙◌}
use Rattle.serde_json.specs.Data.{put}
use Rattle.serde_json.specs.View.{members_view}
use Rattle.schema_json_values.specs.FragmentValues.{common_entry}
use Rattle.schema_json_values.proofs.Layers.{put_step}
use Rattle.schema_json_values.proofs.fragments.common_members.Goals as goal

pub loop-id-preserved : goal.loop-id-preserved
loop-id-preserved g c =
    let ms = members_view c.loop-id.members.entries in
    let new = c.in_ok-put.ensures.ok ∙ (λ i. put (c.as_str.ensures i) (c.in_ok-value.ensures i) ms) in
    put_step (common_entry g.N.NameText.components) c.args.entries.now c.loop-id.id-index c.loop-id-item.result ms
    (members_view c.put.new.map.entries) c.loop-id-test.true c.loop-id-item.is new ∙ c.loop-id.invariant
