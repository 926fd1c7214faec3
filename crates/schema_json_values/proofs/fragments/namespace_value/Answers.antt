use Rattle.std.proofs.Common.{◌≡◌, map, codes, ap, ◌∙◌}
use Rattle.serde_json.specs.Data.{object, no_members, put}
use Rattle.serde_json.specs.View.{members_view}
use Rattle.serde_json.proofs.Views.{view-Object}
use Rattle.schema_json_values.specs.TypeValues.{put_all, with_annotations}
use Rattle.schema_json_values.specs.FragmentValues.{common_entry, entity_entry, action_entry, with_object}
use Rattle.schema_json_values.proofs.fragments.namespace_value.Goals as goal

pub returns : goal.returns
returns g c =
    let names = g.N.NameText.components in
    let n = c.args.namespace.now in
    let base : members_view c.new-members.result.entries ≡ no_members = ap members_view c.new-members.ensures.empty in
    let entities = view-Object c.in_ok-entities.entities
    ∙ ap object (c.in_ok-entities.ensures
    ∙ ap (λ es. put_all (map (entity_entry names) es) no_members) c.as_slice.ensures.entries) in
    let actions = view-Object c.in_ok-actions.actions
    ∙ ap object (c.in_ok-actions.ensures
    ∙ ap (λ es. put_all (map (action_entry names) es) no_members) c.as_slice-2.ensures.entries) in
    let first = c.in_ok-put.ensures.ok ∙ (λ i. put (codes "entityTypes") (entities i) (base i)) in
    let second = c.in_ok-put-2.ensures.ok ∙ (λ i. put (codes "actions") (actions i) (first i)) in
    let third = c.in_ok-put_common_types.ensures
    ∙ (λ i. with_object (codes "commonTypes") (map (common_entry names) (c.as_slice-3.ensures.entries i)) (second i)) in
    view-Object c.put_annotations.new.members
    ∙ ap object (c.in_ok-put_annotations.ensures ∙ ap (with_annotations n.annotations.0) third)
