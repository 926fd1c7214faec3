-- What whole reasons and values in memory stand for.
use Rattle.std.specs.Prelude.{List, map}
use Rattle.cedar_identifiers.specs.Names.{components_of}
use Rattle.cedar_identifiers.specs.declared.name.Name as named
use Rattle.cedar_names.specs.Definitions.{action_of}
use Rattle.cedar_names.specs.declared.entity_uid.EntityUID.{EntityUID}
use Rattle.schema_inclusion_values.specs.Admits.{EntityValue, RequestValue}
use Rattle.schema_inclusion_values.specs.Seen.{entries_value, parents_value}
use Rattle.schema_inclusion_values.specs.Values.{Text}
use Rattle.schema_inclusion_values.specs.declared.val.Val as held
use Rattle.schema_inclusion_reasons.specs.Places.{Path}
use Rattle.schema_inclusion_reasons.specs.Reasons.{Reason, type_gone, choice_gone, in_attributes, tags_gone, in_tags}
use Rattle.schema_inclusion_reasons.specs.Reasons.{parent_type_gone, parent_gone, action_gone, principal_gone}
use Rattle.schema_inclusion_reasons.specs.Reasons.{resource_gone, in_context, ancestor_gone}
use Rattle.schema_inclusion_explain.specs.Held.{held_step, held_cause}
use Rattle.schema_inclusion_explain.specs.declared.places.Step as steps
use Rattle.schema_inclusion_explain.specs.declared.reasons.Reason as reasons
use Rattle.schema_inclusion_explain.specs.declared.reasons.Reason.TheVariants as reason

-- the steps, from the outermost on
abbrev pub held_path : List steps.Step → Path
held_path path = map held_step path

-- what a reason in memory stands for
abbrev pub held_reason : reasons.Reason → Reason
held_reason (reason.TypeGone n) = type_gone (components_of n.name)
held_reason (reason.ChoiceGone id) = choice_gone id
held_reason (reason.InAttributes p c) = in_attributes (held_path p) (held_cause c)
held_reason reason.TagsGone = tags_gone
held_reason (reason.InTags p c) = in_tags (held_path p) (held_cause c)
held_reason (reason.ParentTypeGone i n) = parent_type_gone i (components_of n.name)
held_reason (reason.ParentGone i n id) = parent_gone i (components_of n.name) id
held_reason (reason.ActionGone a) = action_gone (action_of a)
held_reason (reason.PrincipalGone n) = principal_gone (components_of n.name)
held_reason (reason.ResourceGone n) = resource_gone (components_of n.name)
held_reason (reason.InContext p c) = in_context (held_path p) (held_cause c)
held_reason (reason.AncestorGone a) = ancestor_gone (action_of a)

-- an entity of these parts
abbrev pub entity_held : named.Name → Text → List (Text × held.Val) → List (Text × held.Val) → List (named.Name × Text)
    → EntityValue
entity_held ty id attrs tags parents = record {
  ty = components_of ty.name;
  id = id;
  attributes = entries_value attrs;
  tags = entries_value tags;
  parents = parents_value parents;
}

-- a request of these parts
abbrev pub request_held : EntityUID → named.Name → named.Name → List (Text × held.Val) → RequestValue
request_held action principal resource context = record {
  action = action_of action;
  principal = components_of principal.name;
  resource = components_of resource.name;
  context = entries_value context;
}
