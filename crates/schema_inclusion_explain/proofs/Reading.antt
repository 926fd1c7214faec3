-- What a built schema means is its raw meaning, with its lists in order.
use Rattle.std.proofs.Common.{◌≡◌, true, false, List, [], ◌∷◌, map, Option, None, Some, refl, ap}
use Rattle.std.specs.BTreeSet.{insert_key}
use Rattle.std.specs.Option.{option_map}
use Rattle.cedar_identifiers.specs.Names.{components_of}
use Rattle.cedar_identifiers.specs.declared.name.Name.{Name}
use Rattle.cedar_names.specs.CanonicalText.{in_order}
use Rattle.cedar_names.specs.Definitions.{action_of}
use Rattle.cedar_names.specs.declared.entity_uid.EntityUID.{EntityUID}
use Rattle.schema_build_types.specs.Content.{type_content, entity_content, action_content, actions_in_order}
use Rattle.schema_build_types.specs.Content.{actions_cmp}
use Rattle.schema_build_types.specs.Content.{content, Rec, none}
use Rattle.schema_build_types.specs.declared.types.Type.{«Type»}
use Rattle.schema_build_types.specs.declared.entity_type.ValidatorEntityType.{ValidatorEntityType}
use Rattle.schema_build_types.specs.declared.entity_type.ValidatorEntityTypeKind.{ValidatorEntityTypeKind}
use Rattle.schema_build_types.specs.declared.entity_type.ValidatorEntityTypeKind.TheVariants as kind
use Rattle.schema_build_types.specs.declared.action.ValidatorActionId.{ValidatorActionId}
use Rattle.schema_build_types.specs.declared.action.ValidatorActionKind.{ValidatorActionKind}
use Rattle.schema_build_types.specs.declared.action.ValidatorActionKind.TheVariants as action
use Rattle.schema_build_text.specs.Readings.{plain_type, entity_reading, action_reading, context_attributes}
use Rattle.schema_build_text.specs.Readings.{schema_reading}
use Rattle.schema_inclusion_types.specs.Kinds.{plain, plain_attrs}
use Rattle.schema_inclusion_check.specs.Raw.{raw_names, raw_kind, raw_entity, raw_action, raw_meaning}
use Rattle.schema_inclusion_check.specs.Ordered.{actions_once, entity_in_order, action_in_order, meaning_in_order}

tags_same : (t : Option «Type») → option_map plain_type (option_map type_content t) ≡ option_map plain t
tags_same None = refl
tags_same (Some t) = refl

uids_same : (us : List EntityUID) → actions_in_order us ≡ actions_once (map action_of us)
uids_same [] = refl
uids_same (u ∷ us) = ap (λ l. insert_key actions_cmp l (action_of u)) (uids_same us)

entity_read : (n : Name) (above : List Name) (k : ValidatorEntityTypeKind)
    → entity_reading (entity_content (n, record { ancestors = above; kind = k }))
    ≡ entity_in_order (raw_kind (components_of n.name) (raw_names above) k)
entity_read n above (kind.Standard attributes more tags) = λ i. record {
  name = components_of n.name;
  is_external = false;
  ancestors = in_order (raw_names above);
  attributes = plain_attrs attributes;
  tags = tags_same tags i;
  choices = None;
}
entity_read n above (kind.Enum choices) = refl
entity_read n above kind.External = refl

action_read : (u : EntityUID) (above : List EntityUID) (k : ValidatorActionKind)
    → action_reading (action_content (u, record { ancestors = above; kind = k }))
    ≡ action_in_order (raw_action (u, record { ancestors = above; kind = k }))
action_read u above (action.Defined principals resources context) = λ i. record {
  ty = (action_of u).0;
  id = (action_of u).1;
  is_external = false;
  ancestors = uids_same above i;
  principals = in_order (raw_names principals);
  resources = in_order (raw_names resources);
  context = context_attributes (type_content context);
}
action_read u above action.External = λ i. record {
  ty = (action_of u).0;
  id = (action_of u).1;
  is_external = true;
  ancestors = uids_same above i;
  principals = [];
  resources = [];
  context = context_attributes (Rec none false);
}

entities_read : (es : List (Name × ValidatorEntityType))
    → map entity_reading (map entity_content es) ≡ map entity_in_order (map raw_entity es)
entities_read [] = refl
entities_read (e ∷ es) = λ i. entity_read e.0 e.1.ancestors e.1.kind i ∷ entities_read es i

actions_read : (xs : List (EntityUID × ValidatorActionId))
    → map action_reading (map action_content xs) ≡ map action_in_order (map raw_action xs)
actions_read [] = refl
actions_read (a ∷ xs) = λ i. action_read a.0 a.1.ancestors a.1.kind i ∷ actions_read xs i

pub raw_read : (es : List (Name × ValidatorEntityType)) (xs : List (EntityUID × ValidatorActionId))
    → schema_reading (content es xs) ≡ meaning_in_order (raw_meaning es xs)
raw_read es xs = λ i. record { entities = entities_read es i; actions = actions_read xs i }
