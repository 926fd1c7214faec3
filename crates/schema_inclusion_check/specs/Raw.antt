-- The meaning of a built schema with its lists as they stand in memory: in some order, an item maybe twice.
use Rattle.std.specs.Prelude.{ℕ, Bool, true, false, List, [], map, Option, None, Some}
use Rattle.std.specs.Option.{option_map}
use Rattle.cedar_identifiers.specs.Names.{components_of}
use Rattle.cedar_identifiers.specs.declared.name.Name.{Name}
use Rattle.cedar_names.specs.Definitions.{action_of}
use Rattle.cedar_names.specs.Meaning.{no_more, EntityMeaning, ActionMeaning, SchemaMeaning}
use Rattle.cedar_names.specs.declared.entity_uid.EntityUID.{EntityUID}
use Rattle.schema_build_types.specs.Content.{type_content}
use Rattle.schema_build_types.specs.declared.entity_type.ValidatorEntityType.{ValidatorEntityType}
use Rattle.schema_build_types.specs.declared.entity_type.ValidatorEntityTypeKind.{ValidatorEntityTypeKind}
use Rattle.schema_build_types.specs.declared.entity_type.ValidatorEntityTypeKind.TheVariants as kind
use Rattle.schema_build_types.specs.declared.action.ValidatorActionId.{ValidatorActionId}
use Rattle.schema_build_types.specs.declared.action.ValidatorActionKind.{ValidatorActionKind}
use Rattle.schema_build_types.specs.declared.action.ValidatorActionKind.TheVariants as action
use Rattle.schema_build_text.specs.Readings.{context_attributes}
use Rattle.schema_inclusion_types.specs.Kinds.{plain, plain_attrs}

-- the names, as lists of words
abbrev pub raw_names : List Name → List (List (List ℕ))
raw_names names = map (λ n. components_of n.name) names

abbrev pub raw_kind : List (List ℕ) → List (List (List ℕ)) → ValidatorEntityTypeKind → EntityMeaning
raw_kind name ancestors (kind.Standard attributes more tags) = record {
  name = name;
  is_external = false;
  ancestors = ancestors;
  attributes = plain_attrs attributes;
  tags = option_map plain tags;
  choices = None;
}
raw_kind name ancestors (kind.Enum choices) = record {
  name = name;
  is_external = false;
  ancestors = ancestors;
  attributes = no_more;
  tags = None;
  choices = Some (map (λ c. c.0) choices);
}
raw_kind name ancestors kind.External = record {
  name = name;
  is_external = true;
  ancestors = ancestors;
  attributes = no_more;
  tags = None;
  choices = None;
}

-- what this entity type means
abbrev pub raw_entity : Name × ValidatorEntityType → EntityMeaning
raw_entity e = raw_kind (components_of e.0.name) (raw_names e.1.ancestors) e.1.kind

abbrev pub raw_applies : List (List ℕ) × List ℕ → List (List (List ℕ) × List ℕ) → ValidatorActionKind → ActionMeaning
raw_applies a ancestors (action.Defined principals resources context) = record {
  ty = a.0;
  id = a.1;
  is_external = false;
  ancestors = ancestors;
  principals = raw_names principals;
  resources = raw_names resources;
  context = context_attributes (type_content context);
}
raw_applies a ancestors action.External = record {
  ty = a.0;
  id = a.1;
  is_external = true;
  ancestors = ancestors;
  principals = [];
  resources = [];
  context = no_more;
}

-- what this action means
abbrev pub raw_action : EntityUID × ValidatorActionId → ActionMeaning
raw_action a = raw_applies (action_of a.0) (map action_of a.1.ancestors) a.1.kind

-- what a schema of these entity types and actions means
abbrev pub raw_meaning : List (Name × ValidatorEntityType) → List (EntityUID × ValidatorActionId) → SchemaMeaning
raw_meaning entities actions = record { entities = map raw_entity entities; actions = map raw_action actions }
