-- What is lent of an entity type and of an action, and what it means.
use Rattle.std.specs.Prelude.{ℕ, List, map, Option}
use Rattle.std.specs.Option.{option_copied, option_map}
use Rattle.cedar_identifiers.specs.Names.{components_of}
use Rattle.cedar_identifiers.specs.declared.eid.Eid.{Eid}
use Rattle.cedar_names.specs.Definitions.{action_of}
use Rattle.cedar_names.specs.Meaning.{EntityMeaning, ActionMeaning}
use Rattle.schema_inclusion_types.specs.Kinds.{plain, plain_attrs}
use Rattle.schema_inclusion_check.specs.declared.parts.EntityParts.{EntityParts}
use Rattle.schema_inclusion_check.specs.declared.parts.ActionParts.{ActionParts}
use Rattle.schema_inclusion_check.specs.Raw.{raw_names}

-- the choices of an enum
abbrev pub ids_of : List Eid → List (List ℕ)
ids_of choices = map (λ c. c.0) choices

-- what a built entity type stands for
abbrev pub entity_meaning : EntityParts → EntityMeaning
entity_meaning p = record {
  name = components_of p.name.now.name;
  is_external = p.is_external;
  ancestors = raw_names p.ancestors.now;
  attributes = plain_attrs p.attributes.now;
  tags = option_map plain (option_copied p.tags);
  choices = option_map ids_of (option_copied p.choices);
}

-- what a built action stands for
abbrev pub action_meaning : ActionParts → ActionMeaning
action_meaning p = record {
  ty = components_of p.uid.now.ty.name;
  id = p.uid.now.eid.0;
  is_external = p.is_external;
  ancestors = map action_of p.ancestors.now;
  principals = raw_names p.principals.now;
  resources = raw_names p.resources.now;
  context = plain_attrs p.context.now;
}
