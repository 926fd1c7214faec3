-- What is bare: an entity type without attributes and tags that is no enum, and an action of which neither attributes
-- are written nor what it applies to.
use Rattle.std.specs.Prelude.{Bool, false, ◌&&◌, is_none}
use Rattle.cedar_identifiers.specs.declared.name_text.NameText as named
use Rattle.schema_json.specs.Shapes.{is_empty_type}
use Rattle.schema_json.specs.declared.entity_type.EntityType.{EntityType}
use Rattle.schema_json.specs.declared.entity_type.EntityTypeKind.{EntityTypeKind}
use Rattle.schema_json.specs.declared.entity_type.EntityTypeKind.TheVariants.{Standard, Enum}
use Rattle.schema_json.specs.declared.action_type.ActionType.{ActionType}

module _ {N : Type 0} where
  -- the entities are not listed, their shape is empty and closed, and they have no tags
  abbrev pub is_bare_kind : EntityTypeKind N → Bool
  is_bare_kind (Standard s) = is_empty_type s.shape.0 && is_none s.tags
  is_bare_kind (Enum choices) = false

  -- the entity type is no enum, its shape is empty and closed, and it has no tags
  abbrev pub is_bare_entity : EntityType N → Bool
  is_bare_entity e = is_bare_kind e.kind

  -- neither the action's attributes are written, be there any or not, nor what it applies to
  abbrev pub is_bare_action : {G : named.Ghosts N} → ActionType N G → Bool
  is_bare_action a = is_none a.attributes && is_none a.applies_to
