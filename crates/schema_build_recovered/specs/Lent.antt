-- The items of a built schema, lent: those of a namespace, and what they say together.
use Rattle.std.specs.Prelude.{ℕ, List, map, filter}
use Rattle.std.specs.Borrow.{Bor}
use Rattle.cedar_identifiers.specs.Names.{components_of}
use Rattle.cedar_identifiers.specs.declared.name.Name.{Name}
use Rattle.cedar_names.specs.CanonicalText.{namespace}
use Rattle.cedar_names.specs.Definitions.{same_name}
use Rattle.cedar_names.specs.declared.entity_uid.EntityUID.{EntityUID}
use Rattle.schema_build_types.specs.Content.{SchemaContent, content}
use Rattle.schema_build_types.specs.declared.action.ValidatorActionId.{ValidatorActionId}
use Rattle.schema_build_types.specs.declared.entity_type.ValidatorEntityType.{ValidatorEntityType}
use Rattle.schema_build_recovered.specs.Places.{words_of}
use Rattle.schema_build_recovered.specs.declared.names.Namespace.{Namespace}
use Rattle.schema_build_recovered.specs.declared.names.Words.{Words}

abbrev pub LentEntities : Type 0
LentEntities = List (Bor (Name × ValidatorEntityType))

abbrev pub LentActions : Type 0
LentActions = List (Bor (EntityUID × ValidatorActionId))

-- the entity types that stand in the namespace
abbrev pub entities_at : Words → LentEntities → List (Name × ValidatorEntityType)
entities_at home items =
    filter (λ e. same_name (words_of home) (namespace (components_of e.0.name))) (map (λ x. x.now) items)

-- the actions that stand in the namespace
abbrev pub actions_at : Words → LentActions → List (EntityUID × ValidatorActionId)
actions_at home items =
    filter (λ a. same_name (words_of home) (namespace (components_of a.0.ty.name))) (map (λ x. x.now) items)

-- what the items say
abbrev pub lent_content : LentEntities → LentActions → SchemaContent
lent_content entities actions = content (map (λ x. x.now) entities) (map (λ x. x.now) actions)

-- the words of each namespace
abbrev pub all_words : List Namespace → List (List (List ℕ))
all_words namespaces = map (λ n. words_of n.words) namespaces
