-- The walk of a built schema: its namespaces in order, the empty one first, and in each the entity types, then the
-- actions.
use Rattle.std.specs.Prelude.{ℕ, List, ◌++◌, map, filter}
use Rattle.std.specs.List.{flat_map}
use Rattle.cedar_names.specs.CanonicalText.{namespace, in_order}
use Rattle.cedar_names.specs.Definitions.{same_name}
use Rattle.schema_build_types.specs.Content.{EntityContent, ActionContent, SchemaContent}

-- an entity type or an action
pub data ItemContent : Type 0 where
  entity_type : EntityContent → ItemContent
  action : ActionContent → ItemContent

-- the namespace in which it stands
abbrev pub namespace_of : ItemContent → List (List ℕ)
namespace_of (entity_type e) = namespace e.name
namespace_of (action a) = namespace a.ty

-- the entity types, then the actions
abbrev pub items_of : SchemaContent → List ItemContent
items_of c = map entity_type c.entities ++ map action c.actions

-- the items of a namespace
abbrev pub items_in : SchemaContent → List (List ℕ) → List ItemContent
items_in c n = filter (λ x. same_name n (namespace_of x)) (items_of c)

-- the namespaces that have an item, in order, the empty one first
abbrev pub namespaces_of : SchemaContent → List (List (List ℕ))
namespaces_of c = in_order (map namespace_of (items_of c))

-- the items in the order of the walk
abbrev pub walk : SchemaContent → List ItemContent
walk c = flat_map (items_in c) (namespaces_of c)
