-- Ids of entity types, as they are put together.
use Rattle.std.specs.Prelude.{◌≡◌, ◌<◌, ℕ, false, List, [], Option, Some, None, map, slice_index_or}
use Rattle.std.specs.List.{list_any}
use Rattle.std.specs.declared.cmp.Ordering.TheVariants.{Less}
use Rattle.cedar_identifiers.specs.Names.{components_of}
use Rattle.cedar_identifiers.specs.declared.name.Name.{Name}
use Rattle.cedar_names.specs.Definitions.{same_name}
use Rattle.cedar_names.specs.Meaning.{EntityMeaning, ActionMeaning, SchemaMeaning}
use Rattle.cedar_names.specs.Orders.{names_in_order}
use Rattle.cedar_names.specs.declared.entity_uid.EntityUID.{EntityUID}
use Rattle.schema_build_types.specs.declared.action.ValidatorActionId.{ValidatorActionId}
use Rattle.schema_inclusion_values.specs.Ids.{with_ids, entity_ids, action_ids, some_id, lost_of}
use Rattle.schema_inclusion_types.specs.declared.ids.TypeIds.{TypeIds}

-- the names of rows
abbrev pub row_names : List (Name × TypeIds) → List (List (List ℕ))
row_names rows = map (λ r. components_of r.0.name) rows

-- the types of the actions before the place are less than this one
abbrev pub AreTypesBelow : List (EntityUID × ValidatorActionId) → ℕ → Name → Type 0
AreTypesBelow actions at ty = (k : ℕ) (d : EntityUID × ValidatorActionId) → k < at
    → names_in_order (slice_index_or actions k d).0.ty.name ty.name ≡ Less

-- entity types of other names have no ids
abbrev pub CoverEntities : List (List (List ℕ)) → List EntityMeaning → Type 0
CoverEntities types entities = (n : List (List ℕ)) → list_any (same_name n) types ≡ false
    → entity_ids n entities ≡ Some []

-- actions of other types have no ids
abbrev pub CoverTypes : List (List (List ℕ)) → List ActionMeaning → Type 0
CoverTypes types actions = (n : List (List ℕ)) → list_any (same_name n) types ≡ false → action_ids n actions ≡ []

-- the ids of the entity type, if they can be listed
abbrev pub ids_at : Option EntityMeaning → Option (List (List ℕ))
ids_at None = Some []
ids_at (Some e) = with_ids e.choices (Some [])

-- the ids of the entity type and of the actions of this type, if they can be listed
abbrev pub ids_found : Option EntityMeaning → List (List ℕ) → List ActionMeaning → Option (List (List ℕ))
ids_found e n actions = with_ids (ids_at e) (Some (action_ids n actions))

-- what is known of the ids of the type is so
abbrev pub IsRow : SchemaMeaning → SchemaMeaning → Name × TypeIds → Type 0
IsRow m n r = (r.1.id ≡ some_id m (components_of r.0.name)) × (r.1.lost ≡ lost_of m n (components_of r.0.name))
