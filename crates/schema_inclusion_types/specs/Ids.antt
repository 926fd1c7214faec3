-- Ids of entity types, by their names.
use Rattle.std.specs.Prelude.{ℕ, cond, List, [], ◌∷◌, Option, None}
use Rattle.cedar_identifiers.specs.Names.{components_of}
use Rattle.cedar_identifiers.specs.declared.name.Name.{Name}
use Rattle.cedar_names.specs.Definitions.{same_name}
use Rattle.schema_inclusion_types.specs.declared.ids.TypeIds.{TypeIds}

-- the id of the type
abbrev pub id_in : List (Name × TypeIds) → List (List ℕ) → List ℕ
id_in [] n = []
id_in (r ∷ rows) n = cond (same_name n (components_of r.0.name)) r.1.id (id_in rows n)

-- the id of the type that is lost
abbrev pub lost_in : List (Name × TypeIds) → List (List ℕ) → Option (List ℕ)
lost_in [] n = None
lost_in (r ∷ rows) n = cond (same_name n (components_of r.0.name)) r.1.lost (lost_in rows n)
