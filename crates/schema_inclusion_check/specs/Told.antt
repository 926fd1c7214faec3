-- What is known of ids between two meanings, and what lent values stand for.
use Rattle.std.specs.Prelude.{◌≡◌, ℕ, List, map}
use Rattle.std.specs.Borrow.{Bor}
use Rattle.cedar_identifiers.specs.Names.{components_of}
use Rattle.cedar_identifiers.specs.declared.name.Name.{Name}
use Rattle.cedar_names.specs.Meaning.{SchemaMeaning}
use Rattle.schema_inclusion_values.specs.Ids.{some_id, lost_of}
use Rattle.schema_inclusion_types.specs.Ids.{id_in, lost_in}
use Rattle.schema_inclusion_types.specs.declared.ids.TypeIds.{TypeIds}

-- an id of each entity type of the old meaning, and one that the new meaning has not
abbrev pub IsTold : List (Name × TypeIds) → SchemaMeaning → SchemaMeaning → Type 0
IsTold rows old new = (id_in rows ≡ some_id old) × (lost_in rows ≡ lost_of old new)

-- texts that are lent
abbrev pub texts_now : List (Bor (List ℕ)) → List (List ℕ)
texts_now texts = map (λ t. t.now) texts

-- a parent, by its type and its id
abbrev pub parent_value : Name × List ℕ → List (List ℕ) × List ℕ
parent_value p = (components_of p.0.name, p.1)
