-- Names that a meaning declares, and types that hold no others.
use Rattle.std.specs.Prelude.{◌≡◌, ◌⊎◌, ℕ, true, List, map, Contains, Option, Some, None}
use Rattle.cedar_names.specs.Meaning.{PlainType, Attributes, SchemaMeaning}
use Rattle.cedar_names.specs.Meaning as m
use Rattle.cedar_names.specs.Tables.{table_has}
use Rattle.cedar_names.specs.declared.extension_table.ExtensionTable.{ExtensionTable}
use Rattle.laws_build.specs.Closure.Ordered.{IsOrderedType}

abbrev pub meant_entities : SchemaMeaning → List (List (List ℕ))
meant_entities m = map (λ e. e.name) m.entities

-- an action goes by its type and its id
abbrev pub meant_actions : SchemaMeaning → List (List (List ℕ) × List ℕ)
meant_actions m = map (λ a. (a.ty, a.id)) m.actions

abbrev pub action_types : SchemaMeaning → List (List (List ℕ))
action_types m = map (λ a. a.ty) m.actions

-- the name of an entity type, or the type of an action
abbrev pub IsKnownName : SchemaMeaning → List (List ℕ) → Type 0
IsKnownName m name = Contains (meant_entities m) name ⊎ Contains (action_types m) name

module _ (table : ExtensionTable) (meaning : SchemaMeaning) where
  abbrev mutual
    -- each entity type in it is declared, and each extension type is in the table
    pub IsKnownType : PlainType → Type 0
    IsKnownType PlainType.Bool = Unit {0}
    IsKnownType PlainType.Long = Unit {0}
    IsKnownType PlainType.String = Unit {0}
    IsKnownType (PlainType.Set t) = IsKnownType t
    IsKnownType (PlainType.Rec xs) = AreKnownTypes xs
    IsKnownType (PlainType.Entity name) = IsKnownName meaning name
    IsKnownType (PlainType.Ext name) = table_has table name ≡ true

    pub AreKnownTypes : Attributes → Type 0
    AreKnownTypes m.no_more = Unit {0}
    AreKnownTypes (m.attribute n r t xs) = IsKnownType t × AreKnownTypes xs

  -- the type of the tags, where there are tags, rises and is known
  abbrev pub AreKnownTags : Option PlainType → Type 0
  AreKnownTags None = Unit {0}
  AreKnownTags (Some t) = IsOrderedType t × IsKnownType t
