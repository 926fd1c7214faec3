-- The names for which a fragment cannot be printed: those that stand for two things, and those of shapes that are
-- no records.
use Rattle.std.specs.Prelude.{◌≡◌, ℕ, Bool, true, false, not, List, [], ◌∷◌, ◌++◌, map, filter, Option, Some, None}
use Rattle.std.specs.List.{flat_map, list_any}
use Rattle.std.specs.Map.{keys_of}
use Rattle.std.specs.Str.{bytes_eq, encode_utf8_all}
use Rattle.std.specs.List.Sorted.{IsSorted, IsPermutation}
use Rattle.std.specs.declared.cmp.Ordering.{Ordering}
use Rattle.cedar_identifiers.specs.Names.{components_of}
use Rattle.cedar_identifiers.specs.declared.internal_name.InternalName.{InternalName}
use Rattle.cedar_identifiers.specs.declared.name.Name.{Name}
use Rattle.cedar_identifiers.specs.declared.name_text.NameText as named
use Rattle.cedar_identifiers.specs.declared.unreserved_id.UnreservedId.{UnreservedId}
use Rattle.schema_json.specs.declared.common_type.CommonType.{CommonType}
use Rattle.schema_json.specs.declared.common_type.CommonTypeId.{CommonTypeId}
use Rattle.schema_json.specs.declared.entity_type.EntityType.{EntityType}
use Rattle.schema_json.specs.declared.entity_type.EntityTypeKind.{EntityTypeKind}
use Rattle.schema_json.specs.declared.entity_type.EntityTypeKind.TheVariants.{Standard}
use Rattle.schema_json.specs.declared.fragment.Fragment.{Fragment}
use Rattle.schema_json.specs.declared.fragment.NamespaceDefinition.{NamespaceDefinition}
use Rattle.schema_json.specs.declared.types.Type.{«Type», Type-F, out-Type}
use Rattle.schema_json.specs.declared.types.TypeVariant.{TypeVariant, TypeVariant-F, out-TypeVariant}
use Rattle.schema_json.specs.declared.types.RecordType.{RecordType}
use Rattle.schema_json.specs.declared.types.TypeOfAttribute.{TypeOfAttribute}
use Rattle.schema_print_errors.specs.declared.syntax_error.ToCedarSchemaSyntaxError.{ToCedarSchemaSyntaxError}
use Rattle.schema_print_errors.specs.declared.syntax_error.ToCedarSchemaSyntaxError.TheVariants.{NameCollisions}
use Rattle.schema_print_errors.specs.declared.syntax_error.ToCedarSchemaSyntaxError.TheVariants.{UnconvertibleEntityTypeShape}
use Rattle.schema_print_errors.specs.declared.syntax_error.ToCedarSchemaSyntaxError.TheVariants.{Memory}

-- the name alone, where it is wanted
abbrev pub if_wanted : Bool → List (List ℕ) → List (List (List ℕ))
if_wanted true name = name ∷ []
if_wanted false name = []

-- the components of a name that is declared in a namespace
abbrev pub declared_in : Option Name → List ℕ → List (List ℕ)
declared_in None name = name ∷ []
declared_in (Some ns) name = components_of ns.name ++ name ∷ []

-- these are all the names, sorted in the order of names
pub record AreSortedNames (cmp : InternalName → InternalName → Ordering) (wanted : List (List (List ℕ)))
    (found : List InternalName) : Type 0 where
  pub sorted : IsSorted cmp found
  pub all : IsPermutation wanted (map components_of found)

module _ {N : Type 0} where
  -- some entity type has this name, by its bytes
  abbrev pub names_entity_type : List (UnreservedId × EntityType N) → List ℕ → Bool
  names_entity_type entity_types name =
      list_any (λ k. bytes_eq (encode_utf8_all name) (encode_utf8_all k.id.text)) (keys_of entity_types)

  -- those of the common types whose name an entity type has too
  abbrev pub named_twice : List (UnreservedId × EntityType N) → List (CommonTypeId × CommonType N)
      → List (CommonTypeId × CommonType N)
  named_twice entity_types commons = filter (λ c. names_entity_type entity_types c.0.id.id.text) commons

  abbrev is_record_variant : TypeVariant-F N («Type» N) (TypeVariant N) (RecordType N) (TypeOfAttribute N) → Bool
  is_record_variant (TypeVariant-F.Record r) = true
  is_record_variant _ = false

  abbrev is_record_outside : Type-F N («Type» N) (TypeVariant N) (RecordType N) (TypeOfAttribute N) → Bool
  is_record_outside (Type-F.Variant ty loc) = is_record_variant (out-TypeVariant N ty)
  is_record_outside (Type-F.CommonTypeRef name loc) = false

  -- the type is a record, open or closed
  abbrev pub is_record_type : «Type» N → Bool
  is_record_type t = is_record_outside (out-Type N t)

  abbrev pub kind_is_shapeless : Bool → EntityTypeKind N → Bool
  kind_is_shapeless false (Standard e) = not (is_record_type e.shape.0)
  kind_is_shapeless _ _ = false

  -- a standard entity type that is not external, and whose shape is no record
  abbrev pub is_shapeless : EntityType N → Bool
  is_shapeless e = kind_is_shapeless e.external e.kind

  abbrev pub shapeless_in : Option Name → List (UnreservedId × EntityType N) → List (List (List ℕ))
  shapeless_in ns entity_types = map (λ e. declared_in ns e.0.id.text) (filter (λ e. is_shapeless e.1) entity_types)

  module _ {G : named.Ghosts N} where
    -- the names that a namespace has both as an entity type and as a common type
    abbrev pub repeated_in : Option Name → NamespaceDefinition N G → List (List (List ℕ))
    repeated_in ns n = map (λ c. declared_in ns c.0.id.id.text) (named_twice n.entity_types n.common_types)

    -- those of a named namespace
    abbrev pub collisions_in : Option Name → NamespaceDefinition N G → List (List (List ℕ))
    collisions_in None n = []
    collisions_in (Some ns) n = repeated_in (Some ns) n

    abbrev pub block_collisions : Option Name × NamespaceDefinition N G → List (List (List ℕ))
    block_collisions p = collisions_in p.0 p.1

    abbrev pub collisions : Fragment N G → List (List (List ℕ))
    collisions f = flat_map block_collisions f.0

    abbrev pub block_shapeless : Option Name × NamespaceDefinition N G → List (List (List ℕ))
    block_shapeless p = shapeless_in p.0 p.1.entity_types

    -- the names of the entity types that are not external and whose shapes are no records
    abbrev pub shapeless : Fragment N G → List (List (List ℕ))
    shapeless f = flat_map block_shapeless f.0

    -- the fragment can be printed: no names collide, and no entity type that is not external has a shape that is no
    -- record
    abbrev pub HasText : Fragment N G → Type 0
    HasText f = (collisions f ≡ []) × (shapeless f ≡ [])

    -- why the fragment cannot be printed: collisions go first
    abbrev pub IsUnprintable : (InternalName → InternalName → Ordering) → Fragment N G → ToCedarSchemaSyntaxError
        → Type 0
    IsUnprintable cmp f (NameCollisions e) = AreSortedNames cmp (collisions f) e.names
    IsUnprintable cmp f (UnconvertibleEntityTypeShape e) =
        (collisions f ≡ []) × AreSortedNames cmp (shapeless f) e.names
    IsUnprintable cmp f Memory = Unit {0}
