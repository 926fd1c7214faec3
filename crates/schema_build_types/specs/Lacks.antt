-- What a built schema may hold that no text says, in the order of the walk: an outer type before the types inside it.
use Rattle.std.specs.Prelude.{ℕ, Bool, true, false, List, [], ◌∷◌, ◌++◌, map, filter, Option, None, Some}
use Rattle.std.specs.List.{flat_map}
use Rattle.cedar_names.specs.CanonicalText.{namespace, in_order}
use Rattle.cedar_names.specs.Definitions.{same_name}
use Rattle.schema_build_types.specs.Content.{TypeContent, AttributeContents, none, first, EntityContent}
use Rattle.schema_build_types.specs.Content.{SchemaContent}
use Rattle.schema_build_types.specs.Content as said

-- why no text says a type
pub data Lack : Type 0 where
  UnknownElement : Lack
  JoinedEntities : Lack
  Unsupported : Lack

-- an entity type of several names
abbrev joined_lack : List (List (List ℕ)) → List Lack
joined_lack (n ∷ m ∷ more) = JoinedEntities ∷ []
joined_lack _ = []

-- others may stand where attributes are open
abbrev open_lack : Bool → List Lack
open_lack true = Unsupported ∷ []
open_lack false = []

abbrev mutual
  -- what a type holds that no text says
  pub type_lacks : TypeContent → List Lack
  type_lacks said.AnyBool = []
  type_lacks said.Long = []
  type_lacks said.String = []
  type_lacks (said.Ext w) = []
  type_lacks said.SetOfUnknown = UnknownElement ∷ []
  type_lacks (said.Set element) = type_lacks element
  type_lacks (said.Rec attributes more) = open_lack more ++ attribute_lacks attributes
  type_lacks (said.Entity names) = joined_lack names
  type_lacks said.Never = Unsupported ∷ []
  type_lacks said.True = Unsupported ∷ []
  type_lacks said.False = Unsupported ∷ []
  type_lacks said.AnyEntity = Unsupported ∷ []

  -- what attributes hold that no text says
  pub attribute_lacks : AttributeContents → List Lack
  attribute_lacks none = []
  attribute_lacks (first name required ty more) = type_lacks ty ++ attribute_lacks more

-- a context that is no record lacks that too, unless it lacks something that is named before it
abbrev pub context_lacks : TypeContent → List Lack
context_lacks (said.Rec attributes more) = type_lacks (said.Rec attributes more)
context_lacks said.SetOfUnknown = UnknownElement ∷ []
context_lacks (said.Entity (n ∷ m ∷ more)) = JoinedEntities ∷ []
context_lacks ty = Unsupported ∷ type_lacks ty

abbrev pub tag_lacks : Option TypeContent → List Lack
tag_lacks None = []
tag_lacks (Some ty) = type_lacks ty

abbrev pub entity_lacks : EntityContent → List Lack
entity_lacks e = open_lack e.more ++ (attribute_lacks e.attributes ++ tag_lacks e.tags)

-- what the entity types of a namespace lack, then what its actions lack
abbrev pub namespace_lacks : SchemaContent → List (List ℕ) → List Lack
namespace_lacks c n = flat_map entity_lacks (filter (λ e. same_name n (namespace e.name)) c.entities)
    ++ flat_map (λ a. context_lacks a.context) (filter (λ a. same_name n (namespace a.ty)) c.actions)

-- the namespaces that have an item, in order, the empty one first
abbrev namespaces_of : SchemaContent → List (List (List ℕ))
namespaces_of c = in_order (map (λ e. namespace e.name) c.entities ++ map (λ a. namespace a.ty) c.actions)

-- what a schema lacks, in order
abbrev pub schema_lacks : SchemaContent → List Lack
schema_lacks c = flat_map (namespace_lacks c) (namespaces_of c)
