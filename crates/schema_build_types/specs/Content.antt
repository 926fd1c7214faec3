-- What a built schema says, read off its two lists: its entity types by name, its actions by type and id. A name is the
-- texts of its components, an action its type with its id, and lists of either are sorted and hold each once.
use Rattle.std.specs.Prelude.{ℕ, Bool, true, false, List, [], ◌∷◌, map, Option, None, Some}
use Rattle.std.specs.BTreeSet.{insert_key}
use Rattle.std.specs.Cmp.Lexicographic.{slice_cmp}
use Rattle.std.specs.Option.{option_map}
use Rattle.std.specs.Ordering.{ordering_then}
use Rattle.std.specs.declared.cmp.Ordering.{Ordering}
use Rattle.cedar_data.specs.Text.{text_cmp}
use Rattle.cedar_identifiers.specs.Names.{components_of}
use Rattle.cedar_identifiers.specs.declared.name.Name.{Name}
use Rattle.cedar_names.specs.CanonicalText.{in_order}
use Rattle.cedar_names.specs.Definitions.{action_of}
use Rattle.cedar_names.specs.declared.entity_uid.EntityUID.{EntityUID}
use Rattle.schema_build_types.specs.declared.types.Type.{«Type», Type-F, fold-Type}
use Rattle.schema_build_types.specs.declared.entity_type.ValidatorEntityType.{ValidatorEntityType}
use Rattle.schema_build_types.specs.declared.entity_type.ValidatorEntityTypeKind.{ValidatorEntityTypeKind}
use Rattle.schema_build_types.specs.declared.entity_type.ValidatorEntityTypeKind.TheVariants as kind
use Rattle.schema_build_types.specs.declared.action.ValidatorActionId.{ValidatorActionId}
use Rattle.schema_build_types.specs.declared.action.ValidatorActionKind.{ValidatorActionKind}
use Rattle.schema_build_types.specs.declared.action.ValidatorActionKind.TheVariants as action

mutual
  -- a type of a built schema
  pub data TypeContent : Type 0 where
    Never : TypeContent
    AnyBool : TypeContent
    True : TypeContent
    False : TypeContent
    Long : TypeContent
    String : TypeContent
    SetOfUnknown : TypeContent
    Set : TypeContent → TypeContent
    Rec : AttributeContents → Bool → TypeContent
    Entity : List (List (List ℕ)) → TypeContent
    AnyEntity : TypeContent
    Ext : List ℕ → TypeContent

  -- attributes by name: the name, whether it is required, the type, and those behind it
  pub data AttributeContents : Type 0 where
    none : AttributeContents
    first : List ℕ → Bool → TypeContent → AttributeContents → AttributeContents

-- an entity type, with the mark that its entities may have more attributes
pub record EntityContent : Type 0 where
  pub name : List (List ℕ)
  pub is_external : Bool
  pub ancestors : List (List (List ℕ))
  pub attributes : AttributeContents
  pub more : Bool
  pub tags : Option TypeContent
  pub choices : Option (List (List ℕ))

-- an action; one that another schema declares has an empty context
pub record ActionContent : Type 0 where
  pub ty : List (List ℕ)
  pub id : List ℕ
  pub is_external : Bool
  pub ancestors : List (List (List ℕ) × List ℕ)
  pub principals : List (List (List ℕ))
  pub resources : List (List (List ℕ))
  pub context : TypeContent

-- the entity types and the actions, in order
pub record SchemaContent : Type 0 where
  pub entities : List EntityContent
  pub actions : List ActionContent

-- the names, sorted, each once
abbrev pub names_content : List Name → List (List (List ℕ))
names_content names = in_order (map (λ n. components_of n.name) names)

-- actions by their types, then by the bytes of their ids
abbrev pub actions_cmp : List (List ℕ) × List ℕ → List (List ℕ) × List ℕ → Ordering
actions_cmp a b = ordering_then (slice_cmp text_cmp a.0 b.0) (text_cmp a.1 b.1)

-- the actions, sorted, each once
abbrev pub actions_in_order : List EntityUID → List (List (List ℕ) × List ℕ)
actions_in_order [] = []
actions_in_order (a ∷ more) = insert_key actions_cmp (actions_in_order more) (action_of a)

abbrev pub attribute_contents : List (List ℕ × (TypeContent × Bool)) → AttributeContents
attribute_contents [] = none
attribute_contents (a ∷ more) = first a.0 a.1.1 a.1.0 (attribute_contents more)

-- the outermost layer of a type, over what its inner types say
abbrev pub layer_content : Type-F TypeContent → TypeContent
layer_content Type-F.Never = Never
layer_content Type-F.AnyBool = AnyBool
layer_content Type-F.True = True
layer_content Type-F.False = False
layer_content Type-F.Long = Long
layer_content Type-F.String = String
layer_content (Type-F.Set None) = SetOfUnknown
layer_content (Type-F.Set (Some element)) = Set element
layer_content (Type-F.Record attributes more) = Rec (attribute_contents attributes) more
layer_content (Type-F.Entity names) = Entity (names_content names)
layer_content Type-F.AnyEntity = AnyEntity
layer_content (Type-F.Extension name) = Ext name.id.text

-- what a type says
abbrev pub type_content : «Type» → TypeContent
type_content = fold-Type TypeContent layer_content

-- what attributes say
abbrev pub attributes_content : List (List ℕ × («Type» × Bool)) → AttributeContents
attributes_content attributes = attribute_contents (map (λ a. (a.0, (type_content a.1.0, a.1.1))) attributes)

abbrev entity_kind_content : List (List ℕ) → List (List (List ℕ)) → ValidatorEntityTypeKind → EntityContent
entity_kind_content name ancestors (kind.Standard attributes more tags) = record {
  name = name;
  is_external = false;
  ancestors = ancestors;
  attributes = attributes_content attributes;
  more = more;
  tags = option_map type_content tags;
  choices = None;
}
entity_kind_content name ancestors (kind.Enum choices) = record {
  name = name;
  is_external = false;
  ancestors = ancestors;
  attributes = none;
  more = false;
  tags = None;
  choices = Some (map (λ c. c.0) choices);
}
entity_kind_content name ancestors kind.External = record {
  name = name;
  is_external = true;
  ancestors = ancestors;
  attributes = none;
  more = false;
  tags = None;
  choices = None;
}

-- what an entity type of this name says
abbrev pub entity_content : Name × ValidatorEntityType → EntityContent
entity_content e = entity_kind_content (components_of e.0.name) (names_content e.1.ancestors) e.1.kind

abbrev action_kind_content : List (List ℕ) × List ℕ → List (List (List ℕ) × List ℕ) → ValidatorActionKind
    → ActionContent
action_kind_content a ancestors (action.Defined principals resources context) = record {
  ty = a.0;
  id = a.1;
  is_external = false;
  ancestors = ancestors;
  principals = names_content principals;
  resources = names_content resources;
  context = type_content context;
}
action_kind_content a ancestors action.External = record {
  ty = a.0;
  id = a.1;
  is_external = true;
  ancestors = ancestors;
  principals = [];
  resources = [];
  context = Rec none false;
}

-- what this action says
abbrev pub action_content : EntityUID × ValidatorActionId → ActionContent
action_content a = action_kind_content (action_of a.0) (actions_in_order a.1.ancestors) a.1.kind

-- what a schema of these entity types and actions says
abbrev pub content : List (Name × ValidatorEntityType) → List (EntityUID × ValidatorActionId) → SchemaContent
content entities actions = record { entities = map entity_content entities; actions = map action_content actions }
