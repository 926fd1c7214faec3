-- Which meaning a built schema stands for: `Bool` is the type of both truth values, an entity type is the one of one
-- name, and records and the attributes of entity types are closed.
use Rattle.std.specs.Prelude.{◌≡◌, ℕ, Bool, false, List, [], ◌∷◌, map, Some}
use Rattle.std.specs.Option.{option_map}
use Rattle.cedar_identifiers.specs.Names.{components_of}
use Rattle.cedar_identifiers.specs.declared.name.Name.{Name}
use Rattle.cedar_identifiers.specs.declared.unreserved_id.UnreservedId.{UnreservedId}
use Rattle.cedar_names.specs.Meaning.{PlainType, Attributes, no_more, attribute, EntityMeaning, ActionMeaning}
use Rattle.cedar_names.specs.Meaning.{SchemaMeaning}
use Rattle.cedar_names.specs.Meaning as plain
use Rattle.cedar_names.specs.declared.entity_uid.EntityUID.{EntityUID}
use Rattle.schema_build_types.specs.declared.types.Type.{«Type»}
use Rattle.schema_build_types.specs.declared.types.Type.TheVariants as built
use Rattle.schema_build_types.specs.declared.entity_type.ValidatorEntityType.{ValidatorEntityType}
use Rattle.schema_build_types.specs.declared.action.ValidatorActionId.{ValidatorActionId}
use Rattle.schema_build_types.specs.Content.{TypeContent, AttributeContents, none, first, EntityContent, ActionContent}
use Rattle.schema_build_types.specs.Content.{SchemaContent, content}
use Rattle.schema_build_types.specs.Content as said

-- the type that is built for a plain type
abbrev mutual
  pub IsBuilt : PlainType → «Type» → Type 0
  IsBuilt plain.Bool t = t ≡ built.AnyBool
  IsBuilt plain.Long t = t ≡ built.Long
  IsBuilt plain.String t = t ≡ built.String
  IsBuilt (plain.Set p) t = (element : «Type») × (t ≡ built.Set (Some element)) × IsBuilt p element
  IsBuilt (plain.Rec ps) t = (attrs : List (List ℕ × («Type» × Bool))) × (t ≡ built.Record attrs false)
      × AreBuilt ps attrs
  IsBuilt (plain.Entity n) t = (name : Name) × (t ≡ built.Entity (name ∷ [])) × (components_of name.name ≡ n)
  IsBuilt (plain.Ext w) t = (name : UnreservedId) × (t ≡ built.Extension name) × (name.id.text ≡ w)

  -- the attributes that are built, each under its name and with its required mark
  pub AreBuilt : Attributes → List (List ℕ × («Type» × Bool)) → Type 0
  AreBuilt no_more attrs = attrs ≡ []
  AreBuilt (attribute name required p ps) attrs = (t : «Type») × (more : List (List ℕ × («Type» × Bool)))
      × (attrs ≡ (name, (t, required)) ∷ more) × IsBuilt p t × AreBuilt ps more

-- what a built type says that stands for a plain type
abbrev mutual
  pub as_built : PlainType → TypeContent
  as_built plain.Bool = said.AnyBool
  as_built plain.Long = said.Long
  as_built plain.String = said.String
  as_built (plain.Set p) = said.Set (as_built p)
  as_built (plain.Rec ps) = said.Rec (attributes_as_built ps) false
  as_built (plain.Entity n) = said.Entity (n ∷ [])
  as_built (plain.Ext w) = said.Ext w

  pub attributes_as_built : Attributes → AttributeContents
  attributes_as_built no_more = none
  attributes_as_built (attribute name required p ps) = first name required (as_built p) (attributes_as_built ps)

abbrev pub entity_as_built : EntityMeaning → EntityContent
entity_as_built e = record {
  name = e.name;
  is_external = e.is_external;
  ancestors = e.ancestors;
  attributes = attributes_as_built e.attributes;
  more = false;
  tags = option_map as_built e.tags;
  choices = e.choices;
}

abbrev pub action_as_built : ActionMeaning → ActionContent
action_as_built a = record {
  ty = a.ty;
  id = a.id;
  is_external = a.is_external;
  ancestors = a.ancestors;
  principals = a.principals;
  resources = a.resources;
  context = said.Rec (attributes_as_built a.context) false;
}

-- what a built schema says that stands for a meaning
abbrev pub schema_as_built : SchemaMeaning → SchemaContent
schema_as_built m = record { entities = map entity_as_built m.entities; actions = map action_as_built m.actions }

-- the schema of these entity types and actions says what the meaning says
abbrev pub SchemaStandsFor : List (Name × ValidatorEntityType) → List (EntityUID × ValidatorActionId) → SchemaMeaning
    → Type 0
SchemaStandsFor entities actions m = content entities actions ≡ schema_as_built m
