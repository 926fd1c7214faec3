-- Which meaning is printed for a built schema. Where it says what no meaning says, its text stands for no meaning
-- either, and another type is printed in its place: an open record as a closed one, a type of several names by the
-- first.
use Rattle.std.specs.Prelude.{ℕ, List, [], ◌∷◌, map}
use Rattle.std.specs.Option.{option_map}
use Rattle.cedar_names.specs.Meaning.{PlainType, Attributes, no_more, attribute, EntityMeaning, ActionMeaning}
use Rattle.cedar_names.specs.Meaning.{SchemaMeaning}
use Rattle.schema_build_types.specs.Content.{TypeContent, AttributeContents, none, first, EntityContent, ActionContent}
use Rattle.schema_build_types.specs.Content.{SchemaContent}
use Rattle.schema_build_types.specs.Content as said

-- the first of the names
abbrev pub first_name : List (List (List ℕ)) → List (List ℕ)
first_name [] = []
first_name (n ∷ ns) = n

abbrev mutual
  -- the type that is printed
  pub plain_type : TypeContent → PlainType
  plain_type said.Never = PlainType.Bool
  plain_type said.AnyBool = PlainType.Bool
  plain_type said.True = PlainType.Bool
  plain_type said.False = PlainType.Bool
  plain_type said.Long = PlainType.Long
  plain_type said.String = PlainType.String
  plain_type said.SetOfUnknown = PlainType.Set (PlainType.Rec no_more)
  plain_type (said.Set element) = PlainType.Set (plain_type element)
  plain_type (said.Rec attributes more) = PlainType.Rec (plain_attributes attributes)
  plain_type (said.Entity names) = PlainType.Entity (first_name names)
  plain_type said.AnyEntity = PlainType.Rec no_more
  plain_type (said.Ext name) = PlainType.Ext name

  -- the attributes that are printed
  pub plain_attributes : AttributeContents → Attributes
  plain_attributes none = no_more
  plain_attributes (first name required ty more) = attribute name required (plain_type ty) (plain_attributes more)

-- the attributes of a context; one that is no record has none
abbrev pub context_attributes : TypeContent → Attributes
context_attributes (said.Rec attributes more) = plain_attributes attributes
context_attributes _ = no_more

-- the entity type that is printed
abbrev pub entity_reading : EntityContent → EntityMeaning
entity_reading e = record {
  name = e.name;
  is_external = e.is_external;
  ancestors = e.ancestors;
  attributes = plain_attributes e.attributes;
  tags = option_map plain_type e.tags;
  choices = e.choices;
}

-- the action that is printed
abbrev pub action_reading : ActionContent → ActionMeaning
action_reading a = record {
  ty = a.ty;
  id = a.id;
  is_external = a.is_external;
  ancestors = a.ancestors;
  principals = a.principals;
  resources = a.resources;
  context = context_attributes a.context;
}

-- the meaning that is printed
abbrev pub schema_reading : SchemaContent → SchemaMeaning
schema_reading c = record { entities = map entity_reading c.entities; actions = map action_reading c.actions }
