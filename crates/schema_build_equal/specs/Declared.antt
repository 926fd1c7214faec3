-- What is declared of an entity type and of an action, apart from names and ancestors.
use Rattle.std.specs.Prelude.{ℕ, Bool, true, false, List, [], map, Option, None, Some}
use Rattle.std.specs.Option.{option_map}
use Rattle.schema_build_types.specs.Content.{TypeContent, AttributeContents, Rec, none, type_content}
use Rattle.schema_build_types.specs.Content.{attributes_content, names_content}
use Rattle.schema_build_types.specs.declared.entity_type.ValidatorEntityTypeKind.{ValidatorEntityTypeKind}
use Rattle.schema_build_types.specs.declared.entity_type.ValidatorEntityTypeKind.TheVariants as kind
use Rattle.schema_build_types.specs.declared.action.ValidatorActionKind.{ValidatorActionKind}
use Rattle.schema_build_types.specs.declared.action.ValidatorActionKind.TheVariants as action

-- of an entity type
pub record EntityKindContent : Type 0 where
  pub is_external : Bool
  pub attributes : AttributeContents
  pub more : Bool
  pub tags : Option TypeContent
  pub choices : Option (List (List ℕ))

-- of an action
pub record ActionKindContent : Type 0 where
  pub is_external : Bool
  pub principals : List (List (List ℕ))
  pub resources : List (List (List ℕ))
  pub context : TypeContent

abbrev pub entity_kind : ValidatorEntityTypeKind → EntityKindContent
entity_kind (kind.Standard attributes more tags) = record {
  is_external = false;
  attributes = attributes_content attributes;
  more = more;
  tags = option_map type_content tags;
  choices = None;
}
entity_kind (kind.Enum choices) = record {
  is_external = false;
  attributes = none;
  more = false;
  tags = None;
  choices = Some (map (λ c. c.0) choices);
}
entity_kind kind.External = record {
  is_external = true;
  attributes = none;
  more = false;
  tags = None;
  choices = None;
}

abbrev pub action_kind : ValidatorActionKind → ActionKindContent
action_kind (action.Defined principals resources context) = record {
  is_external = false;
  principals = names_content principals;
  resources = names_content resources;
  context = type_content context;
}
action_kind action.External = record {
  is_external = true;
  principals = [];
  resources = [];
  context = Rec none false;
}
