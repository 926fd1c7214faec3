-- Examples, by computation.
use Rattle.std.proofs.Common.{◌≡◌, Bool, true, false, List, [], ◌∷◌, Option, Some, None, refl}
use Rattle.std.specs.Prelude.{codes}
use Rattle.cedar_names.specs.Meaning.{PlainType, Attributes, no_more, attribute, EntityMeaning, ActionMeaning}
use Rattle.cedar_names.specs.Meaning.{SchemaMeaning}
use Rattle.schema_inclusion_values.specs.Values.{Text, Name, no_entries}
use Rattle.schema_inclusion_values.specs.Admits.{SchemaValue, an_entity, a_request, an_action}
use Rattle.schema_inclusion_values.specs.Lost.{lost}

abbrev a_name : Name
a_name = codes "A" ∷ []

abbrev standard : Attributes → EntityMeaning
standard fs = record {
  name = a_name;
  is_external = false;
  ancestors = [];
  attributes = fs;
  tags = None;
  choices = None;
}

abbrev enum : List Text → EntityMeaning
enum cs = record {
  name = a_name;
  is_external = false;
  ancestors = [];
  attributes = no_more;
  tags = None;
  choices = Some cs;
}

abbrev only : EntityMeaning → SchemaMeaning
only e = record { entities = e ∷ []; actions = [] }

abbrev x_long : Attributes → Attributes
x_long = attribute (codes "x") true PlainType.Long

abbrev the_id : Text → Option SchemaValue
the_id id = Some (an_entity (record { ty = a_name; id = id; attributes = no_entries; tags = no_entries; parents = [] }))

abbrev y_long : Bool → Attributes
y_long r = attribute (codes "y") r PlainType.Long no_more

more_optional : lost (only (standard (x_long no_more))) (only (standard (x_long (y_long false)))) ≡ None
more_optional = refl

choices_in_another_order : lost (only (enum (codes "a" ∷ []))) (only (enum (codes "b" ∷ codes "a" ∷ []))) ≡ None
choices_in_another_order = refl

second_choice : lost (only (enum (codes "a" ∷ codes "b" ∷ []))) (only (enum (codes "a" ∷ []))) ≡ the_id (codes "b")
second_choice = refl

another_id : lost (only (standard no_more)) (only (enum ([] ∷ []))) ≡ the_id (codes "a")
another_id = refl

no_more_entity : lost (only (standard no_more)) (record { entities = []; actions = [] }) ≡ the_id []
no_more_entity = refl

abbrev action : Text → List (List Text × Text) → List Name → ActionMeaning
action id above names = record {
  ty = codes "Action" ∷ [];
  id = id;
  is_external = false;
  ancestors = above;
  principals = names;
  resources = names;
  context = no_more;
}

applies_no_more : lost (record { entities = standard no_more ∷ []; actions = action (codes "v") [] (a_name ∷ []) ∷ [] })
    (record { entities = standard no_more ∷ []; actions = action (codes "v") [] [] ∷ [] })
    ≡ Some (a_request (record {
      action = (codes "Action" ∷ [], codes "v");
      principal = a_name;
      resource = a_name;
      context = no_entries;
    }))
applies_no_more = refl

in_no_more : lost (record {
  entities = [];
  actions = action (codes "v") ((codes "Action" ∷ [], codes "w") ∷ []) []
      ∷ action (codes "w") [] [] ∷ [];
}) (record {
  entities = [];
  actions = action (codes "v") [] [] ∷ action (codes "w") [] [] ∷ [];
})
    ≡ Some (an_action (record {
      action = (codes "Action" ∷ [], codes "v");
      ancestor = (codes "Action" ∷ [], codes "w");
    }))
in_no_more = refl
