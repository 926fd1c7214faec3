-- A meaning is read back from what is built for it.
use Rattle.std.proofs.Common.{◌≡◌, List, [], ◌∷◌, map, refl, ap, Option, Some, None}
use Rattle.std.specs.Option.{option_map}
use Rattle.cedar_names.specs.Meaning.{PlainType, Attributes, no_more, attribute, EntityMeaning, ActionMeaning}
use Rattle.cedar_names.specs.Meaning.{SchemaMeaning}
use Rattle.cedar_names.specs.Meaning as plain
use Rattle.schema_build_types.specs.Standing.{as_built, attributes_as_built, schema_as_built, entity_as_built}
use Rattle.schema_build_types.specs.Standing.{action_as_built}
use Rattle.schema_build_text.specs.Readings.{plain_type, plain_attributes, entity_reading, action_reading}
use Rattle.schema_build_text.specs.Readings.{schema_reading}

mutual
  pub plain_back : (p : PlainType) → plain_type (as_built p) ≡ p
  plain_back plain.Bool = refl
  plain_back plain.Long = refl
  plain_back plain.String = refl
  plain_back (plain.Set p) = ap plain.Set (plain_back p)
  plain_back (plain.Rec ps) = ap plain.Rec (attributes_back ps)
  plain_back (plain.Entity n) = refl
  plain_back (plain.Ext w) = refl

  pub attributes_back : (ps : Attributes) → plain_attributes (attributes_as_built ps) ≡ ps
  attributes_back no_more = refl
  attributes_back (attribute name required p ps) = λ i. attribute name required (plain_back p i) (attributes_back ps i)

tags_back : (t : Option PlainType) → option_map plain_type (option_map as_built t) ≡ t
tags_back None = refl
tags_back (Some p) = ap Some (plain_back p)

entity_back : (e : EntityMeaning) → entity_reading (entity_as_built e) ≡ e
entity_back e = λ i. record {
  name = e.name;
  is_external = e.is_external;
  ancestors = e.ancestors;
  attributes = attributes_back e.attributes i;
  tags = tags_back e.tags i;
  choices = e.choices;
}

action_back : (a : ActionMeaning) → action_reading (action_as_built a) ≡ a
action_back a = λ i. record {
  ty = a.ty;
  id = a.id;
  is_external = a.is_external;
  ancestors = a.ancestors;
  principals = a.principals;
  resources = a.resources;
  context = attributes_back a.context i;
}

each_back : {A B : Type 0} (f : B → A) (g : A → B) → ((x : A) → f (g x) ≡ x) → (xs : List A) → map f (map g xs) ≡ xs
each_back f g back [] = refl
each_back f g back (x ∷ xs) = λ i. back x i ∷ each_back f g back xs i

-- the meaning that is printed of what is built for a meaning
pub meaning_back : (m : SchemaMeaning) → schema_reading (schema_as_built m) ≡ m
meaning_back m = λ i. record {
  entities = each_back entity_reading entity_as_built entity_back m.entities i;
  actions = each_back action_reading action_as_built action_back m.actions i;
}
