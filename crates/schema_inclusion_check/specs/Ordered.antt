-- A meaning whose lists of names are put in order.
use Rattle.std.specs.Prelude.{ℕ, List, [], ◌∷◌, map}
use Rattle.std.specs.BTreeSet.{insert_key}
use Rattle.cedar_names.specs.CanonicalText.{in_order}
use Rattle.cedar_names.specs.Meaning.{EntityMeaning, ActionMeaning, SchemaMeaning}
use Rattle.schema_build_types.specs.Content.{actions_cmp}

-- the actions, sorted, each once
abbrev pub actions_once : List (List (List ℕ) × List ℕ) → List (List (List ℕ) × List ℕ)
actions_once [] = []
actions_once (a ∷ more) = insert_key actions_cmp (actions_once more) a

abbrev pub entity_in_order : EntityMeaning → EntityMeaning
entity_in_order e = record {
  name = e.name;
  is_external = e.is_external;
  ancestors = in_order e.ancestors;
  attributes = e.attributes;
  tags = e.tags;
  choices = e.choices;
}

abbrev pub action_in_order : ActionMeaning → ActionMeaning
action_in_order a = record {
  ty = a.ty;
  id = a.id;
  is_external = a.is_external;
  ancestors = actions_once a.ancestors;
  principals = in_order a.principals;
  resources = in_order a.resources;
  context = a.context;
}

abbrev pub meaning_in_order : SchemaMeaning → SchemaMeaning
meaning_in_order m = record {
  entities = map entity_in_order m.entities;
  actions = map action_in_order m.actions;
}
