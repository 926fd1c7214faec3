-- Schemas whose texts are written out, as bytes.
use Rattle.std.specs.Prelude.{ℕ, true, false, List, [], ◌∷◌, Some, None, codes}
use Rattle.cedar_names.specs.Meaning.{PlainType, Attributes, no_more, attribute, EntityMeaning, SchemaMeaning}

-- an entity type without an ancestor, with these attributes and tags
abbrev pub plain_entity : List (List ℕ) → Attributes → EntityMeaning
plain_entity name attributes =
    record { name = name; is_external = false; ancestors = []; attributes = attributes; tags = None; choices = None }

abbrev pub album : List (List ℕ)
album = codes "N" ∷ codes "Album" ∷ []

abbrev pub user : List (List ℕ)
user = codes "User" ∷ []

abbrev pub any_action : List (List ℕ) × List ℕ
any_action = (codes "Action" ∷ [], codes "w")

-- attributes, a record in a record, an optional attribute and one that is no word, in a namespace
abbrev pub nested_records : SchemaMeaning
nested_records = record {
  entities = record (plain_entity album
      (attribute (codes "owner") true (PlainType.Entity user)
      (attribute (codes "x") true (PlainType.Rec no_more)
      (attribute (codes "zip code") false (PlainType.Set PlainType.String) no_more))))
      { ancestors = album ∷ user ∷ [] } ∷ [];
  actions = [];
}

-- the canonical text of `nested_records`
abbrev pub nested_records_text : List ℕ
nested_records_text = codes
    "namespace N {\n  entity Album in [N::Album, User] = {\n    owner: User,\n    x: {    },\n    \"zip code\"?: Set<__cedar::String>,\n  };\n}\n"

-- tags stand at no indentation
abbrev pub record_tags : SchemaMeaning
record_tags = record {
  entities = record (plain_entity (codes "N" ∷ codes "A" ∷ []) no_more)
      { tags = Some (PlainType.Rec (attribute (codes "k") true PlainType.Long no_more)) } ∷ [];
  actions = [];
}

-- the canonical text of `record_tags`
abbrev pub record_tags_text : List ℕ
record_tags_text = codes "namespace N {\n  entity A tags {\n  k: __cedar::Long,\n};\n}\n"

-- an enum, an external entity type, and actions behind them
abbrev pub actions_last : SchemaMeaning
actions_last = record {
  entities = record (plain_entity (codes "E" ∷ []) no_more) { choices = Some (codes "a'" ∷ (127 ∷ []) ∷ []) } ∷ record
      (plain_entity user no_more) { is_external = true } ∷ [];
  actions =
      record {
        ty = codes "Action" ∷ [];
        id = codes "v";
        is_external = false;
        ancestors = any_action ∷ [];
        principals = user ∷ [];
        resources = user ∷ [];
        context = attribute (codes "in") true (PlainType.Ext (codes "ipaddr")) no_more;
      }
      ∷ record {
        ty = codes "Action" ∷ [];
        id = codes "w";
        is_external = true;
        ancestors = [];
        principals = [];
        resources = [];
        context = no_more;
      } ∷ record {
        ty = codes "Action" ∷ [];
        id = codes "x";
        is_external = false;
        ancestors = [];
        principals = user ∷ [];
        resources = user ∷ [];
        context = no_more;
      } ∷ [];
}

-- the canonical text of `actions_last`
abbrev pub actions_last_text : List ℕ
actions_last_text = codes
    "entity E enum [\"a\\'\", \"\\u{7f}\"];\n\nexternal entity User;\n\naction \"v\" in [Action::\"w\"] appliesTo {\n  principal: [User],\n  resource: [User],\n  context: {\n    \"in\": __cedar::ipaddr,\n  },\n};\n\nexternal action \"w\";\n\naction \"x\" appliesTo {\n  principal: [User],\n  resource: [User],\n  context: {},\n};\n"

-- the text of `actions_last` with commas between members alone
abbrev pub actions_last_first_layout : List ℕ
actions_last_first_layout = codes
    "entity E enum [\"a\\'\", \"\\u{7f}\"];\n\nexternal entity User;\n\naction \"v\" in [Action::\"w\"] appliesTo {\n  principal: [User],\n  resource: [User],\n  context: {\n    \"in\": __cedar::ipaddr\n  }\n};\n\nexternal action \"w\";\n\naction \"x\" appliesTo {\n  principal: [User],\n  resource: [User],\n  context: {}\n};\n"

-- an external entity type prints its name and its ancestors, whatever else it has
abbrev pub external_with_more : SchemaMeaning
external_with_more = record {
  entities =
      record (plain_entity (codes "A" ∷ []) (attribute (codes "x") true PlainType.Long no_more)) {
        is_external = true;
        ancestors = user ∷ [];
        tags = Some PlainType.Bool;
        choices = Some (codes "a" ∷ []);
      }
      ∷ [];
  actions = [];
}

-- the canonical text of `external_with_more`
abbrev pub external_with_more_text : List ℕ
external_with_more_text = codes "external entity A in [User];\n"

-- an enum prints its name and its choices, whatever else it has
abbrev pub enum_with_more : SchemaMeaning
enum_with_more = record {
  entities =
      record (plain_entity (codes "A" ∷ []) (attribute (codes "x") true PlainType.Long no_more)) {
        ancestors = user ∷ [];
        tags = Some PlainType.Bool;
        choices = Some (codes "a" ∷ []);
      }
      ∷ [];
  actions = [];
}

-- the canonical text of `enum_with_more`
abbrev pub enum_with_more_text : List ℕ
enum_with_more_text = codes "entity A enum [\"a\"];\n"

-- an entity type of each of three namespaces, of which one holds another
abbrev pub three_namespaces : SchemaMeaning
three_namespaces = record {
  entities =
      plain_entity (codes "B" ∷ codes "A" ∷ codes "X" ∷ []) no_more ∷ plain_entity (codes "B" ∷ codes "Y" ∷ [])
      no_more ∷ plain_entity (codes "Z" ∷ []) no_more ∷ [];
  actions = [];
}

-- the canonical text of `three_namespaces`
abbrev pub three_namespaces_text : List ℕ
three_namespaces_text = codes "entity Z;\n\nnamespace B {\n  entity Y;\n}\n\nnamespace B::A {\n  entity X;\n}\n"
