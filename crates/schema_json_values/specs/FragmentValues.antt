-- The JSON value of a fragment. What says nothing is left out: no parents, an empty shape or context, no tags,
-- `external` that is false, no common types, and what an action leaves open.
use Rattle.std.specs.Prelude.{ℕ, true, List, [], ◌∷◌, map, Option, Some, None, if◌then◌else◌, codes}
use Rattle.std.specs.Str.{encode_utf8_all}
use Rattle.serde_json.specs.Data.{Data, null, string, array, object, Members, no_members, put}
use Rattle.serde_json.specs.View.{items_of}
use Rattle.cedar_identifiers.specs.declared.eid.Eid.{Eid}
use Rattle.cedar_identifiers.specs.declared.name.Name.{Name}
use Rattle.cedar_identifiers.specs.declared.name_text.NameText as named
use Rattle.cedar_identifiers.specs.declared.unreserved_id.UnreservedId.{UnreservedId}
use Rattle.cedar_identifiers.specs.Names.{components_of}
use Rattle.schema_json.specs.Shapes.{is_empty_type}
use Rattle.schema_json.specs.declared.types.Type.{«Type»}
use Rattle.schema_json.specs.declared.common_type.CommonType.{CommonType}
use Rattle.schema_json.specs.declared.common_type.CommonTypeId.{CommonTypeId}
use Rattle.schema_json.specs.declared.entity_type.EntityType.{EntityType}
use Rattle.schema_json.specs.declared.entity_type.EntityTypeKind.{EntityTypeKind}
use Rattle.schema_json.specs.declared.entity_type.EntityTypeKind.TheVariants.{Standard, Enum}
use Rattle.schema_json.specs.declared.action_type.ActionType.{ActionType}
use Rattle.schema_json.specs.declared.action_type.ActionEntityUID.{ActionEntityUID}
use Rattle.schema_json.specs.declared.action_type.ApplySpec.{ApplySpec}
use Rattle.schema_json.specs.declared.fragment.Fragment.{Fragment}
use Rattle.schema_json.specs.declared.fragment.NamespaceDefinition.{NamespaceDefinition}
use Rattle.schema_json_values.specs.TypeValues.{object_of, with_flag, with_annotations, name_bytes, type_members}
use Rattle.schema_json_values.specs.TypeValues.{type_value}

-- ---- lists

-- the array of these values
abbrev pub list_of : List Data → Data
list_of ds = array (items_of ds)

-- with the value, where it is there
abbrev pub with_optional_value : List ℕ → Option Data → Members → Members
with_optional_value key None ms = ms
with_optional_value key (Some d) ms = put key d ms

-- with the list, where it has an item
abbrev pub with_list : List ℕ → List Data → Members → Members
with_list key [] ms = ms
with_list key (d ∷ ds) ms = put key (list_of (d ∷ ds)) ms

-- with the object, where it has a member
abbrev pub with_object : List ℕ → List (List ℕ × Data) → Members → Members
with_object key [] ms = ms
with_object key (e ∷ es) ms = put key (object_of (e ∷ es)) ms

-- a choice as a string
abbrev pub choice_value : Eid → Data
choice_value e = string (encode_utf8_all e.0)

-- the name of an attribute, with null as its value
abbrev pub attribute_name_entry : List ℕ → List ℕ × Data
attribute_name_entry t = (encode_utf8_all t, null)

-- with the names of the attributes, each beside null, where any were written
abbrev pub with_attribute_names : Option (List (List ℕ)) → Members → Members
with_attribute_names None ms = ms
with_attribute_names (Some names) ms = put (codes "attributes") (object_of (map attribute_name_entry names)) ms

-- the text of the name of a namespace, and the empty text for the empty one
abbrev pub namespace_bytes : Option Name → List ℕ
namespace_bytes None = []
namespace_bytes (Some n) = name_bytes (λ (m : Name). components_of m.name) n

module _ {N : Type 0} (components : N → List (List ℕ)) where
  -- a name as a string: its components with `::` between two
  abbrev pub name_value : N → Data
  name_value n = string (name_bytes components n)

  -- the array of these names, each as a string
  abbrev pub names_value : List N → Data
  names_value ns = list_of (map name_value ns)

  -- ---- common types and entity types

  -- the object of a common type: the members of its type, and its annotations where there are any
  abbrev pub common_type_value : CommonType N → Data
  common_type_value c = object (with_annotations c.annotations.0 (type_members components c.ty))

  -- the members with the shape or the context among them, where that is not the empty record
  abbrev pub with_shape : List ℕ → «Type» N → Members → Members
  with_shape key t ms = if is_empty_type t then ms else put key (type_value components t) ms

  abbrev pub with_tags : Option («Type» N) → Members → Members
  with_tags None ms = ms
  with_tags (Some t) ms = put (codes "tags") (type_value components t) ms

  abbrev pub kind_members : EntityTypeKind N → Members
  kind_members (Standard s) =
      with_tags s.tags (with_shape (codes "shape") s.shape.0
      (with_list (codes "memberOfTypes") (map name_value s.member_of_types) no_members))
  kind_members (Enum choices) = put (codes "enum") (list_of (map choice_value choices)) no_members

  -- the object of an entity type: the members of its kind, `external` where that is true, and its annotations if any
  abbrev pub entity_type_value : EntityType N → Data
  entity_type_value e = object (with_annotations e.annotations.0
      (with_flag e.external (codes "external") true (kind_members e.kind)))

  -- ---- actions

  -- the object of what an action applies to: both lists, and the context where it is not the empty record
  abbrev pub applies_to_value : ApplySpec N → Data
  applies_to_value a =
      object (with_shape (codes "context") a.context.0
      (put (codes "principalTypes") (names_value a.principal_types)
      (put (codes "resourceTypes") (names_value a.resource_types) no_members)))

  abbrev pub with_applies_to : Option (ApplySpec N) → Members → Members
  with_applies_to None ms = ms
  with_applies_to (Some a) ms = put (codes "appliesTo") (applies_to_value a) ms

  abbrev pub with_type : Option N → Members → Members
  with_type None ms = ms
  with_type (Some n) ms = put (codes "type") (name_value n) ms

  -- the object of a common type under its name
  abbrev pub common_entry : CommonTypeId × CommonType N → List ℕ × Data
  common_entry p = (p.0.id.id.text, common_type_value p.1)

  -- the object of an entity type under its name
  abbrev pub entity_entry : UnreservedId × EntityType N → List ℕ × Data
  entity_entry p = (p.0.id.text, entity_type_value p.1)

  module _ {G : named.Ghosts N} where
    -- the object of a reference to an action: its id, and its type where one is written
    abbrev pub action_id_value : ActionEntityUID N G → Data
    action_id_value u = object (with_type u.ty (put (codes "id") (string (encode_utf8_all u.id)) no_members))

    abbrev pub with_parents : Option (List (ActionEntityUID N G)) → Members → Members
    with_parents None ms = ms
    with_parents (Some ids) ms = put (codes "memberOf") (list_of (map action_id_value ids)) ms

    -- the object of an action: its parts that are written, `external` where that is true, and its annotations if any
    abbrev pub action_value : ActionType N G → Data
    action_value a =
        object (with_annotations a.annotations.0
        (with_flag a.external (codes "external") true
        (with_parents a.member_of (with_applies_to a.applies_to (with_attribute_names a.attributes no_members)))))

    -- the object of an action under its id
    abbrev pub action_entry : List ℕ × ActionType N G → List ℕ × Data
    action_entry p = (encode_utf8_all p.0, action_value p.1)

    -- ---- namespaces and fragments

    -- the object of a namespace: `actions` and `entityTypes`, and its common types and annotations where there are any
    abbrev pub namespace_value : NamespaceDefinition N G → Data
    namespace_value n =
        object (with_annotations n.annotations.0
        (with_object (codes "commonTypes") (map common_entry n.common_types)
        (put (codes "actions") (object_of (map action_entry n.actions))
        (put (codes "entityTypes") (object_of (map entity_entry n.entity_types)) no_members))))

    -- the object of a namespace under its name
    abbrev pub namespace_entry : Option Name × NamespaceDefinition N G → List ℕ × Data
    namespace_entry p = (namespace_bytes p.0, namespace_value p.1)

    -- the JSON value of a fragment
    abbrev pub json_value : Fragment N G → Data
    json_value f = object_of (map namespace_entry f.0)
