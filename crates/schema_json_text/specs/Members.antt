-- Members that are written one after another, each where it is there.
use Rattle.std.specs.Prelude.{◌≡◌, ℕ, Bool, true, false, ◌||◌, List, [], ◌∷◌, ◌++◌, map, Option, Some, None, is_some}
use Rattle.std.specs.Prelude.{if◌then◌else◌, not, codes}
use Rattle.json.specs.Print.{quoted}
use Rattle.serde_json.specs.Data.{Data, boolean, string, object, Members, no_members, member, put}
use Rattle.serde_json.specs.Written.{comma_if, compact_text, members_text}
use Rattle.cedar_identifiers.specs.declared.any_id.AnyId.{AnyId}
use Rattle.cedar_identifiers.specs.declared.name_text.NameText as named
use Rattle.schema_json.specs.Shapes.{is_empty_type}
use Rattle.schema_json.specs.declared.types.Type.{«Type»}
use Rattle.schema_json.specs.declared.action_type.ActionEntityUID.{ActionEntityUID}
use Rattle.schema_json.specs.declared.action_type.ApplySpec.{ApplySpec}
use Rattle.schema_json_values.specs.TypeValues.{put_all, object_of, annotation_entry, type_value}
use Rattle.schema_json_values.specs.TypeValues.{with_annotations, with_flag, with_word}
use Rattle.schema_json_values.specs.FragmentValues.{list_of, name_value, attribute_name_entry, applies_to_value}
use Rattle.schema_json_values.specs.FragmentValues.{action_id_value}

-- the entries as members, in their order
abbrev pub members_in_order : List (List ℕ × Data) → Members
members_in_order [] = no_members
members_in_order (e ∷ es) = member e.0 e.1 (members_in_order es)

-- the entries, put among no members one after another, are these members in their order
abbrev pub ArePut : List (List ℕ × Data) → List (List ℕ × Data) → Type 0
ArePut entries members = put_all entries no_members ≡ members_in_order members

-- the member, where it is there, with a comma behind it
abbrev pub ahead : List ℕ → Option Data → List ℕ
ahead key None = []
ahead key (Some d) = quoted key ++ 58 ∷ (compact_text d ++ 44 ∷ [])

-- the member, where it is there, behind a comma where something stands before
abbrev pub member_behind : Bool → List ℕ → Option Data → List ℕ
member_behind later key None = []
member_behind later key (Some d) = comma_if later ++ (quoted key ++ 58 ∷ compact_text d)

-- the member is added where it is there, and now tells whether something stands before the next one
pub record AddsMember (later : Bool) (key : List ℕ) (o : Option Data) (old new : List ℕ) (now : Bool) : Type 0 where
  pub text : new ≡ old ++ member_behind later key o
  pub next : now ≡ (later || is_some o)

-- the end of an object of a type: its word, and the brace
abbrev pub word_end : List ℕ → List ℕ
word_end word = members_text true (with_word word)

-- the end of an object of an entity type, from whether another schema declares it on
abbrev pub entity_end : Bool → Bool → Members → List ℕ
entity_end later external ms = members_text later (with_flag external (codes "external") true ms)

-- the object of a type, with its annotations and whether it is required
abbrev pub described : List (AnyId × Option (List ℕ)) → Bool → Members → Data
described annotations required ms =
    object (with_flag (not required) (codes "required") false (with_annotations annotations ms))

-- the object of a type of this word, which names another
abbrev pub named_type : List (AnyId × Option (List ℕ)) → Bool → List ℕ → List ℕ → Data
named_type annotations required name word =
    described annotations required (put (codes "name") (string name) (with_word word))

-- ---- the values of members, where they are there

-- the flag, where it is asked for
abbrev pub flag_value : Bool → Bool → Option Data
flag_value true flag = Some (boolean flag)
flag_value false flag = None

-- the object of the annotations, where there are any
abbrev pub annotations_value : List (AnyId × Option (List ℕ)) → Option Data
annotations_value [] = None
annotations_value (a ∷ as_) = Some (object_of (map annotation_entry (a ∷ as_)))

-- the annotations, where there are any, with a comma behind them
abbrev pub annotations_ahead : List (AnyId × Option (List ℕ)) → List ℕ
annotations_ahead notes = ahead (codes "annotations") (annotations_value notes)

-- the start of an object of a type of records, up to its attributes
abbrev pub record_start : Bool → List (AnyId × Option (List ℕ)) → List ℕ
record_start is_open notes = 123 ∷ (ahead (codes "additionalAttributes") (flag_value is_open true)
    ++ (annotations_ahead notes ++ codes "\"attributes\":"))

-- the list, where it has an item
abbrev pub list_value : List Data → Option Data
list_value [] = None
list_value (d ∷ ds) = Some (list_of (d ∷ ds))

-- the object, where it has a member
abbrev pub object_value : List (List ℕ × Data) → Option Data
object_value [] = None
object_value (e ∷ es) = Some (object_of (e ∷ es))

-- the names of the attributes, each beside null, where any were written
abbrev pub nulls_value : Option (List (List ℕ)) → Option Data
nulls_value None = None
nulls_value (Some names) = Some (object_of (map attribute_name_entry names))

module _ {N : Type 0} (components : N → List (List ℕ)) where
  -- the shape or the context, where it is not the empty record
  abbrev pub shape_value : «Type» N → Option Data
  shape_value t = if is_empty_type t then None else Some (type_value components t)

  -- the names, where there are any
  abbrev pub named_list : List N → Option Data
  named_list names = list_value (map (name_value components) names)

  -- the value of the type of tags, where there is one
  abbrev pub tags_value : Option («Type» N) → Option Data
  tags_value None = None
  tags_value (Some t) = Some (type_value components t)

  -- the value of what an action applies to, where that is written
  abbrev pub applies_value : Option (ApplySpec N) → Option Data
  applies_value None = None
  applies_value (Some a) = Some (applies_to_value components a)

  module _ {G : named.Ghosts N} where
    -- the array of an action's parents, where that is written
    abbrev pub parents_value : Option (List (ActionEntityUID N G)) → Option Data
    parents_value None = None
    parents_value (Some ids) = Some (list_of (map (action_id_value components) ids))
