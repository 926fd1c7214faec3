-- What a value must keep to be read in the deprecated form. The demands on a value itself come before those on what it
-- holds, where fields and entries go by the bytes of their names. Nothing is asked of the objects inside a type.
use Rattle.std.specs.Prelude.{ℕ, List, [], ◌∷◌, ◌++◌, codes, Option, Some, None}
use Rattle.std.specs.Str.{chars}
use Rattle.serde_json.specs.Data.{Data, string, Members}
use Rattle.serde_json.specs.Find.{get_member}
use Rattle.schema_json_shapes.specs.declared.shape_fault.ShapeFault.TheVariants.{MissingField, WrongType}
use Rattle.schema_json_shapes.specs.Tables.{Field, needs, may_have}
use Rattle.schema_json_shapes.specs.Walk.{Demand, unless, fits_table, key_demands, common_types}
use Rattle.schema_json_shapes.specs.Walk.{entity_types}
use Rattle.schema_json_shapes.specs.Walk.{names, keys, action_ids, or_null}
use Rattle.schema_json_shapes.specs.Said.{not_null}
use Rattle.schema_json_shapes.specs.Reads.{field_demands}
use Rattle.schema_json_shapes.specs.Entries.{of_object, each_entry}

-- ---- the fields of each object

-- those of a namespace
abbrev pub old_namespace_fields : List Field
old_namespace_fields = may_have (codes "commonTypes") ∷ needs (codes "entityTypes") ∷ needs (codes "actions") ∷ []

-- those of an entity type
abbrev pub old_entity_type_fields : List Field
old_entity_type_fields = may_have (codes "memberOfTypes") ∷ may_have (codes "shape") ∷ []

-- those of an action
abbrev pub old_action_fields : List Field
old_action_fields =
    may_have (codes "attributes") ∷ may_have (codes "appliesTo") ∷ may_have (codes "memberOf") ∷ []

-- those of what an action applies to; conversion asks for the first two
abbrev pub old_applies_to_fields : List Field
old_applies_to_fields =
    may_have (codes "resourceTypes") ∷ may_have (codes "principalTypes") ∷ may_have (codes "context") ∷ []

-- ---- fields

-- what a field must keep, where it is there
abbrev pub at_field : (List ℕ → Data → List Demand) → List ℕ → Option Data → List Demand
at_field part n None = []
at_field part n (Some d) = part n d

-- ---- the walk

-- the member `type` is there, and is a text
abbrev pub old_word_demands : Option Data → List Demand
old_word_demands None = unless (Some (MissingField (chars (codes "type")))) ∷ []
old_word_demands (Some (string s)) = []
old_word_demands (Some d) = unless (Some (WrongType (chars (codes "type")))) ∷ []

-- a type is an object with such a member; the other members are not looked at
abbrev pub old_type_demands : List ℕ → Data → List Demand
old_type_demands n d = of_object (λ ms. old_word_demands (get_member (codes "type") ms)) n d

-- an entry of `commonTypes`: its key, and its type
abbrev pub old_common_type_demands : List ℕ → Data → List Demand
old_common_type_demands k d = key_demands common_types k ++ old_type_demands k d

-- the members of an entity type
abbrev pub old_entity_type_members : Members → List Demand
old_entity_type_members ms =
    fits_table old_entity_type_fields ms
    ++ (field_demands names (codes "memberOfTypes") (get_member (codes "memberOfTypes") ms)
    ++ at_field old_type_demands (codes "shape") (get_member (codes "shape") ms))

-- an entry of `entityTypes`: its key, and its entity type
abbrev pub old_entity_type_demands : List ℕ → Data → List Demand
old_entity_type_demands k d = key_demands entity_types k ++ of_object old_entity_type_members k d

-- the members of what an action applies to
abbrev pub old_applies_to_members : Members → List Demand
old_applies_to_members ms =
    fits_table old_applies_to_fields ms
    ++ (at_field old_type_demands (codes "context") (get_member (codes "context") ms)
    ++ (field_demands (or_null names) (codes "principalTypes") (get_member (codes "principalTypes") ms)
    ++ field_demands (or_null names) (codes "resourceTypes") (get_member (codes "resourceTypes") ms)))

-- what an action applies to
abbrev pub old_applies_to_demands : List ℕ → Data → List Demand
old_applies_to_demands n d = of_object old_applies_to_members n d

-- the members of an action
abbrev pub old_action_members : Members → List Demand
old_action_members ms =
    fits_table old_action_fields ms
    ++ (at_field old_applies_to_demands (codes "appliesTo") (not_null (get_member (codes "appliesTo") ms))
    ++ (field_demands (or_null keys) (codes "attributes") (get_member (codes "attributes") ms)
    ++ field_demands (or_null action_ids) (codes "memberOf") (get_member (codes "memberOf") ms)))

-- an entry of `actions`, whose key is any text
abbrev pub old_action_demands : List ℕ → Data → List Demand
old_action_demands k d = of_object old_action_members k d

-- the members of a namespace
abbrev pub old_namespace_members : Members → List Demand
old_namespace_members ms =
    fits_table old_namespace_fields ms
    ++ (at_field (of_object (each_entry old_action_demands)) (codes "actions") (get_member (codes "actions") ms)
    ++ (at_field (of_object (each_entry old_common_type_demands)) (codes "commonTypes")
    (get_member (codes "commonTypes") ms)
    ++ at_field (of_object (each_entry old_entity_type_demands)) (codes "entityTypes")
    (get_member (codes "entityTypes") ms)))

-- an entry of a fragment, whose key is not looked at
abbrev pub old_namespace_demands : List ℕ → Data → List Demand
old_namespace_demands k d = of_object old_namespace_members k d

-- a fragment
abbrev pub old_demands : Data → List Demand
old_demands d = of_object (each_entry old_namespace_demands) [] d
