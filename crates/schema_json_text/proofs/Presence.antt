-- What is written where it is there, and the keys as they stand in the code.
use Rattle.std.proofs.Common.{◌≡◌, ℕ, ◌<◌, ◌≤◌, true, false, List, [], ◌∷◌, ◌++◌, length, map, Option, Some, None}
use Rattle.std.proofs.Common.{refl, arith}
use Rattle.std.proofs.lemmas.Bool.{cond-true, cond-false}
use Rattle.std.specs.Prelude.{codes}
use Rattle.json.specs.Print.{quoted, escape_byte}
use Rattle.serde_json.specs.Data.{Data, boolean}
use Rattle.serde_json.specs.Written.{compact_text}
use Rattle.cedar_identifiers.specs.declared.any_id.AnyId.{AnyId}
use Rattle.schema_json.specs.Shapes.{is_empty_type}
use Rattle.schema_json.specs.declared.types.Type.{«Type»}
use Rattle.schema_json_values.specs.TypeValues.{object_of, annotation_entry, type_value}
use Rattle.schema_json_values.specs.FragmentValues.{list_of}
use Rattle.schema_json_text.specs.Members.{annotations_value, list_value, object_value, shape_value}

pub notes_none : (as_ : List (AnyId × Option (List ℕ))) → length as_ ≤ 0 → annotations_value as_ ≡ None
notes_none [] h = refl
notes_none (a ∷ as_) h = absurd (omega arith)

pub notes_some : (as_ : List (AnyId × Option (List ℕ))) → 0 < length as_
    → annotations_value as_ ≡ Some (object_of (map annotation_entry as_))
notes_some [] h = absurd (omega arith)
notes_some (a ∷ as_) h = refl

module _ {X : Type 0} (f : X → Data) where
  pub list_none : (xs : List X) → length xs ≤ 0 → list_value (map f xs) ≡ None
  list_none [] h = refl
  list_none (x ∷ xs) h = absurd (omega arith)

  pub list_some : (xs : List X) → 0 < length xs → list_value (map f xs) ≡ Some (list_of (map f xs))
  list_some [] h = absurd (omega arith)
  list_some (x ∷ xs) h = refl

module _ {X : Type 0} (f : X → List ℕ × Data) where
  pub object_none : (xs : List X) → length xs ≤ 0 → object_value (map f xs) ≡ None
  object_none [] h = refl
  object_none (x ∷ xs) h = absurd (omega arith)

  pub object_some : (xs : List X) → 0 < length xs → object_value (map f xs) ≡ Some (object_of (map f xs))
  object_some [] h = absurd (omega arith)
  object_some (x ∷ xs) h = refl

-- a key and its colon, between quotes
abbrev pub bare_key : List ℕ → List ℕ
bare_key key = 34 ∷ (key ++ 34 ∷ 58 ∷ [])

pub key_annotations : bare_key (codes "annotations") ≡ quoted (codes "annotations") ++ 58 ∷ []
unfolding escape_byte
key_annotations = refl

pub key_enum : bare_key (codes "enum") ≡ quoted (codes "enum") ++ 58 ∷ []
unfolding escape_byte
key_enum = refl

pub key_parents : bare_key (codes "memberOfTypes") ≡ quoted (codes "memberOfTypes") ++ 58 ∷ []
unfolding escape_byte
key_parents = refl

pub key_shape : bare_key (codes "shape") ≡ quoted (codes "shape") ++ 58 ∷ []
unfolding escape_byte
key_shape = refl

pub key_tags : bare_key (codes "tags") ≡ quoted (codes "tags") ++ 58 ∷ []
unfolding escape_byte
key_tags = refl

pub key_applies : bare_key (codes "appliesTo") ≡ quoted (codes "appliesTo") ++ 58 ∷ []
unfolding escape_byte
key_applies = refl

pub key_attributes : bare_key (codes "attributes") ≡ quoted (codes "attributes") ++ 58 ∷ []
unfolding escape_byte
key_attributes = refl

pub key_member_of : bare_key (codes "memberOf") ≡ quoted (codes "memberOf") ++ 58 ∷ []
unfolding escape_byte
key_member_of = refl

pub key_context : bare_key (codes "context") ≡ quoted (codes "context") ++ 58 ∷ []
unfolding escape_byte
key_context = refl

pub key_type : bare_key (codes "type") ≡ quoted (codes "type") ++ 58 ∷ []
unfolding escape_byte
key_type = refl

pub key_commons : bare_key (codes "commonTypes") ≡ quoted (codes "commonTypes") ++ 58 ∷ []
unfolding escape_byte
key_commons = refl

pub external_whole : bare_key (codes "external") ++ codes "true"
    ≡ quoted (codes "external") ++ 58 ∷ compact_text (boolean true)
unfolding escape_byte
external_whole = refl

module _ {N : Type 0} (names : N → List (List ℕ)) (t : «Type» N) where
  pub shape_none : is_empty_type t ≡ true → shape_value names t ≡ None
  shape_none e = cond-true (is_empty_type t) None (Some (type_value names t)) e

  pub shape_some : is_empty_type t ≡ false → shape_value names t ≡ Some (type_value names t)
  shape_some e = cond-false (is_empty_type t) None (Some (type_value names t)) e
