-- The members of a type, with its annotations and whether it is required, in the order of their keys.
use Rattle.std.proofs.Common.{◌≡◌, ℕ, Bool, true, false, List, [], ◌∷◌, Option, refl}
use Rattle.std.specs.Prelude.{codes}
use Rattle.serde_json.specs.Data.{Data, Members, member, put}
use Rattle.cedar_identifiers.specs.declared.any_id.AnyId.{AnyId}
use Rattle.schema_json_values.specs.TypeValues.{with_flag, with_annotations, with_word}
use Rattle.schema_json_text.specs.Members.{annotations_value, flag_value}
use Rattle.schema_json_text.proofs.Slots.{opt}

module _ (w : List ℕ) where
  -- how the object of a type ends
  abbrev pub ends : Bool → Members
  ends r = opt (codes "required") (flag_value r false) (with_word w)

  pub word_slots : (as_ : List (AnyId × Option (List ℕ))) (r : Bool)
      → with_flag r (codes "required") false (with_annotations as_ (with_word w))
      ≡ opt (codes "annotations") (annotations_value as_) (ends r)
  word_slots [] true = refl
  word_slots [] false = refl
  word_slots (a ∷ as_) true = refl
  word_slots (a ∷ as_) false = refl

  module _ (d : Data) where
    pub name_slots : (as_ : List (AnyId × Option (List ℕ))) (r : Bool)
        → with_flag r (codes "required") false (with_annotations as_ (put (codes "name") d (with_word w)))
        ≡ opt (codes "annotations") (annotations_value as_) (member (codes "name") d (ends r))
    name_slots [] true = refl
    name_slots [] false = refl
    name_slots (a ∷ as_) true = refl
    name_slots (a ∷ as_) false = refl

    pub element_slots : (as_ : List (AnyId × Option (List ℕ))) (r : Bool)
        → with_flag r (codes "required") false (with_annotations as_ (put (codes "element") d (with_word w)))
        ≡ opt (codes "annotations") (annotations_value as_) (member (codes "element") d (ends r))
    element_slots [] true = refl
    element_slots [] false = refl
    element_slots (a ∷ as_) true = refl
    element_slots (a ∷ as_) false = refl

    pub record_slots : (is_open : Bool) (as_ : List (AnyId × Option (List ℕ))) (r : Bool)
        → with_flag r (codes "required") false (with_annotations as_
        (with_flag is_open (codes "additionalAttributes") true (put (codes "attributes") d (with_word w))))
        ≡ opt (codes "additionalAttributes") (flag_value is_open true)
        (opt (codes "annotations") (annotations_value as_) (member (codes "attributes") d (ends r)))
    record_slots true [] true = refl
    record_slots true [] false = refl
    record_slots true (a ∷ as_) true = refl
    record_slots true (a ∷ as_) false = refl
    record_slots false [] true = refl
    record_slots false [] false = refl
    record_slots false (a ∷ as_) true = refl
    record_slots false (a ∷ as_) false = refl
