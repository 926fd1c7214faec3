-- The text of the object of a type.
use Rattle.std.proofs.Common.{◌≡◌, ℕ, Bool, true, false, List, [], ◌∷◌, ◌++◌, Option, refl, sym, ap, ◌∙◌}
use Rattle.std.proofs.Common.{append_assoc}
use Rattle.std.specs.Prelude.{codes}
use Rattle.json.specs.Print.{quoted, escape, escape_byte}
use Rattle.serde_json.specs.Data.{Data, string, object, member, put}
use Rattle.serde_json.specs.Written.{compact_text, members_text}
use Rattle.cedar_identifiers.specs.declared.any_id.AnyId.{AnyId}
use Rattle.schema_json_values.specs.TypeValues.{with_flag, with_annotations, with_word}
use Rattle.schema_json_text.specs.Members.{ahead, member_behind, annotations_value, flag_value}
use Rattle.schema_json_text.proofs.Slots.{opt, filled_opt, ahead_is, ahead_step, behind_is}
use Rattle.schema_json_text.proofs.Loops.{opened}
use Rattle.schema_json_text.proofs.TypeSlots.{ends, word_slots, name_slots, element_slots, record_slots}
use Rattle.schema_json_text.proofs.Presence.{bare_key, key_type}

abbrev Notes : Type 0
Notes = List (AnyId × Option (List ℕ))

abbrev pub notes_ahead : Notes → List ℕ
notes_ahead as_ = ahead (codes "annotations") (annotations_value as_)

abbrev pub beside : Notes → Bool → List ℕ → List ℕ
beside as_ r w = compact_text (object (with_flag r (codes "required") false (with_annotations as_ (with_word w))))

-- a type that is a word
module _ (as_ : Notes) (r : Bool) (w old n1 n2 n3 n4 n5 new : List ℕ) where
  pub word_written : n1 ≡ old ++ 123 ∷ [] → n2 ≡ n1 ++ notes_ahead as_
      → n3 ≡ n2 ++ ahead (codes "required") (flag_value r false) → n4 ≡ n3 ++ bare_key (codes "type")
      → n5 ≡ n4 ++ quoted w → new ≡ n5 ++ 125 ∷ [] → new ≡ old ++ beside as_ r w
  word_written e1 e2 e3 e4 e5 e6 =
      let last : new ≡ n3 ++ members_text false (with_word w) =
      e6 ∙ ap (λ t. t ++ 125 ∷ []) (e5 ∙ ap (λ t. t ++ quoted w) (e4 ∙ ap (λ t. n3 ++ t) key_type))
      ∙ append_assoc (n3 ++ (quoted (codes "type") ++ 58 ∷ [])) (quoted w) (125 ∷ [])
      ∙ append_assoc n3 (quoted (codes "type") ++ 58 ∷ []) (quoted w ++ 125 ∷ [])
      ∙ ap (λ t. n3 ++ t) (append_assoc (quoted (codes "type")) (58 ∷ []) (quoted w ++ 125 ∷ [])) in
      last
      ∙ ahead_step (codes "required") (flag_value r false) n2 n3 (with_word w) refl e3
      ∙ ahead_step (codes "annotations") (annotations_value as_) n1 n2 (ends w r)
      (filled_opt (codes "required") (flag_value r false) (with_word w) refl) e2
      ∙ opened old n1 (members_text false (opt (codes "annotations") (annotations_value as_) (ends w r))) 123 e1
      ∙ ap (λ ms. old ++ compact_text (object ms)) (sym (word_slots w as_ r))

regroup : (old a f d e : List ℕ) (x : ℕ)
    → ((old ++ x ∷ (a ++ f)) ++ d) ++ e ≡ old ++ x ∷ (a ++ ((f ++ d) ++ e))
regroup old a f d e x = simp append_assoc

-- a type with a field, behind what stands before the field
module _ (key : List ℕ) (d : Data) (r : Bool) (w first field value old n1 n2 new end : List ℕ) where
  field_written : n1 ≡ old ++ 123 ∷ (first ++ field) → n2 ≡ n1 ++ value
      → field ++ value ≡ quoted key ++ 58 ∷ compact_text d
      → new ≡ n2 ++ (member_behind true (codes "required") (flag_value r false) ++ end) → end ≡ members_text true (with_word w)
      → new ≡ old ++ 123 ∷ (first ++ members_text false (member key d (ends w r)))
  field_written e1 e2 is e3 e4 =
      let tail = member_behind true (codes "required") (flag_value r false) ++ end in
      let ended : tail ≡ members_text true (ends w r) =
      ap (λ t. member_behind true (codes "required") (flag_value r false) ++ t) e4
      ∙ behind_is (codes "required") (flag_value r false) (with_word w) in
      e3 ∙ ap (λ t. t ++ tail) (e2 ∙ ap (λ t. t ++ value) e1)
      ∙ regroup old first field value tail 123
      ∙ ap (λ t. old ++ 123 ∷ (first ++ t))
      (ap (λ t. t ++ tail) is ∙ append_assoc (quoted key) (58 ∷ compact_text d) tail
      ∙ ap (λ t. quoted key ++ 58 ∷ (compact_text d ++ t)) ended)

module _ (as_ : Notes) (r : Bool) (w old n1 n2 new end : List ℕ) where
  notes_first : (key : List ℕ) (d : Data)
      → notes_ahead as_ ++ members_text false (member key d (ends w r))
      ≡ members_text false (opt (codes "annotations") (annotations_value as_) (member key d (ends w r)))
  notes_first key d = ahead_is (codes "annotations") (annotations_value as_) (member key d (ends w r)) refl

  -- a type that has a name
  pub name_written : (name : List ℕ) → n1 ≡ old ++ 123 ∷ (notes_ahead as_ ++ (bare_key (codes "name") ++ 34 ∷ []))
      → n2 ≡ n1 ++ (escape name ++ 34 ∷ [])
      → new ≡ n2 ++ (member_behind true (codes "required") (flag_value r false) ++ end) → end ≡ members_text true (with_word w)
      → new ≡ old ++ compact_text (object (with_flag r (codes "required") false
      (with_annotations as_ (put (codes "name") (string name) (with_word w)))))
  unfolding escape_byte
  name_written name e1 e2 e3 e4 =
      field_written (codes "name") (string name) r w (notes_ahead as_) (bare_key (codes "name") ++ 34 ∷ [])
      (escape name ++ 34 ∷ []) old n1 n2 new end e1 e2 refl e3 e4
      ∙ ap (λ t. old ++ 123 ∷ t) (notes_first (codes "name") (string name))
      ∙ ap (λ ms. old ++ compact_text (object ms)) (sym (name_slots w (string name) as_ r))

  -- a set
  pub element_written : (d : Data) → n1 ≡ old ++ 123 ∷ (notes_ahead as_ ++ bare_key (codes "element"))
      → n2 ≡ n1 ++ compact_text d
      → new ≡ n2 ++ (member_behind true (codes "required") (flag_value r false) ++ end) → end ≡ members_text true (with_word w)
      → new ≡ old ++ compact_text (object (with_flag r (codes "required") false
      (with_annotations as_ (put (codes "element") d (with_word w)))))
  unfolding escape_byte
  element_written d e1 e2 e3 e4 =
      field_written (codes "element") d r w (notes_ahead as_) (bare_key (codes "element")) (compact_text d) old n1 n2
      new end e1 e2 refl e3 e4
      ∙ ap (λ t. old ++ 123 ∷ t) (notes_first (codes "element") d)
      ∙ ap (λ ms. old ++ compact_text (object ms)) (sym (element_slots w d as_ r))

  -- a type of records
  pub record_written : (is_open : Bool) (d : Data)
      → n1 ≡ old ++ 123 ∷ (ahead (codes "additionalAttributes") (flag_value is_open true)
      ++ (notes_ahead as_ ++ bare_key (codes "attributes")))
      → n2 ≡ n1 ++ compact_text d
      → new ≡ n2 ++ (member_behind true (codes "required") (flag_value r false) ++ end) → end ≡ members_text true (with_word w)
      → new ≡ old ++ compact_text (object (with_flag r (codes "required") false (with_annotations as_
      (with_flag is_open (codes "additionalAttributes") true (put (codes "attributes") d (with_word w))))))
  unfolding escape_byte
  record_written is_open d e1 e2 e3 e4 =
      let extra = ahead (codes "additionalAttributes") (flag_value is_open true) in
      let last = member (codes "attributes") d (ends w r) in
      field_written (codes "attributes") d r w (extra ++ notes_ahead as_) (bare_key (codes "attributes"))
      (compact_text d) old n1 n2 new end
      (e1 ∙ ap (λ t. old ++ 123 ∷ t) (sym (append_assoc extra (notes_ahead as_) (bare_key (codes "attributes")))))
      e2 refl e3 e4
      ∙ ap (λ t. old ++ 123 ∷ t) (append_assoc extra (notes_ahead as_) (members_text false last)
      ∙ ap (λ t. extra ++ t) (notes_first (codes "attributes") d)
      ∙ ahead_is (codes "additionalAttributes") (flag_value is_open true)
      (opt (codes "annotations") (annotations_value as_) last)
      (filled_opt (codes "annotations") (annotations_value as_) last refl))
      ∙ ap (λ ms. old ++ compact_text (object ms)) (sym (record_slots w d is_open as_ r))

-- how the object of a type of this word ends
abbrev pub bare_end : List ℕ → List ℕ
bare_end w = 44 ∷ (bare_key (codes "type") ++ 34 ∷ (w ++ 34 ∷ 125 ∷ []))

pub end_entity : bare_end (codes "Entity") ≡ members_text true (with_word (codes "Entity"))
unfolding escape_byte
end_entity = refl

pub end_either : bare_end (codes "EntityOrCommon") ≡ members_text true (with_word (codes "EntityOrCommon"))
unfolding escape_byte
end_either = refl

pub end_extension : bare_end (codes "Extension") ≡ members_text true (with_word (codes "Extension"))
unfolding escape_byte
end_extension = refl

pub end_set : bare_end (codes "Set") ≡ members_text true (with_word (codes "Set"))
unfolding escape_byte
end_set = refl

pub end_record : bare_end (codes "Record") ≡ members_text true (with_word (codes "Record"))
unfolding escape_byte
end_record = refl
