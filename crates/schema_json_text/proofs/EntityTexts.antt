-- The text of the object of an entity type, and of an action.
use Rattle.std.proofs.Common.{◌≡◌, ℕ, Bool, true, false, List, [], ◌∷◌, ◌++◌, Option, Some, sym, ap, ◌∙◌}
use Rattle.std.specs.Prelude.{codes}
use Rattle.serde_json.specs.Data.{Data, object, no_members, put}
use Rattle.serde_json.specs.Written.{compact_text, members_text}
use Rattle.cedar_identifiers.specs.declared.any_id.AnyId.{AnyId}
use Rattle.cedar_identifiers.specs.declared.name_text.NameText as named
use Rattle.schema_json.specs.declared.entity_type.EntityTypeKind.{EntityTypeKind}
use Rattle.schema_json.specs.declared.entity_type.EntityTypeKind.TheVariants.{Standard}
use Rattle.schema_json.specs.declared.entity_type.StandardEntityType.{StandardEntityType}
use Rattle.schema_json.specs.declared.action_type.ActionType.{ActionType}
use Rattle.schema_json_values.specs.TypeValues.{with_flag, with_annotations}
use Rattle.schema_json_values.specs.FragmentValues.{kind_members, action_value}
use Rattle.schema_json_text.specs.Members.{AddsMember, annotations_value, flag_value, nulls_value, shape_value}
use Rattle.schema_json_text.specs.Members.{tags_value, applies_value, parents_value}
use Rattle.schema_json_text.proofs.Slots.{opt, adds_step}
use Rattle.schema_json_text.proofs.Loops.{opened}
use Rattle.schema_json_text.proofs.KindSlots.{parents_slot, standard_slots, enum_slots, entity_slots, action_slots}

module _ (later one two three four five : Bool) (old n1 n2 n3 n4 n5 new : List ℕ) where
  -- four members that may be there, and the brace
  four_written : (ka kb kc kd : List ℕ) (a b c d : Option Data) → AddsMember later ka a old n1 one
      → AddsMember one kb b n1 n2 two → AddsMember two kc c n2 n3 three → AddsMember three kd d n3 n4 four
      → new ≡ n4 ++ 125 ∷ []
      → new ≡ old ++ members_text later (opt ka a (opt kb b (opt kc c (opt kd d no_members))))
  four_written ka kb kc kd a b c d e1 e2 e3 e4 e5 =
      e5 ∙ adds_step three kd d n3 n4 four no_members e4
      ∙ adds_step two kc c n2 n3 three (opt kd d no_members) e3
      ∙ adds_step one kb b n1 n2 two (opt kc c (opt kd d no_members)) e2
      ∙ adds_step later ka a old n1 one (opt kb b (opt kc c (opt kd d no_members))) e1

  pub enum_written : (external : Bool) (d : Data) → AddsMember later (codes "enum") (Some d) old n1 true
      → AddsMember true (codes "external") (flag_value external true) n1 n2 one → new ≡ n2 ++ 125 ∷ []
      → new ≡ old ++ members_text later (with_flag external (codes "external") true (put (codes "enum") d no_members))
  enum_written external d e1 e2 e3 =
      e3 ∙ adds_step true (codes "external") (flag_value external true) n1 n2 one no_members e2
      ∙ adds_step later (codes "enum") (Some d) old n1 true
      (opt (codes "external") (flag_value external true) no_members)
      e1
      ∙ ap (λ ms. old ++ members_text later ms) (sym (enum_slots external d))

  module _ {N : Type 0} (names : N → List (List ℕ)) where
    pub standard_written : (external : Bool) (s : StandardEntityType N)
        → AddsMember later (codes "external") (flag_value external true) old n1 one
        → AddsMember one (codes "memberOfTypes") (parents_slot names s) n1 n2 two
        → AddsMember two (codes "shape") (shape_value names s.shape.0) n2 n3 three
        → AddsMember three (codes "tags") (tags_value names s.tags) n3 n4 four → new ≡ n4 ++ 125 ∷ []
        → new ≡ old ++ members_text later (with_flag external (codes "external") true
        (kind_members names (Standard s)))
    standard_written external s e1 e2 e3 e4 e5 =
        four_written (codes "external") (codes "memberOfTypes") (codes "shape") (codes "tags")
        (flag_value external true) (parents_slot names s) (shape_value names s.shape.0) (tags_value names s.tags) e1 e2
        e3 e4 e5
        ∙ ap (λ ms. old ++ members_text later ms) (sym (standard_slots names external s))

    pub entity_written : (as_ : List (AnyId × Option (List ℕ))) (external : Bool) (k : EntityTypeKind N)
        → n1 ≡ old ++ 123 ∷ []
        → AddsMember false (codes "annotations") (annotations_value as_) n1 n2 one
        → new ≡ n2 ++ members_text one (with_flag external (codes "external") true (kind_members names k))
        → new ≡ old ++ compact_text (object (with_annotations as_
        (with_flag external (codes "external") true (kind_members names k))))
    entity_written as_ external k e1 e2 e3 =
        let ms = with_flag external (codes "external") true (kind_members names k) in
        e3 ∙ adds_step false (codes "annotations") (annotations_value as_) n1 n2 one ms e2
        ∙ opened old n1 (members_text false (opt (codes "annotations") (annotations_value as_) ms)) 123 e1
        ∙ ap (λ m. old ++ compact_text (object m)) (sym (entity_slots names as_ external k))

module _ {N : Type 0} (names : N → List (List ℕ)) {G : named.Ghosts N} (a : ActionType N G)
    (one two three four five : Bool) (old n0 n1 n2 n3 n4 n5 new : List ℕ) where
  pub action_written : n0 ≡ old ++ 123 ∷ []
      → AddsMember false (codes "annotations") (annotations_value a.annotations.0) n0 n1 one
      → AddsMember one (codes "appliesTo") (applies_value names a.applies_to) n1 n2 two
      → AddsMember two (codes "attributes") (nulls_value a.attributes) n2 n3 three
      → AddsMember three (codes "external") (flag_value a.external true) n3 n4 four
      → AddsMember four (codes "memberOf") (parents_value names a.member_of) n4 n5 five → new ≡ n5 ++ 125 ∷ []
      → new ≡ old ++ compact_text (action_value names a)
  action_written e0 e1 e2 e3 e4 e5 e6 =
      let m5 = opt (codes "memberOf") (parents_value names a.member_of) no_members in
      let m4 = opt (codes "external") (flag_value a.external true) m5 in
      let m3 = opt (codes "attributes") (nulls_value a.attributes) m4 in
      let m2 = opt (codes "appliesTo") (applies_value names a.applies_to) m3 in
      let m1 = opt (codes "annotations") (annotations_value a.annotations.0) m2 in
      e6 ∙ adds_step four (codes "memberOf") (parents_value names a.member_of) n4 n5 five no_members e5
      ∙ adds_step three (codes "external") (flag_value a.external true) n3 n4 four m5 e4
      ∙ adds_step two (codes "attributes") (nulls_value a.attributes) n2 n3 three m4 e3
      ∙ adds_step one (codes "appliesTo") (applies_value names a.applies_to) n1 n2 two m3 e2
      ∙ adds_step false (codes "annotations") (annotations_value a.annotations.0) n0 n1 one m2 e1
      ∙ opened old n0 (members_text false m1) 123 e0
      ∙ ap (λ ms. old ++ compact_text (object ms)) (sym (action_slots names a))
