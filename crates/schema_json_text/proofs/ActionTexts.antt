-- The text of what an action applies to, of the id of an action, and of a namespace.
use Rattle.std.proofs.Common.{◌≡◌, ℕ, true, false, List, [], ◌∷◌, ◌++◌, map, Option, Some, None, refl, sym, ap, ◌∙◌}
use Rattle.std.proofs.Common.{append_assoc}
use Rattle.std.specs.Prelude.{codes}
use Rattle.json.specs.Print.{quoted, escape_byte}
use Rattle.serde_json.specs.Data.{Data, Members, object, string, no_members, member, put}
use Rattle.serde_json.specs.Written.{compact_text, members_text}
use Rattle.cedar_identifiers.specs.declared.name_text.NameText as named
use Rattle.schema_json.specs.declared.action_type.ApplySpec.{ApplySpec}
use Rattle.schema_json.specs.declared.fragment.NamespaceDefinition.{NamespaceDefinition}
use Rattle.schema_json_values.specs.TypeValues.{object_of, name_bytes}
use Rattle.schema_json_values.specs.FragmentValues.{with_optional_value, with_object, names_value, applies_to_value}
use Rattle.schema_json_values.specs.FragmentValues.{common_entry, entity_entry, action_entry}
use Rattle.schema_json_values.specs.FragmentValues.{namespace_value}
use Rattle.schema_json_text.specs.Members.{ahead, shape_value, annotations_value, object_value}
use Rattle.schema_json_text.proofs.Slots.{opt, filled_opt, ahead_step}
use Rattle.schema_json_text.proofs.KindSlots.{shape_is, annotations_is}
use Rattle.schema_json_text.proofs.Loops.{opened}
use Rattle.schema_json_text.proofs.Presence.{bare_key}

-- ---- what an action applies to

regroup : (old a p b r : List ℕ) (x : ℕ)
    → ((((old ++ a) ++ p) ++ b) ++ r) ++ x ∷ [] ≡ old ++ (a ++ (p ++ (b ++ (r ++ x ∷ []))))
regroup old a p b r x = simp append_assoc

two_written : (p r : Data) (old n1 n2 n3 n4 new : List ℕ) → n1 ≡ old ++ bare_key (codes "principalTypes")
    → n2 ≡ n1 ++ compact_text p → n3 ≡ n2 ++ 44 ∷ bare_key (codes "resourceTypes") → n4 ≡ n3 ++ compact_text r
    → new ≡ n4 ++ 125 ∷ []
    → new ≡ old ++ members_text false (member (codes "principalTypes") p
    (member (codes "resourceTypes") r no_members))
unfolding escape_byte
two_written p r old n1 n2 n3 n4 new e1 e2 e3 e4 e5 =
    e5 ∙ ap (λ t. t ++ 125 ∷ []) (e4 ∙ ap (λ t. t ++ compact_text r)
    (e3 ∙ ap (λ t. t ++ 44 ∷ bare_key (codes "resourceTypes")) (e2 ∙ ap (λ t. t ++ compact_text p) e1)))
    ∙ regroup old (bare_key (codes "principalTypes")) (compact_text p) (44 ∷ bare_key (codes "resourceTypes"))
    (compact_text r) 125

module _ {N : Type 0} (names : N → List (List ℕ)) where
  context_first : (o : Option Data) (p r : Data)
      → with_optional_value (codes "context") o (put (codes "principalTypes") p (put (codes "resourceTypes") r no_members))
      ≡ opt (codes "context") o (member (codes "principalTypes") p (member (codes "resourceTypes") r no_members))
  context_first None p r = refl
  context_first (Some d) p r = refl

  pub apply_spec_written : (a : ApplySpec N) (old n1 n2 n3 n4 n5 n6 new : List ℕ) → n1 ≡ old ++ 123 ∷ []
      → n2 ≡ n1 ++ ahead (codes "context") (shape_value names a.context.0)
      → n3 ≡ n2 ++ bare_key (codes "principalTypes")
      → n4 ≡ n3 ++ compact_text (names_value names a.principal_types)
      → n5 ≡ n4 ++ 44 ∷ bare_key (codes "resourceTypes")
      → n6 ≡ n5 ++ compact_text (names_value names a.resource_types) → new ≡ n6 ++ 125 ∷ []
      → new ≡ old ++ compact_text (applies_to_value names a)
  apply_spec_written a old n1 n2 n3 n4 n5 n6 new e1 e2 e3 e4 e5 e6 e7 =
      let p = names_value names a.principal_types in
      let r = names_value names a.resource_types in
      let o = shape_value names a.context.0 in
      let last = member (codes "principalTypes") p (member (codes "resourceTypes") r no_members) in
      two_written p r n2 n3 n4 n5 n6 new e3 e4 e5 e6 e7
      ∙ ahead_step (codes "context") o n1 n2 last refl e2
      ∙ opened old n1 (members_text false (opt (codes "context") o last)) 123 e1
      ∙ ap (λ ms. old ++ compact_text (object ms))
      (sym (shape_is names (codes "context") a.context.0
      (put (codes "principalTypes") p (put (codes "resourceTypes") r no_members)) ∙ context_first o p r))

  -- ---- the id of an action

  pub id_untyped : (id old n1 n2 new : List ℕ) → n1 ≡ old ++ 123 ∷ bare_key (codes "id") → n2 ≡ n1 ++ quoted id
      → new ≡ n2 ++ 125 ∷ []
      → new ≡ old ++ compact_text (object (put (codes "id") (string id) no_members))
  unfolding escape_byte
  id_untyped id old n1 n2 new e1 e2 e3 =
      e3 ∙ ap (λ t. t ++ 125 ∷ []) (e2 ∙ ap (λ t. t ++ quoted id) e1)
      ∙ append_assoc (old ++ 123 ∷ bare_key (codes "id")) (quoted id) (125 ∷ [])
      ∙ append_assoc old (123 ∷ bare_key (codes "id")) (quoted id ++ 125 ∷ [])

  pub id_typed : (id : List ℕ) (ty : N) (old n1 n2 n3 n4 new : List ℕ) → n1 ≡ old ++ 123 ∷ bare_key (codes "id")
      → n2 ≡ n1 ++ quoted id → n3 ≡ n2 ++ 44 ∷ bare_key (codes "type") → n4 ≡ n3 ++ quoted (name_bytes names ty)
      → new ≡ n4 ++ 125 ∷ []
      → new ≡ old ++ compact_text (object (put (codes "type") (string (name_bytes names ty))
      (put (codes "id") (string id) no_members)))
  unfolding escape_byte
  id_typed id ty old n1 n2 n3 n4 new e1 e2 e3 e4 e5 =
      e5 ∙ ap (λ t. t ++ 125 ∷ []) (e4 ∙ ap (λ t. t ++ quoted (name_bytes names ty))
      (e3 ∙ ap (λ t. t ++ 44 ∷ bare_key (codes "type")) (e2 ∙ ap (λ t. t ++ quoted id) e1)))
      ∙ regroup old (123 ∷ bare_key (codes "id")) (quoted id) (44 ∷ bare_key (codes "type"))
      (quoted (name_bytes names ty)) 125

-- ---- a namespace

object_is : (key : List ℕ) (es : List (List ℕ × Data)) (ms : Members)
    → with_object key es ms ≡ with_optional_value key (object_value es) ms
object_is key [] ms = refl
object_is key (e ∷ es) ms = refl

namespace_order : (a c : Option Data) (actions entities : Data)
    → with_optional_value (codes "annotations") a (with_optional_value (codes "commonTypes") c (put (codes "actions") actions
    (put (codes "entityTypes") entities no_members)))
    ≡ member (codes "actions") actions (opt (codes "annotations") a (opt (codes "commonTypes") c
    (member (codes "entityTypes") entities no_members)))
namespace_order None None actions entities = refl
namespace_order None (Some c) actions entities = refl
namespace_order (Some a) None actions entities = refl
namespace_order (Some a) (Some c) actions entities = refl

module _ {N : Type 0} (names : N → List (List ℕ)) {G : named.Ghosts N} (n : NamespaceDefinition N G) where
  abbrev Actions : Data
  Actions = object_of (map (action_entry names) n.actions)

  abbrev Entities : Data
  Entities = object_of (map (entity_entry names) n.entity_types)

  abbrev Notes : Option Data
  Notes = annotations_value n.annotations.0

  abbrev Commons : Option Data
  Commons = object_value (map (common_entry names) n.common_types)

  slots : namespace_value names n ≡ object (member (codes "actions") Actions (opt (codes "annotations") Notes
      (opt (codes "commonTypes") Commons (member (codes "entityTypes") Entities no_members))))
  slots =
      let lower = put (codes "actions") Actions (put (codes "entityTypes") Entities no_members) in
      ap object (annotations_is n.annotations.0
      (with_object (codes "commonTypes") (map (common_entry names) n.common_types) lower)
      ∙ ap (with_optional_value (codes "annotations") Notes)
      (object_is (codes "commonTypes") (map (common_entry names) n.common_types) lower)
      ∙ namespace_order Notes Commons Actions Entities)

  entities_written : (old n1 n2 new : List ℕ) → n1 ≡ old ++ bare_key (codes "entityTypes")
      → n2 ≡ n1 ++ compact_text Entities → new ≡ n2 ++ 125 ∷ []
      → new ≡ old ++ members_text false (member (codes "entityTypes") Entities no_members)
  unfolding escape_byte
  entities_written old n1 n2 new e1 e2 e3 =
      e3 ∙ ap (λ t. t ++ 125 ∷ []) (e2 ∙ ap (λ t. t ++ compact_text Entities) e1)
      ∙ append_assoc (old ++ bare_key (codes "entityTypes")) (compact_text Entities) (125 ∷ [])
      ∙ append_assoc old (bare_key (codes "entityTypes")) (compact_text Entities ++ 125 ∷ [])

  actions_written : (ms : Members) (old n1 n2 n3 : List ℕ) → members_text true ms ≡ 44 ∷ members_text false ms
      → n1 ≡ old ++ 123 ∷ bare_key (codes "actions") → n2 ≡ n1 ++ compact_text Actions → n3 ≡ n2 ++ 44 ∷ []
      → n3 ++ members_text false ms ≡ old ++ compact_text (object (member (codes "actions") Actions ms))
  unfolding escape_byte
  actions_written ms old n1 n2 n3 f e1 e2 e3 =
      ap (λ t. t ++ members_text false ms) (e3 ∙ ap (λ t. t ++ 44 ∷ []) (e2 ∙ ap (λ t. t ++ compact_text Actions) e1))
      ∙ append_assoc ((old ++ 123 ∷ bare_key (codes "actions")) ++ compact_text Actions) (44 ∷ [])
      (members_text false ms)
      ∙ append_assoc (old ++ 123 ∷ bare_key (codes "actions")) (compact_text Actions) (44 ∷ members_text false ms)
      ∙ append_assoc old (123 ∷ bare_key (codes "actions")) (compact_text Actions ++ 44 ∷ members_text false ms)
      ∙ ap (λ t. old ++ 123 ∷ (bare_key (codes "actions") ++ (compact_text Actions ++ t))) (sym f)

  pub namespace_written : (old n1 n2 n3 n4 n5 n6 n7 new : List ℕ) → n1 ≡ old ++ 123 ∷ bare_key (codes "actions")
      → n2 ≡ n1 ++ compact_text Actions → n3 ≡ n2 ++ 44 ∷ [] → n4 ≡ n3 ++ ahead (codes "annotations") Notes
      → n5 ≡ n4 ++ ahead (codes "commonTypes") Commons → n6 ≡ n5 ++ bare_key (codes "entityTypes")
      → n7 ≡ n6 ++ compact_text Entities → new ≡ n7 ++ 125 ∷ []
      → new ≡ old ++ compact_text (namespace_value names n)
  namespace_written old n1 n2 n3 n4 n5 n6 n7 new e1 e2 e3 e4 e5 e6 e7 e8 =
      let last = member (codes "entityTypes") Entities no_members in
      let commons = opt (codes "commonTypes") Commons last in
      entities_written n5 n6 n7 new e6 e7 e8
      ∙ ahead_step (codes "commonTypes") Commons n4 n5 last refl e5
      ∙ ahead_step (codes "annotations") Notes n3 n4 commons (filled_opt (codes "commonTypes") Commons last refl) e4
      ∙ actions_written (opt (codes "annotations") Notes commons) old n1 n2 n3
      (filled_opt (codes "annotations") Notes commons (filled_opt (codes "commonTypes") Commons last refl)) e1 e2 e3
      ∙ ap (λ d. old ++ compact_text d) (sym slots)
