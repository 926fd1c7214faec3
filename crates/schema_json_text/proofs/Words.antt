-- Entries whose keys are words or texts: they stand in the order of the maps.
use Rattle.std.proofs.Common.{◌≡◌, ℕ, true, List, map, Option, subst, sym, ◌∙◌, map-id}
use Rattle.std.specs.List.Sorted.{IsStrictlySortedBy}
use Rattle.std.specs.Map.{keys_of}
use Rattle.std.specs.Ordering.{nat_cmp}
use Rattle.std.specs.Cmp.Lexicographic.{slice_cmp}
use Rattle.std.specs.declared.cmp.Ordering.TheVariants.{Less}
use Rattle.serde_json.specs.Data.{no_members}
use Rattle.cedar_data.specs.Text.{text_cmp}
use Rattle.cedar_data.specs.Words.{is_word}
use Rattle.cedar_data.proofs.Ascii.{word_bytes}
use Rattle.cedar_identifiers.specs.declared.any_id.AnyId.{AnyId}
use Rattle.cedar_identifiers.specs.declared.name_text.NameText as named
use Rattle.cedar_identifiers.specs.declared.unreserved_id.UnreservedId.{UnreservedId}
use Rattle.cedar_identifiers.proofs.Ids.{id_is_word}
use Rattle.schema_json.specs.declared.types.TypeOfAttribute.{TypeOfAttribute}
use Rattle.schema_json.specs.declared.common_type.CommonType.{CommonType}
use Rattle.schema_json.specs.declared.common_type.CommonTypeId.{CommonTypeId}
use Rattle.schema_json.specs.declared.entity_type.EntityType.{EntityType}
use Rattle.schema_json.specs.declared.action_type.ActionType.{ActionType}
use Rattle.schema_json_values.specs.TypeValues.{put_all, annotation_entry, attribute_entry}
use Rattle.schema_json_values.specs.FragmentValues.{attribute_name_entry, common_entry, entity_entry, action_entry}
use Rattle.schema_json_text.proofs.InOrder.{put_in_order, rises_from}
use Rattle.schema_json_text.specs.Members.{members_in_order}

-- words rise by their characters as by their bytes
word_order : (s t : List ℕ) → is_word s ≡ true → is_word t ≡ true → text_cmp s t ≡ Less → slice_cmp nat_cmp s t ≡ Less
word_order s t p q less = (λ i. slice_cmp nat_cmp (sym (word_bytes s p) i) (sym (word_bytes t q) i)) ∙ less

id_order : (x y : UnreservedId) → text_cmp x.id.text y.id.text ≡ Less → slice_cmp nat_cmp x.id.text y.id.text ≡ Less
id_order x y less = word_order x.id.text y.id.text (id_is_word x.id.text x.id.word)
    (id_is_word y.id.text y.id.word) less

pub annotations_in_order : (es : List (AnyId × Option (List ℕ)))
    → IsStrictlySortedBy (λ x y. text_cmp x.text y.text) (keys_of es)
    → put_all (map annotation_entry es) no_members ≡ members_in_order (map annotation_entry es)
annotations_in_order es s =
    put_in_order annotation_entry es (rises_from annotation_entry (λ x y. text_cmp x.text y.text) (λ e. e.0)
    (λ x y less. word_order x.0.text y.0.text x.0.word y.0.word less) es s)

pub nulls_in_order : (ts : List (List ℕ)) → IsStrictlySortedBy text_cmp ts
    → put_all (map attribute_name_entry ts) no_members ≡ members_in_order (map attribute_name_entry ts)
nulls_in_order ts s =
    put_in_order attribute_name_entry ts (rises_from attribute_name_entry text_cmp (λ t. t) (λ x y less. less) ts
    (subst (IsStrictlySortedBy text_cmp) (sym (map-id ts)) s))

module _ {N : Type 0} (names : N → List (List ℕ)) where
  pub attributes_in_order : (es : List (List ℕ × TypeOfAttribute N)) → IsStrictlySortedBy text_cmp (keys_of es)
      → put_all (map (attribute_entry names) es) no_members ≡ members_in_order (map (attribute_entry names) es)
  attributes_in_order es s =
      put_in_order (attribute_entry names) es (rises_from (attribute_entry names) text_cmp (λ e. e.0)
      (λ x y less. less) es s)

  pub commons_in_order : (es : List (CommonTypeId × CommonType N))
      → IsStrictlySortedBy (λ x y. text_cmp x.id.id.text y.id.id.text) (keys_of es)
      → put_all (map (common_entry names) es) no_members ≡ members_in_order (map (common_entry names) es)
  commons_in_order es s =
      put_in_order (common_entry names) es (rises_from (common_entry names)
      (λ x y. text_cmp x.id.id.text y.id.id.text) (λ e. e.0) (λ x y less. id_order x.0.id y.0.id less) es s)

  pub entities_in_order : (es : List (UnreservedId × EntityType N))
      → IsStrictlySortedBy (λ x y. text_cmp x.id.text y.id.text) (keys_of es)
      → put_all (map (entity_entry names) es) no_members ≡ members_in_order (map (entity_entry names) es)
  entities_in_order es s =
      put_in_order (entity_entry names) es (rises_from (entity_entry names) (λ x y. text_cmp x.id.text y.id.text)
      (λ e. e.0) (λ x y less. id_order x.0 y.0 less) es s)

  module _ {G : named.Ghosts N} where
    pub actions_in_order : (es : List (List ℕ × ActionType N G)) → IsStrictlySortedBy text_cmp (keys_of es)
        → put_all (map (action_entry names) es) no_members ≡ members_in_order (map (action_entry names) es)
    actions_in_order es s =
        put_in_order (action_entry names) es (rises_from (action_entry names) text_cmp (λ e. e.0)
        (λ x y less. less) es s)
