-- Lists that rise are in order already.
use Rattle.std.proofs.Common.{◌≡◌, ℕ, List, [], ◌∷◌, Ordering, map, refl, ap, ◌∙◌}
use Rattle.std.specs.BTreeSet.{insert_key}
use Rattle.std.specs.Cmp.Lexicographic.{slice_cmp}
use Rattle.std.specs.List.Sorted.{IsStrictlySortedBy}
use Rattle.std.specs.Ordering.{match_ordering}
use Rattle.std.proofs.lemmas.Map.Keys.{sorted_head, sorted_tail}
use Rattle.cedar_data.specs.Text.{text_cmp}
use Rattle.cedar_names.specs.CanonicalText.{in_order}
use Rattle.cedar_names.specs.Definitions.{action_of}
use Rattle.cedar_names.specs.declared.entity_uid.EntityUID.{EntityUID}
use Rattle.schema_build_types.specs.Content.{actions_cmp, actions_in_order}

-- a key below all others goes in front
in_front : {K : Type 0} (R : K → K → Ordering) (k : K) (ks : List K) → IsStrictlySortedBy R (k ∷ ks)
    → insert_key R ks k ≡ k ∷ ks
in_front R k [] up = refl
in_front R k (x ∷ ks) up =
    ap (λ o. match_ordering o (k ∷ x ∷ ks) (x ∷ ks) (x ∷ insert_key R ks k)) (sorted_head R k (x ∷ ks) up).0

pub rising_names : (names : List (List (List ℕ))) → IsStrictlySortedBy (slice_cmp text_cmp) names
    → in_order names ≡ names
rising_names [] up = refl
rising_names (n ∷ ns) up =
    ap (λ l. insert_key (slice_cmp text_cmp) l n) (rising_names ns (sorted_tail (slice_cmp text_cmp) n ns up))
    ∙ in_front (slice_cmp text_cmp) n ns up

pub rising_actions : (uids : List EntityUID) → IsStrictlySortedBy actions_cmp (map action_of uids)
    → actions_in_order uids ≡ map action_of uids
rising_actions [] up = refl
rising_actions (u ∷ us) up =
    ap (λ l. insert_key actions_cmp l (action_of u))
    (rising_actions us (sorted_tail actions_cmp (action_of u) (map action_of us) up))
    ∙ in_front actions_cmp (action_of u) (map action_of us) up
