-- The parents of an action, which are absent where there are none.
use Rattle.std.proofs.Common.{◌≡◌, ℕ, ◌==◌, true, false, List, [], ◌∷◌, map, length, None, Some, refl, sym, ap, ◌∙◌}
use Rattle.std.proofs.Common.{subst}
use Rattle.std.specs.List.{AllZip}
use Rattle.std.proofs.lemmas.List.{length-map}
use Rattle.cedar_identifiers.specs.declared.name_text.NameText as named
use Rattle.cedar_identifiers.specs.declared.raw_name.RawName.{RawName}
use Rattle.cedar_names.specs.Definitions.{action_of}
use Rattle.cedar_names.specs.declared.entity_uid.EntityUID.{EntityUID}
use Rattle.schema_json.specs.declared.action_type.ActionEntityUID.{ActionEntityUID}
use Rattle.schema_build_types.specs.Content.{actions_in_order, actions_cmp}
use Rattle.schema_build_recovered.specs.Recovered.{IsRecoveredParent, AreRecoveredParents}
use Rattle.schema_build_text.proofs.Rowed.{no_items, some_sorted}
use Rattle.schema_build_text.proofs.Rowed.{actions_in_order_is}

pub no_parents : (G : named.Ghosts RawName) (us : List EntityUID) → (length us == 0) ≡ true
    → AreRecoveredParents {G = G} (actions_in_order us) None
no_parents G us h = subst (λ l. AreRecoveredParents {G = G} (actions_in_order l) None) (sym (no_items us h)) tt

module _ {G : named.Ghosts RawName} where
  shown : (l : List (List (List ℕ) × List ℕ)) (ps : List (ActionEntityUID RawName G))
      → ((x : List (List ℕ) × List ℕ) (xs : List (List (List ℕ) × List ℕ)) → l ≡ x ∷ xs
      → AllZip IsRecoveredParent l ps → AreRecoveredParents l (Some ps))
  shown [] ps x xs e h = absurd (cc)
  shown (y ∷ ys) ps x xs e h = h

  some : (us : List EntityUID) (ps : List (ActionEntityUID RawName G)) → (length (map action_of us) == 0) ≡ false
      → AllZip IsRecoveredParent (actions_in_order us) ps → AreRecoveredParents (actions_in_order us) (Some ps)
  some us ps h all =
      subst (λ l. AllZip IsRecoveredParent l ps → AreRecoveredParents l (Some ps)) (sym (actions_in_order_is us))
      (some_sorted actions_cmp (λ l. AllZip IsRecoveredParent l ps → AreRecoveredParents l (Some ps))
      (λ y ys. shown (y ∷ ys) ps y ys refl) (map action_of us) h) all

  pub some_parents : (us : List EntityUID) (ps : List (ActionEntityUID RawName G)) → (length us == 0) ≡ false
      → AllZip IsRecoveredParent (actions_in_order us) ps → AreRecoveredParents (actions_in_order us) (Some ps)
  some_parents us ps h all = some us ps (ap (λ n. n == 0) (length-map us action_of) ∙ h) all
