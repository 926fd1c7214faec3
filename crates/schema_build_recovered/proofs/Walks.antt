-- What is recovered of namespaces that rise, of those before one of them and of those from it on.
use Rattle.std.proofs.Common.{◌≡◌, ℕ, ◌+◌, ◌<◌, ◌≤◌, ◌==◌, ◌≢◌, suc, zero, true, false, List, [], ◌∷◌, ◌++◌, length}
use Rattle.std.proofs.Common.{map, get_or}
use Rattle.std.proofs.Common.{drop, refl, ap, sym, ◌∙◌, subst, Option, append_assoc, arith}
use Rattle.std.specs.List.{AllByRecursion, AllZip, filter, flat_map}
use Rattle.std.proofs.lemmas.Grind.{flat_map-append}
use Rattle.std.proofs.lemmas.List.{map-append}
use Rattle.cedar_identifiers.specs.declared.name.Name.{Name}
use Rattle.cedar_identifiers.specs.declared.name_text.NameText as named
use Rattle.cedar_identifiers.specs.declared.raw_name.RawName.{RawName}
use Rattle.cedar_names.specs.declared.entity_uid.EntityUID.{EntityUID}
use Rattle.schema_json.specs.declared.fragment.NamespaceDefinition.{NamespaceDefinition}
use Rattle.schema_build_errors.specs.declared.recovery_error.RecoveryError.{RecoveryError}
use Rattle.schema_build_types.specs.Content.{content}
use Rattle.schema_build_types.specs.Lacks.{namespace_lacks}
use Rattle.schema_build_types.specs.declared.action.ValidatorActionId.{ValidatorActionId}
use Rattle.schema_build_types.specs.declared.entity_type.ValidatorEntityType.{ValidatorEntityType}
use Rattle.schema_build_text.specs.Readings.{schema_reading}
use Rattle.schema_build_text.proofs.Rowed.{dropped}
use Rattle.schema_build_recovered.specs.Places.{on_side, words_of}
use Rattle.schema_build_recovered.specs.Recovered.{IsRecoveredNamespace}
use Rattle.schema_build_recovered_types.specs.FirstLacks.{IsFirstLack}
use Rattle.schema_build_recovered.specs.declared.names.Namespace.{Namespace}
use Rattle.schema_build_recovered.proofs.Halves.{entity_key, action_key, same_lacks, same_namespace, zip_same}
use Rattle.schema_build_recovered.proofs.Halves.{flat_alike}
use Rattle.schema_build_recovered.proofs.Halves.{zip_append}
use Rattle.schema_build_recovered_types.proofs.Lacking.{first_before}
use Rattle.schema_build_recovered.proofs.Sides.{IsRising, front_rises, back_rises, front_below, back_above}

abbrev pub words : List Namespace → List (List (List ℕ))
words = map (λ n. words_of n.words)

-- two at least
pub two : (n : ℕ) → (n == 0) ≡ false → n ≢ 1 → 2 ≤ n
two zero h k = absurd (cc)
two (suc zero) h k = absurd (k refl)
two (suc (suc n)) h k = omega arith

-- namespaces that rise, before one of them and from it on
pub record IsSplit (ns lower upper : List Namespace) (pivot : Namespace) : Type 0 where
  pub joined : words lower ++ words upper ≡ words ns
  pub lower_rises : IsRising (words lower)
  pub upper_rises : IsRising (words upper)
  pub lower_on : AllByRecursion (λ n. on_side true (words_of pivot.words) n ≡ true) (words lower)
  pub upper_on : AllByRecursion (λ n. on_side false (words_of pivot.words) n ≡ true) (words upper)

pub split : (ns lower upper : List Namespace) (pivot : Namespace) → lower ++ upper ≡ ns → 0 < length upper
    → pivot ≡ get_or upper 0 pivot → IsRising (words ns) → IsSplit ns lower upper pivot
split ns lower upper pivot e some first rises =
    let rest = drop (0 + 1) upper in
    let all = sym (map-append (λ (n : Namespace). words_of n.words) lower upper) ∙ ap words e in
    let up = subst IsRising (sym all) rises in
    let front : upper ≡ pivot ∷ rest = dropped upper 0 pivot some first in record {
      joined = all;
      lower_rises = front_rises (words lower) (words upper) up;
      upper_rises = back_rises (words lower) (words upper) up;
      lower_on = front_below (words lower) (words_of pivot.words) (words rest)
          (subst (λ u. IsRising (words lower ++ words u)) front up);
      upper_on = subst (λ u. AllByRecursion (λ n. on_side false (words_of pivot.words) n ≡ true) (words u)) (sym front)
          (back_above (words_of pivot.words) (words rest) (subst (λ u. IsRising (words u)) front
          (back_rises (words lower) (words upper) up)));
    }

abbrev pub Entities : Type 0
Entities = List (Name × ValidatorEntityType)

abbrev pub Actions : Type 0
Actions = List (EntityUID × ValidatorActionId)

module _ {G : named.Ghosts RawName} where
  -- rows are added, each what is recovered of a namespace
  abbrev pub Adds : Entities → Actions → List (List (List ℕ)) → List (Option Name × NamespaceDefinition RawName G)
      → List (Option Name × NamespaceDefinition RawName G) → Type 0
  Adds entities actions ns old new =
      (rows : List (Option Name × NamespaceDefinition RawName G)) × (new ≡ old ++ rows)
      × AllZip (IsRecoveredNamespace (schema_reading (content entities actions))) ns rows

  module _ (entities : Entities) (actions : Actions) (ns lower upper : List Namespace) (pivot : Namespace)
      (s : IsSplit ns lower upper pivot) (low_entities high_entities : Entities) (low_actions high_actions : Actions)
      (low_es : low_entities ≡ filter (λ e. on_side true (words_of pivot.words) (entity_key e)) entities)
      (low_as : low_actions ≡ filter (λ a. on_side true (words_of pivot.words) (action_key a)) actions)
      (high_es : high_entities ≡ filter (λ e. on_side false (words_of pivot.words) (entity_key e)) entities)
      (high_as : high_actions ≡ filter (λ a. on_side false (words_of pivot.words) (action_key a)) actions) where
    pub both_added : (old mid new : List (Option Name × NamespaceDefinition RawName G))
        → Adds low_entities low_actions (words lower) old mid
        → Adds high_entities high_actions (words upper) mid new → Adds entities actions (words ns) old new
    both_added old mid new a b =
        let p = words_of pivot.words in
        let R = IsRecoveredNamespace {G = G} (schema_reading (content entities actions)) in
        let one = zip_same (λ n. on_side true p n ≡ true)
        (IsRecoveredNamespace {G = G} (schema_reading (content low_entities low_actions))) R
        (λ n on x r. same_namespace true p n on entities actions low_entities low_actions low_es low_as x r)
        (words lower) a.0 s.lower_on a.2 in
        let two = zip_same (λ n. on_side false p n ≡ true)
        (IsRecoveredNamespace {G = G} (schema_reading (content high_entities high_actions))) R
        (λ n on x r. same_namespace false p n on entities actions high_entities high_actions high_es high_as x r)
        (words upper) b.0 s.upper_on b.2 in (
          a.0 ++ b.0,
          b.1 ∙ (ap (λ l. l ++ b.0) a.1 ∙ append_assoc old a.0 b.0),
          subst (λ l. AllZip R l (a.0 ++ b.0)) s.joined
              (zip_append R (words lower) (words upper) a.0 b.0 one two),
        )

module _ (entities : Entities) (actions : Actions) (ns lower upper : List Namespace) (pivot : Namespace)
    (s : IsSplit ns lower upper pivot) where
  lacks_both : flat_map (namespace_lacks (content entities actions)) (words ns)
      ≡ flat_map (namespace_lacks (content entities actions)) (words lower)
      ++ flat_map (namespace_lacks (content entities actions)) (words upper)
  lacks_both =
      ap (flat_map (namespace_lacks (content entities actions))) (sym s.joined)
      ∙ flat_map-append (namespace_lacks (content entities actions)) (words lower) (words upper)

  module _ (low_entities : Entities) (low_actions : Actions)
      (low_es : low_entities ≡ filter (λ e. on_side true (words_of pivot.words) (entity_key e)) entities)
      (low_as : low_actions ≡ filter (λ a. on_side true (words_of pivot.words) (action_key a)) actions) where
    low_lacks : flat_map (namespace_lacks (content low_entities low_actions)) (words lower)
        ≡ flat_map (namespace_lacks (content entities actions)) (words lower)
    low_lacks =
        let p = words_of pivot.words in
        flat_alike (λ n. on_side true p n ≡ true) (namespace_lacks (content low_entities low_actions))
        (namespace_lacks (content entities actions))
        (λ n on. same_lacks true p n on entities actions low_entities low_actions low_es low_as)
        (words lower) s.lower_on

    pub first_lacking : (e : RecoveryError)
        → IsFirstLack (flat_map (namespace_lacks (content low_entities low_actions)) (words lower)) e
        → IsFirstLack (flat_map (namespace_lacks (content entities actions)) (words ns)) e
    first_lacking e h =
        let first = flat_map (namespace_lacks (content entities actions)) (words lower) in
        let second = flat_map (namespace_lacks (content entities actions)) (words upper) in
        subst (λ l. IsFirstLack l e) (sym lacks_both)
        (first_before first second e (subst (λ l. IsFirstLack l e) low_lacks h))

    module _ (high_entities : Entities) (high_actions : Actions)
        (high_es : high_entities ≡ filter (λ e. on_side false (words_of pivot.words) (entity_key e)) entities)
        (high_as : high_actions ≡ filter (λ a. on_side false (words_of pivot.words) (action_key a)) actions)
        (none : flat_map (namespace_lacks (content low_entities low_actions)) (words lower) ≡ []) where
      high_lacks : flat_map (namespace_lacks (content high_entities high_actions)) (words upper)
          ≡ flat_map (namespace_lacks (content entities actions)) (words ns)
      high_lacks =
          let p = words_of pivot.words in
          let second = flat_map (namespace_lacks (content entities actions)) (words upper) in
          flat_alike (λ n. on_side false p n ≡ true) (namespace_lacks (content high_entities high_actions))
          (namespace_lacks (content entities actions))
          (λ n on. same_lacks false p n on entities actions high_entities high_actions high_es high_as)
          (words upper) s.upper_on
          ∙ sym (lacks_both ∙ ap (λ l. l ++ second) (sym low_lacks ∙ none))

      pub both_whole : flat_map (namespace_lacks (content high_entities high_actions)) (words upper) ≡ []
          → flat_map (namespace_lacks (content entities actions)) (words ns) ≡ []
      both_whole h = sym high_lacks ∙ h

      pub then_lacking : (e : RecoveryError)
          → IsFirstLack (flat_map (namespace_lacks (content high_entities high_actions)) (words upper)) e
          → IsFirstLack (flat_map (namespace_lacks (content entities actions)) (words ns)) e
      then_lacking e h = subst (λ l. IsFirstLack l e) high_lacks h
