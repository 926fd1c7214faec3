-- A namespace and its form in a text resolve alike, where one of them resolves, and declare the same.
use Rattle.std.proofs.Common.{◌≡◌, true, List, [], ◌∷◌, map, Option, refl}
use Rattle.std.specs.List.{AllByRecursion}
use Rattle.cedar_data.specs.Entries.{on_value}
use Rattle.cedar_data.proofs.Every.{all_front, all_back}
use Rattle.cedar_identifiers.specs.declared.internal_name.InternalName.{InternalName}
use Rattle.cedar_identifiers.specs.declared.name_text.NameText as named
use Rattle.cedar_identifiers.specs.declared.raw_name.RawName.{RawName}
use Rattle.schema_json.specs.declared.fragment.NamespaceDefinition.{NamespaceDefinition}
use Rattle.schema_json.specs.AsWritten.{as_written}
use Rattle.schema_json_walk.specs.Parts.{Part}
use Rattle.schema_json_walk.specs.Walk.{itself, each_value, of_common, of_entity, of_action, of_namespace}
use Rattle.schema_resolve_definitions.specs.Tests.{Tests}
use Rattle.schema_resolve.specs.Renamed.{Renaming, renamed_common, renamed_entity, renamed_action, renamed_namespace}
use Rattle.schema_resolve.specs.Resolved.{resolving_in, meant_type}
use Rattle.schema_resolve_targets.specs.Undefined.{Undefined}
use Rattle.schema_print.proofs.Tested.{none}
use Rattle.laws_print.specs.Printed.CedarForm.{changed_values, cedar_common, cedar_entity, cedar_action}
use Rattle.laws_print.specs.Printed.CedarForm.{cedar_namespace}
use Rattle.laws_print.specs.Resolving.Alike.{referred_common, referred_entity, referred_action, referred_namespace}
use Rattle.laws_print.proofs.Resolving.References.{visit}
use Rattle.laws_print.proofs.Resolving.TypesAlike.{Good, KnowsPrimitives}
use Rattle.laws_print.proofs.Resolving.ItemsAlike.{both_found, first_none, second_none, entity_alike}
use Rattle.laws_print.proofs.Resolving.ItemsAlike.{common_type_alike}
use Rattle.laws_print.proofs.Resolving.ActionsAlike.{action_found, action_alike}

-- entries whose values are found alike
entries_found : {K A : Type 0} (G : Part RawName → Type 0) (give : A → List Undefined) (parts : A → List (Part RawName))
    (change : A → A) → ((a : A) → AllByRecursion G (parts a) → none (give a) ≡ none (give (change a)))
    → (es : List (K × A)) → AllByRecursion G (each_value parts es)
    → none (each_value give es) ≡ none (each_value give (changed_values change es))
entries_found G give parts change found [] goods = refl
entries_found G give parts change found (e ∷ es) goods =
    both_found (give e.1) _ (give (change e.1)) _ (found e.1 (all_front G (parts e.1) _ goods))
    (entries_found G give parts change found es (all_back G (parts e.1) _ goods))

-- entries whose values become alike
entries_alike : {K A B C : Type 0} (G : Part RawName → Type 0) (give : A → List Undefined)
    (parts : A → List (Part RawName))
    (change : A → A) (become : A → B) (compare : B → C)
    → ((a : A) → AllByRecursion G (parts a) → none (give a) ≡ true → compare (become a) ≡ compare (become (change a)))
    → (es : List (K × A)) → AllByRecursion G (each_value parts es) → none (each_value give es) ≡ true
    → map (on_value compare) (map (on_value become) es)
    ≡ map (on_value compare) (map (on_value become) (changed_values change es))
entries_alike G give parts change become compare alike [] goods h = refl
entries_alike G give parts change become compare alike (e ∷ es) goods h =
    let here = alike e.1 (all_front G (parts e.1) _ goods) (first_none (give e.1) _ h) in
    let more = entries_alike G give parts change become compare alike es (all_back G (parts e.1) _ goods)
    (second_none (give e.1) _ h) in
    λ i. (e.0, here i) ∷ more i

module _ (t : Tests) (ns : Option InternalName) (knows : KnowsPrimitives t ns) where
  abbrev R : Renaming RawName InternalName
  R = resolving_in t ns

  abbrev v : Part RawName → List Undefined
  v = visit t ns

  abbrev Block : Type 0
  Block = NamespaceDefinition RawName as_written

  commons_good : (n : Block) → AllByRecursion (Good t ns) (of_namespace itself n)
      → AllByRecursion (Good t ns) (each_value (of_common itself) n.common_types)
  commons_good n goods = all_front (Good t ns) _ _ goods

  entities_good : (n : Block) → AllByRecursion (Good t ns) (of_namespace itself n)
      → AllByRecursion (Good t ns) (each_value (of_entity itself) n.entity_types)
  entities_good n goods =
      all_front (Good t ns) _ _ (all_back (Good t ns) (each_value (of_common itself) n.common_types) _ goods)

  actions_good : (n : Block) → AllByRecursion (Good t ns) (of_namespace itself n)
      → AllByRecursion (Good t ns) (each_value (of_action itself) n.actions)
  actions_good n goods =
      all_back (Good t ns) (each_value (of_entity itself) n.entity_types) _
      (all_back (Good t ns) (each_value (of_common itself) n.common_types) _ goods)

  pub namespace_found : (n : Block) → AllByRecursion (Good t ns) (of_namespace itself n)
      → none (of_namespace v n) ≡ none (of_namespace v (cedar_namespace n))
  namespace_found n goods =
      both_found (each_value (of_common v) n.common_types) _ _ _
      (entries_found (Good t ns) (of_common v) (of_common itself) cedar_common
      (λ c g. (common_type_alike t ns knows c g).found)
      n.common_types (commons_good n goods))
      (both_found (each_value (of_entity v) n.entity_types) _ _ _
      (entries_found (Good t ns) (of_entity v) (of_entity itself) cedar_entity
      (λ e g. (entity_alike t ns knows e g).found)
      n.entity_types (entities_good n goods))
      (entries_found (Good t ns) (of_action v) (of_action itself) cedar_action (action_found t ns knows) n.actions
      (actions_good n goods)))

  module _ {H : named.Ghosts InternalName} where
    abbrev pub resolved_namespace : Block → NamespaceDefinition InternalName H
    resolved_namespace n = renamed_namespace R (meant_type t ns) n

    pub namespace_alike : (n : Block) → AllByRecursion (Good t ns) (of_namespace itself n)
        → none (of_namespace v n) ≡ true
        → referred_namespace (resolved_namespace n) ≡ referred_namespace (resolved_namespace (cedar_namespace n))
    namespace_alike n goods h =
        let rest = second_none (each_value (of_common v) n.common_types) _ h in
        let commons = entries_alike (Good t ns) (of_common v) (of_common itself) cedar_common (renamed_common R)
        referred_common
        (λ c g. (common_type_alike t ns knows c g).alike) n.common_types
        (commons_good n goods) (first_none (each_value (of_common v) n.common_types) _ h) in
        let entities = entries_alike (Good t ns) (of_entity v) (of_entity itself) cedar_entity (renamed_entity R)
        referred_entity
        (λ e g. (entity_alike t ns knows e g).alike) n.entity_types
        (entities_good n goods) (first_none (each_value (of_entity v) n.entity_types) _ rest) in
        let actions = entries_alike (Good t ns) (of_action v) (of_action itself) cedar_action
        (renamed_action R (meant_type t ns) {H = H})
        referred_action (action_alike t ns knows) n.actions
        (actions_good n goods) (second_none (each_value (of_entity v) n.entity_types) _ rest) in
        λ i. record {
          common_types = commons i;
          entity_types = entities i;
          actions = actions i;
          annotations = n.annotations;
        }
