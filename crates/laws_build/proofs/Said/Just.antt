-- A fragment which says what is written of a meaning declares just what the meaning has.
use Rattle.std.proofs.Common.{◌≡◌, ◌⊎◌, inl, inr, ℕ, Bool, true, false, List, [], map, flat_map, Option, Some, None}
use Rattle.std.proofs.Common.{Contains, All, refl, sym, ◌∙◌, subst}
use Rattle.std.specs.Cmp.{on_total, then_total}
use Rattle.std.specs.Cmp.Lexicographic.{slice_cmp, lists_total}
use Rattle.std.specs.List.Sorted.{IsStrictlySortedBy}
use Rattle.std.specs.Map.{keys_of}
use Rattle.std.specs.Option.{option_cmp}
use Rattle.std.specs.declared.cmp.Ordering.{Ordering}
use Rattle.std.proofs.lemmas.List.Elements.{All-weaker, All-contains_itself}
use Rattle.cedar_data.specs.Text.{text_cmp}
use Rattle.cedar_data.proofs.Orders.{text_total}
use Rattle.cedar_identifiers.specs.declared.name.Name.{Name}
use Rattle.cedar_identifiers.specs.declared.raw_name.RawName.{RawName}
use Rattle.cedar_identifiers.specs.declared.unreserved_id.UnreservedId.{UnreservedId}
use Rattle.cedar_names.specs.CanonicalText.{namespace, namespaces}
use Rattle.cedar_names.specs.Meaning.{EntityMeaning, ActionMeaning, SchemaMeaning}
use Rattle.cedar_names.specs.Orders.{names_in_order, places_total}
use Rattle.schema_json.specs.declared.common_type.CommonType.{CommonType}
use Rattle.schema_json.specs.declared.common_type.CommonTypeId.{CommonTypeId}
use Rattle.schema_json.specs.declared.fragment.Fragment.{Fragment}
use Rattle.schema_json.specs.AsWritten.{as_written}
use Rattle.laws_written.specs.Meant.{entity_as, action_as, entity_of_meaning, action_of_meaning, items_of_meaning}
use Rattle.laws_written.specs.Meant.{name_or_none, groups_of_meaning}
use Rattle.laws_written.specs.PrintedDecls.{IsSome, group_items}
use Rattle.laws_written.specs.Written.{WrittenDeclared}
use Rattle.laws_translate.specs.DeclarationsSay.{CommonSays}
use Rattle.laws_translate.specs.FragmentsSay.{commons_of_decl, WrittenNamespace, NamespaceName, namespace_order}
use Rattle.laws_translate.specs.FragmentsSay.{name_components, written_in, FragmentSays}
use Rattle.laws_translate.specs.MeantNames.{action_name_order, HasOpenNames}
use Rattle.laws_translate.specs.MeantNamespaces.{meant_in_namespace, IsOfMeaning}
use Rattle.schema_build_checks.proofs.Names.{names_by_components, names_tied}
use Rattle.schema_build_hierarchy.specs.Declarations.{DeclaredEntity, entity_name, action_key, declared_entities}
use Rattle.schema_build_hierarchy.specs.Declarations.{declared_actions}
use Rattle.schema_build_hierarchy.proofs.Exact.{actions_tied}
use Rattle.schema_build_hierarchy.proofs.Gathered.{entities_once, actions_once}
use Rattle.schema_build_hierarchy.proofs.Ordered.{sorted_seen, sorted_back}
use Rattle.schema_build.specs.Meaning.{key_of}
use Rattle.laws_build.specs.Said.DeclaredEntries.{IsEntity, DeclaredAction, IsAction, DeclaresJust}
use Rattle.laws_build.proofs.Said.Blocks.{Block, IsBlockOf, block_of, entry_says}
use Rattle.laws_build.proofs.Said.DeclaredActions as actions
use Rattle.laws_build.proofs.Said.DeclaredEntities as entities
use Rattle.laws_build.proofs.Said.DeclaredEntities.{item_cases}
use Rattle.laws_build.proofs.Said.Members.{IsIn, in_from, in_to, none_in, rising_once}

-- no declaration of a meaning gives a common type
no_common : (x : Bool) (choices : Option (List (List ℕ))) (e : EntityMeaning) (n : List ℕ)
    → IsIn n (commons_of_decl (entity_as x choices e)) → ⊥
no_common true choices e n h = h
no_common false None e n h = h
no_common false (Some cs) e n h = h

no_common_action : (x : Bool) (a : ActionMeaning) (n : List ℕ) → IsIn n (commons_of_decl (action_as x a)) → ⊥
no_common_action true a n h = h
no_common_action false a n h = h

abbrev place_order : Option Name → Option Name → Ordering
place_order = option_cmp (λ (x y : Name). names_in_order x.name y.name)

same_place : (a b : Option Name) → namespace_order (name_components a) (name_components b) ≡ place_order a b
same_place None None = refl
same_place None (Some b) = refl
same_place (Some a) None = refl
same_place (Some a) (Some b) = sym (names_by_components a.name b.name)

-- what rises by a name of its keys rises by them
keys_rise : {K V N : Type 0} (name : K → N) (R : N → N → Ordering) (S : K → K → Ordering)
    → ((a b : K) → R (name a) (name b) ≡ S a b) → (es : List (K × V))
    → IsStrictlySortedBy R (map (λ (e : K × V). name e.0) es) → IsStrictlySortedBy S (keys_of es)
keys_rise {K} {V} name R S same es up =
    sorted_seen (λ (e : K × V). e.0) S es
    (subst (λ o. IsStrictlySortedBy o es) (λ i a b. same a.0 b.0 i)
    (sorted_back (λ (e : K × V). name e.0) R es up))

module _ (m : SchemaMeaning)
    (written_of : (q : NamespaceName) (w : WrittenNamespace)
    → written_in (flat_map group_items (groups_of_meaning m)) q ≡ Some w → IsOfMeaning m q w)
    (written_all : (name : List (List ℕ)) → Contains (namespaces m) name → IsSome (items_of_meaning m name)
    → written_in (flat_map group_items (groups_of_meaning m)) (name_or_none name) ≡ Some (meant_in_namespace m name))
    (open' : HasOpenNames m) (g : Fragment RawName as_written)
    (says : FragmentSays g (flat_map group_items (groups_of_meaning m))) where
  no_commons : (b : Block) → Contains g.0 b → b.1.common_types ≡ []
  no_commons b h = none_in b.1.common_types (λ x k. none x k)
    where
      of : IsBlockOf m b
      of = block_of m written_of g says b (in_from g.0 b h)

      none : (x : CommonTypeId × CommonType RawName) → IsIn x b.1.common_types → ⊥
      none x k = by (item_cases m of.name said.0 said.1)
        where
          said : (w : WrittenDeclared) × IsIn w (items_of_meaning m of.name)
              × IsIn x.0.id.id.text (commons_of_decl w.decl) × CommonSays x.1 w
          said = entry_says (λ (id : CommonTypeId). id.id.id.text) CommonSays commons_of_decl b.1.common_types
              (items_of_meaning m of.name) of.says.commons x k

          by : ((e : EntityMeaning) × IsIn e m.entities × (namespace e.name ≡ of.name) × (said.0 ≡ entity_of_meaning e))
              ⊎ ((a : ActionMeaning) × IsIn a m.actions × (namespace a.ty ≡ of.name) × (said.0 ≡ action_of_meaning a))
              → ⊥
          by (inl (e, among, space, is)) =
              no_common e.is_external e.choices e x.0.id.id.text
              (subst (λ d. IsIn x.0.id.id.text (commons_of_decl d.decl)) is said.2)
          by (inr (a, among, space, is)) =
              no_common_action a.is_external a x.0.id.id.text
              (subst (λ d. IsIn x.0.id.id.text (commons_of_decl d.decl)) is said.2)

  spaces_rise : IsStrictlySortedBy place_order (keys_of g.0)
  spaces_rise = keys_rise name_components namespace_order place_order same_place g.0 says.rising

  entities_rise : All (λ (e : Block). IsStrictlySortedBy (λ (x y : UnreservedId). text_cmp x.id.text y.id.text)
      (keys_of e.1.entity_types)) g.0
  entities_rise = All-weaker (Contains g.0) _
      (λ (e : Block) c. keys_rise (λ (id : UnreservedId). id.id.text) text_cmp
      (λ (x y : UnreservedId). text_cmp x.id.text y.id.text) (λ x y. refl) e.1.entity_types
      (block_of m written_of g says e (in_from g.0 e c)).says.entities.rising)
      g.0 (All-contains_itself g.0)

  actions_rise : All (λ (e : Block). IsStrictlySortedBy text_cmp (keys_of e.1.actions)) g.0
  actions_rise = All-weaker (Contains g.0) _
      (λ (e : Block) c. keys_rise (λ (id : List ℕ). id) text_cmp text_cmp (λ x y. refl) e.1.actions
      (block_of m written_of g says e (in_from g.0 e c)).says.actions.rising)
      g.0 (All-contains_itself g.0)

  one_entity : (c d : DeclaredEntity) → Contains (declared_entities g) c → Contains (declared_entities g) d
      → entity_name c ≡ entity_name d → c ≡ d
  one_entity c d h k same =
      entities_once g.0 places_total spaces_rise entities_rise c d h k (names_tied c.name d.name same)

  one_action : (c d : DeclaredAction) → Contains (declared_actions g) c → Contains (declared_actions g) d
      → action_key c ≡ action_key d → c ≡ d
  one_action c d h k same =
      actions_once g.0 places_total spaces_rise actions_rise c d h k (actions_tied c.name d.name same)

  each_entity : (e : EntityMeaning) → Contains m.entities e
      → (d : DeclaredEntity) × Contains (declared_entities g) d × IsEntity e d
  each_entity e h =
      let found = entities.are_declared m written_of written_all open' g says e (in_from m.entities e h) in
      let there = in_to (declared_entities g) found.0 found.1 in
      let of = entities.declared_are m written_of written_all open' g says found.0 there in
      let same : of.entry ≡ e = rising_once (slice_cmp text_cmp) (lists_total text_total)
      (λ (x : EntityMeaning). x.name) m.entities open'.entities_rise of.entry e
      (in_from m.entities of.entry of.among) (in_from m.entities e h) (sym of.is.name ∙ found.2) in
      (found.0, there, subst (λ x. IsEntity x found.0) same of.is)

  each_action : (a : ActionMeaning) → Contains m.actions a
      → (d : DeclaredAction) × Contains (declared_actions g) d × IsAction a d
  each_action a h =
      let found = actions.are_declared m written_of written_all open' g says a (in_from m.actions a h) in
      let there = in_to (declared_actions g) found.0 found.1 in
      let of = actions.declared_are m written_of written_all open' g says found.0 there in
      let same : of.entry ≡ a = rising_once action_name_order
      (then_total (on_total (λ (k : List (List ℕ) × List ℕ). k.0) (lists_total text_total))
      (on_total (λ (k : List (List ℕ) × List ℕ). k.1) text_total))
      key_of m.actions open'.actions_rise of.entry a
      (in_from m.actions of.entry of.among) (in_from m.actions a h) (sym of.is.key ∙ found.2) in
      (found.0, there, subst (λ x. IsAction x found.0) same of.is)

  pub declares_just : DeclaresJust m g
  declares_just = record {
    entities = entities.declared_are m written_of written_all open' g says;
    each_entity = each_entity;
    entities_once = one_entity;
    actions = actions.declared_are m written_of written_all open' g says;
    each_action = each_action;
    actions_once = one_action;
    no_commons = no_commons;
  }
