-- A fragment that declares just what a closed meaning has means it.
use Rattle.std.proofs.Common.{◌≡◌, ◌↔◌, ℕ, ◌||◌, List, [], ◌∷◌, map, Option, Some, None, is_some}
use Rattle.std.proofs.Common.{Contains, refl, sym, ap, ◌∙◌, subst, true≢false}
use Rattle.std.specs.List.{AllByRecursion}
use Rattle.std.specs.List.Sorted.{IsStrictlySortedBy}
use Rattle.std.specs.Option.{option_map}
use Rattle.std.specs.Ordering.{ordering_then}
use Rattle.std.proofs.lemmas.Bool.{or_parts}
use Rattle.cedar_data.specs.Text.{text_cmp}
use Rattle.cedar_identifiers.specs.Names.{components_of}
use Rattle.cedar_identifiers.specs.declared.name.Name.{Name}
use Rattle.cedar_identifiers.specs.declared.raw_name.RawName.{RawName}
use Rattle.cedar_names.specs.CanonicalText.{namespace}
use Rattle.cedar_names.specs.Meaning.{PlainType, EntityMeaning, ActionMeaning, SchemaMeaning}
use Rattle.cedar_names.specs.Orders.{names_in_order}
use Rattle.cedar_names.specs.declared.extension_table.ExtensionTable.{ExtensionTable}
use Rattle.schema_json.specs.declared.fragment.Fragment.{Fragment}
use Rattle.schema_json.specs.AsWritten.{as_written}
use Rattle.laws_written.specs.Meant.{name_or_none}
use Rattle.laws_written.specs.PrintedDecls.{IsSome}
use Rattle.laws_translate.specs.FragmentsSay.{name_components}
use Rattle.schema_resolve_definitions.specs.Declarations.{name_of}
use Rattle.schema_resolve_definitions.specs.Defined.{defined}
use Rattle.schema_resolve_definitions.specs.Tests.{Tests, tests_of}
use Rattle.schema_build_types.specs.Content.{actions_cmp}
use Rattle.schema_build_types.specs.Standing.{as_built, attributes_as_built}
use Rattle.schema_build_text.specs.Captured.{some_hold, tags_hold}
use Rattle.schema_build_expand.specs.Scope.{Scope, AreDeclaredOnce}
use Rattle.schema_build_checks.specs.DeclaredAt.{actions_at_in_order}
use Rattle.schema_build_checks.proofs.Names.{names_by_components}
use Rattle.schema_build_scope.specs.FragmentScope.{fragment_scope}
use Rattle.schema_build_hierarchy.specs.Declarations.{DeclaredEntity, entity_name, action_key, declared_entities}
use Rattle.schema_build_hierarchy.specs.Declarations.{declared_actions}
use Rattle.schema_build_hierarchy.specs.Parents.{entity_parents, action_parents, IsParent, IsAncestor, IsActionParent}
use Rattle.schema_build_hierarchy.specs.Parents.{IsActionAncestor}
use Rattle.schema_build_hierarchy.proofs.Ordered.{sorted_back}
use Rattle.schema_build_items.specs.ActionKinds.{components_cmp}
use Rattle.schema_build.specs.Meaning.{key_of, IsEntityMeaning, IsActionMeaning, EntitiesMean, ActionsMean}
use Rattle.schema_build.specs.Meaning.{FragmentMeaning}
use Rattle.laws_build.specs.Closure.Closed.{IsClosedEntity, IsClosedAction, IsEntityUnder, IsActionUnder}
use Rattle.laws_build.specs.Closure.Closed.{IsTransitive}
use Rattle.laws_build.specs.Closure.Closed.{IsClosed}
use Rattle.laws_build.specs.Closure.Known.{meant_entities, meant_actions, AreKnownTags}
use Rattle.laws_build.specs.Said.Ancestors.{IsActionFoundAs}
use Rattle.laws_build.specs.Said.DeclaredEntries.{IsEntity, DeclaredAction, IsAction, DeclaresJust}
use Rattle.laws_build.specs.Said.Entries.{TagsMeanThemselves, EntityMeansItself, IsFoundAs, ActionMeansItself}
use Rattle.laws_build.proofs.Said.Defining.{Key, none_declared}
use Rattle.laws_build.proofs.Said.EntryMeans.{entity_means, action_means}
use Rattle.laws_build.proofs.Said.Members.{IsIn, in_from, in_to, in_map, all_in, in_all, picked, zip_left, zip_right}
use Rattle.laws_build.proofs.Said.Members.{zip_names, zip_more}
use Rattle.laws_build.proofs.Said.Parents.{entity_parents_are, action_parents_are, reaches_is}
use Rattle.laws_build.proofs.Said.Themselves.{IsFree, named_entity, found_as, action_found_as, type_means}
use Rattle.laws_build.proofs.Said.Themselves.{types_mean}
use Rattle.laws_build.proofs.Said.Uncaptured.{entity_free, action_free}

-- what a namespace with a name is
space_some : (c q : List (List ℕ)) → Some c ≡ name_or_none q → (q ≡ c) × IsSome q
space_some c [] h = absurd (true≢false (ap is_some h))
space_some c (x ∷ xs) h = (cc, tt)

pair_first : {A B : Type 0} → A × B → A
pair_first (a, b) = a

pair_second : {A B : Type 0} → A × B → B
pair_second (a, b) = b

module _ (table : ExtensionTable) (m : SchemaMeaning) (closed : IsClosed table m) (g : Fragment RawName as_written)
    (just : DeclaresJust m g) where
  abbrev t : Tests
  t = tests_of (defined g table)

  abbrev scope : Scope RawName
  scope = fragment_scope g table

  pub entity_closed : (e : EntityMeaning) → IsIn e m.entities → IsClosedEntity table m e
  entity_closed e h = all_in (IsClosedEntity table m) m.entities e closed.entities h

  pub action_closed : (a : ActionMeaning) → IsIn a m.actions → IsClosedAction table m a
  action_closed a h = all_in (IsClosedAction table m) m.actions a closed.actions h

  -- names of entity types are found
  pub all_found : (ns : Option Name) (names : List (List (List ℕ)))
      → AllByRecursion (λ name. Contains (meant_entities m) name) names → AllByRecursion (IsFoundAs t ns) names
  all_found ns names all = in_all (IsFoundAs t ns) names
      (λ n h. found_as table m closed g just ns n
      (named_entity table m closed g just n (all_in (λ name. Contains (meant_entities m) name) names n all h)))

  pub key_found : (ns : Option Name) (k : Key) → Contains (meant_actions m) k → IsActionFoundAs t ns k
  key_found ns k h =
      let o = in_map key_of m.actions k (in_from (meant_actions m) k h) in
      subst (IsActionFoundAs t ns) (sym o.2) (action_found_as table m closed g just ns o.0 o.1)

  pub all_keys_found : (ns : Option Name) (keys : List Key)
      → AllByRecursion (λ name. Contains (meant_actions m) name) keys → AllByRecursion (IsActionFoundAs t ns) keys
  all_keys_found ns keys all = in_all (IsActionFoundAs t ns) keys
      (λ k h. key_found ns k (all_in (λ name. Contains (meant_actions m) name) keys k all h))

  entity_is_free : (e : EntityMeaning) → IsIn e m.entities → (ns : Option Name)
      → name_components ns ≡ name_or_none (namespace e.name)
      → IsFree table m closed g just ns
      (some_hold (attributes_as_built e.attributes) || tags_hold (option_map as_built e.tags))
  entity_is_free e h ns space s is a k same =
      let q = space_some (components_of s.name) (namespace e.name) (ap name_components (sym is) ∙ space) in
      entity_free m closed.uncaptured e h q.1 a k (same ∙ sym q.0)

  action_is_free : (b : ActionMeaning) → IsIn b m.actions → (ns : Option Name)
      → name_components ns ≡ name_or_none (namespace b.ty)
      → IsFree table m closed g just ns (some_hold (attributes_as_built b.context))
  action_is_free b h ns space s is a k same =
      let q = space_some (components_of s.name) (namespace b.ty) (ap name_components (sym is) ∙ space) in
      action_free m closed.uncaptured b h q.1 a k (same ∙ sym q.0)

  tags_mean : (ns : Option Name) (tags : Option PlainType) → AreKnownTags table m tags
      → IsFree table m closed g just ns (tags_hold (option_map as_built tags))
      → TagsMeanThemselves scope (name_of ns) tags
  tags_mean ns None known free = tt
  tags_mean ns (Some p) known free = (known.0, type_means table m closed g just ns p known.1 free)

  -- each name in a closed entry means itself
  pub entity_itself : (e : EntityMeaning) → IsIn e m.entities → (d : DeclaredEntity) → IsEntity e d
      → EntityMeansItself scope (name_of d.ns) e
  entity_itself e h d is =
      let c = entity_closed e h in
      let free = entity_is_free e h d.ns is.space in
      let holds = some_hold (attributes_as_built e.attributes) in
      let tagged = tags_hold (option_map as_built e.tags) in
      record {
        parts = c.parts;
        ordered = c.ordered;
        attributes = types_mean table m closed g just d.ns e.attributes c.attributes
            (λ s at a k same. (or_parts holds tagged (free s at a k same)).0);
        tags = tags_mean d.ns e.tags c.tags (λ s at a k same. (or_parts holds tagged (free s at a k same)).1);
      }

  pub action_itself : (a : ActionMeaning) → IsIn a m.actions → (d : DeclaredAction) → IsAction a d
      → ActionMeansItself t scope d.ns a
  action_itself a h d is =
      let c = action_closed a h in
      record {
        applies = c.applies;
        principals_rise = c.principals_rise;
        resources_rise = c.resources_rise;
        principals = all_found d.ns a.principals c.principals;
        resources = all_found d.ns a.resources c.resources;
        ordered = c.ordered;
        context = types_mean table m closed g just d.ns a.context c.context (action_is_free a h d.ns is.space);
      }

  -- the parents of a declaration are the ancestors of its entry
  pub parents_of : (e : EntityMeaning) → IsIn e m.entities → (d : DeclaredEntity) → IsEntity e d
      → entity_parents t d ≡ e.ancestors
  parents_of e h d is =
      let c = entity_closed e h in
      entity_parents_are t d.ns d.ty.external d.ty.kind e is.kind c.parts (all_found d.ns e.ancestors c.ancestors)

  pub action_parents_of : (a : ActionMeaning) → IsIn a m.actions → (d : DeclaredAction) → IsAction a d
      → action_parents t d ≡ a.ancestors
  action_parents_of a h d is =
      let c = action_closed a h in
      action_parents_are t d.ns d.ty.external d.ty.applies_to d.ty.member_of a is.applies
      (all_keys_found d.ns a.ancestors c.ancestors)

  abbrev ds : List DeclaredEntity
  ds = declared_entities g

  abbrev acts : List DeclaredAction
  acts = declared_actions g

  under_from : (a b : List (List ℕ)) → IsParent t ds a b → IsEntityUnder m a b
  under_from a b (d, c, known, p) =
      let of = just.entities d c in (
        of.entry,
        of.among,
        sym of.is.name ∙ known,
        subst (λ l. Contains l b) (parents_of of.entry (in_from m.entities of.entry of.among) d of.is) p,
      )

  under_to : (a b : List (List ℕ)) → IsEntityUnder m a b → IsParent t ds a b
  under_to a b (e, c, known, p) =
      let d = just.each_entity e c in (
        d.0,
        d.1,
        d.2.name ∙ known,
        subst (λ l. Contains l b) (sym (parents_of e (in_from m.entities e c) d.0 d.2)) p,
      )

  parents_closed : IsTransitive (IsParent t ds)
  parents_closed a b c p q = under_to a c (closed.ancestors.entities a b c (under_from a b p) (under_from b c q))

  pub ancestor_is : (a b : List (List ℕ)) → IsAncestor t ds a b ↔ IsEntityUnder m a b
  ancestor_is a b =
      let r = reaches_is (IsParent t ds) parents_closed a b in
      (λ h. under_from a b (r.0 h), λ h. r.1 (under_to a b h))

  action_from : (a b : Key) → IsActionParent t acts a b → IsActionUnder m a b
  action_from a b (d, c, known, p) =
      let of = just.actions d c in (
        of.entry,
        of.among,
        sym of.is.key ∙ known,
        subst (λ l. Contains l b) (action_parents_of of.entry (in_from m.actions of.entry of.among) d of.is) p,
      )

  action_to : (a b : Key) → IsActionUnder m a b → IsActionParent t acts a b
  action_to a b (e, c, known, p) =
      let d = just.each_action e c in (
        d.0,
        d.1,
        d.2.key ∙ known,
        subst (λ l. Contains l b) (sym (action_parents_of e (in_from m.actions e c) d.0 d.2)) p,
      )

  action_parents_closed : IsTransitive (IsActionParent t acts)
  action_parents_closed a b c p q =
      action_to a c (closed.ancestors.actions a b c (action_from a b p) (action_from b c q))

  pub action_ancestor_is : (a b : Key) → IsActionAncestor t acts a b ↔ IsActionUnder m a b
  action_ancestor_is a b =
      let r = reaches_is (IsActionParent t acts) action_parents_closed a b in
      (λ h. action_from a b (r.0 h), λ h. r.1 (action_to a b h))

  entity_meant : (e : EntityMeaning) → IsIn e m.entities → (d : DeclaredEntity) → Contains ds d → IsEntity e d
      → IsEntityMeaning g table d e
  entity_meant e h d c is =
      let kinds = entity_means scope (name_of d.ns) d.ty.external d.ty.kind e is.kind (entity_itself e h d is) in
      let r = reaches_is (IsParent t ds) parents_closed (entity_name d) in
      let parents = parents_of e h d is in
      record {
        name = sym is.name;
        is_external = sym kinds.0;
        ancestors = record {
          rising = (entity_closed e h).ancestors_rise;
          just = λ a. (
            λ k. (r a).1 (d, c, refl, subst (λ l. Contains l a) (sym parents) k),
            λ k. let p = (r a).0 k in
                let same : p.0 ≡ d = just.entities_once p.0 d p.1 c p.2 in
                subst (λ l. Contains l a) parents (subst (λ z. Contains (entity_parents t z) a) same p.3),
          );
        };
        kind = kinds.1;
      }

  action_meant : (a : ActionMeaning) → IsIn a m.actions → (d : DeclaredAction) → Contains acts d → IsAction a d
      → IsActionMeaning g table d a
  action_meant a h d c is =
      let applied = action_means t scope d.ns d.ty.external d.ty.applies_to d.ty.member_of a is.applies
      (action_itself a h d is) in
      let r = reaches_is (IsActionParent t acts) action_parents_closed (action_key d) in
      let parents = action_parents_of a h d is in
      record {
        key = sym is.key;
        is_external = sym applied.0;
        ancestors = record {
          rising = (action_closed a h).ancestors_rise;
          just = λ b. (
            λ k. (r b).1 (d, c, refl, subst (λ l. Contains l b) (sym parents) k),
            λ k. let p = (r b).0 k in
                let same : p.0 ≡ d = just.actions_once p.0 d p.1 c p.2 in
                subst (λ l. Contains l b) parents (subst (λ z. Contains (action_parents t z) b) same p.3),
          );
        };
        applies = applied.1;
      }

  -- declarations that rise by their names
  names_rise : (found : List DeclaredEntity) → map entity_name found ≡ map (λ (e : EntityMeaning). e.name) m.entities
      → IsStrictlySortedBy (λ a b. names_in_order a.name b.name) found
  names_rise found same = subst (λ o. IsStrictlySortedBy o found)
      (λ i (a b : DeclaredEntity). sym (names_by_components a.name b.name) i)
      (sorted_back entity_name components_cmp found
      (subst (IsStrictlySortedBy components_cmp) (sym same) closed.open_names.entities_rise))

  keys_rise : (found : List DeclaredAction) → map action_key found ≡ map key_of m.actions
      → IsStrictlySortedBy (λ a b. actions_at_in_order a.name b.name) found
  keys_rise found same = subst (λ o. IsStrictlySortedBy o found)
      (λ i (a b : DeclaredAction).
      ordering_then (sym (names_by_components a.name.ty b.name.ty) i) (text_cmp a.name.id b.name.id))
      (sorted_back action_key actions_cmp found
      (subst (IsStrictlySortedBy actions_cmp) (sym same) closed.open_names.actions_rise))

  abbrev Entity : DeclaredEntity → EntityMeaning → Type 0
  Entity d e = Contains ds d × IsEntityMeaning g table d e

  entities_meant : EntitiesMean g table m.entities
  entities_meant =
      let found = picked Entity m.entities (λ e h.
      let d = just.each_entity e (in_to m.entities e h) in (d.0, (d.1, entity_meant e h d.0 d.1 d.2))) in
      record {
        declared = found.0;
        same = λ d. (
          λ c. let of = just.entities d c in
              let r = zip_right Entity found.0 m.entities found.1 of.entry (in_from m.entities of.entry of.among) in
              let one : r.0 ≡ d = just.entities_once r.0 d (pair_first r.2) c
              (sym (pair_second r.2).name ∙ sym of.is.name) in
              subst (Contains found.0) one (in_to found.0 r.0 r.1),
          λ c. let r = zip_left Entity found.0 m.entities found.1 d (in_from found.0 d c) in pair_first r.2,
        );
        rising = names_rise found.0
            (zip_names Entity entity_name (λ (e : EntityMeaning). e.name) (λ d e k. sym (pair_second k).name)
            found.0 m.entities found.1);
        each = zip_more Entity (IsEntityMeaning g table) found.0 m.entities (λ d e h k. pair_second k) found.1;
      }

  abbrev Action : DeclaredAction → ActionMeaning → Type 0
  Action d a = Contains acts d × IsActionMeaning g table d a

  actions_meant : ActionsMean g table m.actions
  actions_meant =
      let found = picked Action m.actions (λ a h.
      let d = just.each_action a (in_to m.actions a h) in (d.0, (d.1, action_meant a h d.0 d.1 d.2))) in
      record {
        declared = found.0;
        same = λ d. (
          λ c. let of = just.actions d c in
              let r = zip_right Action found.0 m.actions found.1 of.entry (in_from m.actions of.entry of.among) in
              let one : r.0 ≡ d = just.actions_once r.0 d (pair_first r.2) c
              (sym (pair_second r.2).key ∙ sym of.is.key) in
              subst (Contains found.0) one (in_to found.0 r.0 r.1),
          λ c. let r = zip_left Action found.0 m.actions found.1 d (in_from found.0 d c) in pair_first r.2,
        );
        rising = keys_rise found.0
            (zip_names Action action_key key_of (λ d a k. sym (pair_second k).key) found.0 m.actions found.1);
        each = zip_more Action (IsActionMeaning g table) found.0 m.actions (λ d a h k. pair_second k) found.1;
      }

  pub declared_once : AreDeclaredOnce scope
  declared_once name a b one other = absurd (none_declared m g just table name a one)

  pub fragment_means : FragmentMeaning g table m
  fragment_means = record { once = declared_once; entities = entities_meant; actions = actions_meant }
