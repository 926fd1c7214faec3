-- The actions of a fragment, among its namespaces.
use Rattle.std.proofs.Common.{◌≡◌, ℕ, true, not, ◌&&◌, List, [], ◌++◌, Contains, Option}
use Rattle.std.proofs.Common.{Some, None, refl, subst}
use Rattle.std.specs.Prelude.{IsSome}
use Rattle.std.specs.List.{flat_map}
use Rattle.std.specs.Option.{option_map_or}
use Rattle.cedar_data.proofs.Lists.{all_of, empty_before, contains_unmap, contains_flat}
use Rattle.cedar_identifiers.specs.declared.internal_name.InternalName.{InternalName}
use Rattle.cedar_identifiers.specs.declared.name.Name.{Name}
use Rattle.cedar_identifiers.specs.declared.name_text.NameText as named
use Rattle.cedar_identifiers.specs.declared.raw_name.RawName.{RawName}
use Rattle.cedar_identifiers.specs.declared.reference_type.ReferenceType.TheVariants.{Entity}
use Rattle.cedar_names.specs.declared.extension_table.ExtensionTable.{ExtensionTable}
use Rattle.schema_json.specs.declared.action_type.ActionType.{ActionType}
use Rattle.schema_json.specs.declared.action_type.ApplySpec.{ApplySpec}
use Rattle.schema_json.specs.declared.fragment.Fragment.{Fragment}
use Rattle.schema_json.specs.declared.fragment.NamespaceDefinition.{NamespaceDefinition}
use Rattle.schema_json_walk.specs.Bare.{is_bare_action}
use Rattle.schema_json_walk.specs.Parts.{Part, principal, external_not_bare}
use Rattle.schema_json_walk.specs.Walk.{of_fragment, of_entry, of_entity, of_action, of_action_parts, of_relations}
use Rattle.schema_json_walk.specs.Walk.{of_apply, of_principals, of_resources, of_context, of_items, of_common}
use Rattle.schema_json_walk.specs.Walk.{each_value, visit_where}
use Rattle.schema_resolve_definitions.specs.Declarations.{name_of}
use Rattle.schema_resolve_definitions.specs.Defined.{defined}
use Rattle.schema_resolve_definitions.specs.Tests.{Tests, tests_of}
use Rattle.schema_resolve_targets.specs.Meanings.{means}
use Rattle.schema_resolve_targets.specs.Qualified.{in_namespace}
use Rattle.schema_resolve_targets.specs.ReferenceParts.{by_reference}
use Rattle.schema_resolve_targets.specs.Untargeted.{untargeted_in}
use Rattle.schema_resolve_targets.specs.Targets.{target}
use Rattle.schema_resolve_targets.specs.Undefined.{Undefined}
use Rattle.schema_build_types.specs.declared.types.Type.{«Type» as Built}
use Rattle.schema_build_checks.specs.DeclaredAt.{ActionAt}
use Rattle.schema_build_checks.specs.Rows.{Never}
use Rattle.schema_build_checks.specs.WalkFaults.{unsupported, HasUnsupported}
use Rattle.schema_build_scope.specs.FragmentScope.{by_components, meant_in}
use Rattle.schema_build_scope.specs.Parts.{IsAllKnown, AreTypesReady}
use Rattle.schema_build_scope.specs.UndefinedRows.{undefined_alone}
use Rattle.schema_build_scope.proofs.Known.{NoTypes, types_parted, no_types, targeted, kept_some}
use Rattle.schema_build_scope.proofs.Quiet.{IsOfParts, empty_parted, quiet_in}
use Rattle.schema_build_hierarchy.specs.Declarations.{Declared, declared_actions, actions_of, action_in}
use Rattle.schema_build_items.specs.ActionKinds.{IsApplyMeant, IsApplyReady, AreEntitiesMeant}
use Rattle.schema_build_items.proofs.Fragments.{none_first, bare_if}

entity_meant : (t : Tests) (ns : Option InternalName) (name : RawName)
    → NoTypes (by_reference (untargeted_in t ns) (principal name)) → IsSome (meant_in t ns Entity name)
entity_meant t ns name q =
    let c = in_namespace ns Entity name in
    kept_some by_components (means t ns Entity name) (kept_some _ (target t c) (targeted (target t c) c q))

module _ {U : Type 0} (Quiet : List U → Type 0) (parted : IsOfParts Quiet) where
  module _ {G : named.Ghosts RawName} (f : Fragment RawName G) (visit : Option Name → Part RawName → List U)
      (q : Quiet (of_fragment visit f)) (ns : Option Name) (n : NamespaceDefinition RawName G)
      (e : List ℕ × ActionType RawName G) (in_f : Contains f.0 (ns, n)) (in_n : Contains n.actions e) where
    quiet_action : Quiet (of_action (visit ns) e.1)
    quiet_action =
        quiet_in Quiet parted (λ (x : List ℕ × ActionType RawName G). of_action (visit ns) x.1) n.actions e in_n
        (parted.right (each_value (of_entity (visit ns)) n.entity_types) _
        (parted.right (each_value (of_common (visit ns)) n.common_types) (of_items (visit ns) n)
        (quiet_in Quiet parted (of_entry visit) f.0 (ns, n) in_f q)))

    quiet_apply : (d : ApplySpec RawName) → e.1.applies_to ≡ Some d → Quiet (of_apply (visit ns) d)
    quiet_apply d is =
        subst (λ o. Quiet (option_map_or (of_apply (visit ns)) o [])) is
        (parted.right _ _ (parted.right _ (of_relations (visit ns) e.1)
        (parted.right _ (of_action_parts (visit ns) e.1) quiet_action)))

module _ {G : named.Ghosts RawName} (f : Fragment RawName G) where
  -- an action stands in a namespace of the fragment
  abbrev StandsIn : Declared ActionAt (ActionType RawName G) → Type 0
  StandsIn d = (ns : Option Name) × (n : NamespaceDefinition RawName G) × (e : List ℕ × ActionType RawName G)
      × Contains f.0 (ns, n) × Contains n.actions e × (action_in ns e ≡ d)

  stands_in : (d : Declared ActionAt (ActionType RawName G)) → Contains (declared_actions f) d → StandsIn d
  stands_in d c =
      let (at, there, here) = contains_flat actions_of f.0 d c in
      let (e, among, is) = contains_unmap (action_in at.0) at.1.actions d here in
      (at.0, at.1, e, there, among, is)

  module _ (table : ExtensionTable) (known : IsAllKnown f table) where
    abbrev find_types : Option Name → Part RawName → List Undefined
    find_types ns = by_reference (untargeted_in (tests_of (defined f table)) (name_of ns))

    names_meant : (ns : Option Name) (names : List RawName)
        → NoTypes (flat_map (λ name. find_types ns (principal name)) names)
        → AreEntitiesMeant f table ns names
    names_meant ns names q = all_of _ names
        (λ name c. entity_meant (tests_of (defined f table)) (name_of ns) name
        (quiet_in NoTypes types_parted (λ name. find_types ns (principal name)) names name c q))

    apply_meant : (ns : Option Name) (n : NamespaceDefinition RawName G) (e : List ℕ × ActionType RawName G)
        → Contains f.0 (ns, n) → Contains n.actions e → (o : Option (ApplySpec RawName)) → e.1.applies_to ≡ o
        → IsApplyMeant f table ns o
    apply_meant ns n e in_f in_n None is = tt
    apply_meant ns n e in_f in_n (Some d) is =
        let none = no_types (undefined_alone f table) known.types in
        let q = quiet_apply NoTypes types_parted f find_types none ns n e in_f in_n d is in
        let principals = of_principals (find_types ns) d.principal_types in
        let resources = of_resources (find_types ns) d.resource_types in
        let context = of_context (find_types ns) d.context in
        let behind = types_parted.right principals (resources ++ context) q in (
          names_meant ns d.principal_types (types_parted.left principals (resources ++ context) q),
          names_meant ns d.resource_types (types_parted.left resources context behind),
        )

    -- each principal and each resource is meant
    pub action_meant : (d : Declared ActionAt (ActionType RawName G)) → Contains (declared_actions f) d
        → IsApplyMeant f table d.ns d.ty.applies_to
    action_meant d c =
        let (ns, n, e, in_f, in_n, is) = stands_in d c in
        subst (λ d. IsApplyMeant f table d.ns d.ty.applies_to) is (apply_meant ns n e in_f in_n e.1.applies_to refl)

  module _ (table : ExtensionTable) (done : List (Option Built)) (ready : AreTypesReady f table done) where
    apply_ready : (ns : Option Name) (n : NamespaceDefinition RawName G) (e : List ℕ × ActionType RawName G)
        → Contains f.0 (ns, n) → Contains n.actions e → (o : Option (ApplySpec RawName)) → e.1.applies_to ≡ o
        → IsApplyReady f table done ns o
    apply_ready ns n e in_f in_n None is = tt
    apply_ready ns n e in_f in_n (Some d) is = ready.contexts ns n e d in_f in_n is

    -- each part of the context can be expanded
    pub action_ready : (d : Declared ActionAt (ActionType RawName G)) → Contains (declared_actions f) d
        → IsApplyReady f table done d.ns d.ty.applies_to
    action_ready d c =
        let (ns, n, e, in_f, in_n, is) = stands_in d c in
        subst (λ d. IsApplyReady f table done d.ns d.ty.applies_to) is
        (apply_ready ns n e in_f in_n e.1.applies_to refl)

  -- an external action is bare where no feature is refused
  pub external_bare : Never (HasUnsupported f) → (d : Declared ActionAt (ActionType RawName G))
      → Contains (declared_actions f) d
      → d.ty.external ≡ true → is_bare_action d.ty ≡ true
  external_bare never d c =
      let (ns, n, e, in_f, in_n, is) = stands_in d c in
      let none : of_fragment (λ ns part. unsupported part) f
      ≡ [] = none_first (of_fragment (λ ns part. unsupported part) f) never in
      let one = quiet_action (λ us. us ≡ []) empty_parted f (λ ns part. unsupported part) none ns n e in_f in_n in
      let mark = visit_where unsupported (e.1.external && not (is_bare_action e.1)) external_not_bare in
      subst (λ d. d.ty.external ≡ true → is_bare_action d.ty ≡ true) is
      (bare_if e.1.external (is_bare_action e.1) (empty_before mark (of_action_parts unsupported e.1) one))
