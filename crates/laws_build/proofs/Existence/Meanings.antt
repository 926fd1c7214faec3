-- A fragment in order without a fault has a meaning.
use Rattle.std.proofs.Common.{◌≡◌, ℕ, List, [], ◌∷◌, map, flat_map, refl, sym, subst}
use Rattle.std.proofs.Common.{Contains, Option, Some, None}
use Rattle.std.specs.List.{AllZip}
use Rattle.std.specs.Option.{option_to_list}
use Rattle.std.proofs.lemmas.Cmp.{on_total}
use Rattle.cedar_data.proofs.Lists.{contains_flat, contains_first, contains_later}
use Rattle.cedar_data.proofs.Orders.{texts_total}
use Rattle.cedar_identifiers.specs.declared.name.Name.{Name}
use Rattle.cedar_identifiers.specs.declared.name_text.NameText as named
use Rattle.cedar_identifiers.specs.declared.raw_name.RawName.{RawName}
use Rattle.cedar_identifiers.specs.declared.reference_type.ReferenceType.TheVariants.{Entity}
use Rattle.cedar_names.specs.Meaning.{PlainType, SchemaMeaning, EntityMeaning, ActionMeaning, no_more}
use Rattle.cedar_names.specs.Orders.{names_in_order, names_total, places_total}
use Rattle.cedar_names.specs.declared.extension_table.ExtensionTable.{ExtensionTable}
use Rattle.schema_json.specs.declared.action_type.ActionType.{ActionType}
use Rattle.schema_json.specs.declared.action_type.ApplySpec.{ApplySpec}
use Rattle.schema_json.specs.declared.entity_type.EntityTypeKind.{EntityTypeKind}
use Rattle.schema_json.specs.declared.entity_type.EntityTypeKind.TheVariants.{Standard, Enum}
use Rattle.schema_json.specs.declared.entity_type.StandardEntityType.{StandardEntityType}
use Rattle.schema_json.specs.declared.fragment.Fragment.{Fragment}
use Rattle.schema_json.specs.declared.types.Type.{«Type»}
use Rattle.schema_resolve_definitions.specs.Declarations.{name_of}
use Rattle.schema_resolve_definitions.specs.Defined.{defined}
use Rattle.schema_resolve_definitions.specs.Tests.{Tests, tests_of}
use Rattle.schema_build_types.specs.Content.{actions_cmp}
use Rattle.schema_build_checks.specs.DeclaredAt.{ActionAt, actions_at_in_order}
use Rattle.schema_build_checks.specs.Rows.{Never}
use Rattle.schema_build_checks.specs.WalkFaults.{HasUnknownExtension, HasUnsupported}
use Rattle.schema_build_checks.specs.DeclaredTwice.{ActionTypeDeclared, TypeHides, ActionHides}
use Rattle.schema_build_expand.specs.Expands.{ExpandsOnce}
use Rattle.schema_build_expand.specs.Scope.{Scope, AreDeclaredOnce}
use Rattle.schema_build_scope.specs.CycleRow.{HasCommonCycle}
use Rattle.schema_build_scope.specs.FragmentScope.{fragment_scope}
use Rattle.schema_build_scope.specs.Parts.{IsAllKnown, AreTypesMeant}
use Rattle.schema_build_scope.specs.UndefinedRows.{HasUndefinedTypes, HasUndefinedActions}
use Rattle.schema_build_scope.proofs.Known.{types_meant}
use Rattle.schema_build_hierarchy.specs.Declarations.{Declared, DeclaredEntity, entity_name, action_key}
use Rattle.schema_build_hierarchy.specs.Declarations.{declared_entities, declared_actions}
use Rattle.schema_build_hierarchy.specs.Parents.{target_in, entity_parents, action_parents}
use Rattle.schema_build_hierarchy.specs.Rows.{HasUndeclaredEntityTypes}
use Rattle.schema_build_hierarchy.proofs.Exact.{actions_total as places_of_actions_total}
use Rattle.schema_build_hierarchy.proofs.Gathered.{entities_once, actions_once}
use Rattle.schema_build_hierarchy.proofs.ParentsDeclared.{flat_contains, held_some}
use Rattle.schema_build_items.specs.ActionKinds.{components_cmp, AreJust, IsMeantByOne, ApplyMeaning, IsApplyMeaning}
use Rattle.schema_build_items.specs.ActionKinds.{tests_alone}
use Rattle.schema_build_items.specs.Kinds.{KindMeaning, IsKindMeaning, TagsExpand}
use Rattle.schema_build_items.specs.NoRecord.{HasNoRecord, HasNoRecordShape, HasNoRecordContext}
use Rattle.schema_build_parts.specs.BuildFaults.{BuildFault, ReferenceFault, TypeFault, MeaningFault}
use Rattle.schema_build_parts.specs.DeclarationFaults.{PartFault, DeclarationFault}
use Rattle.laws_build.specs.Existence.Complete.{AllExpand}
use Rattle.schema_build.specs.FaultsTold.{IsInOrder}
use Rattle.schema_build.specs.Meaning.{IsEntityMeaning, IsActionMeaning, EntitiesMean, ActionsMean, FragmentMeaning}
use Rattle.laws_build.proofs.Existence.Known.{known_name}
use Rattle.laws_build.proofs.Existence.Parents.{known_key, components_exact, actions_total, actions_exact}
use Rattle.laws_build.proofs.Existence.Parents.{ancestors_listed}
use Rattle.laws_build.proofs.Existence.Records.{tags_meant, shape_is_record, context_is_record}
use Rattle.laws_build.proofs.Existence.Rising.{rising_alike}
use Rattle.laws_build.proofs.Existence.Rows.{never_first, never_behind}
use Rattle.laws_build.proofs.Existence.Scoped.{once, types_expand}

-- what each of a list has, side by side
zipped : {X Y : Type 0} (Q : X → Y → Type 0) (xs : List X) → ((x : X) → Contains xs x → (y : Y) × Q x y)
    → (ys : List Y) × AllZip Q xs ys
zipped Q [] each = ([], tt)
zipped Q (x ∷ xs) each =
    let first = each x (contains_first x xs) in
    let more = zipped Q xs (λ z c. each z (contains_later x xs z c)) in
    (first.0 ∷ more.0, (first.1, more.1))

-- what names mean can be listed
pub meant_listed : (t : Tests) (ns : Option Name) (names : List RawName)
    → (found : List (List (List ℕ))) × AreJust components_cmp (IsMeantByOne t ns names) found
meant_listed t ns names =
    let give = λ (p : RawName). option_to_list (target_in t ns Entity p) in
    let l = rising_alike components_cmp texts_total (flat_map give names) (λ x y c d e. components_exact x y e) in (
      l.0,
      record {
        rising = l.1.rising;
        just = λ a. (
          λ c.
              let (p, cp, there) = contains_flat give names a ((l.1.just a).0 c) in
              (p, cp, held_some (target_in t ns Entity p) a there),
          λ (p, cp, is). (l.1.just a).1 (flat_contains give names p a cp
              (subst (λ o. Contains (option_to_list o) a) (sym is) (contains_first a []))),
        );
      },
    )

module _ {G : named.Ghosts RawName} (f : Fragment RawName G) (table : ExtensionTable) where
  abbrev s : Scope RawName
  s = fragment_scope f table

  abbrev t : Tests
  t = tests_alone f table

  abbrev Action : Type 0
  Action = Declared ActionAt (ActionType RawName G)

  module _ (types : AreTypesMeant f table) (expand : AllExpand s) (one : ExpandsOnce s)
      (shapes : Never (HasNoRecordShape f table)) (contexts : Never (HasNoRecordContext f table)) where
    tags_expand : (d : DeclaredEntity) → Contains (declared_entities f) d → (k : StandardEntityType RawName)
        → d.ty.kind ≡ Standard k → (o : Option («Type» RawName)) → k.tags ≡ o
        → (tags : Option PlainType) × TagsExpand s (name_of d.ns) o tags
    tags_expand d c k is None there = (None, refl)
    tags_expand d c k is (Some ty) there =
        let e = expand (name_of d.ns) ty (tags_meant f table types expand one d c k ty is there) in
        (Some e.0, (e.0, refl, e.1))

    kind_means : (d : DeclaredEntity) → Contains (declared_entities f) d → (kind : EntityTypeKind RawName)
        → d.ty.kind ≡ kind → (m : KindMeaning) × IsKindMeaning s (name_of d.ns) kind m
    kind_means d c (Standard k) is =
        let shape = shape_is_record f table types expand one shapes d c k is in
        let tags = tags_expand d c k is k.tags refl in
        (record { attributes = shape.0; tags = tags.0; choices = None }, (shape.1, tags.1, refl))
    kind_means d c (Enum choices) is =
        (record { attributes = no_more; tags = None; choices = Some (map (λ c. c.0) choices) }, (refl, refl, refl))

    entity_means : (d : DeclaredEntity) → Contains (declared_entities f) d
        → (e : EntityMeaning) × IsEntityMeaning f table d e
    entity_means d c =
        let above = ancestors_listed entity_name (entity_parents t) known_name (declared_entities f) components_cmp
        texts_total components_exact (entity_name d) in
        let kind = kind_means d c d.ty.kind refl in (
          record {
            name = entity_name d;
            is_external = d.ty.external;
            ancestors = above.0;
            attributes = kind.0.attributes;
            tags = kind.0.tags;
            choices = kind.0.choices;
          },
          record { name = refl; is_external = refl; ancestors = above.1; kind = kind.1 },
        )

    applies_mean : (d : Action) → Contains (declared_actions f) d → (o : Option (ApplySpec RawName))
        → d.ty.applies_to ≡ o → (a : ApplyMeaning) × IsApplyMeaning t s d.ns o a
    applies_mean d c None is =
        (record { principals = []; resources = []; context = no_more }, (refl, refl, refl))
    applies_mean d c (Some k) is =
        let principals = meant_listed t d.ns k.principal_types in
        let resources = meant_listed t d.ns k.resource_types in
        let context = context_is_record f table types expand one contexts d c k is in (
          record { principals = principals.0; resources = resources.0; context = context.0 },
          (principals.1, resources.1, context.1),
        )

    action_means : (d : Action) → Contains (declared_actions f) d
        → (a : ActionMeaning) × IsActionMeaning f table d a
    action_means d c =
        let above = ancestors_listed action_key (action_parents t) known_key (declared_actions f) actions_cmp
        actions_total actions_exact (action_key d) in
        let applies = applies_mean d c d.ty.applies_to refl in (
          record {
            ty = (action_key d).0;
            id = (action_key d).1;
            is_external = d.ty.external;
            ancestors = above.0;
            principals = applies.0.principals;
            resources = applies.0.resources;
            context = applies.0.context;
          },
          record { key = refl; is_external = refl; ancestors = above.1; applies = applies.1 },
        )

    module _ (order : IsInOrder f) where
      entities_mean : (es : List EntityMeaning) × EntitiesMean f table es
      entities_mean =
          let l = rising_alike (λ (a b : DeclaredEntity). names_in_order a.name b.name)
          (on_total (λ (d : DeclaredEntity). d.name) names_total) (declared_entities f)
          (entities_once f.0 places_total order.namespaces order.entities) in
          let all = zipped (IsEntityMeaning f table) l.0 (λ d c. entity_means d ((l.1.just d).0 c)) in (
            all.0,
            record {
              declared = l.0;
              same = λ d. ((l.1.just d).1, (l.1.just d).0);
              rising = l.1.rising;
              each = all.1;
            },
          )

      actions_mean : (as' : List ActionMeaning) × ActionsMean f table as'
      actions_mean =
          let l = rising_alike (λ (a b : Action). actions_at_in_order a.name b.name)
          (on_total (λ (d : Action). d.name) places_of_actions_total) (declared_actions f)
          (actions_once f.0 places_total order.namespaces order.actions) in
          let all = zipped (IsActionMeaning f table) l.0 (λ d c. action_means d ((l.1.just d).0 c)) in (
            all.0,
            record {
              declared = l.0;
              same = λ d. ((l.1.just d).1, (l.1.just d).0);
              rising = l.1.rising;
              each = all.1;
            },
          )

      all_mean : (m : SchemaMeaning) × FragmentMeaning f table m
      all_mean = (
        record { entities = entities_mean.0; actions = actions_mean.0 },
        record { once = once f table; entities = entities_mean.1; actions = actions_mean.1 },
      )

  -- a fragment in order without a fault has a meaning
  pub faultless_means : ((s : Scope RawName) → AreDeclaredOnce s → ExpandsOnce s) → IsInOrder f
      → Never (BuildFault f table) → (m : SchemaMeaning) × FragmentMeaning f table m
  faultless_means ones order never =
      let declarations : Never (DeclarationFault f table) =
      never_first (DeclarationFault f table) _ never in
      let part : Never (PartFault f table) =
      never_behind (ActionHides f) (PartFault f table)
      (never_behind (TypeHides f) _ (never_behind (ActionTypeDeclared f) _ declarations)) in
      let others = never_behind (DeclarationFault f table) _ never in
      let references : Never (ReferenceFault f table) = never_first (ReferenceFault f table) (MeaningFault f table)
      others in
      let meanings : Never (MeaningFault f table) = never_behind (ReferenceFault f table) (MeaningFault f table)
      others in
      let type_fault : Never (TypeFault f table) =
      never_first (TypeFault f table) _ (never_behind (HasUndeclaredEntityTypes (tests_of (defined f table)) f) _
      meanings) in
      let records : Never (HasNoRecord f table) = never_behind (HasCommonCycle f table) (HasNoRecord f table)
      type_fault in
      let known : IsAllKnown f table = record {
        extensions = never_first (HasUnknownExtension table f) (HasUnsupported f) part;
        features = never_behind (HasUnknownExtension table f) (HasUnsupported f) part;
        types = never_first (HasUndefinedTypes f table) (HasUndefinedActions f table) references;
      } in
      let meant : AreTypesMeant f table = types_meant f table known in
      all_mean meant
      (types_expand f table meant (never_first (HasCommonCycle f table) (HasNoRecord f table) type_fault))
      (ones s (once f table))
      (never_first (HasNoRecordShape f table) (HasNoRecordContext f table) records)
      (never_behind (HasNoRecordShape f table) (HasNoRecordContext f table) records)
      order
