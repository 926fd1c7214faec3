-- A fragment in order has a fault, or it has none and has a meaning.
use Rattle.std.proofs.Common.{◌≡◌, Bool, true, false, List, refl}
use Rattle.std.proofs.Common.{Contains, inl, inr, ◌⊎◌, None}
use Rattle.cedar_identifiers.specs.declared.internal_name.InternalName.{InternalName}
use Rattle.cedar_identifiers.specs.declared.name.Name.{Name}
use Rattle.cedar_identifiers.specs.declared.name_text.NameText as named
use Rattle.cedar_identifiers.specs.declared.raw_name.RawName.{RawName}
use Rattle.cedar_names.specs.Orders.{names_in_order, names_total}
use Rattle.cedar_names.specs.declared.entity_uid.EntityUID.{EntityUID}
use Rattle.cedar_names.specs.declared.extension_table.ExtensionTable.{ExtensionTable}
use Rattle.schema_json.specs.declared.action_type.ActionType.{ActionType}
use Rattle.schema_json.specs.declared.fragment.Fragment.{Fragment}
use Rattle.schema_resolve_definitions.specs.Defined.{defined}
use Rattle.schema_resolve_definitions.specs.Tests.{Tests, tests_of}
use Rattle.schema_build_errors.specs.declared.schema_error.SchemaError.TheVariants as error
use Rattle.schema_build_errors.specs.declared.shape_errors.ContextOrShape.{ContextOrShape}
use Rattle.schema_build_errors.specs.declared.shape_errors.ContextOrShape.TheVariants.{ActionContext, EntityTypeShape}
use Rattle.schema_build_checks.specs.DeclaredAt.{ActionAt, actions_at_in_order}
use Rattle.schema_build_checks.specs.Rows.{Never}
use Rattle.schema_build_expand.specs.Expands.{ExpandsOnce}
use Rattle.schema_build_scope.specs.FragmentScope.{fragment_scope}
use Rattle.schema_build_scope.specs.Parts.{AreTypesMeant}
use Rattle.schema_build_hierarchy.specs.Declarations.{Declared, DeclaredEntity, entity_name, action_key}
use Rattle.schema_build_hierarchy.specs.Declarations.{declared_entities, declared_actions}
use Rattle.schema_build_hierarchy.specs.Parents.{entity_parents, action_parents, IsActionAncestor}
use Rattle.schema_build_hierarchy.specs.Ancestors.{IsParentAmong}
use Rattle.schema_build_hierarchy.specs.Rows.{HasActionCycle, HasExternalUnderEnum, IsEnumAbove, IsExternalUnderEnum}
use Rattle.schema_build_hierarchy.specs.Rows.{is_enum}
use Rattle.schema_build_hierarchy.proofs.Exact.{actions_total}
use Rattle.schema_build_items.specs.NoRecord.{HasNoRecordShape, HasNoRecordContext, IsLeastShape, IsLeastContext}
use Rattle.schema_build_items.specs.NoRecord.{LacksShape, LacksContext}
use Rattle.laws_build.specs.Existence.Complete.{AllExpand}
use Rattle.laws_build.proofs.Existence.Decided.{Decided}
use Rattle.laws_build.proofs.Existence.Known.{Known, known_both, known_among, known_name, known_by}
use Rattle.laws_build.proofs.Existence.Least.{LeastOf, least_or_none}
use Rattle.laws_build.proofs.Existence.Parents.{known_key, parents_finite}
use Rattle.laws_build.proofs.Existence.Reached.{leads, leads_decides}
use Rattle.laws_build.proofs.Existence.Records.{entity_free, action_free, known_shape, known_context}

known_true : (b : Bool) → Known (b ≡ true)
known_true true = inl refl
known_true false = inr (λ e. cc)

module _ {G : named.Ghosts RawName} (f : Fragment RawName G) (table : ExtensionTable)
    (types : AreTypesMeant f table) (expand : AllExpand (fragment_scope f table))
    (one : ExpandsOnce (fragment_scope f table)) where
  abbrev t : Tests
  t = tests_of (defined f table)

  abbrev Action : Type 0
  Action = Declared ActionAt (ActionType RawName G)

  abbrev es : List DeclaredEntity
  es = declared_entities f

  abbrev as' : List Action
  as' = declared_actions f

  pub shape_decided : Decided (HasNoRecordShape f table)
  shape_decided =
      go (least_or_none names_in_order names_total (λ (x : DeclaredEntity). x.name)
      (LacksShape (fragment_scope f table)) es (known_shape f table types expand one))
    where
      Lacks : DeclaredEntity → Type 0
      Lacks = LacksShape (fragment_scope f table)

      none_told : ((x : DeclaredEntity) → Contains es x → LacksShape (fragment_scope f table) x → ⊥)
          → (c : ContextOrShape) → IsLeastShape (fragment_scope f table) f c → ⊥
      none_told none (EntityTypeShape name) (d, same, least) = none d least.among least.passes_too
      none_told none (ActionContext uid) h = h

      never : ((x : DeclaredEntity) → Contains es x → LacksShape (fragment_scope f table) x → ⊥)
          → Never (HasNoRecordShape f table)
      never none (error.ContextOrShapeNotRecord e) h = none_told none e.ctx_or_shape h
      never none _ h = absurd h

      go : ((x : DeclaredEntity) → Contains es x → LacksShape (fragment_scope f table) x → ⊥) ⊎
          ((x : DeclaredEntity) × LeastOf names_in_order names_total (λ (x : DeclaredEntity). x.name)
          (LacksShape (fragment_scope f table)) es x) → Decided (HasNoRecordShape f table)
      go (inl none) = inr (never none)
      go (inr (y, least)) =
          let name : Name = record { name = y.name; unreserved = entity_free f table types expand one y least.among } in
          inl (
            error.ContextOrShapeNotRecord (record { ctx_or_shape = EntityTypeShape name }),
            (
              y,
              refl,
              record { among = least.among; passes_too = least.passes; none_less = least.none_less },
            ),
          )

  uid_of : (y : Action) → Contains as' y → EntityUID
  uid_of y c = record {
    ty = record { name = y.name.ty; unreserved = action_free f table types expand one y c };
    eid = record { 0 = y.name.id };
    loc = y.name.loc;
  }

  pub context_decided : Decided (HasNoRecordContext f table)
  unfolding uid_of
  context_decided =
      go (least_or_none actions_at_in_order actions_total (λ (x : Action). x.name)
      (LacksContext (fragment_scope f table)) as' (known_context f table types expand one))
    where
      none_told : ((x : Action) → Contains as' x → LacksContext (fragment_scope f table) x → ⊥)
          → (c : ContextOrShape) → IsLeastContext (fragment_scope f table) f c → ⊥
      none_told none (EntityTypeShape name) h = h
      none_told none (ActionContext uid) (d, same, least) = none d least.among least.passes_too

      never : ((x : Action) → Contains as' x → LacksContext (fragment_scope f table) x → ⊥)
          → Never (HasNoRecordContext f table)
      never none (error.ContextOrShapeNotRecord e) h = none_told none e.ctx_or_shape h
      never none _ h = absurd h

      go : ((x : Action) → Contains as' x → LacksContext (fragment_scope f table) x → ⊥) ⊎
          ((x : Action) × LeastOf actions_at_in_order actions_total (λ (x : Action). x.name)
          (LacksContext (fragment_scope f table)) as' x) → Decided (HasNoRecordContext f table)
      go (inl none) = inr (never none)
      go (inr (y, least)) =
          inl (
            error.ContextOrShapeNotRecord (record { ctx_or_shape = ActionContext (uid_of y least.among) }),
            (
              y,
              refl,
              record { among = least.among; passes_too = least.passes; none_less = least.none_less },
            ),
          )

  IsRound : Action → Type 0
  IsRound c = IsActionAncestor t as' (action_key c) (action_key c)

  known_round : (x : Action) → Contains as' x → Known (IsRound x)
  unfolding IsRound
  known_round x c =
      let finite = parents_finite action_key (action_parents t) known_key as' in
      known_by (leads (IsParentAmong action_key (action_parents t) as') finite (action_key x) (action_key x))
      (leads_decides (IsParentAmong action_key (action_parents t) as') finite (action_key x) (action_key x))

  pub action_cycle_decided : Decided (HasActionCycle t as')
  unfolding IsRound uid_of
  action_cycle_decided =
      go (least_or_none actions_at_in_order actions_total (λ (x : Action). x.name) IsRound as' known_round)
    where
      go : ((x : Action) → Contains as' x → IsRound x → ⊥) ⊎
          ((x : Action) × LeastOf actions_at_in_order actions_total (λ (x : Action). x.name) IsRound as' x)
          → Decided (HasActionCycle t as')
      go (inl none) = inr (λ e (d, is, least). none d least.among least.passes_too)
      go (inr (y, least)) =
          inl (
            error.CycleInActionHierarchy (record { uid = uid_of y least.among }),
            (
              y,
              (record { uid = uid_of y least.among }, refl, refl),
              record { among = least.among; passes_too = least.passes; none_less = least.none_less },
            ),
          )

  known_above : (d p : DeclaredEntity) → Known (IsEnumAbove t es d p)
  known_above d p =
      let finite = parents_finite entity_name (entity_parents t) known_name es in
      known_both (known_true (is_enum p.ty.kind))
      (known_by (leads (IsParentAmong entity_name (entity_parents t) es) finite (entity_name d) (entity_name p))
      (leads_decides (IsParentAmong entity_name (entity_parents t) es) finite (entity_name d) (entity_name p)))

  known_under : (d : DeclaredEntity) → Contains es d → Known (IsExternalUnderEnum t es d)
  known_under d c = known_both (known_true d.ty.external) (known_among (IsEnumAbove t es d) (known_above d) es)

  pub external_decided : Decided (HasExternalUnderEnum t es)
  external_decided =
      go (least_or_none names_in_order names_total (λ (x : DeclaredEntity). x.name) (IsExternalUnderEnum t es) es
      known_under)
    where
      with_above : (d : DeclaredEntity) → LeastOf names_in_order names_total (λ (x : DeclaredEntity). x.name)
          (IsExternalUnderEnum t es) es d
          → ((x : DeclaredEntity) → Contains es x → IsEnumAbove t es d x → ⊥) ⊎
          ((x : DeclaredEntity) × LeastOf names_in_order names_total (λ (x : DeclaredEntity). x.name)
          (IsEnumAbove t es d) es x) → Decided (HasExternalUnderEnum t es)
      with_above d least (inl none) =
          absurd (let p = least.passes.1 in none p.0 p.1 p.2)
      with_above d least (inr (p, above)) =
          let outside : Name =
          record { name = d.name; unreserved = entity_free f table types expand one d least.among } in
          let placeless : InternalName = record { first = p.name.first; others = p.name.others; loc = None } in
          let listed : Name =
          record { name = placeless; unreserved = entity_free f table types expand one p above.among } in
          inl (
            error.ExternalWithEnumAncestor (record { external_type = outside; enum_type = listed }),
            (
              d,
              p,
              (record { external_type = outside; enum_type = listed }, refl, refl, refl, refl),
              record { among = least.among; passes_too = least.passes; none_less = least.none_less },
              record { among = above.among; passes_too = above.passes; none_less = above.none_less },
            ),
          )

      go : ((x : DeclaredEntity) → Contains es x → IsExternalUnderEnum t es x → ⊥) ⊎
          ((x : DeclaredEntity) × LeastOf names_in_order names_total (λ (x : DeclaredEntity). x.name)
          (IsExternalUnderEnum t es) es x) → Decided (HasExternalUnderEnum t es)
      go (inl none) = inr (λ e (d, p, is, least, above). none d least.among least.passes_too)
      go (inr (d, least)) =
          with_above d least (least_or_none names_in_order names_total (λ (x : DeclaredEntity). x.name)
          (IsEnumAbove t es d) es (λ p c. known_above d p))
