-- Shapes and contexts stand for records where no row says otherwise.
use Rattle.std.proofs.Common.{◌≡◌, ℕ, List, [], ◌∷◌, refl, sym, ap, ◌∙◌, subst}
use Rattle.std.proofs.Common.{Contains, inl, inr, ◌⊎◌, Option, Some, None, All}
use Rattle.std.specs.Prelude.{Bool, true, false, if◌then◌else◌}
use Rattle.std.proofs.lemmas.Bool.{or_from}
use Rattle.std.proofs.lemmas.List.{map-append}
use Rattle.std.proofs.lemmas.List.Folds.{list_any-append}
use Rattle.cedar_data.proofs.Lists.{contains_unmap, contains_flat}
use Rattle.cedar_identifiers.specs.Names.{components_of, has_cedar}
use Rattle.cedar_identifiers.specs.Candidates.{qualified, behind, is_unqualified}
use Rattle.cedar_identifiers.specs.Words.{is_cedar}
use Rattle.cedar_identifiers.specs.declared.id.Id.{Id}
use Rattle.cedar_identifiers.specs.declared.unreserved_id.UnreservedId.{UnreservedId}
use Rattle.cedar_identifiers.specs.declared.internal_name.InternalName.{InternalName}
use Rattle.cedar_identifiers.specs.declared.name.Name.{Name}
use Rattle.cedar_identifiers.specs.declared.name_text.NameText as named
use Rattle.cedar_identifiers.specs.declared.raw_name.RawName.{RawName}
use Rattle.cedar_names.specs.Meaning.{PlainType, Attributes}
use Rattle.cedar_names.specs.Meaning as meaning
use Rattle.cedar_names.specs.Orders.{names_in_order, names_total}
use Rattle.cedar_names.specs.declared.entity_uid.EntityUID.{EntityUID}
use Rattle.cedar_names.specs.declared.extension_table.ExtensionTable.{ExtensionTable}
use Rattle.schema_json.specs.Actions.{action_name}
use Rattle.schema_json.specs.declared.action_type.ActionType.{ActionType}
use Rattle.schema_json.specs.declared.action_type.ApplySpec.{ApplySpec}
use Rattle.schema_json.specs.declared.entity_type.EntityType.{EntityType}
use Rattle.schema_json.specs.declared.entity_type.EntityTypeKind.{EntityTypeKind}
use Rattle.schema_json.specs.declared.entity_type.EntityTypeKind.TheVariants.{Standard, Enum}
use Rattle.schema_json.specs.declared.entity_type.StandardEntityType.{StandardEntityType}
use Rattle.schema_json.specs.declared.fragment.Fragment.{Fragment}
use Rattle.schema_json.specs.declared.fragment.NamespaceDefinition.{NamespaceDefinition}
use Rattle.schema_json.specs.declared.types.Type.{«Type»}
use Rattle.schema_json_walk.specs.Walk.{parts}
use Rattle.schema_resolve_definitions.specs.Declarations.{name_of}
use Rattle.schema_build_errors.specs.declared.schema_error.SchemaError.TheVariants.{ContextOrShapeNotRecord}
use Rattle.schema_build_errors.specs.declared.shape_errors.ContextOrShape.TheVariants.{ActionContext, EntityTypeShape}
use Rattle.schema_build_checks.specs.DeclaredAt.{ActionAt, actions_at_in_order}
use Rattle.schema_build_checks.specs.Rows.{Never}
use Rattle.schema_build_expand.specs.Expands.{Expands, ExpandsOnce}
use Rattle.schema_build_expand.specs.Rows.{IsMeant}
use Rattle.schema_build_expand.specs.Scope.{Scope}
use Rattle.schema_build_scope.specs.FragmentScope.{fragment_scope}
use Rattle.schema_build_scope.specs.Parts.{AreTypesMeant, IsTypeMeant}
use Rattle.schema_build_hierarchy.specs.Declarations.{Declared, DeclaredEntity, action_in, actions_of}
use Rattle.schema_build_hierarchy.specs.Declarations.{entity_in, entities_of, declared_entities, declared_actions}
use Rattle.schema_build_hierarchy.proofs.Exact.{actions_total}
use Rattle.schema_build_items.specs.NoRecord.{IsNoRecord, ShapeIsNoRecord, ContextIsNoRecord, LacksShape, LacksContext}
use Rattle.schema_build_items.specs.NoRecord.{HasNoRecordShape, HasNoRecordContext}
use Rattle.laws_build.specs.Existence.Complete.{AllExpand}
use Rattle.laws_build.proofs.Existence.Known.{Known}
use Rattle.laws_build.proofs.Existence.Least.{LeastOf, least_or_none}

record_or_not : (p : PlainType)
    → ((as' : Attributes) × (p ≡ meaning.Rec as')) ⊎ ((as' : Attributes) → p ≡ meaning.Rec as' → ⊥)
record_or_not meaning.Bool = inr (λ a e. cc)
record_or_not meaning.Long = inr (λ a e. cc)
record_or_not meaning.String = inr (λ a e. cc)
record_or_not (meaning.Set p) = inr (λ a e. cc)
record_or_not (meaning.Rec a) = inl (a, refl)
record_or_not (meaning.Entity n) = inr (λ a e. cc)
record_or_not (meaning.Ext w) = inr (λ a e. cc)

-- a name behind a namespace has no component `__cedar`, if the name has none
pub qualified_free : (ns : Option Name) (w : InternalName) → has_cedar (components_of w) ≡ false
    → has_cedar (components_of (qualified (name_of ns) w)) ≡ false
qualified_free None w free = free
qualified_free (Some n) w free = go (is_unqualified w)
  where
    go : (b : Bool) → has_cedar (components_of (if b then behind n.name w else w)) ≡ false
    go true =
        ap has_cedar (map-append (λ (i : Id). i.text) (n.name.first ∷ n.name.others) (w.first ∷ w.others))
        ∙ list_any-append is_cedar (components_of n.name) (components_of w)
        ∙ or_from (has_cedar (components_of n.name)) (has_cedar (components_of w)) n.unreserved free
    go false = free

module _ {G : named.Ghosts RawName} (f : Fragment RawName G) (table : ExtensionTable)
    (types : AreTypesMeant f table) (expand : AllExpand (fragment_scope f table))
    (one : ExpandsOnce (fragment_scope f table)) where
  abbrev s : Scope RawName
  s = fragment_scope f table

  abbrev Action : Type 0
  Action = Declared ActionAt (ActionType RawName G)

  -- a type whose parts are meant stands for a record, or for none
  as_record : (ns : Option InternalName) (ty : «Type» RawName) → All (IsMeant s ns) (parts ty)
      → ((a : Attributes) × Expands RawName s ns ty (meaning.Rec a)) ⊎ IsNoRecord s ns ty
  as_record ns ty meant =
      let e = expand ns ty meant in
      elim (record_or_not e.0) [
        | inl found ↦ inl (found.0, subst (Expands RawName s ns ty) found.1 e.1)
        | inr none ↦ inr (e.0, e.1, none)
      ]

  known_no_record : (ns : Option InternalName) (ty : «Type» RawName) → All (IsMeant s ns) (parts ty)
      → Known (IsNoRecord s ns ty)
  known_no_record ns ty meant = elim (as_record ns ty meant) [
    | inl found ↦ inr (λ (p, e, none). none found.0 (one ns ty p (meaning.Rec found.0) e found.1))
    | inr none ↦ inl none
  ]

  -- an entity type stands in a namespace of the fragment
  entity_stands_in : (d : DeclaredEntity) → Contains (declared_entities f) d
      → (ns : Option Name) × (n : NamespaceDefinition RawName G) × (e : UnreservedId × EntityType RawName)
      × Contains f.0 (ns, n) × Contains n.entity_types e × (entity_in ns e ≡ d)
  entity_stands_in d c =
      let (at, there, here) = contains_flat entities_of f.0 d c in
      let (e, among, is) = contains_unmap (entity_in at.0) at.1.entity_types d here in
      (at.0, at.1, e, there, among, is)

  -- the types of a declared entity type are meant
  shape_meant : (d : DeclaredEntity) → Contains (declared_entities f) d → (k : StandardEntityType RawName)
      → d.ty.kind ≡ Standard k → IsTypeMeant f table d.ns k.shape.0
  shape_meant d c =
      let (ns, n, e, in_f, in_n, is) = entity_stands_in d c in
      subst (λ (x : DeclaredEntity). (k : StandardEntityType RawName) → x.ty.kind ≡ Standard k
      → IsTypeMeant f table x.ns k.shape.0) is (λ k h. types.shapes ns n e k in_f in_n h)

  pub tags_meant : (d : DeclaredEntity) → Contains (declared_entities f) d → (k : StandardEntityType RawName)
      (ty : «Type» RawName) → d.ty.kind ≡ Standard k → k.tags ≡ Some ty → IsTypeMeant f table d.ns ty
  tags_meant d c =
      let (ns, n, e, in_f, in_n, is) = entity_stands_in d c in
      subst (λ (x : DeclaredEntity). (k : StandardEntityType RawName) (ty : «Type» RawName)
      → x.ty.kind ≡ Standard k → k.tags ≡ Some ty → IsTypeMeant f table x.ns ty) is
      (λ k ty h g. types.tags ns n e k ty in_f in_n h g)

  pub entity_free : (d : DeclaredEntity) → Contains (declared_entities f) d → has_cedar (components_of d.name) ≡ false
  entity_free d c =
      let (ns, n, e, in_f, in_n, is) = entity_stands_in d c in
      subst (λ (x : DeclaredEntity). has_cedar (components_of x.name) ≡ false) is
      (qualified_free ns (record { first = e.0.id; others = []; loc = e.1.loc })
      (or_from (is_cedar e.0.id.text) false e.0.unreserved refl))

  pub known_shape : (d : DeclaredEntity) → Contains (declared_entities f) d → Known (LacksShape s d)
  known_shape d c = go d.ty.kind refl
    where
      go : (kind : EntityTypeKind RawName) → d.ty.kind ≡ kind → Known (ShapeIsNoRecord s (name_of d.ns) kind)
      go (Standard k) is = known_no_record (name_of d.ns) k.shape.0 (shape_meant d c k is)
      go (Enum choices) is = inr (λ e. e)

  -- the shape of each declared entity type that is not enumerated is a record
  pub shape_is_record : Never (HasNoRecordShape f table) → (d : DeclaredEntity) → Contains (declared_entities f) d
      → (k : StandardEntityType RawName) → d.ty.kind ≡ Standard k
      → (a : Attributes) × Expands RawName s (name_of d.ns) k.shape.0 (meaning.Rec a)
  shape_is_record never d c k is = elim (as_record (name_of d.ns) k.shape.0 (shape_meant d c k is)) [
    | inl found ↦ found
    | inr none ↦ absurd (
        go (least_or_none names_in_order names_total (λ (x : DeclaredEntity). x.name) (LacksShape s)
        (declared_entities f) known_shape) d c
        (subst (λ kind. ShapeIsNoRecord s (name_of d.ns) kind) (sym is) none))
  ]
    where
      go : ((x : DeclaredEntity) → Contains (declared_entities f) x → LacksShape s x → ⊥) ⊎
          ((x : DeclaredEntity) × LeastOf names_in_order names_total (λ (x : DeclaredEntity). x.name) (LacksShape s)
          (declared_entities f) x)
          → (x : DeclaredEntity) → Contains (declared_entities f) x → LacksShape s x → ⊥
      go (inl none) x c lacks = none x c lacks
      go (inr (y, least)) x c lacks =
          let name : Name = record { name = y.name; unreserved = entity_free y least.among } in
          never (ContextOrShapeNotRecord (record { ctx_or_shape = EntityTypeShape name })) (
            y,
            refl,
            record { among = least.among; passes_too = least.passes; none_less = least.none_less },
          )

  -- an action stands in a namespace of the fragment
  action_stands_in : (d : Action) → Contains (declared_actions f) d
      → (ns : Option Name) × (n : NamespaceDefinition RawName G) × (e : List ℕ × ActionType RawName G)
      × Contains f.0 (ns, n) × Contains n.actions e × (action_in ns e ≡ d)
  action_stands_in d c =
      let (at, there, here) = contains_flat actions_of f.0 d c in
      let (e, among, is) = contains_unmap (action_in at.0) at.1.actions d here in
      (at.0, at.1, e, there, among, is)

  context_meant : (d : Action) → Contains (declared_actions f) d → (a : ApplySpec RawName) → d.ty.applies_to ≡ Some a
      → IsTypeMeant f table d.ns a.context.0
  context_meant d c =
      let (ns, n, e, in_f, in_n, is) = action_stands_in d c in
      subst (λ (x : Action). (a : ApplySpec RawName) → x.ty.applies_to ≡ Some a
      → IsTypeMeant f table x.ns a.context.0) is (λ a h. types.contexts ns n e a in_f in_n h)

  pub action_free : (d : Action) → Contains (declared_actions f) d → has_cedar (components_of d.name.ty) ≡ false
  action_free d c =
      let (ns, n, e, in_f, in_n, is) = action_stands_in d c in
      subst (λ (x : Action). has_cedar (components_of x.name.ty) ≡ false) is
      (qualified_free ns action_name refl)

  pub known_context : (d : Action) → Contains (declared_actions f) d → Known (LacksContext s d)
  known_context d c = go d.ty.applies_to refl
    where
      go : (o : Option (ApplySpec RawName)) → d.ty.applies_to ≡ o → Known (ContextIsNoRecord s (name_of d.ns) o)
      go None is = inr (λ e. e)
      go (Some a) is = known_no_record (name_of d.ns) a.context.0 (context_meant d c a is)

  -- the context of each declared action that applies to something is a record
  pub context_is_record : Never (HasNoRecordContext f table) → (d : Action) → Contains (declared_actions f) d
      → (k : ApplySpec RawName) → d.ty.applies_to ≡ Some k
      → (a : Attributes) × Expands RawName s (name_of d.ns) k.context.0 (meaning.Rec a)
  context_is_record never d c k is = elim (as_record (name_of d.ns) k.context.0 (context_meant d c k is)) [
    | inl found ↦ found
    | inr none ↦ absurd (
        go (least_or_none actions_at_in_order actions_total (λ (x : Action). x.name) (LacksContext s)
        (declared_actions f) known_context) d c
        (subst (λ o. ContextIsNoRecord s (name_of d.ns) o) (sym is) none))
  ]
    where
      go : ((x : Action) → Contains (declared_actions f) x → LacksContext s x → ⊥) ⊎
          ((x : Action) × LeastOf actions_at_in_order actions_total (λ (x : Action). x.name) (LacksContext s)
          (declared_actions f) x)
          → (x : Action) → Contains (declared_actions f) x → LacksContext s x → ⊥
      go (inl none) x c lacks = none x c lacks
      go (inr (y, least)) x c lacks =
          let uid : EntityUID = record {
            ty = record { name = y.name.ty; unreserved = action_free y least.among };
            eid = record { 0 = y.name.id };
            loc = y.name.loc;
          } in
          never (ContextOrShapeNotRecord (record { ctx_or_shape = ActionContext uid })) (
            y,
            refl,
            record { among = least.among; passes_too = least.passes; none_less = least.none_less },
          )
