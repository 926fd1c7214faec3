-- The rows on types hold together of fragments that declare the same.
use Rattle.std.proofs.Common.{◌≡◌, ℕ, List, map, Contains, Option, Some, None, refl, sym, ap, ◌∙◌, subst}
use Rattle.std.specs.Map.{keys_of}
use Rattle.std.specs.Option.{option_map}
use Rattle.std.specs.Ordering.{is_lt}
use Rattle.cedar_identifiers.specs.Names.{components_of, has_cedar}
use Rattle.cedar_identifiers.specs.declared.internal_name.InternalName.{InternalName}
use Rattle.cedar_identifiers.specs.declared.name.Name.{Name}
use Rattle.cedar_identifiers.specs.declared.raw_name.RawName.{RawName}
use Rattle.cedar_identifiers.specs.declared.reference_type.ReferenceType.{ReferenceType}
use Rattle.cedar_names.specs.Orders.{names_in_order}
use Rattle.cedar_names.specs.declared.extension_table.ExtensionTable.{ExtensionTable}
use Rattle.schema_json.specs.declared.action_type.ApplySpec.{ApplySpec}
use Rattle.schema_json.specs.declared.entity_type.EntityTypeKind.{EntityTypeKind}
use Rattle.schema_json.specs.declared.entity_type.EntityTypeKind.TheVariants.{Standard, Enum}
use Rattle.schema_json.specs.declared.types.Type.{«Type»}
use Rattle.laws_translate.specs.Bare.{bare_internal, bare_name, bare}
use Rattle.laws_translate.specs.BareFragments.{bare_kind, bare_spec}
use Rattle.schema_json_walk.specs.Parts.{Part, type_reference, context_reference, parent, principal, resource}
use Rattle.schema_json_walk.specs.Parts.{action_parent, extension_type, open_record, action_attributes}
use Rattle.schema_json_walk.specs.Parts.{external_not_bare}
use Rattle.schema_json_walk.specs.Walk.{parts}
use Rattle.schema_resolve_definitions.specs.Declarations.{name_of}
use Rattle.schema_build_errors.specs.declared.schema_error.SchemaError.{SchemaError}
use Rattle.schema_build_errors.specs.declared.schema_error.SchemaError.TheVariants as error
use Rattle.schema_build_errors.specs.declared.shape_errors.ContextOrShape.{ContextOrShape}
use Rattle.schema_build_errors.specs.declared.shape_errors.ContextOrShape.TheVariants.{ActionContext, EntityTypeShape}
use Rattle.schema_build_expand.specs.Scope.{Scope, DeclaredType}
use Rattle.schema_build_expand.proofs.Linked.{reaches_as}
use Rattle.schema_build_checks.specs.DeclaredAt.{at_of, actions_at_in_order}
use Rattle.schema_build_scope.specs.Commons.{TypeAt, declared_commons}
use Rattle.schema_build_scope.specs.CycleRow.{ReachesItself, HasCommonCycle}
use Rattle.schema_build_scope.specs.FragmentScope.{fragment_scope}
use Rattle.schema_build_scope.specs.TypeReaches.{MeansCommon, RefersToCommon}
use Rattle.schema_build_hierarchy.specs.Declarations.{DeclaredEntity, declared_entities, declared_actions}
use Rattle.schema_build_items.specs.NoRecord.{IsNoRecord, ShapeIsNoRecord, ContextIsNoRecord, LacksShape, LacksContext}
use Rattle.schema_build_items.specs.NoRecord.{HasNoRecordShape, HasNoRecordContext}
use Rattle.laws_build.specs.Orders.Alike.{bare_place, DeclareTheSame}
use Rattle.laws_build.proofs.Orders.Declaring.{Frag, DeclaredAction, entity_alone, at_alone, action_alone}
use Rattle.laws_build.proofs.Orders.Declaring.{common_alone, entities_same, actions_same, commons_same}
use Rattle.laws_build.proofs.Orders.DeclarationRows.{uid_too}
use Rattle.laws_build.proofs.Orders.Expanding.{AreScopesAlike, expands_too}
use Rattle.laws_build.proofs.Orders.Meaning.{spaces_same}
use Rattle.laws_build.proofs.Orders.Rows.{Follows, least_too}
use Rattle.laws_build.proofs.Orders.Scoping.{scopes_alike}
use Rattle.laws_build.proofs.Orders.Seen.{matched, map_seen}
use Rattle.laws_build.proofs.Orders.Walked.{bare_part, parts_bare}

abbrev Path : Type 0
Path = List (List ℕ)

-- a part that is seen as a reference is one
reference_back : (q : Part RawName) (kind : ReferenceType) (n : RawName) → type_reference kind (bare_name n)
    ≡ bare_part q
    → (m : RawName) × (q ≡ type_reference kind m) × (bare_name n ≡ bare_name m)
reference_back (type_reference also m) kind n e =
    let same : kind ≡ also = cc in
    (m, ap (λ k. type_reference k m) (sym same), cc)
reference_back (context_reference name) kind n e = absurd (cc)
reference_back (parent name) kind n e = absurd (cc)
reference_back (principal name) kind n e = absurd (cc)
reference_back (resource name) kind n e = absurd (cc)
reference_back (action_parent id ty) kind n e = absurd (cc)
reference_back (extension_type id) kind n e = absurd (cc)
reference_back open_record kind n e = absurd (cc)
reference_back (action_attributes names) kind n e = absurd (cc)
reference_back external_not_bare kind n e = absurd (cc)

module _ (s r : Scope RawName) (alike : AreScopesAlike s r) where
  means_common_too : (ns ms : Option InternalName) (t u : «Type» RawName) (name : Path)
      → bare_place ns ≡ bare_place ms → bare t ≡ bare u → MeansCommon s ns (parts t) name
      → MeansCommon r ms (parts u) name
  means_common_too ns ms t u name places same (kind, n, c, means) =
      let seen : map bare_part (parts t) ≡ map bare_part (parts u) =
      sym (parts_bare t) ∙ (ap parts same ∙ parts_bare u) in
      let (q, cq, e) = matched bare_part (parts t) (parts u) seen (type_reference kind n) c in
      let (m, is, names) = reference_back q kind n e in
      (kind, m, subst (Contains (parts u)) is cq, sym (alike.means ns ms kind n m places names) ∙ means)

  refers_too : (a b : Path) → RefersToCommon s a b → RefersToCommon r a b
  refers_too a b (d, e, hd, he, m) =
      let (x, hx, sx) = alike.there a d hd in
      let (y, hy, sy) = alike.there b e he in (
        x,
        y,
        hx,
        hy,
        means_common_too d.place x.place d.ty x.ty b (ap (λ (z : DeclaredType RawName). z.place) sx)
            (ap (λ (z : DeclaredType RawName). z.ty) sx) m,
      )

  itself_too : (name : InternalName) → ReachesItself s name → ReachesItself r name
  itself_too name h =
      reaches_as (RefersToCommon s) (RefersToCommon r) refers_too (components_of name) (components_of name) h

  no_record_too : (ns ms : Option InternalName) (t u : «Type» RawName) → bare_place ns ≡ bare_place ms
      → bare t ≡ bare u → IsNoRecord s ns t → IsNoRecord r ms u
  no_record_too ns ms t u places same (p, h, none) = (p, expands_too s r alike ns ms t u p places same h, none)

  shape_too : (ns ms : Option InternalName) (k l : EntityTypeKind RawName) → bare_place ns ≡ bare_place ms
      → bare_kind k ≡ bare_kind l → ShapeIsNoRecord s ns k → ShapeIsNoRecord r ms l
  shape_too ns ms (Standard a) (Standard b) places e h =
      no_record_too ns ms a.shape.0 b.shape.0 places (ap shape_in e) h
    where
      shape_in : EntityTypeKind RawName → «Type» RawName
      shape_in (Standard x) = x.shape.0
      shape_in (Enum cs) = bare a.shape.0
  shape_too ns ms (Standard a) (Enum ds) places e h = absurd (cc)
  shape_too ns ms (Enum cs) l places e h = absurd h

  context_too : (ns ms : Option InternalName) (a b : Option (ApplySpec RawName)) → bare_place ns ≡ bare_place ms
      → option_map bare_spec a ≡ option_map bare_spec b → ContextIsNoRecord s ns a → ContextIsNoRecord r ms b
  context_too ns ms None b places e h = absurd h
  context_too ns ms (Some a) None places e h = absurd (cc)
  context_too ns ms (Some a) (Some b) places e h =
      let same : bare_spec a ≡ bare_spec b = cc in
      no_record_too ns ms a.context.0 b.context.0 places (ap (λ (x : ApplySpec RawName). x.context.0) same) h

-- the name at another place
abbrev pub name_too : (n : Name) (x : InternalName) → bare_internal n.name ≡ bare_internal x → Name
name_too n x e = record {
  name = x;
  unreserved = ap (λ (y : InternalName). has_cedar (components_of y)) (sym e) ∙ n.unreserved;
}

module _ (f g : Frag) (table : ExtensionTable) (same : DeclareTheSame f g) where
  abbrev s : Scope RawName
  s = fragment_scope f table

  abbrev r : Scope RawName
  r = fragment_scope g table

  keys_same : map bare_internal (keys_of (declared_commons f)) ≡ map bare_internal (keys_of (declared_commons g))
  keys_same =
      sym (map_seen common_alone bare_internal (λ (e : InternalName × TypeAt). e.0) (λ (e : InternalName × TypeAt). e.0)
      (λ e. refl) (declared_commons f))
      ∙ (ap (map (λ (e : InternalName × TypeAt). e.0)) (commons_same f g same)
      ∙ map_seen common_alone bare_internal (λ (e : InternalName × TypeAt). e.0) (λ (e : InternalName × TypeAt). e.0)
      (λ e. refl) (declared_commons g))

  pub cycle_follows : Follows (HasCommonCycle f table) (HasCommonCycle g table)
  cycle_follows (error.CycleInCommonTypeReferences e) h =
      let (y, cy, seen) = matched bare_internal (keys_of (declared_commons f)) (keys_of (declared_commons g)) keys_same
      e.ty h.declared in (
        error.CycleInCommonTypeReferences (record { ty = y }),
        record {
          declared = cy;
          round = itself_too s r (scopes_alike f g table same) y
              (subst (λ (x : InternalName). ReachesItself s x) seen h.round);
          least = (λ other k.
              ap (λ (x : InternalName). is_lt (names_in_order other x)) (sym seen)
              ∙ h.least other (itself_too r s (scopes_alike g f table (sym same)) other k));
        },
      )
  cycle_follows _ h = absurd h

  lacks_shape : (x y : Frag) → DeclareTheSame x y → (d e : DeclaredEntity) → entity_alone d ≡ entity_alone e
      → LacksShape (fragment_scope x table) d → LacksShape (fragment_scope y table) e
  lacks_shape x y alike d e seen h =
      shape_too (fragment_scope x table) (fragment_scope y table) (scopes_alike x y table alike) (name_of d.ns)
      (name_of e.ns) d.ty.kind e.ty.kind (spaces_same d.ns e.ns (ap (λ (z : DeclaredEntity). z.ns) seen))
      (ap (λ (z : DeclaredEntity). z.ty.kind) seen) h

  lacks_context : (x y : Frag) → DeclareTheSame x y → (d e : DeclaredAction) → action_alone d ≡ action_alone e
      → LacksContext (fragment_scope x table) d → LacksContext (fragment_scope y table) e
  lacks_context x y alike d e seen h =
      context_too (fragment_scope x table) (fragment_scope y table) (scopes_alike x y table alike) (name_of d.ns)
      (name_of e.ns) d.ty.applies_to e.ty.applies_to (spaces_same d.ns e.ns (ap (λ (z : DeclaredAction). z.ns) seen))
      (ap (λ (z : DeclaredAction). z.ty.applies_to) seen) h

  pub no_shape_follows : Follows (HasNoRecordShape f table) (HasNoRecordShape g table)
  no_shape_follows (error.ContextOrShapeNotRecord e) h = by_subject e.ctx_or_shape h
    where
      by_subject : (c : ContextOrShape)
          → HasNoRecordShape f table (error.ContextOrShapeNotRecord (record { ctx_or_shape = c }))
          → (d : SchemaError) × HasNoRecordShape g table d
      by_subject (ActionContext uid) h = absurd h
      by_subject (EntityTypeShape name) (d, named, least) =
          let (x, lowest, seen) = least_too entity_alone (λ a b. is_lt (names_in_order a b)) (λ c. c.name)
          (λ a b c k p q. λ i. is_lt (names_in_order (p i).name (q i).name))
          (LacksShape s) (LacksShape r) (lacks_shape f g same) (λ a b p. lacks_shape g f (sym same) b a (sym p))
          (declared_entities f) (declared_entities g) (entities_same f g same) d least in
          let moved : bare_internal name.name ≡ bare_internal x.name =
          ap bare_internal named ∙ ap (λ (z : DeclaredEntity). z.name) seen in (
            error.ContextOrShapeNotRecord (record { ctx_or_shape = EntityTypeShape (name_too name x.name moved) }),
            (x, refl, lowest),
          )
  no_shape_follows _ h = absurd h

  pub no_context_follows : Follows (HasNoRecordContext f table) (HasNoRecordContext g table)
  no_context_follows (error.ContextOrShapeNotRecord e) h = by_subject e.ctx_or_shape h
    where
      by_subject : (c : ContextOrShape)
          → HasNoRecordContext f table (error.ContextOrShapeNotRecord (record { ctx_or_shape = c }))
          → (d : SchemaError) × HasNoRecordContext g table d
      by_subject (EntityTypeShape name) h = absurd h
      by_subject (ActionContext uid) (d, named, least) =
          let (x, lowest, seen) = least_too action_alone (λ a b. is_lt (actions_at_in_order a b)) (λ c. c.name)
          (λ a b c k p q. λ i. is_lt (actions_at_in_order (p i).name (q i).name))
          (LacksContext s) (LacksContext r) (lacks_context f g same) (λ a b p. lacks_context g f (sym same) b a (sym p))
          (declared_actions f) (declared_actions g) (actions_same f g same) d least in
          let moved : at_alone (at_of uid) ≡ at_alone x.name =
          ap at_alone named ∙ ap (λ (z : DeclaredAction). z.name) seen in (
            error.ContextOrShapeNotRecord (record { ctx_or_shape = ActionContext (uid_too uid x.name moved) }),
            (x, refl, lowest),
          )
  no_context_follows _ h = absurd h
