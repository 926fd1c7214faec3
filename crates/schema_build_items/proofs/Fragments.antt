-- The entity types and the actions of a fragment, among its namespaces.
use Rattle.std.proofs.Common.{◌≡◌, Bool, true, false, not, ◌&&◌, List, [], ◌∷◌, Contains, Option, Some, None, refl}
use Rattle.std.proofs.Common.{subst}
use Rattle.cedar_data.proofs.Lists.{empty_behind, empty_before, contains_unmap, contains_flat, empty_in}
use Rattle.cedar_identifiers.specs.declared.name.Name.{Name}
use Rattle.cedar_identifiers.specs.declared.name_text.NameText as named
use Rattle.cedar_identifiers.specs.declared.raw_name.RawName.{RawName}
use Rattle.cedar_identifiers.specs.declared.unreserved_id.UnreservedId.{UnreservedId}
use Rattle.cedar_names.specs.declared.extension_table.ExtensionTable.{ExtensionTable}
use Rattle.schema_json.specs.declared.entity_type.EntityType.{EntityType}
use Rattle.schema_json.specs.declared.entity_type.EntityTypeKind.{EntityTypeKind}
use Rattle.schema_json.specs.declared.entity_type.EntityTypeKind.TheVariants.{Standard, Enum}
use Rattle.schema_json.specs.declared.fragment.Fragment.{Fragment}
use Rattle.schema_json.specs.declared.fragment.NamespaceDefinition.{NamespaceDefinition}
use Rattle.schema_json.specs.declared.types.Type.{«Type»}
use Rattle.schema_json_walk.specs.Bare.{is_bare_entity}
use Rattle.schema_json_walk.specs.Parts.{external_not_bare}
use Rattle.schema_json_walk.specs.Walk.{of_namespace, of_fragment, of_entry, of_entity, of_kind, of_items, of_common}
use Rattle.schema_json_walk.specs.Walk.{each_value, visit_where}
use Rattle.schema_build_errors.specs.declared.schema_error.SchemaError.TheVariants as error
use Rattle.schema_build_errors.specs.declared.use_errors.UnsupportedFeature.{UnsupportedFeature}
use Rattle.schema_build_types.specs.declared.types.Type.{«Type» as Built}
use Rattle.schema_build_checks.specs.Refusing.{IsAboutFirst}
use Rattle.schema_build_checks.specs.Rows.{Never}
use Rattle.schema_build_checks.specs.WalkFaults.{unsupported, NamesFeature, HasUnsupported}
use Rattle.schema_build_scope.specs.Parts.{AreTypesReady}
use Rattle.schema_build_hierarchy.specs.Declarations.{DeclaredEntity, declared_entities, entities_of, entity_in}
use Rattle.schema_build_items.specs.Kinds.{IsKindReady, AreTagsReady}

-- a row on the first of a list does not hold where there is none
pub none_first : (us : List UnsupportedFeature) → Never (IsAboutFirst NamesFeature us) → us ≡ []
none_first [] never = refl
none_first (u ∷ us) never = absurd (never (error.UnsupportedFeature (record { 0 = u })) (record { 0 = u }, refl, refl))

-- what is not to be visited is not visited
pub bare_if : (external bare : Bool) → visit_where unsupported (external && not bare) external_not_bare ≡ []
    → external ≡ true → bare ≡ true
bare_if true true e h = refl
bare_if true false e h = cc
bare_if false bare e h = cc

module _ {G : named.Ghosts RawName} (f : Fragment RawName G) where
  -- an entity type stands in a namespace of the fragment
  abbrev pub StandsIn : DeclaredEntity → Type 0
  StandsIn d = (ns : Option Name) × (n : NamespaceDefinition RawName G) × (e : UnreservedId × EntityType RawName)
      × Contains f.0 (ns, n) × Contains n.entity_types e × (entity_in ns e ≡ d)

  pub stands_in : (d : DeclaredEntity) → Contains (declared_entities f) d → StandsIn d
  stands_in d c =
      let (at, there, here) = contains_flat entities_of f.0 d c in
      let (e, among, is) = contains_unmap (entity_in at.0) at.1.entity_types d here in
      (at.0, at.1, e, there, among, is)

  module _ (table : ExtensionTable) (done : List (Option Built)) (ready : AreTypesReady f table done) where
    kind_ready : (ns : Option Name) (n : NamespaceDefinition RawName G) (e : UnreservedId × EntityType RawName)
        → Contains f.0 (ns, n) → Contains n.entity_types e → (kind : EntityTypeKind RawName) → e.1.kind ≡ kind
        → IsKindReady f table done ns kind
    kind_ready ns n e in_f in_n (Standard s) is = (ready.shapes ns n e s in_f in_n is, tags_ready s.tags refl)
      where
        tags_ready : (tags : Option («Type» RawName)) → s.tags ≡ tags → AreTagsReady f table done ns tags
        tags_ready None there = tt
        tags_ready (Some ty) there = ready.tags ns n e s ty in_f in_n is there
    kind_ready ns n e in_f in_n (Enum choices) is = tt

    -- each part of what is declared of an entity type can be expanded
    pub entity_ready : (d : DeclaredEntity) → Contains (declared_entities f) d → IsKindReady f table done d.ns d.ty.kind
    entity_ready d c =
        let (ns, n, e, in_f, in_n, is) = stands_in d c in
        subst (λ d. IsKindReady f table done d.ns d.ty.kind) is (kind_ready ns n e in_f in_n e.1.kind refl)

  -- an external entity type is bare where no feature is refused
  pub external_bare : Never (HasUnsupported f) → (d : DeclaredEntity) → Contains (declared_entities f) d
      → d.ty.external ≡ true → is_bare_entity d.ty ≡ true
  external_bare never d c =
      let (ns, n, e, in_f, in_n, is) = stands_in d c in
      let none : of_fragment (λ ns part. unsupported part) f
      ≡ [] = none_first (of_fragment (λ ns part. unsupported part) f) never in
      let space : of_namespace unsupported n
      ≡ [] = empty_in (of_entry (λ ns part. unsupported part)) f.0 (ns, n) in_f none in
      let items : of_items unsupported n
      ≡ [] = empty_behind (each_value (of_common unsupported) n.common_types) (of_items unsupported n) space in
      let each : each_value (of_entity unsupported) n.entity_types
      ≡ [] = empty_before (each_value (of_entity unsupported) n.entity_types) _ items in
      let one : of_entity unsupported e.1
      ≡ [] = empty_in (λ (x : UnreservedId × EntityType RawName). of_entity unsupported x.1) n.entity_types
      e in_n each in
      subst (λ d. d.ty.external ≡ true → is_bare_entity d.ty ≡ true) is
      (bare_if e.1.external (is_bare_entity e.1)
      (empty_before (visit_where unsupported (e.1.external && not (is_bare_entity e.1)) external_not_bare)
      (of_kind unsupported e.1.kind) one))
