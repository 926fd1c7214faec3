-- Walks that find nothing: then nothing is found in any type of the fragment.
use Rattle.std.proofs.Common.{◌≡◌, ℕ, zero, suc, List, [], ◌∷◌, ◌++◌, Contains, Option, Some, refl}
use Rattle.std.proofs.Common.{sym, ◌∙◌, subst, arith}
use Rattle.std.specs.List.{flat_map}
use Rattle.std.specs.Option.{option_map_or}
use Rattle.cedar_data.proofs.Lists.{empty_before, empty_behind}
use Rattle.cedar_identifiers.specs.declared.name.Name.{Name}
use Rattle.cedar_identifiers.specs.declared.name_text.NameText as named
use Rattle.cedar_identifiers.specs.declared.reference_type.ReferenceType.TheVariants.{Common}
use Rattle.cedar_identifiers.specs.declared.unreserved_id.UnreservedId.{UnreservedId}
use Rattle.schema_json.specs.declared.action_type.ActionType.{ActionType}
use Rattle.schema_json.specs.declared.action_type.ApplySpec.{ApplySpec}
use Rattle.schema_json.specs.declared.common_type.CommonType.{CommonType}
use Rattle.schema_json.specs.declared.common_type.CommonTypeId.{CommonTypeId}
use Rattle.schema_json.specs.declared.entity_type.AttributesOrContext.{AttributesOrContext}
use Rattle.schema_json.specs.declared.entity_type.EntityType.{EntityType}
use Rattle.schema_json.specs.declared.entity_type.EntityTypeKind.TheVariants.{Standard}
use Rattle.schema_json.specs.declared.entity_type.StandardEntityType.{StandardEntityType}
use Rattle.schema_json.specs.declared.fragment.Fragment.{Fragment}
use Rattle.schema_json.specs.declared.fragment.NamespaceDefinition.{NamespaceDefinition}
use Rattle.schema_json.specs.declared.types.Type.{«Type», Type-F, out-Type, fold_out-Type}
use Rattle.schema_json.specs.declared.types.Type.TheFolds.{map-Type}
use Rattle.schema_json.specs.declared.types.TypeVariant.{TypeVariant}
use Rattle.schema_json.specs.declared.types.RecordType.{RecordType}
use Rattle.schema_json.specs.declared.types.TypeOfAttribute.{TypeOfAttribute}
use Rattle.schema_json_walk.specs.Parts.{Part, type_reference, context_reference, parent}
use Rattle.schema_json_walk.specs.Walk.{at_type, at_variant, at_record, at_attribute, at_context, of_type, of_variant}
use Rattle.schema_json_walk.specs.Walk.{of_record, of_attribute, of_context, of_common, of_kind, of_entity, of_apply}
use Rattle.schema_json_walk.specs.Walk.{of_items, of_action, of_action_parts, of_relations, of_namespace, of_entry}
use Rattle.schema_json_walk.specs.Walk.{of_fragment, of_parents}

-- what is said of a list, and then of each of its parts
pub record IsOfParts {U : Type 0} (Quiet : List U → Type 0) : Type 0 where
  pub left : (a b : List U) → Quiet (a ++ b) → Quiet a
  pub right : (a b : List U) → Quiet (a ++ b) → Quiet b

module _ {U : Type 0} (Quiet : List U → Type 0) (parted : IsOfParts Quiet) where
  -- of each item of a list
  pub quiet_in : {A : Type 0} (f : A → List U) (xs : List A) (x : A) → Contains xs x → Quiet (flat_map f xs)
      → Quiet (f x)
  quiet_in f [] x (k, lt, is) q = absurd (omega (arith, lt))
  quiet_in f (y ∷ ys) x (zero, lt, is) q = subst (λ z. Quiet (f z)) is (parted.left (f y) (flat_map f ys) q)
  quiet_in f (y ∷ ys) x (suc k, lt, is) q =
      quiet_in f ys x (k, omega arith, is) (parted.right (f y) (flat_map f ys) q)

  quiet_some : {A : Type 0} (f : A → List U) (o : Option A) (a : A) → o ≡ Some a → Quiet (option_map_or f o [])
      → Quiet (f a)
  quiet_some f o a e q = subst (λ p. Quiet (option_map_or f p [])) e q

  module _ {N : Type 0} (visit : Part N → List U)
      (alike : (name : N) → visit (context_reference name) ≡ visit (type_reference Common name)) where
    at_alike : (ty : Type-F N («Type» N) (TypeVariant N) (RecordType N) (TypeOfAttribute N))
        → at_context visit ty ≡ at_type visit
        (map-Type N _ _ _ _ _ _ _ _ (of_type visit) (of_variant visit) (of_record visit) (of_attribute visit) ty)
    at_alike (Type-F.Variant v loc) = refl
    at_alike (Type-F.CommonTypeRef name loc) = alike name

    context_alike : (c : AttributesOrContext N) → of_context visit c ≡ of_type visit c.0
    context_alike c =
        at_alike (out-Type N c.0)
        ∙ sym (fold_out-Type N (List U) (List U) (List U) (List U) (at_type visit) (at_variant visit)
        (at_record visit) (at_attribute visit) c.0)

    module _ {G : named.Ghosts N} (n : NamespaceDefinition N G) (q : Quiet (of_namespace visit n)) where
      pub quiet_common : (e : CommonTypeId × CommonType N) → Contains n.common_types e → Quiet (of_type visit e.1.ty)
      quiet_common e among =
          quiet_in (λ (d : CommonTypeId × CommonType N). of_common visit d.1) n.common_types e among
          (parted.left _ (of_items visit n) q)

      quiet_kind : (e : UnreservedId × EntityType N) → Contains n.entity_types e → Quiet (of_kind visit e.1.kind)
      quiet_kind e among =
          parted.right _ (of_kind visit e.1.kind)
          (quiet_in (λ (d : UnreservedId × EntityType N). of_entity visit d.1) n.entity_types e among
          (parted.left _ _ (parted.right _ (of_items visit n) q)))

      quiet_standard : (e : UnreservedId × EntityType N) (s : StandardEntityType N) → Contains n.entity_types e
          → e.1.kind ≡ Standard s → Quiet (of_type visit s.shape.0 ++ option_map_or (of_type visit) s.tags [])
      quiet_standard e s among is =
          parted.right _ _ (subst (λ k. Quiet (of_kind visit k)) is (quiet_kind e among))

      pub quiet_shape : (e : UnreservedId × EntityType N) (s : StandardEntityType N) → Contains n.entity_types e
          → e.1.kind ≡ Standard s → Quiet (of_type visit s.shape.0)
      quiet_shape e s among is = parted.left _ _ (quiet_standard e s among is)

      pub quiet_tags : (e : UnreservedId × EntityType N) (s : StandardEntityType N) (ty : «Type» N)
          → Contains n.entity_types e → e.1.kind ≡ Standard s → s.tags ≡ Some ty → Quiet (of_type visit ty)
      quiet_tags e s ty among is there =
          quiet_some (of_type visit) s.tags ty there
          (parted.right (of_type visit s.shape.0) _ (quiet_standard e s among is))

      pub quiet_parent : (e : UnreservedId × EntityType N) (s : StandardEntityType N) (p : N)
          → Contains n.entity_types e → e.1.kind ≡ Standard s → Contains s.member_of_types p → Quiet (visit (parent p))
      quiet_parent e s p among is there =
          quiet_in (λ name. visit (parent name)) s.member_of_types p there
          (parted.left (of_parents visit s.member_of_types) _
          (subst (λ k. Quiet (of_kind visit k)) is (quiet_kind e among)))

      quiet_action : (e : List ℕ × ActionType N G) → Contains n.actions e → Quiet (of_relations visit e.1)
      quiet_action e among =
          parted.right _ (of_relations visit e.1)
          (parted.right _ (of_action_parts visit e.1)
          (quiet_in (λ (d : List ℕ × ActionType N G). of_action visit d.1) n.actions e among
          (parted.right _ _ (parted.right _ (of_items visit n) q))))

      pub quiet_context : (e : List ℕ × ActionType N G) (a : ApplySpec N) → Contains n.actions e
          → e.1.applies_to ≡ Some a → Quiet (of_type visit a.context.0)
      quiet_context e a among is =
          subst Quiet (context_alike a.context)
          (parted.right _ _ (parted.right _ _
          (quiet_some (of_apply visit) e.1.applies_to a is (parted.right _ _ (quiet_action e among)))))

  -- of each namespace of a fragment
  pub quiet_namespace : {N : Type 0} {G : named.Ghosts N} (visit : Option Name → Part N → List U) (f : Fragment N G)
      (ns : Option Name) (n : NamespaceDefinition N G) → Contains f.0 (ns, n) → Quiet (of_fragment visit f)
      → Quiet (of_namespace (visit ns) n)
  quiet_namespace {N} {G} visit f ns n among q = quiet_in (of_entry visit) f.0 (ns, n) among q

-- nothing is there
pub empty_parted : {U : Type 0} → IsOfParts (λ (us : List U). us ≡ [])
empty_parted {U} = record { left = empty_before; right = empty_behind }
