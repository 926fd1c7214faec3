-- What the references of items give: open records, attributes of actions and external items give nothing.
use Rattle.std.proofs.Common.{◌≡◌, ℕ, Bool, true, false, List, [], ◌++◌, Option, Some, None, refl, sym, ap, ◌∙◌}
use Rattle.std.specs.List.{flat_map}
use Rattle.std.specs.Option.{option_map_or}
use Rattle.cedar_identifiers.specs.declared.name_text.NameText as named
use Rattle.cedar_identifiers.specs.declared.reference_type.ReferenceType.TheVariants.{Entity}
use Rattle.schema_json.specs.declared.types.Type.{«Type», Type-F, out-Type, fold_out-Type}
use Rattle.schema_json.specs.declared.types.Type.TheFolds.{map-Type}
use Rattle.schema_json.specs.declared.types.TypeVariant.{TypeVariant}
use Rattle.schema_json.specs.declared.types.RecordType.{RecordType, out-RecordType}
use Rattle.schema_json.specs.declared.types.TypeOfAttribute.{TypeOfAttribute}
use Rattle.schema_json.specs.declared.entity_type.AttributesOrContext.{AttributesOrContext}
use Rattle.schema_json.specs.declared.entity_type.EntityType.{EntityType}
use Rattle.schema_json.specs.declared.action_type.ActionType.{ActionType}
use Rattle.schema_json.specs.declared.action_type.ApplySpec.{ApplySpec}
use Rattle.schema_json_walk.proofs.Layers.{record_walked}
use Rattle.schema_json_walk.specs.Parts.{Part, open_record, external_not_bare, action_attributes}
use Rattle.schema_json_walk.specs.Walk.{visit_where, at_type, at_variant, at_record, at_attribute, at_context, of_type}
use Rattle.schema_json_walk.specs.Walk.{of_variant, of_record, of_attribute, of_entries, of_context, of_kind, of_entity}
use Rattle.schema_json_walk.specs.Walk.{of_apply, of_relations, of_action_parts, of_action}
use Rattle.schema_resolve_targets.specs.ReferenceParts.{GivenBy, by_reference}

module _ {N U : Type 0} (given : GivenBy N U) where
  nothing_where : (there : Bool) (part : Part N) → by_reference given part ≡ []
      → visit_where (by_reference given) there part ≡ []
  nothing_where true part none = none
  nothing_where false part none = refl

  pub record_told : (r : RecordType N)
      → of_record (by_reference given) r ≡ of_entries (by_reference given) (out-RecordType N r).attributes
  record_told r =
      record_walked (by_reference given) r
      ∙ ap (λ l. l ++ of_entries (by_reference given) (out-RecordType N r).attributes)
      (nothing_where (out-RecordType N r).additional_attributes open_record refl)

  at_told : (ty : Type-F N («Type» N) (TypeVariant N) (RecordType N) (TypeOfAttribute N))
      → at_context (by_reference given) ty
      ≡ at_type (by_reference given)
      (map-Type N _ _ _ _ _ _ _ _ (of_type (by_reference given)) (of_variant (by_reference given))
      (of_record (by_reference given)) (of_attribute (by_reference given)) ty)
  at_told (Type-F.Variant v loc) = refl
  at_told (Type-F.CommonTypeRef name loc) = refl

  pub context_told : (c : AttributesOrContext N) → of_context (by_reference given) c ≡ of_type (by_reference given) c.0
  context_told c =
      at_told (out-Type N c.0)
      ∙ sym (fold_out-Type N (List U) (List U) (List U) (List U) (at_type (by_reference given))
      (at_variant (by_reference given)) (at_record (by_reference given)) (at_attribute (by_reference given)) c.0)

  pub entity_told : (e : EntityType N) → of_entity (by_reference given) e ≡ of_kind (by_reference given) e.kind
  entity_told e = ap (λ l. l ++ of_kind (by_reference given) e.kind) (nothing_where _ external_not_bare refl)

  pub apply_told : (s : ApplySpec N)
      → of_apply (by_reference given) s ≡ flat_map (given.types Entity) s.principal_types
      ++ (flat_map (given.types Entity) s.resource_types ++ of_type (by_reference given) s.context.0)
  apply_told s = ap (λ l. flat_map (given.types Entity) s.principal_types
      ++ (flat_map (given.types Entity) s.resource_types ++ l)) (context_told s.context)

  no_attributes : (names : Option (List (List ℕ)))
      → option_map_or (λ n. by_reference given (action_attributes n)) names [] ≡ []
  no_attributes None = refl
  no_attributes (Some names) = refl

  pub action_told : {G : named.Ghosts N} (a : ActionType N G)
      → of_action (by_reference given) a ≡ of_relations (by_reference given) a
  action_told a =
      ap (λ l. l ++ of_action_parts (by_reference given) a) (nothing_where _ external_not_bare refl)
      ∙ ap (λ l. l ++ of_relations (by_reference given) a) (no_attributes a.attributes)
