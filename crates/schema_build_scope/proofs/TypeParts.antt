-- The parts of a type are references to types, extension types and open records.
use Rattle.std.proofs.Common.{◌≡◌, Bool, true, false, List, [], ◌∷◌, ◌++◌, refl, ap, ◌∙◌}
use Rattle.std.specs.List.{flat_map}
use Rattle.schema_json.specs.declared.types.Type.{«Type», Type-F, fold-Type}
use Rattle.schema_json.specs.declared.types.Type.TheOpen.{TypeVariant-F, RecordType-F, TypeOfAttribute-F}
use Rattle.schema_json_walk.specs.Parts.{Part, type_reference, extension_type, open_record}
use Rattle.schema_json_walk.specs.Walk.{itself, visit_where, each_value, at_type, at_variant, at_record, at_attribute}
use Rattle.schema_json_walk.specs.Walk.{parts}
use Rattle.schema_json_walk.proofs.ByParts.{type_by_parts}

module _ (N : Type 0) where
  -- what may stand within a type
  abbrev pub only_within : Part N → List (Part N)
  only_within (type_reference kind name) = type_reference kind name ∷ []
  only_within (extension_type name) = extension_type name ∷ []
  only_within open_record = open_record ∷ []
  only_within _ = []

  abbrev L : Type 0
  L = List (Part N)

  type_only : (y : Type-F N L L L L) → at_type itself y ≡ at_type only_within y
  type_only (Type-F.Variant v loc) = refl
  type_only (Type-F.CommonTypeRef name loc) = refl

  variant_only : (y : TypeVariant-F N L L L L) → at_variant itself y ≡ at_variant only_within y
  variant_only TypeVariant-F.String = refl
  variant_only TypeVariant-F.Long = refl
  variant_only TypeVariant-F.Boolean = refl
  variant_only (TypeVariant-F.Set b) = refl
  variant_only (TypeVariant-F.Record r) = refl
  variant_only (TypeVariant-F.Entity n) = refl
  variant_only (TypeVariant-F.EntityOrCommon n) = refl
  variant_only (TypeVariant-F.Extension n) = refl

  where_only : (there : Bool) → visit_where itself there open_record ≡ visit_where only_within there open_record
  where_only true = refl
  where_only false = refl

  record_only : (y : RecordType-F N L L L L) → at_record itself y ≡ at_record only_within y
  record_only y = ap (λ l. l ++ each_value (λ given. given) y.attributes) (where_only y.additional_attributes)

  attribute_only : (y : TypeOfAttribute-F N L L L L) → at_attribute itself y ≡ at_attribute only_within y
  attribute_only y = refl

  -- nothing else is a part of a type
  pub parts_within : (t : «Type» N) → parts t ≡ flat_map only_within (parts t)
  parts_within t =
      (λ i. fold-Type N L L L L (λ y. type_only y i) (λ y. variant_only y i) (λ y. record_only y i)
      (λ y. attribute_only y i) t)
      ∙ type_by_parts only_within t
