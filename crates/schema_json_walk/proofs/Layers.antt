-- The walk of a type, layer by layer.
use Rattle.std.proofs.Common.{◌≡◌, List, [], ◌++◌, Option, ap, ◌∙◌}
use Rattle.cedar_data.specs.declared.loc.Loc.{Loc}
use Rattle.cedar_identifiers.specs.declared.unreserved_id.UnreservedId.{UnreservedId}
use Rattle.cedar_identifiers.specs.declared.reference_type.ReferenceType.TheVariants.{Common, Entity, CommonOrEntity}
use Rattle.schema_json.proofs.Walks.{values_walked}
use Rattle.schema_json.proofs.Layers.{variant_made, reference_made, string_made, long_made, boolean_made, set_made}
use Rattle.schema_json.proofs.Layers.{record_made, entity_made, either_made, extension_made}
use Rattle.schema_json.specs.declared.types.Type.{«Type», Variant, CommonTypeRef}
use Rattle.schema_json.specs.declared.types.TypeVariant.{TypeVariant}
use Rattle.schema_json.specs.declared.types.TypeVariant.TheVariants.{String, Long, Boolean, Set, Record}
use Rattle.schema_json.specs.declared.types.TypeVariant.TheVariants.{EntityOrCommon}
use Rattle.schema_json.specs.declared.types.TypeVariant.TheVariants.{Extension}
use Rattle.schema_json.specs.declared.types.TypeVariant.TheVariants as variant
use Rattle.schema_json.specs.declared.types.RecordType.{RecordType, out-RecordType, fold_out-RecordType}
use Rattle.schema_json.specs.declared.types.TypeOfAttribute.{TypeOfAttribute, out-TypeOfAttribute}
use Rattle.schema_json.specs.declared.types.TypeOfAttribute.{fold_out-TypeOfAttribute}
use Rattle.schema_json_walk.specs.Parts.{Part, type_reference, extension_type, open_record}
use Rattle.schema_json_walk.specs.Walk.{visit_where, at_type, at_variant, at_record, at_attribute, of_type, of_variant}
use Rattle.schema_json_walk.specs.Walk.{of_record, of_attribute, of_entries}

module _ {N U : Type 0} (visit : Part N → List U) where
  pub record_walked : (r : RecordType N)
      → of_record visit r ≡ visit_where visit (out-RecordType N r).additional_attributes open_record
      ++ of_entries visit (out-RecordType N r).attributes
  record_walked r =
      fold_out-RecordType N (List U) (List U) (List U) (List U) (at_type visit) (at_variant visit) (at_record visit)
      (at_attribute visit) r
      ∙ ap (λ l. visit_where visit (out-RecordType N r).additional_attributes open_record ++ l)
      (values_walked (of_attribute visit) (out-RecordType N r).attributes)

  pub type_walked : (v : TypeVariant N) (loc : Option Loc) → of_type visit (Variant v loc) ≡ of_variant visit v
  type_walked v loc = variant_made N (at_type visit) (at_variant visit) (at_record visit) (at_attribute visit) v loc

  pub reference_walked : (n : N) (loc : Option Loc)
      → of_type visit (CommonTypeRef n loc) ≡ visit (type_reference Common n)
  reference_walked n loc =
      reference_made N (at_type visit) (at_variant visit) (at_record visit) (at_attribute visit) n loc

  pub variant_walked : (r : RecordType N) → of_variant visit (Record r) ≡ of_record visit r
  variant_walked r = record_made N (at_type visit) (at_variant visit) (at_record visit) (at_attribute visit) r

  pub set_walked : (t : «Type» N) → of_variant visit (Set t) ≡ of_type visit t
  set_walked t = set_made N (at_type visit) (at_variant visit) (at_record visit) (at_attribute visit) t

  pub entity_walked : (n : N) → of_variant visit (variant.Entity n) ≡ visit (type_reference Entity n)
  entity_walked n = entity_made N (at_type visit) (at_variant visit) (at_record visit) (at_attribute visit) n

  pub either_walked : (n : N) → of_variant visit (EntityOrCommon n) ≡ visit (type_reference CommonOrEntity n)
  either_walked n = either_made N (at_type visit) (at_variant visit) (at_record visit) (at_attribute visit) n

  pub extension_walked : (id : UnreservedId) → of_variant visit (Extension id) ≡ visit (extension_type id)
  extension_walked id = extension_made N (at_type visit) (at_variant visit) (at_record visit) (at_attribute visit) id

  pub string_walked : of_variant visit String ≡ []
  string_walked = string_made N (at_type visit) (at_variant visit) (at_record visit) (at_attribute visit)

  pub long_walked : of_variant visit Long ≡ []
  long_walked = long_made N (at_type visit) (at_variant visit) (at_record visit) (at_attribute visit)

  pub boolean_walked : of_variant visit Boolean ≡ []
  boolean_walked = boolean_made N (at_type visit) (at_variant visit) (at_record visit) (at_attribute visit)

  pub attribute_walked : (a : TypeOfAttribute N) → of_attribute visit a ≡ of_type visit (out-TypeOfAttribute N a).ty
  attribute_walked a =
      fold_out-TypeOfAttribute N (List U) (List U) (List U) (List U) (at_type visit) (at_variant visit)
      (at_record visit) (at_attribute visit) a
