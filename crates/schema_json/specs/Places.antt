-- A fragment and each of its parts with every place erased. The names keep theirs.
use Rattle.std.specs.Prelude.{List, map, Option, None}
use Rattle.std.specs.Option.{option_map}
use Rattle.cedar_data.specs.declared.text.Text.{Text}
use Rattle.cedar_identifiers.specs.declared.name.Name.{Name}
use Rattle.cedar_identifiers.specs.declared.name_text.NameText as named
use Rattle.cedar_identifiers.specs.declared.unreserved_id.UnreservedId.{UnreservedId}
use Rattle.schema_json.specs.declared.types.Type.{«Type», Type-F, roll-Type, fold-Type}
use Rattle.schema_json.specs.declared.types.TypeVariant.{TypeVariant, roll-TypeVariant, fold-TypeVariant}
use Rattle.schema_json.specs.declared.types.RecordType.{RecordType, roll-RecordType, fold-RecordType}
use Rattle.schema_json.specs.declared.types.TypeOfAttribute.{TypeOfAttribute, roll-TypeOfAttribute}
use Rattle.schema_json.specs.declared.types.TypeOfAttribute.{fold-TypeOfAttribute}
use Rattle.schema_json.specs.declared.common_type.CommonType.{CommonType}
use Rattle.schema_json.specs.declared.common_type.CommonTypeId.{CommonTypeId}
use Rattle.schema_json.specs.declared.entity_type.EntityType.{EntityType}
use Rattle.schema_json.specs.declared.entity_type.EntityTypeKind.{EntityTypeKind}
use Rattle.schema_json.specs.declared.entity_type.EntityTypeKind.TheVariants.{Standard, Enum}
use Rattle.schema_json.specs.declared.entity_type.StandardEntityType.{StandardEntityType}
use Rattle.schema_json.specs.declared.entity_type.AttributesOrContext.{AttributesOrContext}
use Rattle.schema_json.specs.declared.action_type.ActionType.{ActionType}
use Rattle.schema_json.specs.declared.action_type.ApplySpec.{ApplySpec}
use Rattle.schema_json.specs.declared.fragment.Fragment.{Fragment}
use Rattle.schema_json.specs.declared.fragment.NamespaceDefinition.{NamespaceDefinition}

-- the entries, with the places of their values erased
abbrev pub erased_entries : {K V : Type 0} → (V → V) → List (K × V) → List (K × V)
erased_entries {K} {V} erase entries = map (λ p. let q : K × V = (p.0, erase p.1) in q) entries

module _ {N : Type 0} where
  abbrev pub placeless : Type-F N («Type» N) (TypeVariant N) (RecordType N) (TypeOfAttribute N) → «Type» N
  placeless (Type-F.Variant ty loc) = roll-Type N (Type-F.Variant ty None)
  placeless (Type-F.CommonTypeRef name loc) = roll-Type N (Type-F.CommonTypeRef name None)

  -- a type with every place erased
  abbrev pub erased_type : «Type» N → «Type» N
  erased_type = fold-Type N («Type» N) (TypeVariant N) (RecordType N) (TypeOfAttribute N) placeless
      (roll-TypeVariant N) (roll-RecordType N) (roll-TypeOfAttribute N)

  -- what a type is made of, with every place erased
  abbrev pub erased_variant : TypeVariant N → TypeVariant N
  erased_variant = fold-TypeVariant N («Type» N) (TypeVariant N) (RecordType N) (TypeOfAttribute N) placeless
      (roll-TypeVariant N) (roll-RecordType N) (roll-TypeOfAttribute N)

  -- a record with every place erased
  abbrev pub erased_record : RecordType N → RecordType N
  erased_record = fold-RecordType N («Type» N) (TypeVariant N) (RecordType N) (TypeOfAttribute N) placeless
      (roll-TypeVariant N) (roll-RecordType N) (roll-TypeOfAttribute N)

  -- an attribute with every place erased
  abbrev pub erased_attribute : TypeOfAttribute N → TypeOfAttribute N
  erased_attribute = fold-TypeOfAttribute N («Type» N) (TypeVariant N) (RecordType N) (TypeOfAttribute N) placeless
      (roll-TypeVariant N) (roll-RecordType N) (roll-TypeOfAttribute N)

  -- a common type with every place erased
  abbrev pub erased_common_type : CommonType N → CommonType N
  erased_common_type c = record { ty = erased_type c.ty; annotations = c.annotations; loc = None }

  -- a shape or a context with every place erased
  abbrev pub erased_shape : AttributesOrContext N → AttributesOrContext N
  erased_shape s = record { 0 = erased_type s.0 }

  -- a standard entity type with every place erased
  abbrev pub erased_standard : StandardEntityType N → StandardEntityType N
  erased_standard s = record {
    member_of_types = s.member_of_types;
    shape = erased_shape s.shape;
    tags = option_map erased_type s.tags;
  }

  -- what kind of entity type it is, with every place erased
  abbrev pub erased_kind : EntityTypeKind N → EntityTypeKind N
  erased_kind (Standard s) = Standard (erased_standard s)
  erased_kind (Enum choices) = Enum choices

  -- an entity type with every place erased
  abbrev pub erased_entity_type : EntityType N → EntityType N
  erased_entity_type e = record {
    kind = erased_kind e.kind;
    external = e.external;
    annotations = e.annotations;
    loc = None;
  }

  -- what an action applies to, with every place erased
  abbrev pub erased_applies_to : ApplySpec N → ApplySpec N
  erased_applies_to a = record {
    resource_types = a.resource_types;
    principal_types = a.principal_types;
    context = erased_shape a.context;
  }

  module _ {G : named.Ghosts N} where
    -- an action with every place erased
    abbrev pub erased_action_type : ActionType N G → ActionType N G
    erased_action_type a = record {
      attributes = a.attributes;
      applies_to = option_map erased_applies_to a.applies_to;
      member_of = a.member_of;
      external = a.external;
      annotations = a.annotations;
      loc = None;
    }

    -- a namespace with every place erased
    abbrev pub erased_namespace : NamespaceDefinition N G → NamespaceDefinition N G
    erased_namespace n = record {
      common_types = erased_entries {K = CommonTypeId} erased_common_type n.common_types;
      entity_types = erased_entries {K = UnreservedId} erased_entity_type n.entity_types;
      actions = erased_entries {K = Text} erased_action_type n.actions;
      annotations = n.annotations;
    }

    -- a fragment with every place erased
    abbrev pub erased_fragment : Fragment N G → Fragment N G
    erased_fragment f = record { 0 = erased_entries {K = Option Name} erased_namespace f.0 }
