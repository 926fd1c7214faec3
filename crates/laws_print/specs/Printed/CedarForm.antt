-- A fragment in the form that its text has: each reference in a type may mean either kind of type, and what each schema
-- has is referred to by its `__cedar` name.
use Rattle.std.specs.Prelude.{ℕ, Bool, true, false, List, [], ◌∷◌, ◌||◌, map, codes, Option, Some, None, refl}
use Rattle.std.specs.Prelude.{if◌then◌else◌}
use Rattle.std.specs.List.{filter_map}
use Rattle.std.specs.Option.{option_map}
use Rattle.cedar_identifiers.specs.declared.id.Id.{Id}
use Rattle.cedar_identifiers.specs.declared.name.Name.{Name}
use Rattle.cedar_identifiers.specs.declared.raw_name.RawName.{RawName}
use Rattle.cedar_identifiers.specs.declared.unreserved_id.UnreservedId.{UnreservedId}
use Rattle.schema_json.specs.Shapes.{empty_record, record_type}
use Rattle.schema_json.specs.declared.types.Type.{«Type», Type-F, roll-Type, out-Type, fold-Type}
use Rattle.schema_json.specs.declared.types.Type.TheVariants.{CommonTypeRef}
use Rattle.schema_json.specs.declared.types.TypeVariant.{TypeVariant, TypeVariant-F, roll-TypeVariant, fold-TypeVariant}
use Rattle.schema_json.specs.declared.types.RecordType.{RecordType, roll-RecordType, fold-RecordType}
use Rattle.schema_json.specs.declared.types.TypeOfAttribute.{TypeOfAttribute, roll-TypeOfAttribute}
use Rattle.schema_json.specs.declared.types.TypeOfAttribute.{fold-TypeOfAttribute}
use Rattle.schema_json.specs.declared.common_type.CommonType.{CommonType}
use Rattle.schema_json.specs.declared.common_type.CommonTypeId.{CommonTypeId}
use Rattle.schema_json.specs.declared.entity_type.EntityType.{EntityType}
use Rattle.schema_json.specs.declared.entity_type.EntityTypeKind.{EntityTypeKind}
use Rattle.schema_json.specs.declared.entity_type.EntityTypeKind.TheVariants.{Standard, Enum}
use Rattle.schema_json.specs.declared.action_type.ActionEntityUID.{ActionEntityUID}
use Rattle.schema_json.specs.declared.action_type.ActionType.{ActionType}
use Rattle.schema_json.specs.declared.action_type.ApplySpec.{ApplySpec}
use Rattle.schema_json.specs.declared.fragment.Fragment.{Fragment}
use Rattle.schema_json.specs.declared.fragment.NamespaceDefinition.{NamespaceDefinition}
use Rattle.schema_json.specs.AsWritten.{as_written}
use Rattle.schema_resolve_lookup.specs.Sought.{is_some_list}

abbrev id_in_cedar : Id
id_in_cedar = record { text = codes "__cedar"; word = refl }

-- the name in `__cedar`
abbrev pub builtin_name : Id → RawName
builtin_name id = record { name = record { first = id_in_cedar; others = id ∷ []; loc = None } }

abbrev pub bool_name : RawName
bool_name = builtin_name (record { text = codes "Bool"; word = refl })

abbrev pub long_name : RawName
long_name = builtin_name (record { text = codes "Long"; word = refl })

abbrev pub string_name : RawName
string_name = builtin_name (record { text = codes "String"; word = refl })

-- a reference that may mean either
abbrev either_way : RawName → TypeVariant RawName
either_way name = roll-TypeVariant RawName (TypeVariant-F.EntityOrCommon name)

abbrev pub cedar_layer : Type-F RawName («Type» RawName) (TypeVariant RawName) (RecordType RawName)
    (TypeOfAttribute RawName)
    → «Type» RawName
cedar_layer (Type-F.Variant ty loc) = roll-Type RawName (Type-F.Variant ty loc)
cedar_layer (Type-F.CommonTypeRef name loc) = roll-Type RawName (Type-F.Variant (either_way name) loc)

abbrev pub cedar_variant_layer :
    TypeVariant-F RawName («Type» RawName) (TypeVariant RawName) (RecordType RawName) (TypeOfAttribute RawName)
    → TypeVariant RawName
cedar_variant_layer TypeVariant-F.String = either_way string_name
cedar_variant_layer TypeVariant-F.Long = either_way long_name
cedar_variant_layer TypeVariant-F.Boolean = either_way bool_name
cedar_variant_layer (TypeVariant-F.Set element) = roll-TypeVariant RawName (TypeVariant-F.Set element)
cedar_variant_layer (TypeVariant-F.Record r) = roll-TypeVariant RawName (TypeVariant-F.Record r)
cedar_variant_layer (TypeVariant-F.Entity name) = either_way name
cedar_variant_layer (TypeVariant-F.EntityOrCommon name) = either_way name
cedar_variant_layer (TypeVariant-F.Extension name) = either_way (builtin_name name.id)

-- a type in the form that its text has, and so each type in it
abbrev pub cedar_type : «Type» RawName → «Type» RawName
cedar_type =
    fold-Type RawName («Type» RawName) (TypeVariant RawName) (RecordType RawName) (TypeOfAttribute RawName) cedar_layer
    cedar_variant_layer (roll-RecordType RawName) (roll-TypeOfAttribute RawName)

abbrev pub cedar_variant : TypeVariant RawName → TypeVariant RawName
cedar_variant =
    fold-TypeVariant RawName («Type» RawName) (TypeVariant RawName) (RecordType RawName) (TypeOfAttribute RawName)
    cedar_layer cedar_variant_layer (roll-RecordType RawName) (roll-TypeOfAttribute RawName)

abbrev pub cedar_record : RecordType RawName → RecordType RawName
cedar_record =
    fold-RecordType RawName («Type» RawName) (TypeVariant RawName) (RecordType RawName) (TypeOfAttribute RawName)
    cedar_layer cedar_variant_layer (roll-RecordType RawName) (roll-TypeOfAttribute RawName)

abbrev pub cedar_attribute : TypeOfAttribute RawName → TypeOfAttribute RawName
cedar_attribute =
    fold-TypeOfAttribute RawName («Type» RawName) (TypeVariant RawName) (RecordType RawName) (TypeOfAttribute RawName)
    cedar_layer cedar_variant_layer (roll-RecordType RawName) (roll-TypeOfAttribute RawName)

abbrev pub cedar_outside :
    Type-F RawName («Type» RawName) (TypeVariant RawName) (RecordType RawName) (TypeOfAttribute RawName)
    → «Type» RawName → «Type» RawName
cedar_outside (Type-F.Variant ty loc) context = cedar_type context
cedar_outside (Type-F.CommonTypeRef name loc) context = CommonTypeRef name loc

-- a context that is a reference to a common type stays one
abbrev pub cedar_context : «Type» RawName → «Type» RawName
cedar_context context = cedar_outside (out-Type RawName context) context

abbrev pub cedar_common : CommonType RawName → CommonType RawName
cedar_common c = record { ty = cedar_type c.ty; annotations = c.annotations; loc = c.loc }

abbrev pub cedar_kind : EntityTypeKind RawName → EntityTypeKind RawName
cedar_kind (Standard s) =
    Standard (record {
      member_of_types = s.member_of_types;
      shape = record { 0 = cedar_type s.shape.0 };
      tags =
          option_map cedar_type s.tags;
    })
cedar_kind (Enum choices) = Enum choices

abbrev pub cedar_entity : EntityType RawName → EntityType RawName
cedar_entity e = record { kind = cedar_kind e.kind; external = e.external; annotations = e.annotations; loc = e.loc }

-- a parent without a type has the type `Action`
abbrev pub action_type_name : RawName
action_type_name =
    record { name = record { first = record { text = codes "Action"; word = refl }; others = []; loc = None } }

abbrev pub type_or_action : Option RawName → RawName
type_or_action None = action_type_name
type_or_action (Some ty) = ty

abbrev pub cedar_parent : ActionEntityUID RawName as_written → ActionEntityUID RawName as_written
cedar_parent r = record { id = r.id; ty = Some (type_or_action r.ty); typed = refl }

-- no parents are absent ones
abbrev pub cedar_parents : Option (List (ActionEntityUID RawName as_written))
    → Option (List (ActionEntityUID RawName as_written))
cedar_parents None = None
cedar_parents (Some []) = None
cedar_parents (Some (p ∷ ps)) = Some (map cedar_parent (p ∷ ps))

abbrev pub cedar_spec : ApplySpec RawName → ApplySpec RawName
cedar_spec s =
    record {
      resource_types = s.resource_types;
      principal_types = s.principal_types;
      context =
          record { 0 = cedar_context s.context.0 };
    }

abbrev pub applied_to_none : ApplySpec RawName
applied_to_none =
    record { resource_types = []; principal_types = []; context = record { 0 = record_type empty_record } }

-- an action that is declared here and says nothing of what it applies to applies to nothing
abbrev pub cedar_applies : Bool → Option (ApplySpec RawName) → Option (ApplySpec RawName)
cedar_applies true spec = spec
cedar_applies false None = Some applied_to_none
cedar_applies false (Some spec) = Some (cedar_spec spec)

abbrev pub cedar_action : ActionType RawName as_written → ActionType RawName as_written
cedar_action a = record {
  attributes = a.attributes;
  applies_to = cedar_applies a.external a.applies_to;
  member_of = cedar_parents a.member_of;
  external = a.external;
  annotations = a.annotations;
  loc = a.loc;
}

-- the entries with their values so
abbrev pub changed_values : {K V : Type 0} → (V → V) → List (K × V) → List (K × V)
changed_values {K} {V} change entries = map (λ e. let p : K × V = (e.0, change e.1) in p) entries

abbrev pub cedar_namespace : NamespaceDefinition RawName as_written → NamespaceDefinition RawName as_written
cedar_namespace n = record {
  common_types = changed_values {K = CommonTypeId} cedar_common n.common_types;
  entity_types = changed_values {K = UnreservedId} cedar_entity n.entity_types;
  actions = changed_values {K = List ℕ} cedar_action n.actions;
  annotations = n.annotations;
}

-- something is declared in it
abbrev pub declares : NamespaceDefinition RawName as_written → Bool
declares n = is_some_list n.common_types || (is_some_list n.entity_types || is_some_list n.actions)

abbrev pub Block : Type 0
Block = Option Name × NamespaceDefinition RawName as_written

abbrev pub cedar_block : Block → Option Block
cedar_block (None, n) = if declares n then Some (None, cedar_namespace n) else None
cedar_block (Some name, n) = Some (Some name, cedar_namespace n)

-- A fragment in the form that its text has. The empty namespace is gone where it declares nothing.
abbrev pub cedar_form : Fragment RawName as_written → Fragment RawName as_written
cedar_form f = record { 0 = filter_map cedar_block f.0 }
