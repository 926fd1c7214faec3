-- Resolved fragments that say the same. What every schema has may be written out or be referred to as the common type
-- of its name in `__cedar`. An action without a list of parents counts as one with none in its list, and one of the
-- schema itself that does not say what it applies to as one that applies to nothing.
use Rattle.std.specs.Prelude.{◌≡◌, Bool, true, false, ◌||◌, List, [], map, Option, Some, None, if◌then◌else◌}
use Rattle.std.specs.List.{filter_map}
use Rattle.std.specs.Option.{option_map}
use Rattle.cedar_data.specs.Entries.{on_value}
use Rattle.cedar_data.specs.declared.loc.Loc.{Loc}
use Rattle.cedar_identifiers.specs.Names.{components_of}
use Rattle.cedar_identifiers.specs.declared.internal_name.InternalName.{InternalName}
use Rattle.cedar_identifiers.specs.declared.name.Name.{Name}
use Rattle.cedar_identifiers.specs.declared.name_text.NameText as named
use Rattle.cedar_identifiers.specs.declared.raw_name.RawName.{RawName}
use Rattle.schema_json.specs.Shapes.{empty_record, record_type}
use Rattle.schema_json.specs.declared.action_type.ActionType.{ActionType}
use Rattle.schema_json.specs.declared.action_type.ApplySpec.{ApplySpec}
use Rattle.schema_json.specs.declared.common_type.CommonType.{CommonType}
use Rattle.schema_json.specs.declared.entity_type.AttributesOrContext.{AttributesOrContext}
use Rattle.schema_json.specs.declared.entity_type.EntityType.{EntityType}
use Rattle.schema_json.specs.declared.entity_type.EntityTypeKind.{EntityTypeKind}
use Rattle.schema_json.specs.declared.entity_type.EntityTypeKind.TheVariants.{Standard, Enum}
use Rattle.schema_json.specs.declared.fragment.Fragment.{Fragment}
use Rattle.schema_json.specs.declared.fragment.NamespaceDefinition.{NamespaceDefinition}
use Rattle.schema_json.specs.declared.types.Type.{«Type», Type-F, roll-Type, fold-Type}
use Rattle.schema_json.specs.declared.types.TypeVariant.{TypeVariant-F, roll-TypeVariant}
use Rattle.schema_json.specs.declared.types.RecordType.{RecordType, RecordType-F, roll-RecordType}
use Rattle.schema_json.specs.declared.types.TypeOfAttribute.{TypeOfAttribute, TypeOfAttribute-F, roll-TypeOfAttribute}
use Rattle.schema_resolve_lookup.specs.Sought.{is_some_list}
use Rattle.laws_print.specs.Printed.CedarForm.{builtin_name, bool_name, long_name, string_name}

-- names that are resolved, each with all that it is behind
abbrev pub as_resolved : named.Ghosts InternalName
as_resolved = record { TYPED = true; components = components_of }

-- a type at a place, by its shape
abbrev pub Shaped : Type 0
Shaped = Option Loc → «Type» InternalName

-- the common type of a name in `__cedar`
abbrev pub common_named : RawName → Option Loc → «Type» InternalName
common_named name loc = roll-Type InternalName (Type-F.CommonTypeRef name.name loc)

abbrev pub referred_layer : Type-F InternalName («Type» InternalName) Shaped (RecordType InternalName)
    (TypeOfAttribute InternalName) → «Type» InternalName
referred_layer (Type-F.Variant shape loc) = shape loc
referred_layer (Type-F.CommonTypeRef name loc) = roll-Type InternalName (Type-F.CommonTypeRef name loc)

abbrev pub referred_shape : TypeVariant-F InternalName («Type» InternalName) Shaped (RecordType InternalName)
    (TypeOfAttribute InternalName) → Shaped
referred_shape TypeVariant-F.String loc = common_named string_name loc
referred_shape TypeVariant-F.Long loc = common_named long_name loc
referred_shape TypeVariant-F.Boolean loc = common_named bool_name loc
referred_shape (TypeVariant-F.Set element) loc =
    roll-Type InternalName (Type-F.Variant (roll-TypeVariant InternalName (TypeVariant-F.Set element)) loc)
referred_shape (TypeVariant-F.Record r) loc =
    roll-Type InternalName (Type-F.Variant (roll-TypeVariant InternalName (TypeVariant-F.Record r)) loc)
referred_shape (TypeVariant-F.Entity name) loc =
    roll-Type InternalName (Type-F.Variant (roll-TypeVariant InternalName (TypeVariant-F.Entity name)) loc)
referred_shape (TypeVariant-F.EntityOrCommon name) loc =
    roll-Type InternalName (Type-F.Variant (roll-TypeVariant InternalName (TypeVariant-F.EntityOrCommon name)) loc)
referred_shape (TypeVariant-F.Extension name) loc = common_named (builtin_name name.id) loc

abbrev pub referred_fields : RecordType-F InternalName («Type» InternalName) Shaped (RecordType InternalName)
    (TypeOfAttribute InternalName) → RecordType InternalName
referred_fields r =
    roll-RecordType InternalName
    (record { attributes = r.attributes; additional_attributes = r.additional_attributes })

abbrev pub referred_field : TypeOfAttribute-F InternalName («Type» InternalName) Shaped (RecordType InternalName)
    (TypeOfAttribute InternalName) → TypeOfAttribute InternalName
referred_field a =
    roll-TypeOfAttribute InternalName (record { ty = a.ty; annotations = a.annotations; required = a.required })

-- the type in which what every schema has is referred to
abbrev pub referred : «Type» InternalName → «Type» InternalName
referred =
    fold-Type InternalName («Type» InternalName) Shaped (RecordType InternalName) (TypeOfAttribute InternalName)
    referred_layer referred_shape referred_fields referred_field

abbrev pub referred_common : CommonType InternalName → CommonType InternalName
referred_common c = record { ty = referred c.ty; annotations = c.annotations; loc = c.loc }

abbrev pub referred_inside : AttributesOrContext InternalName → AttributesOrContext InternalName
referred_inside c = record { 0 = referred c.0 }

abbrev pub referred_kind : EntityTypeKind InternalName → EntityTypeKind InternalName
referred_kind (Standard s) =
    Standard (record {
      member_of_types = s.member_of_types;
      shape = referred_inside s.shape;
      tags = option_map referred s.tags;
    })
referred_kind (Enum choices) = Enum choices

-- an entity type: parents stay, and its types are read so
abbrev pub referred_entity : EntityType InternalName → EntityType InternalName
referred_entity e = record {
  kind = referred_kind e.kind;
  external = e.external;
  annotations = e.annotations;
  loc = e.loc;
}

abbrev pub referred_spec : ApplySpec InternalName → ApplySpec InternalName
referred_spec s = record {
  resource_types = s.resource_types;
  principal_types = s.principal_types;
  context = referred_inside s.context;
}

abbrev pub resolved_to_nothing : ApplySpec InternalName
resolved_to_nothing =
    record { resource_types = []; principal_types = []; context = record { 0 = record_type empty_record } }

-- what an action applies to: nothing where it is of the schema itself and does not say it
abbrev pub referred_applies : Bool → Option (ApplySpec InternalName) → Option (ApplySpec InternalName)
referred_applies true None = None
referred_applies false None = Some resolved_to_nothing
referred_applies external (Some spec) = Some (referred_spec spec)

-- no list is the empty one
abbrev pub list_or_empty : {A : Type 0} → Option (List A) → Option (List A)
list_or_empty None = Some []
list_or_empty (Some items) = Some items

module _ {H : named.Ghosts InternalName} where
  -- an action: principals, resources and parents stay, and its types are read so
  abbrev pub referred_action : ActionType InternalName H → ActionType InternalName H
  referred_action a = record {
    attributes = a.attributes;
    applies_to = referred_applies a.external a.applies_to;
    member_of = list_or_empty a.member_of;
    external = a.external;
    annotations = a.annotations;
    loc = a.loc;
  }

  abbrev pub referred_namespace : NamespaceDefinition InternalName H → NamespaceDefinition InternalName H
  referred_namespace n = record {
    common_types = map (on_value referred_common) n.common_types;
    entity_types = map (on_value referred_entity) n.entity_types;
    actions = map (on_value referred_action) n.actions;
    annotations = n.annotations;
  }

  abbrev pub declares_some : NamespaceDefinition InternalName H → Bool
  declares_some n = is_some_list n.common_types || (is_some_list n.entity_types || is_some_list n.actions)

  -- the empty namespace counts where it declares something
  abbrev pub referred_block : Option Name × NamespaceDefinition InternalName H
      → Option (Option Name × NamespaceDefinition InternalName H)
  referred_block (None, n) = if declares_some n then Some (None, referred_namespace n) else None
  referred_block (Some name, n) = Some (Some name, referred_namespace n)

  -- Both resolved fragments are equal once in each what every schema has is referred to by its name in `__cedar`; what
  -- an action leaves out, its parents or (unless it is external) what it applies to, is empty; and the empty namespace
  -- is gone where it declares nothing.
  abbrev pub AreAlike : Fragment InternalName H → Fragment InternalName H → Type 0
  AreAlike f g = filter_map referred_block f.0 ≡ filter_map referred_block g.0
