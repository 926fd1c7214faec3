-- A fragment with every place erased, those of its names too.
use Rattle.std.specs.Prelude.{ℕ, List, map, Option, None, refl}
use Rattle.std.specs.Option.{option_map}
use Rattle.cedar_identifiers.specs.declared.name.Name.{Name}
use Rattle.cedar_identifiers.specs.declared.raw_name.RawName.{RawName}
use Rattle.cedar_identifiers.specs.declared.unreserved_id.UnreservedId.{UnreservedId}
use Rattle.schema_json.specs.declared.common_type.CommonType.{CommonType}
use Rattle.schema_json.specs.declared.common_type.CommonTypeId.{CommonTypeId}
use Rattle.schema_json.specs.declared.entity_type.AttributesOrContext.{AttributesOrContext}
use Rattle.schema_json.specs.declared.entity_type.EntityType.{EntityType}
use Rattle.schema_json.specs.declared.entity_type.EntityTypeKind.{EntityTypeKind}
use Rattle.schema_json.specs.declared.entity_type.EntityTypeKind.TheVariants.{Standard, Enum}
use Rattle.schema_json.specs.declared.action_type.ActionEntityUID.{ActionEntityUID}
use Rattle.schema_json.specs.declared.action_type.ActionType.{ActionType}
use Rattle.schema_json.specs.declared.action_type.ApplySpec.{ApplySpec}
use Rattle.schema_json.specs.declared.fragment.Fragment.{Fragment}
use Rattle.schema_json.specs.declared.fragment.NamespaceDefinition.{NamespaceDefinition}
use Rattle.schema_json.specs.AsWritten.{as_written}
use Rattle.laws_translate.specs.Bare.{bare_internal, bare_name, bare}

abbrev pub bare_declared : Name → Name
bare_declared n = record { name = bare_internal n.name; unreserved = n.unreserved }

-- the entries with their keys and values so
abbrev pub bare_entries : {K V : Type 0} → (K → K) → (V → V) → List (K × V) → List (K × V)
bare_entries {K} {V} key value entries = map (λ e. let p : K × V = (key e.0, value e.1) in p) entries

abbrev pub bare_common : CommonType RawName → CommonType RawName
bare_common c = record { ty = bare c.ty; annotations = c.annotations; loc = None }

abbrev pub bare_shape : AttributesOrContext RawName → AttributesOrContext RawName
bare_shape s = record { 0 = bare s.0 }

abbrev pub bare_kind : EntityTypeKind RawName → EntityTypeKind RawName
bare_kind (Standard s) =
    Standard (record {
      member_of_types = map bare_name s.member_of_types;
      shape = bare_shape s.shape;
      tags =
          option_map bare s.tags;
    })
bare_kind (Enum choices) = Enum choices

abbrev pub bare_entity : EntityType RawName → EntityType RawName
bare_entity e = record { kind = bare_kind e.kind; external = e.external; annotations = e.annotations; loc = None }

abbrev pub bare_spec : ApplySpec RawName → ApplySpec RawName
bare_spec s =
    record {
      resource_types = map bare_name s.resource_types;
      principal_types =
          map bare_name s.principal_types;
      context = bare_shape s.context;
    }

abbrev pub bare_ref : ActionEntityUID RawName as_written → ActionEntityUID RawName as_written
bare_ref r = record { id = r.id; ty = option_map bare_name r.ty; typed = refl }

abbrev pub bare_action : ActionType RawName as_written → ActionType RawName as_written
bare_action a = record {
  attributes = a.attributes;
  applies_to = option_map bare_spec a.applies_to;
  member_of = option_map (map bare_ref) a.member_of;
  external = a.external;
  annotations = a.annotations;
  loc = None;
}

abbrev pub bare_namespace : NamespaceDefinition RawName as_written → NamespaceDefinition RawName as_written
bare_namespace n = record {
  common_types = bare_entries {K = CommonTypeId} (λ id. id) bare_common n.common_types;
  entity_types = bare_entries {K = UnreservedId} (λ id. id) bare_entity n.entity_types;
  actions = bare_entries {K = List ℕ} (λ id. id) bare_action n.actions;
  annotations = n.annotations;
}

-- a fragment with every place erased, those of its names too
abbrev pub bare_fragment : Fragment RawName as_written → Fragment RawName as_written
bare_fragment f = record { 0 = bare_entries {K = Option Name} (option_map bare_declared) bare_namespace f.0 }
