-- The common types that a fragment declares, under their full names.
use Rattle.std.specs.Prelude.{List, map, Option}
use Rattle.std.specs.List.{flat_map}
use Rattle.cedar_data.specs.Maps.{map_of}
use Rattle.cedar_identifiers.specs.declared.internal_name.InternalName.{InternalName}
use Rattle.cedar_identifiers.specs.declared.name.Name.{Name}
use Rattle.cedar_identifiers.specs.declared.name_text.NameText as named
use Rattle.cedar_identifiers.specs.declared.raw_name.RawName.{RawName}
use Rattle.cedar_names.specs.Orders.{names_in_order}
use Rattle.schema_json.specs.declared.common_type.CommonType.{CommonType}
use Rattle.schema_json.specs.declared.common_type.CommonTypeId.{CommonTypeId}
use Rattle.schema_json.specs.declared.fragment.Fragment.{Fragment}
use Rattle.schema_json.specs.declared.types.Type.{«Type»}
use Rattle.schema_resolve_definitions.specs.Declarations.{name_of}
use Rattle.schema_build_checks.specs.DeclaredAt.{declared_at}

-- a type, and the namespace that it is written in
pub record TypeAt : Type 0 where
  pub place : Option InternalName
  pub ty : «Type» RawName

-- a declared common type under its full name, at the place of its declaration
abbrev pub full_common_entry : Option Name → CommonTypeId × CommonType RawName → InternalName × TypeAt
full_common_entry ns e = (declared_at ns e.0.id.id e.1.loc, record { place = name_of ns; ty = e.1.ty })

module _ {G : named.Ghosts RawName} where
  -- the common types that a fragment declares, in the order of the walk
  abbrev pub declared_commons : Fragment RawName G → List (InternalName × TypeAt)
  declared_commons f = flat_map (λ e. map (full_common_entry e.0) e.1.common_types) f.0

  -- the map of them, which has them in the order of their full names
  abbrev pub commons_in_order : Fragment RawName G → List (InternalName × TypeAt)
  commons_in_order f = map_of names_in_order (declared_commons f)
