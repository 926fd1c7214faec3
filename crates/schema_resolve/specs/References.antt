-- References to types, at a place.
use Rattle.std.specs.Prelude.{Option, Bool, if◌then◌else◌}
use Rattle.cedar_data.specs.declared.loc.Loc.{Loc}
use Rattle.schema_json.specs.declared.types.Type.{«Type», Variant, CommonTypeRef}
use Rattle.schema_json.specs.declared.types.TypeVariant.{Entity, EntityOrCommon}

module _ {N : Type 0} where
  -- a reference that may mean a common type or an entity type
  abbrev pub either_way : N → Option Loc → «Type» N
  either_way name loc = Variant (EntityOrCommon name) loc

  -- a reference to a common type, or to an entity type
  abbrev pub reference_to : Bool → N → Option Loc → «Type» N
  reference_to is_common name loc = if is_common then CommonTypeRef name loc else Variant (Entity name) loc
