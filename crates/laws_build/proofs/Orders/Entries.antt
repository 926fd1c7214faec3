-- The entries of a namespace without places.
use Rattle.std.proofs.Common.{ℕ, List}
use Rattle.cedar_identifiers.specs.declared.raw_name.RawName.{RawName}
use Rattle.cedar_identifiers.specs.declared.unreserved_id.UnreservedId.{UnreservedId}
use Rattle.schema_json.specs.declared.action_type.ActionType.{ActionType}
use Rattle.schema_json.specs.declared.common_type.CommonType.{CommonType}
use Rattle.schema_json.specs.declared.common_type.CommonTypeId.{CommonTypeId}
use Rattle.schema_json.specs.declared.entity_type.EntityType.{EntityType}
use Rattle.schema_json.specs.AsWritten.{as_written}
use Rattle.laws_translate.specs.BareFragments.{bare_common, bare_entity, bare_action}

abbrev pub CommonEntry : Type 0
CommonEntry = CommonTypeId × CommonType RawName

abbrev pub EntityEntry : Type 0
EntityEntry = UnreservedId × EntityType RawName

abbrev pub ActionEntry : Type 0
ActionEntry = List ℕ × ActionType RawName as_written

abbrev pub common_bare : CommonEntry → CommonEntry
common_bare e = (e.0, bare_common e.1)

abbrev pub entity_bare : EntityEntry → EntityEntry
entity_bare e = (e.0, bare_entity e.1)

abbrev pub action_bare : ActionEntry → ActionEntry
action_bare e = (e.0, bare_action e.1)
