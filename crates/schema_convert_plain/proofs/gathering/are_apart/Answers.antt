use Rattle.std.proofs.Common.{◌≡◌, None, sym, ◌∙◌}
use Rattle.std.specs.BTreeMap.{is_at}
use Rattle.std.specs.Map.{lookup}
use Rattle.cedar_identifiers.specs.declared.raw_name.RawName.{RawName}
use Rattle.schema_json.specs.declared.common_type.CommonType.{CommonType}
use Rattle.schema_json.specs.declared.common_type.CommonTypeId.{CommonTypeId}
use Rattle.schema_json.specs.Orders.{unreserved_cmp}
use Rattle.schema_convert_plain.proofs.Rest.{rest_more_at, absent}
use Rattle.schema_convert_plain.proofs.gathering.are_apart.Goals as goal

pub loop-entry-preserved : goal.loop-entry-preserved
loop-entry-preserved c =
    rest_more_at (λ (x : CommonTypeId × CommonType RawName). lookup (is_at (unreserved_cmp x.0.id))
    c.args.definition.now.entity_types ≡ None)
    c.as_slice-commons.result.now c.loop-entry.entry-index c.entry-item.result c.loop-entry.invariant
    c.loop-entry-test.true c.entry-item.is
    (absent c.get.result _ c.get.ensures (sym c.is_some.ensures ∙ c.if-is_some.false))
