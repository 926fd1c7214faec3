use Rattle.std.proofs.Common.{false, List, ap}
use Rattle.cedar_identifiers.specs.declared.raw_name.RawName.{RawName}
use Rattle.schema_json.specs.declared.types.RecordType.{roll-RecordType}
use Rattle.schema_convert_types.specs.Types.{AttributeEntry}
use Rattle.schema_convert_types.proofs.types.closed_record.Goals as goal

pub returns : goal.returns
returns c =
    ap (λ (es : List AttributeEntry). roll-RecordType RawName
    (record { attributes = es; additional_attributes = false })) c.in_ok-attributes.ensures.entries
