use Rattle.std.proofs.Common.{◌++◌}
use Rattle.std.specs.Option.{option_map}
use Rattle.schema_build_types.specs.Content.{type_content, attributes_content}
use Rattle.schema_build_types.specs.Lacks.{attribute_lacks, tag_lacks}
use Rattle.schema_build_recovered_types.proofs.Lacking.{first_before, refused}
use Rattle.schema_build_recovered.proofs.entity_types.recovered_standard.Goals as goal

pub returns-in_err-record-clause-lack : goal.returns-in_err-record-clause-lack
returns-in_err-record-clause-lack c =
    let first = attribute_lacks (attributes_content c.args.attributes.now) in
    let second = tag_lacks (option_map type_content c.args.tags.now) in
    refused (first ++ second) c.from_residual.result c.in_err-record.field-0.0 c.from_residual.ensures.1
    (first_before first second c.in_err-record.field-0.0 c.in_err-record.ensures.lack)
