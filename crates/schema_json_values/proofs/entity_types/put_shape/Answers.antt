use Rattle.std.proofs.Common.{rules}
use Rattle.serde_json.specs.declared.value.Value.{the_lemmas}
use Rattle.schema_json_values.proofs.entity_types.put_shape.Goals as goal

pub returns : goal.returns
returns g c = search (rules, the_lemmas)
