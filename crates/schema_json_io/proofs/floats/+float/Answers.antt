use Rattle.std.proofs.Common.{rules}
use Rattle.serde_json.specs.declared.value.Value.{the_lemmas}
use Rattle.schema_json_io.proofs.floats.+float.Goals as goal

pub has_float-returns-in-Number : goal.has_float-returns-in-Number
has_float-returns-in-Number t c = search (rules, the_lemmas)
