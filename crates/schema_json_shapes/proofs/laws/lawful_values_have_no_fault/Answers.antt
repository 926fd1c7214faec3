use Rattle.schema_json_shapes.specs.Walk.{demands}
use Rattle.schema_json_shapes.proofs.Demands.{met_or_unmet}
use Rattle.schema_json_shapes.proofs.laws.lawful_values_have_no_fault.Goals as goal

pub returns : goal.returns
returns c = λ r n d e m u. met_or_unmet (demands r n d) e m u
