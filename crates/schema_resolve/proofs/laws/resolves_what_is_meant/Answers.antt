use Rattle.schema_resolve.proofs.Meant.{as_meant}
use Rattle.schema_resolve.proofs.laws.resolves_what_is_meant.Goals as goal

pub returns : goal.returns
returns c = λ t ns kind name. as_meant t ns kind name
