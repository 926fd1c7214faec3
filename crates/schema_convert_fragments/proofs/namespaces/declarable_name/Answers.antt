use Rattle.schema_convert_fragments.proofs.Reserved.{declared_is}
use Rattle.schema_convert_fragments.proofs.namespaces.declarable_name.Goals as goal

pub returns : goal.returns
returns c = declared_is c.args.name c.from_internal.result c.from_internal.ensures
