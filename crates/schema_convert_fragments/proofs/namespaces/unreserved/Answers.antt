use Rattle.schema_convert_fragments.proofs.Reserved.{unreserved_is}
use Rattle.schema_convert_fragments.proofs.namespaces.unreserved.Goals as goal

pub returns : goal.returns
returns c = unreserved_is c.args.id c.from_id.result c.from_id.ensures
