use Rattle.schema_json.proofs.Namespaces.{names_order}
use Rattle.schema_convert_fragments.proofs.Definitions.{entries_made}
use Rattle.schema_convert_fragments.proofs.namespaces.fragment_from.Goals as goal

pub returns : goal.returns
returns c = entries_made _ (λ a b. names_order a b) c.args.entries.items _ c.in_ok-entries.ensures
