use Rattle.schema_convert_fragments.proofs.Definitions.{definition_made}
use Rattle.schema_convert_fragments.proofs.namespaces.definition_of.Goals as goal

pub returns : goal.returns
returns c =
    definition_made c.args.decls c.args.annotations c.in_ok-entries.entries.commons.items
    c.in_ok-entries.entries.entities.items c.in_ok-entries.entries.actions.items _ c.definition_from.ensures
    c.in_ok-entries.ensures.commons c.in_ok-entries.ensures.entities c.in_ok-entries.ensures.actions
