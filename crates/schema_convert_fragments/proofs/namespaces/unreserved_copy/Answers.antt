use Rattle.std.proofs.Common.{ap, ◌∙◌}
use Rattle.schema_convert_fragments.specs.Declarations.{unreserved}
use Rattle.schema_convert_fragments.proofs.namespaces.unreserved_copy.Goals as goal

pub returns : goal.returns
returns c = c.unreserved.ensures ∙ ap unreserved c.in_ok-to_id.ensures
