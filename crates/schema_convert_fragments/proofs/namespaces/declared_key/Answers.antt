use Rattle.std.proofs.Common.{ap, ◌∙◌}
use Rattle.schema_convert_fragments.specs.Fragments.{declarable_name}
use Rattle.schema_convert_fragments.proofs.namespaces.declared_key.Goals as goal

pub returns : goal.returns
returns c = c.declarable_name.ensures ∙ ap declarable_name c.in_ok-internal_name.ensures
