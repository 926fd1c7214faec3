use Rattle.std.proofs.Common.{ap, ◌∙◌}
use Rattle.schema_resolve_definitions.specs.Defined.{defined}
use Rattle.schema_resolve_definitions.specs.Tests.{tests_of}
use Rattle.schema_resolve_lookup.specs.Sought.{name_sought}
use Rattle.schema_resolve_lookup.proofs.defined_in.is_common.Goals as goal

pub returns : goal.returns
returns c =
    c.is_common_sought.ensures
    ∙ ap (λ f. (tests_of (defined f c.args.table.now)).is_common
    (name_sought c.as_written.result)) c.new-searched.ensures
    ∙ ap (tests_of (defined c.args.fragment.now c.args.table.now)).is_common c.as_written.ensures
