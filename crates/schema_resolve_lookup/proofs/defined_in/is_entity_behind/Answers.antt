use Rattle.std.proofs.Common.{ap, ◌∙◌}
use Rattle.schema_resolve_definitions.specs.Defined.{defined}
use Rattle.schema_resolve_definitions.specs.Tests.{tests_of}
use Rattle.schema_resolve_lookup.specs.Sought.{name_sought}
use Rattle.schema_resolve_lookup.proofs.defined_in.is_entity_behind.Goals as goal

pub returns : goal.returns
returns c = λ table.
    c.is_entity_sought.ensures table
    ∙ ap (λ f. (tests_of (defined f table)).is_entity (name_sought c.behind.result)) c.new-searched.ensures
    ∙ ap (tests_of (defined c.args.fragment.now table)).is_entity c.behind.ensures
