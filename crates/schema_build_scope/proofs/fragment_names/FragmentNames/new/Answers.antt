use Rattle.std.proofs.Common.{ap, ◌∙◌}
use Rattle.cedar_data.specs.Maps.{map_of}
use Rattle.cedar_names.specs.Orders.{names_in_order}
use Rattle.schema_resolve_definitions.specs.Tests.{tests_of}
use Rattle.schema_build_scope.specs.LentCommons.{lent_type, lent_commons}
use Rattle.schema_build_scope.proofs.Entries.{map_seen}
use Rattle.schema_build_scope.proofs.fragment_names.FragmentNames.new.Goals as goal

pub invariant_of-result : goal.invariant_of-result
invariant_of-result c = (
  ap tests_of c.in_ok-defs.ensures,
  ap lent_commons c.in_ok-commons-2.ensures.entries
      ∙ map_seen names_in_order lent_type c.in_ok-commons.commons.items
      ∙ ap (map_of names_in_order) c.in_ok-commons.ensures,
)
