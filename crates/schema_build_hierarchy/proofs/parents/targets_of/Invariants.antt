use Rattle.std.proofs.Common.{◌≡◌, map, take}
use Rattle.cedar_identifiers.specs.Names.{components_of}
use Rattle.schema_resolve_definitions.specs.Tests.{tests_of}
use Rattle.schema_build_hierarchy.specs.Parents.{parents_in}
use Rattle.schema_build_hierarchy.specs.Unreserved.{unreserved_names}
use Rattle.schema_build_hierarchy.proofs.parents.targets_of.Given as goal

abbrev pub invariant-loop-name : goal.invariant-loop-name
invariant-loop-name l = map (λ n. components_of n.name) l.found.items
    ≡ unreserved_names (parents_in (tests_of l.defs) l.ns (take l.name-index l.names))
