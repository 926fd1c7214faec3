use Rattle.std.proofs.Common.{◌≡◌, map, take}
use Rattle.cedar_names.specs.Definitions.{action_of}
use Rattle.schema_resolve_definitions.specs.Tests.{tests_of}
use Rattle.schema_build_hierarchy.specs.Parents.{action_parents_in}
use Rattle.schema_build_hierarchy.proofs.parents.action_targets_of.Given as goal

abbrev pub invariant-loop-uid : goal.invariant-loop-uid
invariant-loop-uid l = map action_of l.found.items ≡ action_parents_in (tests_of l.defs) l.ns (take l.uid-index l.uids)
