use Rattle.std.proofs.Common.{map, take}
use Rattle.schema_resolve_definitions.specs.Tests.{tests_of}
use Rattle.schema_build_hierarchy.specs.Declarations.{action_key}
use Rattle.schema_build_hierarchy.specs.Entries.{action_of_entry}
use Rattle.schema_build_hierarchy.specs.Parents.{action_parents}
use Rattle.schema_build_hierarchy.specs.Ancestors.{AreRowsFor}
use Rattle.schema_build_hierarchy.proofs.ancestors.action_parent_rows.Given as goal

abbrev pub invariant-loop-entry : goal.invariant-loop-entry
invariant-loop-entry g l = AreRowsFor action_key (action_parents (tests_of l.defs)) (map action_of_entry l.entries)
    (take l.entry-index (map action_of_entry l.entries)) l.rows.items
