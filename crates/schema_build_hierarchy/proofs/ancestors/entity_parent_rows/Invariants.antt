use Rattle.std.proofs.Common.{map, take}
use Rattle.schema_resolve_definitions.specs.Tests.{tests_of}
use Rattle.schema_build_hierarchy.specs.Declarations.{entity_name}
use Rattle.schema_build_hierarchy.specs.Entries.{entity_of}
use Rattle.schema_build_hierarchy.specs.Parents.{entity_parents}
use Rattle.schema_build_hierarchy.specs.Ancestors.{AreRowsFor}
use Rattle.schema_build_hierarchy.proofs.ancestors.entity_parent_rows.Given as goal

abbrev pub invariant-loop-entry : goal.invariant-loop-entry
invariant-loop-entry g l = AreRowsFor entity_name (entity_parents (tests_of l.defs)) (map entity_of l.entries)
    (take l.entry-index (map entity_of l.entries)) l.rows.items
