use Rattle.std.proofs.Common.{drop}
use Rattle.schema_convert_plain.specs.Plain.{AreUnlike}
use Rattle.schema_convert_plain.proofs.gathering.are_apart.Given as goal

abbrev pub invariant-loop-entry : goal.invariant-loop-entry
invariant-loop-entry l =
    AreUnlike (drop l.entry-index l.commons) l.definition.entity_types
    → AreUnlike l.definition.common_types l.definition.entity_types
