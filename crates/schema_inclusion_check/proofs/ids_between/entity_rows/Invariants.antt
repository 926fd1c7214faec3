use Rattle.std.proofs.Common.{take, map}
use Rattle.std.specs.List.{AllByRecursion}
use Rattle.schema_inclusion_check.specs.Raw.{raw_entity, raw_meaning}
use Rattle.schema_inclusion_check.specs.Rows.{row_names, CoverEntities, IsRow}
use Rattle.schema_inclusion_check.proofs.ids_between.entity_rows.Given as goal

abbrev pub invariant-loop-entry : goal.invariant-loop-entry
invariant-loop-entry l = record {
  rows : AllByRecursion (IsRow (raw_meaning l.old.entities.now l.old.actions.now)
      (raw_meaning l.new.entities.now l.new.actions.now)) l.rows.items;
  cover : CoverEntities (row_names l.rows.items) (map raw_entity (take l.entry-index l.old.entities.now));
}
