use Rattle.std.proofs.Common.{take, map}
use Rattle.std.specs.List.{AllByRecursion}
use Rattle.schema_inclusion_check.specs.Raw.{raw_entity, raw_action, raw_meaning}
use Rattle.schema_inclusion_check.specs.Rows.{row_names, CoverEntities, CoverTypes, IsRow}
use Rattle.schema_inclusion_check.proofs.ids_between.type_rows.Given as goal

abbrev pub invariant-loop-action : goal.invariant-loop-action
invariant-loop-action l = record {
  rows : AllByRecursion (IsRow (raw_meaning l.old.entities.now l.old.actions.now)
      (raw_meaning l.new.entities.now l.new.actions.now)) l.rows.items;
  entities : CoverEntities (row_names l.rows.items) (map raw_entity l.old.entities.now);
  actions : CoverTypes (row_names l.rows.items) (map raw_action (take l.action-index l.old.actions.now));
}
