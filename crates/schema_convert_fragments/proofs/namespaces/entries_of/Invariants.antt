use Rattle.std.proofs.Common.{◌≡◌, ◌++◌}
use Rattle.std.specs.Vec.Iter.{into_iter_items}
use Rattle.schema_convert_fragments.specs.Fragments.{common_entries, entity_entries, action_entries}
use Rattle.schema_convert_fragments.proofs.namespaces.entries_of.Given as goal

abbrev pub invariant-loop-decl : goal.invariant-loop-decl
invariant-loop-decl l = record {
  commons : l.entries.commons.items ++ common_entries (into_iter_items l.decl-iterator) ≡ common_entries l.fn.decls;
  entities : l.entries.entities.items ++ entity_entries (into_iter_items l.decl-iterator) ≡ entity_entries l.fn.decls;
  actions : l.entries.actions.items ++ action_entries (into_iter_items l.decl-iterator) ≡ action_entries l.fn.decls;
}
