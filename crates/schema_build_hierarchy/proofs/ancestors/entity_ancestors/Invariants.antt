use Rattle.schema_build_hierarchy.proofs.ancestors.entity_ancestors.Given as goal

abbrev pub ghost-entity_parent_rows : goal.ghost-entity_parent_rows
ghost-entity_parent_rows g a = g.ds
