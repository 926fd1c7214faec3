use Rattle.schema_build_hierarchy.proofs.ancestors.action_ancestors.Given as goal

abbrev pub ghost-action_parent_rows : goal.ghost-action_parent_rows
ghost-action_parent_rows g a = g.ds
