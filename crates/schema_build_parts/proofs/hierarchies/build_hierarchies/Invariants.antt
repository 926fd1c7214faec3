use Rattle.schema_build_parts.proofs.hierarchies.build_hierarchies.Given as goal

abbrev pub ghost-action_ancestors : goal.ghost-action_ancestors
ghost-action_ancestors g a = g.g.1.1

abbrev pub ghost-check_action_cycle : goal.ghost-check_action_cycle
ghost-check_action_cycle g a = (g.g.0, g.g.1.1)

abbrev pub ghost-entity_ancestors : goal.ghost-entity_ancestors
ghost-entity_ancestors g a = g.g.1.0

abbrev pub ghost-check_external_types : goal.ghost-check_external_types
ghost-check_external_types g a = (g.g.0, g.g.1.0)
