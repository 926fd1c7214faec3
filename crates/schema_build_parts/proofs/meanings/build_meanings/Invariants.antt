use Rattle.schema_build_parts.proofs.meanings.build_meanings.Given as goal

abbrev pub ghost-check_declared_types : goal.ghost-check_declared_types
ghost-check_declared_types g a = g.g.0

abbrev pub ghost-action_parents_are_declared : goal.ghost-action_parents_are_declared
ghost-action_parents_are_declared g a = g.g.0

abbrev pub ghost-build_hierarchies : goal.ghost-build_hierarchies
ghost-build_hierarchies g a = g.g.1
