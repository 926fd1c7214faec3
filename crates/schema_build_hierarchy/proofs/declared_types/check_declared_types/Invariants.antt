use Rattle.schema_build_hierarchy.proofs.declared_types.check_declared_types.Given as goal

abbrev pub ghost-undeclared_uses : goal.ghost-undeclared_uses
ghost-undeclared_uses g a = g.table
