use Rattle.schema_build_scope.proofs.expansions.expand_lent.Given as goal

abbrev pub ghost-expansions : goal.ghost-expansions
ghost-expansions g a = g.s
