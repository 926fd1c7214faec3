use Rattle.schema_build_expand.proofs.expand_all.expansions.Given as goal

abbrev pub ghost-rows_of : goal.ghost-rows_of
ghost-rows_of g a = g.s

abbrev pub ghost-roots_of : goal.ghost-roots_of
ghost-roots_of g a = g.s

abbrev pub ghost-expand_commons : goal.ghost-expand_commons
ghost-expand_commons g a = g.s
