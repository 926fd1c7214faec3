use Rattle.schema_tests_inclusion.proofs.admitted.+has.Given as goal

abbrev pub decreases-has : goal.decreases-has
decreases-has l = l.levels

abbrev pub decreases-has_members : goal.decreases-has_members
decreases-has_members l = l.levels

abbrev pub decreases-has_entries : goal.decreases-has_entries
decreases-has_entries l = l.levels
