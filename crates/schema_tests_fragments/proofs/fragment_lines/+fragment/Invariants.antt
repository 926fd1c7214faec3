use Rattle.schema_tests_fragments.proofs.fragment_lines.+fragment.Given as goal

abbrev pub decreases-find_type : goal.decreases-find_type
decreases-find_type g l = l.levels

abbrev pub decreases-find_variant : goal.decreases-find_variant
decreases-find_variant g l = l.levels

abbrev pub decreases-find_fields : goal.decreases-find_fields
decreases-find_fields g l = l.levels
