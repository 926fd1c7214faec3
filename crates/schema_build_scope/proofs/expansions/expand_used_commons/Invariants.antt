use Rattle.schema_build_scope.specs.FragmentScope.{fragment_scope}
use Rattle.schema_build_scope.proofs.expansions.expand_used_commons.Given as goal

abbrev pub ghost-expand_lent : goal.ghost-expand_lent
ghost-expand_lent a = fragment_scope a.names.now.fragment a.names.now.table
