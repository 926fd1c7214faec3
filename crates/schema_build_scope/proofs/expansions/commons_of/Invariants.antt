use Rattle.std.proofs.Common.{◌≡◌, map, take, All}
use Rattle.schema_build_scope.specs.Lent.{lent_at}
use Rattle.schema_build_scope.specs.LentCommons.{lent_type}
use Rattle.schema_build_scope.proofs.expansions.commons_of.Given as goal

abbrev pub invariant-loop-common : goal.invariant-loop-common
invariant-loop-common l = record {
  names_are : All (λ c. c.0.names.now ≡ l.names) l.commons.items;
  lent : map lent_at l.commons.items ≡ map (λ e. lent_type e.1) (take l.common-index l.entries);
}
