use Rattle.std.proofs.Common.{◌≡◌, map, take, All}
use Rattle.schema_build_scope.specs.Lent.{lent_at}
use Rattle.schema_build_scope.specs.LentCommons.{lent_type}
use Rattle.schema_build_scope.proofs.expansions.uses_of.Given as goal

abbrev pub invariant-loop-used : goal.invariant-loop-used
invariant-loop-used l = record {
  names_are : All (λ u. u.0.names.now ≡ l.names) l.uses.items;
  lent_uses : map lent_at l.uses.items ≡ map lent_type (take l.used-index l.lent);
}
