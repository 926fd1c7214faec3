use Rattle.std.proofs.Common.{sym, subst}
use Rattle.schema_resolve.specs.Faults.{NamesFirst}
use Rattle.schema_resolve.proofs.stop.Stop.new.Goals as goal

pub returns-clause-named : goal.returns-clause-named
returns-clause-named c = λ us here. subst (NamesFirst us) (sym c.in_ok-new.ensures) here
