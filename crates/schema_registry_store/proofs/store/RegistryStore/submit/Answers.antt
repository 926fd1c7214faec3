use Rattle.std.proofs.Common.{Ok, Err, Result, OnErr}
use Rattle.schema_registry_store.proofs.store.RegistryStore.submit.Goals as goal

on_err : {A E P : Type 0} (r : Result A E) → P → OnErr r P
on_err (Ok a) p = tt
on_err (Err e) p = p

pub returns-in_err-enter-in-Ok-clause-left : goal.returns-in_err-enter-in-Ok-clause-left
returns-in_err-enter-in-Ok-clause-left g c clean =
    rw (← c.self.view_is) (on_err c.from_residual.result (c.in_err-enter-in-Ok.ensures.left clean))
