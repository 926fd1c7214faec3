use Rattle.std.proofs.Common.{◌≡◌, ℕ, List, length, sym}
use Rattle.sqlite.specs.Held.{state}
use Rattle.sqlite.specs.State.{HasCleanDisk}
use Rattle.schema_registry_table.specs.Table.{Rests}
use Rattle.schema_registry_table.proofs.EnterLemmas.{many}
use Rattle.schema_registry_table.proofs.table.TextTable.len.Goals as goal

pub returns : goal.returns
returns g c =
    let s = state g.S.Store c.self.inside.conn in
    let kept : HasCleanDisk s → (texts : List (List ℕ)) → Rests s texts → c.self.inside.count ≡ length texts =
    λ clean texts rests. sym (many s c.self.inside.count texts c.self.invariant clean rests) in
    rw (← c.self.view_is) kept
