use Rattle.std.proofs.Common.{◌≡◌, ℕ, List, None, slice_get, sym, arith}
use Rattle.std.proofs.lemmas.Option.{slice_get_past}
use Rattle.sqlite.specs.Held.{state}
use Rattle.sqlite.specs.State.{HasCleanDisk}
use Rattle.schema_registry_table.specs.Table.{Rests}
use Rattle.schema_registry_table.proofs.EnterLemmas.{many, many_left}
use Rattle.schema_registry_table.proofs.table.TextTable.get.Goals as goal

pub returns-then-place-self-clause-shown : goal.returns-then-place-self-clause-shown
returns-then-place-self-clause-shown g c =
    let s = state g.S.Store c.self.inside.conn in
    let past : HasCleanDisk s → (texts : List (List ℕ)) → Rests s texts → None ≡ slice_get texts c.args.place =
    λ clean texts rests. sym (slice_get_past texts c.args.place
    (omega (arith, many s c.self.inside.count texts c.self.invariant clean rests, c.if-place-self.true))) in
    rw (← c.self.view_is) past

pub invariant_of-self : goal.invariant_of-self
invariant_of-self g c = many_left (state g.S.Store c.self.inside.conn)
    (state g.S.Store c.text_at.new.conn) c.self.inside.count c.self.invariant c.text_at.ensures.left
