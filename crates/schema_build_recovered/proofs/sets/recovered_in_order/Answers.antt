use Rattle.std.proofs.Common.{map, ap, ◌∙◌, subst}
use Rattle.std.specs.List.{AllZip}
use Rattle.std.proofs.lemmas.List.{take_all}
use Rattle.schema_build_recovered_types.proofs.Rows.{zip_more}
use Rattle.schema_build_recovered.proofs.Rows.{zip_seen}
use Rattle.schema_build_recovered.proofs.sets.recovered_in_order.Goals as goal

pub loop-item-preserved : goal.loop-item-preserved
loop-item-preserved g c =
    rw c.in_ok-push.ensures.items (zip_more (λ x out. g.T.Recover.is_recovered x.now out) c.deref-item-items.result.now
    c.loop-item.recovered.items c.loop-item.item-index c.item-item.result c.in_ok-recovered-2.field-0
    c.loop-item-test.true c.item-item.is c.loop-item.invariant c.in_ok-recovered-2.ensures)

pub returns : goal.returns
returns g c =
    let lent = c.deref-item-items.result.now in
    let recovered = c.loop-item.recovered.items in
    let all = subst (λ xs. AllZip (λ x out. g.T.Recover.is_recovered x.now out) xs recovered)
    (take_all c.loop-item.item-index lent c.loop-item-test.false) c.loop-item.invariant in
    rw c.from_vec.ensures (subst (λ xs. AllZip g.T.Recover.is_recovered xs recovered)
    (ap (map (λ x. x.now)) c.deref-item-items.ensures.value ∙ c.in_ok-rising.ensures)
    (zip_seen g.T.Recover.is_recovered (λ x. x.now) lent recovered all))
