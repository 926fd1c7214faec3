use Rattle.std.proofs.Common.{refl, ap}
use Rattle.std.specs.Ordering.{ordering_then}
use Rattle.cedar_data.specs.Text.{text_cmp}
use Rattle.cedar_identifiers.proofs.Ordered.{ids_cmp, ids_equal}
use Rattle.cedar_identifiers.proofs.laws.names_go_by_components.Goals as goal

pub returns-clause-order : goal.returns-clause-order
returns-clause-order c =
    let a = c.args.a.now in
    let b = c.args.b.now in
    ap (ordering_then (text_cmp a.first.text b.first.text)) (ids_cmp _ (λ x y. refl) a.others b.others)

pub returns-clause-equal : goal.returns-clause-equal
returns-clause-equal c =
    let a = c.args.a.now in
    let b = c.args.b.now in
    ids_equal _ (λ x y. refl) a.first b.first a.others b.others
