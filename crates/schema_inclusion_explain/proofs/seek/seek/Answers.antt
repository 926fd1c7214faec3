use Rattle.std.proofs.Common.{◌≡◌, sym, ap, ◌∙◌}
use Rattle.schema_inclusion_explain.proofs.Sought.{found_here, gone_past, gone_through, same_default}
use Rattle.schema_inclusion_explain.proofs.seek.seek.Goals as goal

pub returns-in-Equal : goal.returns-in-Equal
returns-in-Equal g c =
    let q = c.args.key.now in
    let xs = c.args.entries.now in
    let d = c.index-entries-at.result in
    let e = c.index-entries-at-in-Equal.result in
    let same : d ≡ e = c.index-entries-at.is ∙ (same_default xs c.loop-at.at d e c.loop-at-test.true
    ∙ sym c.index-entries-at-in-Equal.is) in
    found_here g.met.E.Key.Ord.total (λ x. (g.E.Keyed.pair x).0) xs q c.loop-at.at e c.loop-at-test.true
    c.index-entries-at-in-Equal.is c.loop-at.invariant.below
    (ap (λ x. g.E.Key.Ord.cmp (g.E.Keyed.pair x).0 q) (sym same)
    ∙ (ap (λ k. g.E.Key.Ord.cmp k q) (sym c.key.ensures) ∙ (sym c.cmp.ensures ∙ c.in-Equal.is)))

pub returns-in-Greater : goal.returns-in-Greater
returns-in-Greater g c =
    let q = c.args.key.now in
    gone_past g.met.E.Key.Ord.total (λ x. (g.E.Keyed.pair x).0) c.args.entries.now q c.loop-at.at
    c.index-entries-at.result c.requires.sorted c.loop-at-test.true c.index-entries-at.is c.loop-at.invariant.below
    (ap (λ k. g.E.Key.Ord.cmp k q) (sym c.key.ensures) ∙ (sym c.cmp.ensures ∙ c.in-Greater.is))

pub returns : goal.returns
returns g c =
    gone_through g.met.E.Key.Ord.total (λ x. (g.E.Keyed.pair x).0) c.args.entries.now c.args.key.now c.loop-at.at
    c.loop-at-test.false c.loop-at.invariant.below
