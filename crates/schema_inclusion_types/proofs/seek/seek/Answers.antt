use Rattle.std.proofs.Common.{◌≡◌, Some, length, ap, sym, ◌∙◌, subst, arith}
use Rattle.cedar_data.specs.Halving.{IsGap}
use Rattle.cedar_data.specs.Text.{text_cmp}
use Rattle.cedar_data.proofs.Halving.{lookup_hit, lookup_miss, above_more}
use Rattle.cedar_data.proofs.Orders.{text_total}
use Rattle.schema_inclusion_types.proofs.seek.seek.Goals as goal

pub returns-in-Equal-clause-value : goal.returns-in-Equal-clause-value
returns-in-Equal-clause-value c =
    let q = c.args.name.now in
    let found = c.index-attrs-at.result in
    ap (λ x. Some x.1) c.index-attrs-at.is
    ∙ sym (lookup_hit text_total q c.args.attrs.now c.loop-at.at found c.requires.sorted c.loop-at-test.true
    (ap (λ x. text_cmp x.0 q) (sym c.index-attrs-at.is) ∙ (sym c.cmp.ensures ∙ c.in-Equal.is)))

pub returns-in-Greater-clause-value : goal.returns-in-Greater-clause-value
returns-in-Greater-clause-value c =
    let q = c.args.name.now in
    sym (lookup_miss text_total q c.args.attrs.now c.loop-at.at c.requires.sorted
    (above_more text_total q c.args.attrs.now c.loop-at.at (length c.args.attrs.now) c.loop-at.at
    c.index-attrs-at.result c.requires.sorted c.loop-at.invariant.gap c.loop-at-test.true c.index-attrs-at.is
    (sym c.cmp.ensures ∙ c.in-Greater.is)))

pub returns-clause-value : goal.returns-clause-value
returns-clause-value c =
    let q = c.args.name.now in
    let all : c.loop-at.at ≡ length c.args.attrs.now = omega
    (arith, c.loop-at.invariant.within, c.loop-at-test.false) in
    sym (lookup_miss text_total q c.args.attrs.now (length c.args.attrs.now) c.requires.sorted
    (subst (λ k. IsGap text_cmp q c.args.attrs.now k (length c.args.attrs.now)) all c.loop-at.invariant.gap))
