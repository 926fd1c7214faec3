use Rattle.std.proofs.Common.{List, map, sym, ap, ◌∙◌, subst}
use Rattle.std.specs.Borrow.{Bor}
use Rattle.std.specs.Cmp.{on_total}
use Rattle.std.specs.Option.{option_map}
use Rattle.schema_convert_openings.specs.Repeats.{first_repeat, both_now}
use Rattle.schema_convert_openings.proofs.Seen.{Seen, begun, found, none, pushed, repeat_now}
use Rattle.schema_convert_openings.proofs.repeats.repeat_in.Goals as goal

pub loop-item-init : goal.loop-item-init
loop-item-init g c =
    let R = λ (a b : Bor g.row.T.Denot). g.T.Ord.cmp a.now b.now in
    subst (Seen R c.deref-item-items.result.now 0) (sym c.new-seen.ensures.empty)
    (begun R c.deref-item-items.result.now)

pub loop-item-preserved : goal.loop-item-preserved
loop-item-preserved g c =
    let R = λ (a b : Bor g.row.T.Denot). g.T.Ord.cmp a.now b.now in
    pushed R c.deref-item-items.result.now (on_total (λ (p : Bor g.row.T.Denot). p.now) g.met.T.Ord.total)
    c.loop-item.item-index c.loop-item.seen.entries _ c.item-item.result c.loop-item.invariant c.loop-item-test.true
    c.item-item.is (sym c.in-None.ensures.value) c.in_ok-insert-in-None.ensures.updates.0

pub returns-in-Some : goal.returns-in-Some
returns-in-Some g c =
    let R = λ (a b : Bor g.row.T.Denot). g.T.Ord.cmp a.now b.now in
    let items = c.deref-item-items.result.now in
    let same = ap (λ (l : List (Bor g.row.T.Denot)). first_repeat g.T.Ord.cmp (map (λ x. x.now) l))
    c.deref-item-items.ensures.value in
    ap (option_map both_now) (found R items c.loop-item.item-index c.loop-item.seen.entries c.item-item.result
    c.in-Some.first.now c.loop-item.invariant c.loop-item-test.true c.item-item.is (sym c.in-Some.ensures.value))
    ∙ (repeat_now g.T.Ord.cmp items ∙ same)

pub returns : goal.returns
returns g c =
    let R = λ (a b : Bor g.row.T.Denot). g.T.Ord.cmp a.now b.now in
    let items = c.deref-item-items.result.now in
    let same = ap (λ (l : List (Bor g.row.T.Denot)). first_repeat g.T.Ord.cmp (map (λ x. x.now) l))
    c.deref-item-items.ensures.value in
    ap (option_map both_now) (none R items c.loop-item.item-index c.loop-item.seen.entries c.loop-item.invariant
    c.loop-item-test.false) ∙ (repeat_now g.T.Ord.cmp items ∙ same)
