use Rattle.std.proofs.Common.{◌≡◌, ◌<◌, take, length, ap, sym, ◌∙◌, arith}
use Rattle.schema_inclusion_check.proofs.Anyone.{any_at, any_step, none_past, taken_at, taken_length}
use Rattle.schema_inclusion_check.proofs.missing.place_between.Goals as goal

pub loop-at-preserved : goal.loop-at-preserved
loop-at-preserved g c =
    let items = c.args.items.now in
    let at = c.loop-at.at in
    let to = c.args.to in
    let x = c.index-items-at.result in
    let within : at < length (take to items) = omega (arith, taken_length items to c.requires, c.loop-at-test.true) in
    c.loop-at.invariant ∙ any_step (g.T.PartialEq.eq c.args.item.now) (take to items) at x within
    (c.index-items-at.is ∙ sym (taken_at items to at x c.loop-at-test.true)) (sym c.eq.ensures ∙ c.if-eq.false)

pub returns-then-eq : goal.returns-then-eq
returns-then-eq g c =
    let items = c.args.items.now in
    let within : c.loop-at.at < length items = omega (arith, c.requires, c.loop-at-test.true) in (
      omega (arith, within),
      any_at (g.T.PartialEq.eq c.args.item.now) items c.loop-at.at c.index-items-at.result within c.index-items-at.is
          (sym c.eq.ensures ∙ c.if-eq.true),
    )

pub returns : goal.returns
returns g c =
    let items = c.args.items.now in
    let to = c.args.to in
    c.loop-at.invariant ∙ none_past (g.T.PartialEq.eq c.args.item.now) (take to items) c.loop-at.at
    (omega (arith, taken_length items to c.requires, c.loop-at-test.false))
