use Rattle.std.proofs.Common.{refl, []}
use Rattle.cedar_messages.specs.Messages.{none, next}
use Rattle.cedar_messages.proofs.Framing.{behind, stuck, empty, filled}
use Rattle.cedar_messages.proofs.messages.are_messages.Goals as goal

pub returns-in_default : goal.returns-in_default
returns-in_default c = (
  (λ e. cc),
  (λ h. let k = c.loop-left.invariant.back h.0 h.1 in
      absurd (stuck c.loop-left.left.now (filled c.loop-left.left.now c.is_empty.result c.is_empty.ensures
      c.loop-left-test.true) c.in_default.ensures k.0 k.1)),
)

pub loop-left-preserved : goal.loop-left-preserved
loop-left-preserved c =
    let left = c.loop-left.left.now in
    let message = c.in-Some.field-0-0.now in
    let rest = c.in-Some.rest.now in
    record {
      back = λ all h. let k = c.loop-left.invariant.back all h in behind left message rest k.0 c.in-Some.ensures k.1;
      front = λ messages h. c.loop-left.invariant.front _ (next left message rest messages c.in-Some.ensures h);
    }

pub returns : goal.returns
returns c = (
  (λ e. c.loop-left.invariant.front [] (rw (empty c.loop-left.left.now c.is_empty.result c.is_empty.ensures
      c.loop-left-test.false) none)),
  (λ h. refl),
)
