use Rattle.std.proofs.Common.{◌≡◌, ◌<◌, ◌-◌, length, take, drop, subst, ap, ◌∙◌, arith, length-drop}
use Rattle.cedar_io.specs.Outside.{Appends, AppendsPart}
use Rattle.cedar_io.proofs.Written.{appends_take, appends_part, on_err, piece}
use Rattle.cedar_io.proofs.output.write_text.Goals as goal

pub returns-in_err-at-clause-part : goal.returns-in_err-at-clause-part
returns-in_err-at-clause-part g c =
    let taken = g.O.Sink.taken in
    let bytes = c.as_bytes-bytes.result.now in
    on_err c.from_residual.result (subst (λ t. AppendsPart (taken c.args.sink.now) t (taken c.write.new.self))
    c.as_bytes-bytes.ensures.value
    (appends_part (taken c.args.sink.now) (taken c.loop-at.sink) (taken c.write.new.self) bytes c.loop-at.at
    (omega arith) c.loop-at.invariant.took c.in_err-at.ensures.err))

pub loop-at-preserved : goal.loop-at-preserved
loop-at-preserved g c =
    let taken = g.O.Sink.taken in
    let faults = g.O.Sink.faults in
    let sure = g.O.Sink.sure in
    let l = c.loop-at in
    let bytes = c.as_bytes-bytes.result.now in
    let n = c.in_ok-at.field-0 in
    let after = c.write.new.self in
    let part = piece bytes l.at in
    let long : length (take (length bytes - l.at) (drop l.at bytes)) ≡ length bytes - l.at = ap length part
    ∙ length-drop l.at bytes in
    let some : 0 < length (take (length bytes - l.at) (drop l.at bytes)) = omega arith in
    record {
      nothing = λ h. absurd (let none : length bytes ≡ 0 = ap length h in omega arith);
      within = omega (arith, c.in_ok-at.ensures.count);
      took = appends_take (taken c.args.sink.now) (taken l.sink) (taken after) bytes l.at n l.invariant.took
          (subst (λ p. Appends (taken l.sink) (take n p) (taken after)) part c.in_ok-at.ensures.took);
      later = omega (arith, l.invariant.later, c.in_ok-at.ensures.later);
      steady = λ h. c.in_ok-at.ensures.steady some (omega (arith, l.invariant.sure h)) ∙ l.invariant.steady h;
      sure = λ h. omega (arith, l.invariant.sure h, c.in_ok-at.ensures.left some (omega (arith, l.invariant.sure h)));
    }
