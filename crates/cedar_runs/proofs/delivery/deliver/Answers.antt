use Rattle.std.proofs.Common.{refl, subst, ◌∙◌}
use Rattle.cedar_io.specs.Outside.{Appends, AppendsPart}
use Rattle.cedar_runs.specs.Runs.{whole, out_failed, err_failed}
use Rattle.cedar_runs.proofs.delivery.deliver.Goals as goal

pub returns-in_default-clause-delivered : goal.returns-in_default-clause-delivered
returns-in_default-clause-delivered g c =
    let taken = g.O.Sink.taken in
    out_failed (record {
      took = subst (λ t. AppendsPart (taken c.args.out.now) t (taken c.write_text.new.sink)) c.as_str.ensures.bytes
          c.in_default.ensures.part;
      counted = c.in_default.ensures.failed;
    }) refl

pub returns-in_default-write_text-clause-delivered : goal.returns-in_default-write_text-clause-delivered
returns-in_default-write_text-clause-delivered g c =
    let first = g.O.Sink.taken in
    let second = g.E.Sink.taken in
    err_failed (record {
      took = subst (λ t. Appends (first c.args.out.now) t (first c.write_text.new.sink)) c.as_str.ensures.bytes
          c.in-Ok.ensures.whole;
      nothing = λ e. c.in-Ok.ensures.nothing (c.as_str.ensures.bytes ∙ e);
    }) (record {
      took = subst (λ t. AppendsPart (second c.args.err.now) t (second c.write_text-2.new.sink))
          c.as_str-2.ensures.bytes c.in_default-write_text.ensures.part;
      counted = c.in_default-write_text.ensures.failed;
    })

pub returns-clause-delivered : goal.returns-clause-delivered
returns-clause-delivered g c =
    let first = g.O.Sink.taken in
    let second = g.E.Sink.taken in
    whole (record {
      took = subst (λ t. Appends (first c.args.out.now) t (first c.write_text.new.sink)) c.as_str.ensures.bytes
          c.in-Ok.ensures.whole;
      nothing = λ e. c.in-Ok.ensures.nothing (c.as_str.ensures.bytes ∙ e);
    }) (record {
      took = subst (λ t. Appends (second c.args.err.now) t (second c.write_text-2.new.sink)) c.as_str-2.ensures.bytes
          c.in-Ok-write_text.ensures.whole;
      nothing = λ e. c.in-Ok-write_text.ensures.nothing (c.as_str-2.ensures.bytes ∙ e);
    })
