use Rattle.std.proofs.Common.{◌≡◌, ◌+◌, ◌-◌, sym, ap, ◌∙◌, arith, vec_len}
use Rattle.cedar_io.specs.Outside.{counted}
use Rattle.cedar_io.proofs.Sure.{sure_falls_at}
use Rattle.cedar_io.proofs.memory_sink.MemorySinkSink.write.Goals as goal

pub returns-clause-left : goal.returns-clause-left
returns-clause-left c = λ some fits.
    let s = c.self.inside in
    let before = c.args.self.now in
    let after = c.next_is_listed-listed.new.self in
    let n = c.min-n.result in
    let calls : before.calls ≡ s.calls.made = ap (λ v. v.calls) (sym c.self.view_is) in
    let room : before.room ≡ vec_len s.bytes - s.used = ap (λ v. v.room) (sym c.self.view_is) in
    let made : after.made ≡ counted s.calls.made = ap (λ a. a.made) c.next_is_listed-listed.ensures.counts in
    let same = ap (λ a. a.failing.items) c.next_is_listed-listed.ensures.counts ∙ ap (λ v. v.failing) c.self.view_is in
    sure_falls_at before (vec_len s.bytes - (s.used + n)) after.made n after.failing.items (omega arith) same
    (omega arith)
