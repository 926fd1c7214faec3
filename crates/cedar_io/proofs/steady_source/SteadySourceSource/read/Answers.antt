use Rattle.std.proofs.Common.{◌≡◌, ◌≤◌, ◌+◌, ◌-◌, length, take, drop, sym, ap, ◌∙◌, arith, refl}
use Rattle.cedar_io.proofs.Taken.{split_at_place}
use Rattle.cedar_io.proofs.steady_source.SteadySourceSource.read.Goals as goal

pub returns-clause-took : goal.returns-clause-took
returns-clause-took c =
    let s = c.self.inside in
    let n = c.min-n.result in
    let within : s.at + n ≤ length s.bytes.items = omega arith in
    let same : s.at + n - s.at ≡ n = omega arith in
    let copied = c.copy_from_slice.ensures.after ∙ ap (λ k. take k (drop s.at c.deref.result.now)) same
    ∙ ap (λ l. take n (drop s.at l)) c.deref.ensures.value in
    let before : c.args.self.now.left ≡ drop s.at s.bytes.items = ap (λ v. v.left) (sym c.self.view_is) in (
      drop (s.at + n) s.bytes.items,
      before
          ∙ split_at_place s.bytes.items c.args.buf.now c.copy_from_slice.new.self s.at n within copied,
      refl,
    )
