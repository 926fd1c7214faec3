use Rattle.std.proofs.Common.{ℕ, ◌-◌, Some, subst, sym, ap, arith}
use Rattle.schema_report.proofs.LineLemmas.{Walked, walk_begins, walk_goes_on, walk_ends, walk_finds, walk_stops}
use Rattle.schema_report.proofs.LineLemmas.{walk_misses}
use Rattle.schema_report.proofs.lines.byte_in.Goals as goal

pub loop-left-init : goal.loop-left-init
loop-left-init c = walk_begins c.args.line.now c.args.units c.args.column c.utf8.line

pub loop-left-preserved : goal.loop-left-preserved
loop-left-preserved c =
    let len = c.len_of-len.ensures in
    subst (λ (n : ℕ). Walked c.args.line.now c.args.units c.args.column c.in_ok-c.after.now (c.loop-left.left - n))
    (sym len)
    (walk_goes_on _ _ _ _ _ _ _ c.loop-left.invariant c.in_ok-c.ensures (omega arith))

pub returns-in_err-c-clause-back : goal.returns-in_err-c-clause-back
returns-in_err-c-clause-back c at h = absurd (walk_stops _ _ _ _ _ at c.utf8.line c.loop-left.invariant
    c.loop-left-test.true
    c.in_err-c.ensures h)

pub returns-then-len-left-clause-back : goal.returns-then-len-left-clause-back
returns-then-len-left-clause-back c at h =
    let len = c.len_of-len.ensures in
    absurd (walk_misses _ _ _ _ _ _ _ at c.utf8.line c.loop-left.invariant c.in_ok-c.ensures c.loop-left-test.true
    (omega arith) h)

pub returns-clause-there : goal.returns-clause-there
returns-clause-there c = walk_ends _ _ _ _ _ c.utf8.line c.loop-left.invariant c.loop-left-test.false

pub returns-clause-back : goal.returns-clause-back
returns-clause-back c at h =
    ap Some (walk_finds _ _ _ _ _ at c.utf8.line c.loop-left.invariant c.loop-left-test.false h)
