use Rattle.std.proofs.Common.{◌≡◌, ◌+◌, ◌<◌, ℕ, get_or}
use Rattle.std.specs.Ordering.{nat_cmp}
use Rattle.std.specs.declared.cmp.Ordering.TheVariants.{Less}
use Rattle.schema_convert_openings.proofs.repeats.all_rise.Given as goal

abbrev pub invariant-loop-next : goal.invariant-loop-next
invariant-loop-next l =
    (k : ℕ) (d : ℕ) → k + 1 < l.next → nat_cmp (get_or l.numbers.items k d) (get_or l.numbers.items (k + 1) d) ≡ Less
