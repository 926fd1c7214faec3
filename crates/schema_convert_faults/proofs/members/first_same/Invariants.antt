use Rattle.std.proofs.Common.{◌≡◌, drop, find, map}
use Rattle.schema_convert_faults.specs.Members.{says_same}
use Rattle.schema_convert_faults.proofs.members.first_same.Given as goal

abbrev pub invariant-loop-at : goal.invariant-loop-at
invariant-loop-at l =
    find (λ m. says_same l.member m.node) (map (λ x. x.now) (drop l.at l.before.items))
    ≡ find (λ m. says_same l.member m.node) (map (λ x. x.now) l.before.items)
