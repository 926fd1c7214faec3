use Rattle.std.proofs.Common.{◌≡◌, drop, map}
use Rattle.std.specs.List.{list_any}
use Rattle.schema_convert_faults.specs.Members.{says_role}
use Rattle.schema_convert_faults.proofs.members.has_role.Given as goal

abbrev pub invariant-loop-at : goal.invariant-loop-at
invariant-loop-at l =
    list_any (λ m. says_role l.kind m.node) (map (λ x. x.now) (drop l.at l.members.items))
    ≡ list_any (λ m. says_role l.kind m.node) (map (λ x. x.now) l.members.items)
