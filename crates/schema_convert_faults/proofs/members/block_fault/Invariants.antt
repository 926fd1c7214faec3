use Rattle.std.proofs.Common.{◌≡◌, map}
use Rattle.cedar_data.specs.NonEmpty.{items_left}
use Rattle.schema_convert_faults.specs.Members.{fault_behind, block_fault}
use Rattle.schema_convert_faults.proofs.members.block_fault.Given as goal

abbrev pub invariant-loop-member : goal.invariant-loop-member
invariant-loop-member l =
    fault_behind l.name (map (λ x. x.now) l.before.items) (items_left l.member-iterator)
    ≡ block_fault l.name l.fn.members
