use Rattle.std.proofs.Common.{◌≡◌, map}
use Rattle.std.specs.Vec.Iter.{into_iter_items}
use Rattle.schema_convert_faults.specs.Faults.{first_some, common_fault}
use Rattle.schema_convert_faults.proofs.faults.first_common.Given as goal

abbrev pub invariant-loop-id : goal.invariant-loop-id
invariant-loop-id l =
    first_some common_fault (map (λ x. x.now) (into_iter_items l.id-iterator))
    ≡ first_some common_fault (map (λ x. x.now) l.fn.ids.items)
