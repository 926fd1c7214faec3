use Rattle.std.proofs.Common.{◌≡◌, ◌++◌, map}
use Rattle.cedar_data.specs.NonEmpty.{items_left}
use Rattle.schema_convert_faults.proofs.names_in.push_all.Given as goal

abbrev pub invariant-loop-item : goal.invariant-loop-item
invariant-loop-item g l = map (λ x. x.now) l.items.items ++ items_left l.item-iterator
    ≡ map (λ x. x.now) l.fn.items.items ++ items_left l.fn.more
