use Rattle.std.proofs.Common.{◌≡◌, ◌++◌, map}
use Rattle.std.specs.List.{filter}
use Rattle.cedar_data.specs.NonEmpty.{items_left}
use Rattle.schema_convert_faults.specs.NamesIn.{entities_of}
use Rattle.schema_convert_faults.specs.Shadowings.{is_taken}
use Rattle.schema_convert_faults.proofs.shadowing.push_taken_of.Given as goal

abbrev pub invariant-loop-name : goal.invariant-loop-name
invariant-loop-name l =
    map (λ x. x.now) l.taken.items ++ filter (λ n. is_taken l.table n.node.text) (items_left l.name-iterator)
    ≡ map (λ x. x.now) l.fn.taken.items ++ filter (λ n. is_taken l.table n.node.text) (entities_of l.fn.decl)
