use Rattle.std.proofs.Common.{◌≡◌, ◌++◌}
use Rattle.std.specs.List.{filter_map}
use Rattle.cedar_data.specs.NonEmpty.{items_left}
use Rattle.schema_convert_faults.specs.Faults.{reserved_id}
use Rattle.schema_convert_faults.specs.NamesIn.{entities_of}
use Rattle.schema_convert_faults.proofs.faults.push_reserved.Given as goal

abbrev pub invariant-loop-name : goal.invariant-loop-name
invariant-loop-name l =
    l.faults.items ++ filter_map reserved_id (items_left l.name-iterator)
    ≡ l.fn.faults.items ++ filter_map reserved_id (entities_of l.fn.decl)
