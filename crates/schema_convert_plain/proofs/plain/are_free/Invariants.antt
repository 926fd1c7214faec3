use Rattle.std.specs.List.{AllByRecursion}
use Rattle.cedar_data.specs.NonEmpty.{items_left}
use Rattle.schema_convert_plain.specs.Plain.{IsFreeId}
use Rattle.schema_convert_plain.proofs.plain.are_free.Given as goal

abbrev pub invariant-loop-name : goal.invariant-loop-name
invariant-loop-name l =
    AllByRecursion (IsFreeId l.table) (items_left l.name-iterator)
    → AllByRecursion (IsFreeId l.table) (items_left l.fn.names)
