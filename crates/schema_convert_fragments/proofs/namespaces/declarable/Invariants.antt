use Rattle.std.proofs.Common.{◌≡◌, ◌++◌}
use Rattle.cedar_data.specs.NonEmpty.{items_left}
use Rattle.schema_convert_fragments.specs.Declarations.{declarable}
use Rattle.schema_convert_fragments.proofs.namespaces.declarable.Given as goal

abbrev pub invariant-loop-name : goal.invariant-loop-name
invariant-loop-name l = l.ids.items ++ declarable (items_left l.name-iterator) ≡ declarable (items_left l.fn.names)
