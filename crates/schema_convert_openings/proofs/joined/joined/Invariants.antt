use Rattle.std.proofs.Common.{◌≡◌, ◌++◌}
use Rattle.std.specs.Vec.Iter.{into_iter_items}
use Rattle.schema_convert_openings.specs.Joined.{named, outside}
use Rattle.schema_convert_openings.proofs.joined.joined.Given as goal

abbrev pub invariant-loop-namespace : goal.invariant-loop-namespace
invariant-loop-namespace l = record {
  named : l.named.items ++ named (into_iter_items l.namespace-iterator) ≡ named l.fn.schema;
  outside : l.outside.items ++ outside (into_iter_items l.namespace-iterator) ≡ outside l.fn.schema;
}
