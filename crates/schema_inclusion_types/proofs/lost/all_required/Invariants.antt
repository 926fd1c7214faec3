use Rattle.std.proofs.Common.{◌≡◌, ◌≤◌, drop, length}
use Rattle.schema_inclusion_values.specs.Checks.{all_required}
use Rattle.schema_inclusion_types.specs.Kinds.{plain_attrs}
use Rattle.schema_inclusion_types.proofs.Found.{AllBelow}
use Rattle.schema_inclusion_types.proofs.lost.all_required.Given as goal

abbrev pub invariant-loop-name : goal.invariant-loop-name
invariant-loop-name l = record {
  within : l.next ≤ length l.old;
  below : AllBelow l.old l.new l.next l.name-index;
  rest : all_required (plain_attrs l.old) (plain_attrs l.new)
      ≡ all_required (plain_attrs l.old) (plain_attrs (drop l.name-index l.new));
}
