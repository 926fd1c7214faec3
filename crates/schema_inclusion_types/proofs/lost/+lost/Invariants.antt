use Rattle.std.proofs.Common.{◌≡◌, ◌≤◌, ◌+◌, ◌*◌, drop, length}
use Rattle.std.specs.Map.{values_of}
use denote.Param.Weighed.{most}
use Rattle.schema_build_types.specs.declared.types.Type.{size-Type}
use Rattle.schema_inclusion_values.specs.Checks.{lost_fields}
use Rattle.schema_inclusion_types.specs.Ids.{id_in, lost_in}
use Rattle.schema_inclusion_types.specs.Kinds.{plain_attrs}
use Rattle.schema_inclusion_types.proofs.Found.{AllBelow}
use Rattle.schema_inclusion_types.proofs.lost.+lost.Given as goal

abbrev pub decreases-lost_to_kind : goal.decreases-lost_to_kind
decreases-lost_to_kind l = 5 * size-Type l.old.now

abbrev pub decreases-lost_set : goal.decreases-lost_set
decreases-lost_set l = 5 * size-Type l.old.now + 1

abbrev pub decreases-lost_attribute : goal.decreases-lost_attribute
decreases-lost_attribute l = 5 * size-Type l.old.now + 2

abbrev pub decreases-lost_record : goal.decreases-lost_record
decreases-lost_record l = 5 * most (λ p. size-Type p.0) (values_of l.old.now) + 3

abbrev pub decreases-lost_attributes : goal.decreases-lost_attributes
decreases-lost_attributes l = 5 * most (λ p. size-Type p.0) (values_of l.old.now) + 4

abbrev pub invariant-lost_record-loop-at : goal.invariant-lost_record-loop-at
invariant-lost_record-loop-at l = record {
  within : l.next ≤ length l.new;
  below : AllBelow l.new l.old l.next l.at;
  rest : lost_fields (id_in l.ids.rows) (lost_in l.ids.rows) (plain_attrs l.old) (plain_attrs l.old) (plain_attrs l.new)
      ≡ lost_fields (id_in l.ids.rows) (lost_in l.ids.rows) (plain_attrs l.old) (plain_attrs (drop l.at l.old))
      (plain_attrs l.new);
}
