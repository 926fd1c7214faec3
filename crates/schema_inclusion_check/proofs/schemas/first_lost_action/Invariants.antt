use Rattle.std.proofs.Common.{◌≡◌, ◌≤◌, drop, length, map}
use Rattle.cedar_names.specs.Meaning.{SchemaMeaning}
use Rattle.cedar_names.specs.Orders.{uids_in_order}
use Rattle.schema_inclusion_values.specs.Lost.{first_of_each, lost_action}
use Rattle.schema_inclusion_check.specs.Below.{AreAllBelow}
use Rattle.schema_inclusion_check.specs.Raw.{raw_action}
use Rattle.schema_inclusion_check.proofs.schemas.first_lost_action.Given as goal

abbrev pub invariant-loop-entry : goal.invariant-loop-entry
invariant-loop-entry l = record {
  within : l.next ≤ length l.new;
  below : AreAllBelow uids_in_order (λ e. e.0) l.new l.old l.next l.entry-index;
  rest : (m n : SchemaMeaning) → map raw_action l.new ≡ n.actions
      → first_of_each (lost_action m n) (map raw_action l.old)
      ≡ first_of_each (lost_action m n) (map raw_action (drop l.entry-index l.old));
}
