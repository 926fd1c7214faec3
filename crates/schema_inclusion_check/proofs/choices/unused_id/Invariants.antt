use Rattle.std.proofs.Common.{◌≡◌, ◌≤◌, ◌-◌, length}
use Rattle.schema_inclusion_values.specs.Ids.{letters, unused}
use Rattle.schema_inclusion_check.specs.Told.{texts_now}
use Rattle.schema_inclusion_check.proofs.choices.unused_id.Given as goal

abbrev pub invariant-loop-id : goal.invariant-loop-id
invariant-loop-id l = record {
  lettered : l.id ≡ letters (length l.id);
  few : length l.id ≤ unused (texts_now l.ids);
}

abbrev pub decreases-loop-id : goal.decreases-loop-id
decreases-loop-id l = unused (texts_now l.ids) - length l.id
