use Rattle.std.proofs.Common.{◌≡◌, ◌≤◌, ◌+◌, ◌*◌, drop, length}
use denote.Param.Weighed.{most}
use Rattle.schema_inclusion_values.specs.Seen.{entries_value}
use Rattle.schema_inclusion_values.specs.declared.val.Val.{size-Val}
use Rattle.schema_inclusion_shown.specs.Members.{members_value}
use Rattle.schema_inclusion_types.specs.Kinds.{plain_attrs, kind_type}
use Rattle.schema_inclusion_check.specs.Raw.{raw_meaning}
use Rattle.schema_inclusion_reasons.specs.FirstMisfit.{misfit, members_misfit, named_misfit}
use Rattle.schema_inclusion_reasons.specs.FirstReason.{has_id}
use Rattle.schema_inclusion_explain.proofs.misfits.+misfit.Given as goal

abbrev pub decreases-kind_misfit : goal.decreases-kind_misfit
decreases-kind_misfit l = 8 * size-Val l.value.now

abbrev pub decreases-set_misfit : goal.decreases-set_misfit
decreases-set_misfit l = 8 * most size-Val l.members.now + 2

abbrev pub decreases-members_misfit : goal.decreases-members_misfit
decreases-members_misfit l = 8 * most size-Val l.members.now + 1

abbrev pub decreases-record_misfit : goal.decreases-record_misfit
decreases-record_misfit l = 8 * most (λ e. size-Val e.1) l.entries.now + 5

abbrev pub decreases-attributes_misfit : goal.decreases-attributes_misfit
decreases-attributes_misfit l = 8 * most (λ e. size-Val e.1) l.entries.now + 4

abbrev pub decreases-named_misfit : goal.decreases-named_misfit
decreases-named_misfit l = 8 * most (λ e. size-Val e.1) l.entries.now + 3

abbrev pub decreases-step : goal.decreases-step
decreases-step l = 8 * most (λ e. size-Val e.1) l.entries.now + 2

abbrev pub decreases-present : goal.decreases-present
decreases-present l = 8 * size-Val l.value.now + 1

abbrev pub invariant-members_misfit-loop-member : goal.invariant-members_misfit-loop-member
invariant-members_misfit-loop-member l = record {
  place : l.at ≡ l.member-index;
  rest : members_misfit (misfit (has_id (raw_meaning l.schema.entities.now l.schema.actions.now)) (kind_type l.kind)) 0
      (members_value l.members)
      ≡ members_misfit (misfit (has_id (raw_meaning l.schema.entities.now l.schema.actions.now)) (kind_type l.kind))
      l.at (members_value (drop l.member-index l.members));
}

abbrev pub invariant-named_misfit-loop-attr : goal.invariant-named_misfit-loop-attr
invariant-named_misfit-loop-attr l = record {
  within : l.next ≤ length l.entries;
  rest : named_misfit (has_id (raw_meaning l.schema.entities.now l.schema.actions.now)) (plain_attrs l.attrs)
      (entries_value l.entries)
      ≡ named_misfit (has_id (raw_meaning l.schema.entities.now l.schema.actions.now))
      (plain_attrs (drop l.attr-index l.attrs)) (entries_value (drop l.next l.entries));
}
