use Rattle.std.proofs.Common.{◌+◌, ◌*◌, drop}
use denote.Param.Weighed.{most}
use Rattle.schema_inclusion_values.specs.Seen.{entries_value}
use Rattle.schema_inclusion_values.specs.declared.val.Val.{size-Val}
use Rattle.schema_inclusion_shown.specs.Grown.{Leaves}
use Rattle.schema_inclusion_shown.specs.Members.{members_value}
use Rattle.schema_inclusion_shown.specs.ValueTexts.{members_text, entries_text}
use Rattle.schema_inclusion_shown.proofs.vals.+push_val.Given as goal

abbrev pub decreases-push_val : goal.decreases-push_val
decreases-push_val l = 3 * goal.size-push_val l

abbrev pub decreases-push_members : goal.decreases-push_members
decreases-push_members l = 3 * most size-Val l.members.now + 1

abbrev pub decreases-push_attributes : goal.decreases-push_attributes
decreases-push_attributes l = 3 * most (λ e. size-Val e.1) l.attrs.now + 1

abbrev pub decreases-push_entries : goal.decreases-push_entries
decreases-push_entries l = 3 * most (λ e. size-Val e.1) l.attrs.now + 2

abbrev pub invariant-push_members-loop-member : goal.invariant-push_members-loop-member
invariant-push_members-loop-member l =
    Leaves l.initial.text l.text (members_text l.behind (members_value (drop l.member-index l.members)))
    (members_text l.initial.behind (members_value l.members))

abbrev pub invariant-push_attributes-loop-name : goal.invariant-push_attributes-loop-name
invariant-push_attributes-loop-name l =
    Leaves l.initial.text l.text (entries_text l.behind (entries_value (drop l.name-index l.attrs)))
    (entries_text l.initial.behind (entries_value l.attrs))
