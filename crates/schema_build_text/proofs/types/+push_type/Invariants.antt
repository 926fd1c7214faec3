use Rattle.std.proofs.Common.{◌+◌, ◌*◌, drop, true}
use Rattle.std.specs.Map.{values_of}
use denote.Param.Weighed.{most}
use Rattle.cedar_names.specs.CanonicalText.{lines_text}
use Rattle.schema_build_types.specs.declared.types.Type.{size-Type}
use Rattle.schema_build_types.specs.Content.{attributes_content}
use Rattle.schema_build_text.specs.Growing.{Leaves}
use Rattle.schema_build_text.specs.Readings.{plain_attributes}
use Rattle.schema_build_text.proofs.types.+push_type.Given as goal

abbrev pub decreases-push_type : goal.decreases-push_type
decreases-push_type l = 5 * goal.size-push_type l

abbrev pub decreases-push_line : goal.decreases-push_line
decreases-push_line l = 5 * size-Type l.ty.now + 1

abbrev pub decreases-push_record : goal.decreases-push_record
decreases-push_record l = 5 * most (λ p. size-Type p.0) (values_of l.entries.now) + 4

abbrev pub decreases-push_members : goal.decreases-push_members
decreases-push_members l = 5 * most (λ p. size-Type p.0) (values_of l.entries.now) + 3

abbrev pub decreases-push_entries : goal.decreases-push_entries
decreases-push_entries l = 5 * most (λ p. size-Type p.0) (values_of l.entries.now) + 2

abbrev pub invariant-push_entries-loop-name : goal.invariant-push_entries-loop-name
invariant-push_entries-loop-name l =
    Leaves l.initial.text l.text (lines_text true l.base
    (plain_attributes (attributes_content (drop l.name-index l.entries))))
    (lines_text true l.base (plain_attributes (attributes_content l.entries)))
