use Rattle.std.proofs.Common.{◌≡◌, ◌+◌, ◌*◌, [], take}
use Rattle.std.specs.Map.{values_of}
use denote.Param.Weighed.{most}
use Rattle.schema_json.specs.declared.types.TypeOfAttribute.{size-TypeOfAttribute}
use Rattle.schema_resolve_targets.specs.ReferenceParts.{by_reference}
use Rattle.schema_resolve.specs.Renamed.{renamed_entries}
use Rattle.schema_json_walk.specs.Walk.{of_entries}
use Rattle.schema_resolve.proofs.rename_types.+rename.Given as goal

abbrev pub decreases-rename_record : goal.decreases-rename_record
decreases-rename_record g l = 2 * goal.size-rename_record g l

abbrev pub decreases-rename_type : goal.decreases-rename_type
decreases-rename_type g l = 2 * goal.size-rename_type g l

abbrev pub decreases-rename_attribute : goal.decreases-rename_attribute
decreases-rename_attribute g l = 2 * goal.size-rename_attribute g l

abbrev pub decreases-attribute_type : goal.decreases-attribute_type
decreases-attribute_type g l = 2 * goal.size-attribute_type g l + 1

abbrev pub decreases-reference_or_at : goal.decreases-reference_or_at
decreases-reference_or_at g l = 2 * goal.size-reference_or_at g l + 1

abbrev pub decreases-rename_at : goal.decreases-rename_at
decreases-rename_at g l = 2 * goal.size-rename_at g l

abbrev pub decreases-rename_entries : goal.decreases-rename_entries
decreases-rename_entries g l = 2 * most (size-TypeOfAttribute g.row.N.Denot) (values_of l.entries.now) + 1

abbrev pub invariant-rename_entries-loop-name : goal.invariant-rename_entries-loop-name
invariant-rename_entries-loop-name g l = record {
  out : l.out.items ≡ renamed_entries (g.R.Renamer.becomes l.renamer) (take l.name-index l.entries);
  defined : of_entries (by_reference (g.R.Renamer.untargeted l.renamer)) (take l.name-index l.entries) ≡ [];
}
