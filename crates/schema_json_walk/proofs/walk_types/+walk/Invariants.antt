use Rattle.std.proofs.Common.{◌+◌, ◌*◌, take}
use Rattle.std.specs.List.{FoldsTo}
use Rattle.std.specs.Map.{values_of}
use denote.Param.Weighed.{most}
use Rattle.schema_json.specs.declared.types.TypeOfAttribute.{size-TypeOfAttribute}
use Rattle.schema_json_walk.specs.Walk.{itself, of_entries}
use Rattle.schema_json_walk.proofs.walk_types.+walk.Given as goal

abbrev pub decreases-walk_type : goal.decreases-walk_type
decreases-walk_type g l = 2 * goal.size-walk_type g l

abbrev pub decreases-walk_variant : goal.decreases-walk_variant
decreases-walk_variant g l = 2 * goal.size-walk_variant g l

abbrev pub decreases-walk_record : goal.decreases-walk_record
decreases-walk_record g l = 2 * goal.size-walk_record g l

abbrev pub decreases-walk_entries : goal.decreases-walk_entries
decreases-walk_entries g l = 2 * most (size-TypeOfAttribute g.row.N.Denot) (values_of l.entries.now) + 1

abbrev pub invariant-walk_entries-loop-attribute : goal.invariant-walk_entries-loop-attribute
invariant-walk_entries-loop-attribute g l =
    FoldsTo (g.V.Visitor.takes l.ns) l.initial.visitor (of_entries itself (take l.attribute-index l.entries)) l.visitor
