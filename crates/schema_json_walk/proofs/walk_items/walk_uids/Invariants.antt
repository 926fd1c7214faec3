use Rattle.std.proofs.Common.{take}
use Rattle.std.specs.List.{FoldsTo}
use Rattle.schema_json_walk.specs.Walk.{itself, of_uids}
use Rattle.schema_json_walk.proofs.walk_items.walk_uids.Given as goal

abbrev pub invariant-loop-uid : goal.invariant-loop-uid
invariant-loop-uid g l =
    FoldsTo (g.V.Visitor.takes l.ns) l.initial.visitor (of_uids itself (take l.uid-index l.uids)) l.visitor
