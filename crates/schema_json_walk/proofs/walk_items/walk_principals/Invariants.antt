use Rattle.std.proofs.Common.{take}
use Rattle.std.specs.List.{FoldsTo}
use Rattle.schema_json_walk.specs.Walk.{itself, of_principals}
use Rattle.schema_json_walk.proofs.walk_items.walk_principals.Given as goal

abbrev pub invariant-loop-name : goal.invariant-loop-name
invariant-loop-name g l =
    FoldsTo (g.V.Visitor.takes l.ns) l.initial.visitor (of_principals itself (take l.name-index l.names)) l.visitor
