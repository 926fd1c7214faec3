use Rattle.std.proofs.Common.{take}
use Rattle.std.specs.List.{FoldsTo}
use Rattle.schema_json_walk.specs.Walk.{itself, each_value, of_entity}
use Rattle.schema_json_walk.proofs.walk_fragments.walk_entities.Given as goal

abbrev pub invariant-loop-entity : goal.invariant-loop-entity
invariant-loop-entity g l =
    FoldsTo (g.V.Visitor.takes l.ns) l.initial.visitor
    (each_value (of_entity itself) (take l.entity-index l.entries)) l.visitor
