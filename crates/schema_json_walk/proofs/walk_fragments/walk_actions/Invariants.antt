use Rattle.std.proofs.Common.{take}
use Rattle.std.specs.List.{FoldsTo}
use Rattle.schema_json_walk.specs.Walk.{itself, each_value, of_action}
use Rattle.schema_json_walk.proofs.walk_fragments.walk_actions.Given as goal

abbrev pub invariant-loop-action : goal.invariant-loop-action
invariant-loop-action g l =
    FoldsTo (g.V.Visitor.takes l.ns) l.initial.visitor
    (each_value (of_action itself) (take l.action-index l.entries)) l.visitor
