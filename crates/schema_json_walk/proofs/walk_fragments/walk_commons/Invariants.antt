use Rattle.std.proofs.Common.{take}
use Rattle.std.specs.List.{FoldsTo}
use Rattle.schema_json_walk.specs.Walk.{itself, each_value, of_common}
use Rattle.schema_json_walk.proofs.walk_fragments.walk_commons.Given as goal

abbrev pub invariant-loop-common : goal.invariant-loop-common
invariant-loop-common g l =
    FoldsTo (g.V.Visitor.takes l.ns) l.initial.visitor
    (each_value (of_common itself) (take l.common-index l.entries)) l.visitor
