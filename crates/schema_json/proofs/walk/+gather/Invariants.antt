use Rattle.std.proofs.Common.{◌≡◌, ◌+◌, ◌*◌, ◌++◌, map, drop}
use Rattle.std.specs.Map.{values_of}
use denote.Param.Weighed.{most}
use Rattle.schema_json.specs.Walk.{entry_references}
use Rattle.schema_json.specs.declared.types.TypeOfAttribute.{size-TypeOfAttribute}
use Rattle.schema_json.proofs.walk.+gather.Given as goal

abbrev pub decreases-gather : goal.decreases-gather
decreases-gather g l = 2 * goal.size-gather g l

abbrev pub decreases-gather_variant : goal.decreases-gather_variant
decreases-gather_variant g l = 2 * goal.size-gather_variant g l

abbrev pub decreases-gather_entries : goal.decreases-gather_entries
decreases-gather_entries g l = 2 * most (size-TypeOfAttribute g.row.N.Denot) (values_of l.entries.now) + 1

abbrev pub invariant-gather_entries-loop-attribute : goal.invariant-gather_entries-loop-attribute
invariant-gather_entries-loop-attribute g l =
    map (λ name. name.now) l.found.items ++ entry_references (drop l.attribute-index l.entries)
    ≡ map (λ name. name.now) l.initial.found.items ++ entry_references l.entries
